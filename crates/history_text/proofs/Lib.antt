-- Lemmas on texts.
pub mod Joins
