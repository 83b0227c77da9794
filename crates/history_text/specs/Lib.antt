-- The printer's own words.
pub mod Pieces
