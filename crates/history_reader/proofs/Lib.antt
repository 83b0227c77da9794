-- Lemmas on texts, and on what is read of them.
pub mod Again
pub mod AgainEvents
pub mod AgainSteps
pub mod Classes
pub mod CutLaws
pub mod Joins
pub mod Lines
pub mod NumberLaws
pub mod Quiet
pub mod RowLaws
pub mod Wholes
