pub mod Digits
pub mod Numbering
pub mod Same
pub mod Extended
pub mod OneFile
pub mod RowLaws
