-- Which events have a text, and what a text is read as.
pub mod Parsed
pub mod Part
pub mod Pieces
pub mod Reading
pub mod Spelled
