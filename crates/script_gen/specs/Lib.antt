-- The generated script.
pub mod Draws
pub mod Script
