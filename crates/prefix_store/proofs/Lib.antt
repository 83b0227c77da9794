pub mod Names
pub mod Picks
pub mod Clears
