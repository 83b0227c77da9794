pub mod Ranks
pub mod Places
pub mod Columns
pub mod Filled
