pub mod Commands
pub mod Causes
pub mod Halting
pub mod Running
