pub mod Numbers
pub mod Removals
pub mod Calls
pub mod Causes
pub mod Writes
