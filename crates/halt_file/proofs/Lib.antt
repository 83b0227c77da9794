pub mod Numbers
pub mod Trees
pub mod Told
pub mod Stored
