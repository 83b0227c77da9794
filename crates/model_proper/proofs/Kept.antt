-- What steps leave of the datasets in cache.
pub mod Held
pub mod Looks
