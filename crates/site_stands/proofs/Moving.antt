-- Moves of one member's files, of one dataset, and events of the cache.
pub mod Records
pub mod Members
pub mod Files
pub mod Datasets
