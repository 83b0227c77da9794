-- What is said of the devices stays so through reads, syncs and the changes of other files.
pub mod Kept
