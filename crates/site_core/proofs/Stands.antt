-- What the files of a run are to the devices of its site: what a stop may leave of its cache and of the prefix, and what it begins from.
pub mod Contents
pub mod Cache
pub mod Prefix
pub mod Standing
