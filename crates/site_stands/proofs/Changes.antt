-- An event changes the state, and the devices stay.
pub mod Nodes
pub mod Mended
pub mod Prefix
