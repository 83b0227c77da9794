-- Gates that are turned node by node.
pub mod Gates
pub mod Sealed
