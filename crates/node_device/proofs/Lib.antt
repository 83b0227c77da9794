pub mod Racks
pub mod ChangeLists
pub mod HeldChanges
pub mod Places
pub mod Turns
pub mod Sparing
pub mod Windows
pub mod Forgetting
