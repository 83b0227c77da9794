pub mod Same
pub mod InRange
pub mod Described
pub mod OneDesc
