pub mod Frames
pub mod Ways
pub mod Stands
