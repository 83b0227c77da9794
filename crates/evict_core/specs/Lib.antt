pub mod Sets
pub mod Stages
pub mod Changes
pub mod Evicting
pub mod Holds
pub mod Steps
