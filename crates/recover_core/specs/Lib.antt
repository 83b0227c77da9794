pub mod Look
pub mod Seen
