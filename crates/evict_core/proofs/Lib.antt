pub mod Events
pub mod GateTurns
pub mod ClosingGates
pub mod Removing
pub mod Stepping
pub mod Beginning
pub mod Frame
