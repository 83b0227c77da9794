-- What recovery makes of what reads give.
pub mod Rows
pub mod Kept
pub mod Event
