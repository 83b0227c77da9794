pub mod Lists
pub mod Fair
pub mod Kept
pub mod Events
pub mod Stops
pub mod Next
pub mod Steps
