pub mod Statuses
pub mod Published
