pub mod Conditions
pub mod Payloads
pub mod Puts
pub mod Stores
