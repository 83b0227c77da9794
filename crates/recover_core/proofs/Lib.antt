pub mod Numbers
pub mod Places
pub mod Order
pub mod Taking
pub mod Finding
pub mod Listing
pub mod Looking
