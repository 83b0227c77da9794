pub mod Small
pub mod Group
