-- What makes a state fair, and what leaves it so.
pub mod Passes
