pub mod Names
pub mod Members
pub mod Calls
pub mod DropSteps
pub mod Trees
pub mod Scanning
