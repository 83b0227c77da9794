pub mod Telling
pub mod CallCauses
pub mod Fits
pub mod Sounds
pub mod RefusedCalls
pub mod Sparing
