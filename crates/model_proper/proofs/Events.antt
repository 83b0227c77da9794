-- Each event leaves a fair state fair: those that change datasets where they stand, those that add one, rounds, and commands.
pub mod InPlace
pub mod Arrivals
pub mod Rounds
pub mod Commands
pub mod Each
