-- One step more of each list of lines.
pub mod Steps
