-- Nodes that hold nothing, and nodes that are lost.
pub mod Node
pub mod BetweenRuns
pub mod Empty
