-- Whatever a stop leaves of the devices shows a state after that stop: the nodes, the index, the pairs, and what a refused write may have made.
pub mod Nodes
pub mod Index
pub mod Left
pub mod Made
pub mod AtRest
