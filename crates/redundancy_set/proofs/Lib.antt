pub mod PlaceLemmas
pub mod CutLemmas
pub mod LongestLemmas
pub mod KnownLemmas
pub mod Joined
pub mod Segments
pub mod XorFactors
pub mod SumLemmas
