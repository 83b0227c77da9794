-- A dataset that leaves the cache, and where its members are.
use Rattle.std.specs.Prelude.{◌≡◌, ◌<◌, ℕ, List, All, length}

-- a physical node for each node, of which there is one at least
pub record IsEvictSet (nodes : ℕ) (places : List ℕ) : Type 0 where
  pub some : 0 < nodes
  pub places_are : length places ≡ nodes
  pub low : All (λ place. place < 32) places
