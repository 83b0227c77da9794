-- The members of a group, by their numbers.
use Rattle.std.specs.Prelude.{ℕ, ◌%◌, ◌==◌, ◌+◌, ◌&&◌, not, Bool, List, length, filter, slice_index}
use Rattle.std.specs.List.{list_all}
use Rattle.scr_base.specs.Sets.{numbers_below, is_among}

-- the nodes of one of several groups, ascending
abbrev pub members_of : ℕ → ℕ → ℕ → List ℕ
members_of nodes groups group = filter (λ i. i % groups == group) (numbers_below nodes)

-- the member with this number stands on a lost node
abbrev pub is_lost : List ℕ → List ℕ → ℕ → Bool
is_lost members lost k = is_among (slice_index members k) lost

-- no member and its next are lost
abbrev pub spares_neighbours : List ℕ → List ℕ → Bool
spares_neighbours members lost = list_all (λ k. not (is_lost members lost k && is_lost members lost ((k + 1) % length members))) (numbers_below (length members))
