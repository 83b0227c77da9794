-- Groups that are too small for a scheme.
use Rattle.std.specs.Prelude.{◌≡◌, ℕ, ◌<◌, true, false, length}
use Rattle.scr_base.specs.declared.shape.Scheme.{Scheme}
use Rattle.scr_base.specs.Sets.{group_count, nodes_of_group, fits_set}

-- the first group whose sets have too few members for the scheme
pub record IsFirstSmall (scheme : Scheme) (nodes size group : ℕ) : Type 0 where
  pub within : group < group_count nodes size
  pub small : fits_set scheme (length (nodes_of_group nodes size group)) ≡ false
  pub first : (i : ℕ) → i < group → fits_set scheme (length (nodes_of_group nodes size i)) ≡ true
