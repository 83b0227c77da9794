-- What the lists and the counts beside a book keep of it.
use Rattle.std.specs.Prelude.{◌≡◌, ℕ, ◌<◌, ◌≤◌, List, length, slice_index_or}
use Rattle.std.specs.List.{AllPairs, count_by, position_or_len, remove}
use Rattle.commit_core.specs.declared.piece.Piece.{Piece}
use Rattle.commit_core.specs.declared.outs.OutAt.{OutAt}
use Rattle.commit_core.specs.declared.standing.Standing.{Standing}
use Rattle.commit_core.specs.declared.standing.Standing.TheVariants.{Unclaimed, Out}
use Rattle.commit_core.specs.LedgerBook.{is_unclaimed, is_out, is_done}

abbrev pub out_at : List OutAt → ℕ → OutAt
out_at outs k = slice_index_or outs k (record { number = 0; place = 0 })

-- how far the piece at a place has come
abbrev pub standing_at : List Standing → ℕ → Standing
standing_at standings place = slice_index_or standings place Unclaimed

-- each number is below those after it
abbrev pub Ascend : List OutAt → Type 0
Ascend outs = AllPairs (λ left right. left.number < right.number) outs

-- the list has this number, with this place
pub record HasOut (outs : List OutAt) (number place : ℕ) : Type 0 where
  pub at : ℕ
  pub within : at < length outs
  pub number_is : (out_at outs at).number ≡ number
  pub place_is : (out_at outs at).place ≡ place

-- the list had this number with this place, and new is the rest
pub record IsFoundAt (old new : List OutAt) (number place : ℕ) : Type 0 where
  pub had : HasOut old number place
  pub rest : new ≡ remove old had.at

-- the list has just the pieces that are out, by numbers that have been given
pub record IsIndex (standings : List Standing) (given : ℕ) (outs : List OutAt) : Type 0 where
  pub ascend : Ascend outs
  pub there : (k : ℕ) → k < length outs → standing_at standings (out_at outs k).place ≡ Out (out_at outs k).number
  pub each : (place number : ℕ) → standing_at standings place ≡ Out number → HasOut outs number place
  pub some : (k : ℕ) → k < length outs → 1 ≤ (out_at outs k).number
  pub few : (k : ℕ) → k < length outs → (out_at outs k).number ≤ given

-- the lists and the counts fit the pieces
pub record IsKept (pieces : List Piece) (standings : List Standing) (outs : List OutAt) (given first done room : ℕ) : Type 0 where
  pub count : length standings ≡ length pieces
  pub at_first : first ≡ position_or_len is_unclaimed standings
  pub done_counted : done ≡ count_by is_done standings
  pub outs_counted : length outs ≡ count_by is_out standings
  pub fits : length standings ≤ room
  pub index : IsIndex standings given outs
