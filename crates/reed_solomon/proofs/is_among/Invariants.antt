use Rattle.std.proofs.Common.{◌≢◌, ℕ, ◌<◌, slice_index}
use Rattle.reed_solomon.proofs.is_among.Given as goal

abbrev pub invariant-loop-place : goal.invariant-loop-place
invariant-loop-place l = (j : ℕ) → j < l.place-index → slice_index l.places j ≢ l.target
