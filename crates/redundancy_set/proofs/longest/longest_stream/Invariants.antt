use Rattle.std.proofs.Common.{◌≡◌, ℕ, ◌<◌, [], length, map, take, slice_index_or}
use Rattle.poly_code.specs.Polynomial.{IsBytes}
use Rattle.member_shares.specs.Shares.{longest}
use Rattle.redundancy_set.proofs.longest.longest_stream.Given as goal

abbrev pub invariant-loop-i : goal.invariant-loop-i
invariant-loop-i l = record {
  most : l.most ≡ longest (take l.i (map (length {A = ℕ}) l.streams.items));
  bytes : (m : ℕ) → m < l.i → IsBytes (slice_index_or l.streams.items m []);
}
