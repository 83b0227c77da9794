-- The greatest of some lengths, one more at a time.
use Rattle.std.proofs.Common.{◌≡◌, ℕ, zero, suc, ◌+◌, ◌<◌, ◌≤◌, List, [], ◌∷◌, length, take, max, slice_index, add-one, refl, ap, ◌∙◌, arith}
use Rattle.member_shares.specs.Shares.{longest}

longest_suc : (xs : List ℕ) (i : ℕ) → i < length xs → longest (take (suc i) xs) ≡ max (longest (take i xs)) (slice_index xs i)
unfolding longest
longest_suc [] i h = absurd (omega arith)
longest_suc (x ∷ xs) zero h = omega arith
longest_suc (x ∷ xs) (suc i) h = ap (max x) (longest_suc xs i (omega arith)) ∙ omega arith

pub longest_more : (xs : List ℕ) (i : ℕ) → i < length xs → longest (take (i + 1) xs) ≡ max (longest (take i xs)) (slice_index xs i)
longest_more xs i h = rw add-one (longest_suc xs i h)

pub longest_none : (xs : List ℕ) → longest (take 0 xs) ≡ 0
unfolding longest
longest_none xs = refl

pub longest_covers : (xs : List ℕ) (i : ℕ) → i < length xs → slice_index xs i ≤ longest xs
unfolding longest
longest_covers [] i h = absurd (omega arith)
longest_covers (x ∷ xs) zero h = omega arith
longest_covers (x ∷ xs) (suc i) h = omega (arith, longest_covers xs i (omega arith))
