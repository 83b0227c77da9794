-- A piece of some bytes, filled up with zeros.
use Rattle.std.proofs.Common.{◌≡◌, ℕ, ◌+◌, ◌-◌, ◌*◌, ◌<◌, List, ◌++◌, length, take, drop, min, replicate, get_or, slice_index, length-take, length-drop, sym, ap, ◌∙◌, arith, inl, inr}
use Rattle.std.proofs.Math.ListN.{get_or-eq_default}
use Rattle.std.proofs.lemmas.Bool.{cases_lt}
use Rattle.std.proofs.lemmas.List.{ext_get_or, get_or-take, get_or-drop, get_or-replicate, get_or_append_left, get_or-append_right, length-replicate}
use Rattle.redundancy_set.specs.Known.{IsCut}

zeros : (k i : ℕ) → get_or (replicate {A = ℕ} k 0) i 0 ≡ 0
zeros k i =
    elim (cases_lt i k) [
      | inl low ↦ get_or-replicate k i 0 0 low
      | inr past ↦ get_or-eq_default (replicate {A = ℕ} k 0) 0 (omega (arith, length-replicate {A = ℕ} k 0))
    ]

pub padded : (bytes segment : List ℕ) (len start from taken k b : ℕ) → segment ≡ take len (take taken (drop from bytes)) ++ replicate {A = ℕ} k 0
    → from ≡ min start (length bytes) → taken ≡ min len (length bytes - from) → b < len → slice_index segment b ≡ slice_index bytes (start + b)
padded bytes segment len start from taken k b is from_is taken_is h =
    let piece : List ℕ = take len (take taken (drop from bytes)) in
    let size : length piece ≡ taken = omega (arith, length-take len (take taken (drop from bytes)), length-take taken (drop from bytes), length-drop from bytes) in
    ap (λ xs. slice_index xs b) is
    ∙ elim (cases_lt b taken) [
      | inl low ↦
          let at : from ≡ start = omega arith in
          get_or_append_left piece (replicate {A = ℕ} k 0) 0 b (omega arith)
          ∙ get_or-take len (take taken (drop from bytes)) b 0 h
          ∙ get_or-take taken (drop from bytes) b 0 low
          ∙ get_or-drop from bytes b 0
          ∙ ap (λ t. slice_index bytes (t + b)) at
      | inr past ↦
          get_or-append_right piece (replicate {A = ℕ} k 0) taken b 0 size past
          ∙ zeros k (b - taken)
          ∙ sym (get_or-eq_default bytes 0 {n = start + b} (omega arith))
    ]

-- cut at its own length, a list stays as it is
pub cut_whole : (xs stream : List ℕ) (len : ℕ) → IsCut len (λ b. slice_index xs (0 * len + b)) stream → length xs ≡ len → stream ≡ xs
cut_whole xs stream len h size =
    ext_get_or 0 stream xs (h.size ∙ sym size)
    (λ b l. h.bytes b (omega (arith, h.size)) ∙ ap (slice_index xs) (let e : 0 * len + b ≡ b = omega arith in e))
