-- A stretch of several contents, one content more at a time.
use Rattle.std.proofs.Common.{◌≡◌, ◌<◌, ◌+◌, ◌-◌, ◌++◌, ℕ, min, inl, inr, List, length, refl, sym, ◌∙◌, ap, arith, length-append}
use Rattle.std.specs.Prelude.{slice_index}
use Rattle.std.proofs.lemmas.Bool.{cases_lt}
use Rattle.std.proofs.lemmas.List.{get_or_append_left, get_or-append_right, get_or_past}
use Rattle.commit_core.specs.Stretch.{IsStretch, IsFilled}

-- a byte of some bytes and more behind them
before_end : (whole content : List ℕ) (k : ℕ) → k < length whole → slice_index (whole ++ content) k ≡ slice_index whole k
before_end whole content k lt = get_or_append_left whole content 0 k lt

behind_end : (whole content : List ℕ) (k j : ℕ) → k ≡ length whole + j → slice_index (whole ++ content) k ≡ slice_index content j
behind_end whole content k j is =
    let back : k - length whole ≡ j = omega (arith, is) in
    get_or-append_right whole content (length whole) k 0 refl (omega (arith, is)) ∙ ap (slice_index content) back

-- the content behind them is taken up, as far as it is wanted
pub stretch_more : (whole content old new : List ℕ) (from len done skip count : ℕ) → done ≡ min len (length whole - from) → skip ≡ from - length whole → count ≡ min (length content - skip) (len - done)
    → IsStretch whole from len old → IsFilled content skip done count old new → IsStretch (whole ++ content) from len new
stretch_more whole content old new from len done skip count is_done is_skip is_count was fill = record {
  size = fill.size ∙ was.size;
  each = λ b lt. elim (cases_lt b done) [
    | inl low ↦ fill.before b low ∙ was.each b lt ∙ sym (before_end whole content (from + b) (omega (arith, low, is_done)))
    | inr high ↦ elim (cases_lt b (done + count)) [
      | inl within ↦
          let at : done + (b - done) ≡ b = omega (arith, high) in
          ap (slice_index new) (sym at) ∙ fill.here (b - done) (omega (arith, high, within))
          ∙ sym (behind_end whole content (from + b) (skip + (b - done)) (omega (arith, high, is_done, is_skip, lt)))
      | inr past ↦
          fill.behind b past ∙ was.each b lt ∙ get_or_past whole (from + b) 0 (omega (arith, high, is_done, lt))
          ∙ sym (get_or_past (whole ++ content) (from + b) 0 (omega (arith, past, high, is_done, is_skip, is_count, lt, length-append whole content)))
    ]
  ];
}
