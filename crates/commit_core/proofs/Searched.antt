-- What a search finds among ascending numbers.
use Rattle.std.proofs.Common.{◌≡◌, ◌≢◌, ℕ, ◌<◌, ◌≤◌, List, length, sym, ap, arith, inl, inr, Ok, Err}
use Rattle.std.specs.List.Sorted.{IsBinarySearchResult, IsNonDecreasingBy}
use Rattle.std.specs.Ordering.{nat_cmp, ordering_index}
use Rattle.std.proofs.lemmas.Bool.{cases_lt}
use Rattle.std.proofs.lemmas.Bool.Decides.{nat_tests}
use Rattle.std.proofs.lemmas.Cmp.{ranked}
use Rattle.std.proofs.lemmas.List.Sorted.{IsNonDecreasingBy-from_default}
use Rattle.commit_core.specs.declared.outs.OutAt.{OutAt}
use Rattle.commit_core.specs.LedgerIndex.{out_at, Ascend}

module _ (outs : List OutAt) (up : Ascend outs) (number : ℕ) where
  -- the comparisons with the number rise along the list, as a binary search asks
  comparisons_rise : IsNonDecreasingBy (λ out. ordering_index (nat_cmp out.number number)) outs
  comparisons_rise = IsNonDecreasingBy-from_default (λ out. ordering_index (nat_cmp out.number number)) outs (record { number = 0; place = 0 }) (λ i j le within.
      let rise : (out_at outs i).number ≤ (out_at outs j).number = grind (arith, up i j (record { number = 0; place = 0 }), λ (same : i ≡ j). ap (λ t. (out_at outs t).number) same) in
      grind (arith, nat_tests))

  pub searched_ok : (at : ℕ) → IsBinarySearchResult (λ out. nat_cmp out.number number) outs (Ok at) → (out_at outs at).number ≡ number
  searched_ok at equal = ranked _ number _ (sym (equal (record { number = 0; place = 0 })))

  pub searched_err : (at : ℕ) → IsBinarySearchResult (λ out. nat_cmp out.number number) outs (Err at) → (k : ℕ) → k < length outs → (out_at outs k).number ≢ number
  searched_err at parted k within same =
      elim (cases_lt k at) [
        | inl low ↦
            let below : (out_at outs k).number < number = ranked _ number _ (sym ((parted comparisons_rise).0 k (record { number = 0; place = 0 }) (omega arith) low)) in
            omega (arith, below, same)
        | inr high ↦
            let above : number < (out_at outs k).number = ranked _ number _ (sym ((parted comparisons_rise).1 k (record { number = 0; place = 0 }) high within)) in
            omega (arith, above, same)
      ]
