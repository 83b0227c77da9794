use Rattle.std.proofs.Common.{◌≡◌, ℕ, List, Some, codes, decimal, sym, ap, ◌∙◌, arith}
use Rattle.kvtree.specs.Entries.{Entries, width}
use Rattle.kvtree.specs.Lookup.{entry_under, leaf}
use Rattle.kvtree.proofs.ByPlace.{three_entries}
use Rattle.dataset_desc.specs.Parts.{scheme_key, shares_of, scheme_tree}
use Rattle.dataset_desc.proofs.Same.{same_part, same_value, same_number}
use Rattle.dataset_desc.proofs.InRange.{in_bounds, is_within, small_shares}
use Rattle.dataset_desc.proofs.parts.scheme_of.Goals.{then-width-ne3-via-then-width-ne3, then-width-ne3-via-else-width-ne3+then-size-lt2, then-width-ne3-via-else-width-ne3+else-size-lt2+then-size-gt16}
use Rattle.dataset_desc.proofs.parts.scheme_of.Goals as goal

pub returns-in_default-scheme_with : goal.returns-in_default-scheme_with
returns-in_default-scheme_with c = λ scheme size is_scheme is_size e.
    let part : c.in-Some.part.now ≡ scheme_tree scheme size = same_part c.in-Some.part.now (scheme_tree scheme size) _ c.in-Some.ensures e in
    let key : c.in-Some-value_at.key.now ≡ scheme_key scheme = same_value c.in-Some-value_at.key.now (scheme_key scheme) _ c.in-Some-value_at.ensures (ap (λ (t : Entries). entry_under t 2 (codes "TYPE")) part) in
    let shares : c.in-Some-number_at.shares ≡ shares_of scheme = same_number c.in-Some-number_at.shares (shares_of scheme) _ (omega arith) (small_shares scheme is_scheme) c.in-Some-number_at.ensures (ap (λ (t : Entries). entry_under t 0 (codes "SHARES")) part) in
    c.in_default-scheme_with.ensures scheme is_scheme key shares

pub returns-then-width-ne3 : goal.returns-then-width-ne3
returns-then-width-ne3 c = λ scheme size is_scheme is_size e.
    let part : c.in-Some.part.now ≡ scheme_tree scheme size = same_part c.in-Some.part.now (scheme_tree scheme size) _ c.in-Some.ensures e in
    let wide : width c.in-Some.part.now ≡ 3 = ap width part in
    let size_in = in_bounds 2 16 size is_size in
    let size_same : c.in-Some-number_at-2.size ≡ size = same_number c.in-Some-number_at-2.size size _ (omega arith) (omega arith) c.in-Some-number_at-2.ensures (ap (λ (t : Entries). entry_under t 1 (codes "SIZE")) part) in
    elim c.then-width-ne3.branch [
      | then-width-ne3-via-then-width-ne3 w ↦ omega arith
      | then-width-ne3-via-else-width-ne3+then-size-lt2 w ↦ omega arith
      | then-width-ne3-via-else-width-ne3+else-size-lt2+then-size-gt16 w ↦ omega arith
    ]

pub returns : goal.returns
returns c =
    let shares : entry_under c.in-Some.part.now 0 (codes "SHARES") ≡ Some (leaf (decimal (shares_of c.in-Some-scheme_with.scheme))) = c.in-Some-number_at.ensures ∙ ap (λ (n : ℕ). Some (leaf (decimal n))) c.in-Some-scheme_with.ensures.2 in
    let key : entry_under c.in-Some.part.now 2 (codes "TYPE") ≡ Some (leaf (scheme_key c.in-Some-scheme_with.scheme)) = c.in-Some-value_at.ensures ∙ ap (λ (k : List ℕ). Some (leaf k)) c.in-Some-scheme_with.ensures.1 in (
      c.in-Some-scheme_with.ensures.0,
      is_within 2 16 c.in-Some-number_at-2.size (omega arith) (omega arith),
      sym c.in-Some.ensures ∙ ap (λ (t : Entries). Some t) (three_entries c.in-Some.part.now (codes "SHARES") (codes "SIZE") (codes "TYPE") _ _ _ shares c.in-Some-number_at-2.ensures key (omega arith)),
    )
