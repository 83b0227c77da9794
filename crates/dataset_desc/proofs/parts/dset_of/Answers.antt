use Rattle.std.proofs.Common.{◌≡◌, ℕ, List, Some, codes, sym, ap, ◌∙◌, arith}
use Rattle.kvtree.specs.Entries.{Entries, width}
use Rattle.kvtree.specs.Lookup.{entry_under, leaf}
use Rattle.kvtree.proofs.ByPlace.{four_entries}
use Rattle.dataset_desc.specs.Parts.{flags_key, dset_tree}
use Rattle.dataset_desc.proofs.Same.{same_part, same_number}
use Rattle.dataset_desc.proofs.InRange.{in_bounds, is_within}
use Rattle.dataset_desc.proofs.parts.dset_of.Goals.{then-width-ne4-via-then-width-ne4, then-width-ne4-via-else-width-ne4+then-id-eq0, then-width-ne4-via-else-width-ne4+else-id-eq0+then-run-eq0}
use Rattle.dataset_desc.proofs.parts.dset_of.Goals as goal

pub returns-in_default-value_at : goal.returns-in_default-value_at
returns-in_default-value_at c = λ flags id name run _ _ e.
    let part : c.in-Some.part.now ≡ dset_tree flags id name run = same_part c.in-Some.part.now (dset_tree flags id name run) _ c.in-Some.ensures e in
    c.in_default-value_at.ensures (flags_key flags) (ap (λ (t : Entries). entry_under t 0 (codes "FLAGS")) part)

pub returns-then-width-ne4 : goal.returns-then-width-ne4
returns-then-width-ne4 c = λ flags id name run is_id is_run e.
    let part : c.in-Some.part.now ≡ dset_tree flags id name run = same_part c.in-Some.part.now (dset_tree flags id name run) _ c.in-Some.ensures e in
    let wide : width c.in-Some.part.now ≡ 4 = ap width part in
    let id_in = in_bounds 1 4294967295 id is_id in
    let run_in = in_bounds 1 4294967295 run is_run in
    let id_same : c.in-Some-number_at.id ≡ id = same_number c.in-Some-number_at.id id _ (omega arith) (omega arith) c.in-Some-number_at.ensures (ap (λ (t : Entries). entry_under t 1 (codes "ID")) part) in
    let run_same : c.in-Some-number_at-2.run' ≡ run = same_number c.in-Some-number_at-2.run' run _ (omega arith) (omega arith) c.in-Some-number_at-2.ensures (ap (λ (t : Entries). entry_under t 3 (codes "RUN")) part) in
    elim c.then-width-ne4.branch [
      | then-width-ne4-via-then-width-ne4 w ↦ omega arith
      | then-width-ne4-via-else-width-ne4+then-id-eq0 w ↦ omega arith
      | then-width-ne4-via-else-width-ne4+else-id-eq0+then-run-eq0 w ↦ omega arith
    ]

pub returns : goal.returns
returns c =
    let flags : entry_under c.in-Some.part.now 0 (codes "FLAGS") ≡ Some (leaf (flags_key c.in-Some-flags_of.flags)) = c.in-Some-value_at.ensures ∙ ap (λ (k : List ℕ). Some (leaf k)) c.in-Some-flags_of.ensures in (
      is_within 1 4294967295 c.in-Some-number_at.id (omega arith) (omega arith),
      is_within 1 4294967295 c.in-Some-number_at-2.run' (omega arith) (omega arith),
      sym c.in-Some.ensures ∙ ap (λ (t : Entries). Some t) (four_entries c.in-Some.part.now (codes "FLAGS") (codes "ID") (codes "NAME") (codes "RUN") _ _ _ _ flags c.in-Some-number_at.ensures c.in-Some-value_at-2.ensures c.in-Some-number_at-2.ensures (omega arith)),
    )
