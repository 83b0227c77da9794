use Rattle.std.proofs.Common.{◌≡◌, ◌≤◌, ◌*◌, Some, codes, sym, ap, ◌∙◌, arith}
use Rattle.kvtree.specs.Entries.{Entries, width}
use Rattle.kvtree.specs.Lookup.{entry_under}
use Rattle.kvtree.proofs.ByPlace.{two_entries}
use Rattle.dataset_desc.specs.Parts.{shape_tree}
use Rattle.dataset_desc.proofs.Same.{same_part, same_number}
use Rattle.dataset_desc.proofs.InRange.{site_bounds, is_site_within}
use Rattle.dataset_desc.proofs.parts.shape_of.Goals.{then-width-ne2-via-then-width-ne2, then-width-ne2-via-else-width-ne2+then-nodes-lt1, then-width-ne2-via-else-width-ne2+else-nodes-lt1+then-nodes-gt16, then-width-ne2-via-else-width-ne2+else-nodes-lt1+else-nodes-gt16+then-ranks-lt1, then-width-ne2-via-else-width-ne2+else-nodes-lt1+else-nodes-gt16+else-ranks-lt1+then-ranks-gt8, then-width-ne2-via-else-width-ne2+else-nodes-lt1+else-nodes-gt16+else-ranks-lt1+else-ranks-gt8+then-nodes-ranks-gt64}
use Rattle.dataset_desc.proofs.parts.shape_of.Goals as goal

pub returns-then-width-ne2 : goal.returns-then-width-ne2
returns-then-width-ne2 c = λ nodes ranks is_site e.
    let part : c.in-Some.part.now ≡ shape_tree nodes ranks = same_part c.in-Some.part.now (shape_tree nodes ranks) _ c.in-Some.ensures e in
    let wide : width c.in-Some.part.now ≡ 2 = ap width part in
    let b = site_bounds nodes ranks is_site in
    let some_nodes : 1 ≤ nodes = b.some_nodes in
    let few_nodes : nodes ≤ 16 = b.few_nodes in
    let some_ranks : 1 ≤ ranks = b.some_ranks in
    let few_ranks : ranks ≤ 8 = b.few_ranks in
    let few : nodes * ranks ≤ 64 = b.few in
    let nodes_same : c.in-Some-number_at.nodes ≡ nodes = same_number c.in-Some-number_at.nodes nodes _ (omega arith) (omega arith) c.in-Some-number_at.ensures (ap (λ (t : Entries). entry_under t 0 (codes "NODES")) part) in
    let ranks_same : c.in-Some-number_at-2.ranks ≡ ranks = same_number c.in-Some-number_at-2.ranks ranks _ (omega arith) (omega arith) c.in-Some-number_at-2.ensures (ap (λ (t : Entries). entry_under t 1 (codes "RANKS")) part) in
    let product : c.in-Some-number_at.nodes * c.in-Some-number_at-2.ranks ≡ nodes * ranks = cc in
    elim c.then-width-ne2.branch [
      | then-width-ne2-via-then-width-ne2 w ↦ omega arith
      | then-width-ne2-via-else-width-ne2+then-nodes-lt1 w ↦ omega arith
      | then-width-ne2-via-else-width-ne2+else-nodes-lt1+then-nodes-gt16 w ↦ omega arith
      | then-width-ne2-via-else-width-ne2+else-nodes-lt1+else-nodes-gt16+then-ranks-lt1 w ↦ omega arith
      | then-width-ne2-via-else-width-ne2+else-nodes-lt1+else-nodes-gt16+else-ranks-lt1+then-ranks-gt8 w ↦ omega arith
      | then-width-ne2-via-else-width-ne2+else-nodes-lt1+else-nodes-gt16+else-ranks-lt1+else-ranks-gt8+then-nodes-ranks-gt64 w ↦ omega arith
    ]

pub returns : goal.returns
returns c = (
  is_site_within c.in-Some-number_at.nodes c.in-Some-number_at-2.ranks (record { some_nodes = omega arith; few_nodes = omega arith; some_ranks = omega arith; few_ranks = omega arith; few = omega arith }),
  sym c.in-Some.ensures ∙ ap (λ (t : Entries). Some t) (two_entries c.in-Some.part.now (codes "NODES") (codes "RANKS") _ _ c.in-Some-number_at.ensures c.in-Some-number_at-2.ensures (omega arith)),
)
