use Rattle.std.proofs.Common.{rules, ◌≤◌, ℕ, List, sym, ◌∙◌, subst, ap, length}
use Rattle.kvtree.specs.Entries.{Entries, depth}
use Rattle.kvtree.specs.Encoding.{encoding}
use Rattle.prefix_index.specs.Marks.{mark_payload}
use Rattle.prefix_index.proofs.Sizes.{mark_short, mark_depth}
use Rattle.prefix_index.proofs.storing.payload_of.Goals as goal

pub encode-requires : goal.encode-requires
encode-requires c = subst (λ (t : Entries). depth t ≤ 16) (sym c.in_ok-tree_of.ensures) (mark_depth c.args.which)

pub returns-clause-payload : goal.returns-clause-payload
unfolding mark_payload
returns-clause-payload c = c.in_ok-payload.ensures.spelled ∙ ap encoding c.in_ok-tree_of.ensures

pub returns-clause-short : goal.returns-clause-short
returns-clause-short c = subst (λ (l : List ℕ). length l ≤ 1048572) (sym (c.in_ok-payload.ensures.spelled ∙ ap encoding c.in_ok-tree_of.ensures)) (mark_short c.args.which (search rules) (search rules))
