use Rattle.std.proofs.Common.{◌≤◌, ℕ, List, sym, ◌∙◌, subst, ap, length}
use Rattle.kvtree.specs.Entries.{Entries, depth}
use Rattle.kvtree.specs.Encoding.{encoding}
use Rattle.prefix_index.specs.Entries.{entry_body}
use Rattle.prefix_index.proofs.Sizes.{tree_depth, record_short}
use Rattle.prefix_index.proofs.tree.entry_body.Goals as goal

pub encode-requires : goal.encode-requires
encode-requires c = subst (λ (t : Entries). depth t ≤ 16) (sym c.in_ok-entry_tree.ensures) (tree_depth c.args.desc.now c.args.files.now)

pub returns-clause-body : goal.returns-clause-body
unfolding entry_body
returns-clause-body c = c.in_ok-body.ensures.spelled ∙ ap encoding c.in_ok-entry_tree.ensures

pub returns-clause-short : goal.returns-clause-short
returns-clause-short c = subst (λ (l : List ℕ). length l ≤ 1048576) (sym (c.in_ok-body.ensures.spelled ∙ ap encoding c.in_ok-entry_tree.ensures)) (record_short c.args.desc.now c.args.files.now c.bytes-name.ensures.name c.requires c.know_rows.ensures)
