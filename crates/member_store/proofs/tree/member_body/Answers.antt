use Rattle.std.proofs.Common.{◌≤◌, ℕ, List, sym, ◌∙◌, subst, ap, arith, length}
use Rattle.kvtree.specs.Entries.{Entries, depth}
use Rattle.kvtree.specs.Encoding.{encoding}
use Rattle.member_store.specs.Members.{member_body}
use Rattle.member_store.proofs.Sizes.{tree_depth, record_short}
use Rattle.member_store.proofs.tree.member_body.Goals as goal

pub encode-requires : goal.encode-requires
encode-requires c = subst (λ (t : Entries). depth t ≤ 16) (sym c.in_ok-member_tree.ensures) (tree_depth c.args.desc.now c.args.node c.args.files.now)

pub returns-clause-body : goal.returns-clause-body
unfolding member_body
returns-clause-body c = c.in_ok-body.ensures.spelled ∙ ap encoding c.in_ok-member_tree.ensures

pub returns-clause-short : goal.returns-clause-short
returns-clause-short c = subst (λ (l : List ℕ). length l ≤ 1048576) (sym (c.in_ok-body.ensures.spelled ∙ ap encoding c.in_ok-member_tree.ensures)) (record_short c.args.desc.now c.args.node c.args.files.now c.bytes-name.ensures.name (omega arith) c.know_rows.ensures.few c.know_rows.ensures.rows)
