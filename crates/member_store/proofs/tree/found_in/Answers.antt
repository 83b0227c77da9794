use Rattle.std.proofs.Common.{◌∙◌, ◌*◌, refl, sym, ap, subst, arith, Some, Err}
use Rattle.dataset_desc.specs.declared.desc.Desc.{Desc}
use Rattle.filemap.specs.Maps.{IsMap, map_tree}
use Rattle.member_store.proofs.Keys.{some_few, small_node, keys_of, parts_of, files_same, node_same, found_same}
use Rattle.member_store.proofs.tree.found_in.Goals as goal

pub returns-in_default-clause-only : goal.returns-in_default-clause-only
returns-in_default-clause-only c = λ f says. absurd (c.in_default.ensures.none refl (map_tree f.files) f.node (small_node c.args.shape c.args.tree.now f says) (keys_of c.args.shape c.args.tree.now f says))

pub returns-in-Err-Foreign-clause-only : goal.returns-in-Err-Foreign-clause-only
returns-in-Err-Foreign-clause-only c = λ f says. absurd (c.in-Err-Foreign.ensures.foreign.0 (ap Err c.in-Err-Foreign.field-0-is) f.desc (parts_of c.args.shape c.args.tree.now f says))

pub returns-then-not-is_of_site-clause-only : goal.returns-then-not-is_of_site-clause-only
returns-then-not-is_of_site-clause-only c = λ f says.
    let same = c.in-Ok.ensures.only f.desc (parts_of c.args.shape c.args.tree.now f says) in
    let node = node_same c.args.shape c.args.tree.now c.in-Some.files.now c.in-Some.node f c.in-Some.ensures.small c.in-Some.ensures.keys says in
    absurd (cc (
      c.if-not-is_of_site.true,
      c.is_of_site.ensures.1 (
        ap (λ (d : Desc). d.nodes) same ∙ says.nodes,
        ap (λ (d : Desc). d.ranks) same ∙ says.ranks,
        omega (arith, node, says.node_is, ap (λ (d : Desc). d.nodes) same),
      ),
    ))

pub from_tree-requires-2 : goal.from_tree-requires-2
from_tree-requires-2 c = some_few c.in-Ok.desc

pub returns-in-Ok-from_tree-clause-only : goal.returns-in-Ok-from_tree-clause-only
returns-in-Ok-from_tree-clause-only c = λ f says.
    ap Some (found_same c.in-Ok.desc c.in-Some.node c.in-Ok-from_tree.files f
    (c.in-Ok.ensures.only f.desc (parts_of c.args.shape c.args.tree.now f says))
    (node_same c.args.shape c.args.tree.now c.in-Some.files.now c.in-Some.node f c.in-Some.ensures.small c.in-Some.ensures.keys says)
    (c.in-Ok-from_tree.ensures.only f.files (subst (λ (d : Desc). IsMap (d.nodes * d.ranks) f.files) (sym (c.in-Ok.ensures.only f.desc (parts_of c.args.shape c.args.tree.now f says))) says.files) (files_same c.args.shape c.args.tree.now c.in-Some.files.now c.in-Some.node f c.in-Some.ensures.keys says)))
