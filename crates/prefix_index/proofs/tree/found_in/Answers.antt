use Rattle.std.proofs.Common.{◌*◌, refl, sym, ap, subst, Some, Err}
use Rattle.dataset_desc.specs.declared.desc.Desc.{Desc}
use Rattle.filemap.specs.Maps.{IsMap, map_tree}
use Rattle.prefix_index.proofs.Keys.{some_few, keys_of, parts_of, files_same, found_same}
use Rattle.prefix_index.proofs.tree.found_in.Goals as goal

pub returns-in_default-clause-only : goal.returns-in_default-clause-only
returns-in_default-clause-only c = λ f says. absurd (c.in_default.ensures.none refl (map_tree f.files) (keys_of c.args.tree.now f says))

pub returns-in-Err-Foreign-clause-only : goal.returns-in-Err-Foreign-clause-only
returns-in-Err-Foreign-clause-only c = λ f says. absurd (c.in-Err-Foreign.ensures.foreign.0 (ap Err c.in-Err-Foreign.field-0-is) f.desc (parts_of c.args.tree.now f says))

pub from_tree-requires-2 : goal.from_tree-requires-2
from_tree-requires-2 c = some_few c.in-Ok.desc

pub returns-in-Ok-from_tree-clause-only : goal.returns-in-Ok-from_tree-clause-only
returns-in-Ok-from_tree-clause-only c = λ f says.
    ap Some (found_same c.in-Ok.desc c.in-Ok-from_tree.files f
    (c.in-Ok.ensures.only f.desc (parts_of c.args.tree.now f says))
    (c.in-Ok-from_tree.ensures.only f.files (subst (λ (d : Desc). IsMap (d.nodes * d.ranks) f.files) (sym (c.in-Ok.ensures.only f.desc (parts_of c.args.tree.now f says))) says.files) (files_same c.args.tree.now c.in-Some.files.now f c.in-Some.ensures.keys says)))
