use Rattle.std.proofs.Common.{◌∙◌, sym, subst, arith}
use Rattle.kvtree.specs.Entries.{IsKey}
use Rattle.kvtree.proofs.Numbers.{decimal_is_key}
use Rattle.kvtree.proofs.tree.Tree.number.Goals as goal

pub leaf-requires : goal.leaf-requires
leaf-requires c = subst IsKey (sym (c.as_bytes.ensures.value ∙ c.format.ensures.text)) (decimal_is_key c.args.number (omega arith))
