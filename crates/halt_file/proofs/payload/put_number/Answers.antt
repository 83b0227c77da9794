use Rattle.std.proofs.Common.{◌∙◌, subst, sym, arith}
use Rattle.kvtree.specs.Entries.{IsKey}
use Rattle.halt_file.proofs.Trees.{number_key}
use Rattle.halt_file.proofs.payload.put_number.Goals as goal

pub leaf-requires : goal.leaf-requires
leaf-requires c = subst IsKey (sym (c.as_bytes.ensures.value ∙ c.format.ensures.text)) (number_key c.in-Some.number (omega arith))
