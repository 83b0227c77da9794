use Rattle.halt_file.proofs.Trees.{spelled_ok, short_ok}
use Rattle.halt_file.specs.Conditions.{conditions}
use Rattle.halt_file.proofs.payload.payload_of.Goals as goal

pub returns-clause-spelled : goal.returns-clause-spelled
returns-clause-spelled c = spelled_ok (conditions c.args.halt.now) c.in_ok-halt_tree.field-0 c.encode-2.result c.in_ok-halt_tree.ensures c.encode-2.ensures

pub returns-clause-short : goal.returns-clause-short
returns-clause-short c = short_ok (conditions c.args.halt.now) c.in_ok-halt_tree.field-0 c.encode-2.result c.in_ok-halt_tree.ensures c.know.ensures c.encode-2.ensures
