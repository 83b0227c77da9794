use Rattle.halt_file.specs.Conditions.{conditions}
use Rattle.halt_file.proofs.Told.{halt_spelled, halt_unspelled}
use Rattle.halt_file.proofs.payload.halt_of.Goals as goal

pub returns-then-eq : goal.returns-then-eq
returns-then-eq c = halt_spelled (conditions c.in_ok-halt.halt) c.args.payload.now c.in-Ok.tree c.in_ok-payload_of.field-0 c.list-2.result.now c.eq.result c.in-Ok.ensures.exact c.in_ok-halt.ensures c.in_ok-payload_of.ensures.spelled c.list-2.ensures c.eq.ensures c.if-eq.true

pub returns : goal.returns
returns c = halt_unspelled (conditions c.in_ok-halt.halt) (conditions c.none-else-eq.result) c.args.payload.now c.in-Ok.tree c.in_ok-payload_of.field-0 c.list-2.result.now c.eq.result c.in-Ok.ensures.exact c.in_ok-halt.ensures c.in_ok-payload_of.ensures.spelled c.list-2.ensures c.eq.ensures c.if-eq.false c.none-else-eq.ensures
