use Rattle.std.proofs.Common.{length}
use Rattle.gated_record.proofs.record.+gates_from.Given as goal

abbrev pub decreases-gates_from : goal.decreases-gates_from
decreases-gates_from l = length l.bytes.now
