use Rattle.std.proofs.Common.{◌≡◌}
use Rattle.script_reader.specs.Run.{programs_of}
use Rattle.script_reader.proofs.run.programs_of.Given as goal

abbrev pub invariant-loop-rank : goal.invariant-loop-rank
invariant-loop-rank l = l.programs.items ≡ programs_of l.steps l.rank
