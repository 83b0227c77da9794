use Rattle.std.proofs.Common.{◌≡◌, take, map, filter}
use Rattle.script_reader.specs.Routes.{is_meant}
use Rattle.script_reader.proofs.run.program_of.Given as goal

abbrev pub invariant-loop-given : goal.invariant-loop-given
invariant-loop-given l = l.program.items ≡ map (λ given. given.step) (filter (λ given. is_meant given.first given.last l.rank) (take l.given-index l.steps))
