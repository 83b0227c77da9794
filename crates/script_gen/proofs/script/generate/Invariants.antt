use Rattle.std.proofs.Common.{◌≡◌, ◌++◌, string_bytes}
use Rattle.script_gen.specs.Script.{site_lines, runs, state_before}
use Rattle.script_gen.proofs.script.generate.Given as goal

abbrev pub invariant-loop-index : goal.invariant-loop-index
invariant-loop-index l =
    (l.draws.state ≡ state_before l.seed l.index)
    × (string_bytes l.out ≡ site_lines ++ runs l.seed l.index)
