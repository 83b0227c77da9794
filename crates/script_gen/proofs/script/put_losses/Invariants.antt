use Rattle.std.proofs.Common.{◌≡◌, ◌++◌, string_bytes}
use Rattle.script_gen.specs.Draws.{after}
use Rattle.script_gen.specs.Script.{losses}
use Rattle.script_gen.proofs.script.put_losses.Given as goal

abbrev pub invariant-loop-index : goal.invariant-loop-index
invariant-loop-index l =
    (l.draws.state ≡ after l.index l.fn.draws.state)
    × (string_bytes l.out ≡ string_bytes l.fn.out ++ losses l.fn.draws.state l.index)
