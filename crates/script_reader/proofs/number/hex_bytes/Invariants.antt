use Rattle.std.proofs.Common.{◌≡◌, length}
use Rattle.script_reader.specs.Numbers.{hex_bytes}
use Rattle.script_reader.proofs.Fronts.{with_front}
use Rattle.script_reader.proofs.number.hex_bytes.Given as goal

-- the bytes so far and those of what is left are those of the word
abbrev pub invariant-loop-rest : goal.invariant-loop-rest
invariant-loop-rest l = with_front l.bytes.items (hex_bytes l.rest) ≡ hex_bytes l.word

abbrev pub decreases-loop-rest : goal.decreases-loop-rest
decreases-loop-rest l = length l.rest
