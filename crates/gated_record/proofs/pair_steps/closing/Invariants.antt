use Rattle.std.proofs.Common.{◌≡◌, take}
use Rattle.gated_record.specs.PairStages.{closings, open_from}
use Rattle.gated_record.proofs.pair_steps.closing.Given as goal

abbrev pub invariant-loop-byte : goal.invariant-loop-byte
invariant-loop-byte l = record { counted : l.gate ≡ l.byte-index; changes : l.changes.items ≡ closings l.name (open_from 0 (take l.byte-index l.front)) }
