use Rattle.std.proofs.Common.{◌≡◌, ◌++◌, take, decimal}
use Rattle.history_reader.specs.Pieces.{each_after}
use Rattle.history_text.proofs.pieces.put_more_numbers.Given as goal

abbrev pub invariant-loop-number : goal.invariant-loop-number
invariant-loop-number l = l.out.items ≡ l.fn.out.items ++ each_after l.separator decimal (take l.number-index l.numbers)
