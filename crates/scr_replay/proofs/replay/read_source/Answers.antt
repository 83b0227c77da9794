use Rattle.std.proofs.Common.{subst}
use Rattle.scr_replay.specs.declared.input.Input.{Input}
use Rattle.scr_replay.specs.Inputs.{Reads}
use Rattle.scr_replay.proofs.Lengths.{long_refused}
use Rattle.scr_replay.proofs.replay.read_source.Goals as goal

pub returns-in-Ok-TooLong-clause-refused : goal.returns-in-Ok-TooLong-clause-refused
returns-in-Ok-TooLong-clause-refused g c =
    let read = subst (λ (i : Input). Reads (g.S.Source.left c.args.source.now) (g.S.Source.left c.read_input.new.source) i) c.in-Ok-TooLong.field-0-is c.in-Ok-TooLong.ensures.read in
    long_refused _ _ read.0 read.1 read.2
