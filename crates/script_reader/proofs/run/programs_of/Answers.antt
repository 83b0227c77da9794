use Rattle.std.proofs.Common.{sym, arith}
use Rattle.std.proofs.lemmas.List.FromFn.{map-range_with_len_more}
use Rattle.script_reader.specs.Run.{program_of}
use Rattle.script_reader.proofs.run.programs_of.Goals as goal

pub loop-rank-preserved : goal.loop-rank-preserved
loop-rank-preserved c =
    rw (c.in_ok-push.ensures.items, c.loop-rank.invariant, c.in_ok-program_of.ensures)
    (sym (map-range_with_len_more (program_of c.args.steps.now) 0 c.loop-rank.rank c.loop-rank.rank (omega arith)))
