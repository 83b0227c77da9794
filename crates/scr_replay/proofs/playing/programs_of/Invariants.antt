use Rattle.std.proofs.Common.{◌≡◌, take, map}
use Rattle.scr_replay.proofs.playing.programs_of.Given as goal

-- the programs so far are copied
abbrev pub invariant-loop-program : goal.invariant-loop-program
invariant-loop-program l = map (λ program. program.items) l.programs.items ≡ take l.program-index l.ranks
