use Rattle.std.proofs.Common.{◌≡◌, ◌≤◌, vec_len, ◌-◌}
use Rattle.scr_base.specs.Streams.{Leaves}
use Rattle.scr_replay.proofs.input.read_input.Given as goal

-- the text so far was taken, and no fault came
abbrev pub invariant-loop-chunk : goal.invariant-loop-chunk
invariant-loop-chunk g l =
    record {
      within : vec_len l.text ≤ 4194305;
      taken : Leaves (g.S.Source.left l.fn.source) (g.S.Source.left l.source) l.text.items;
      calm : g.S.Source.fault_count l.source ≡ g.S.Source.fault_count l.fn.source;
    }

abbrev pub decreases-loop-chunk : goal.decreases-loop-chunk
decreases-loop-chunk g l = 4194305 - vec_len l.text
