use Rattle.std.proofs.Common.{◌+◌}
use Rattle.std.specs.Prelude.{if◌then◌else◌}
use Rattle.std.specs.Option.{option_copied}
use Rattle.scr_base.specs.Stages.{left}
use Rattle.halt_file.specs.Conditions.{conditions}
use Rattle.admin.proofs.Ways.{IsOnWay}
use Rattle.admin.proofs.halting.set_halt.Given as goal

-- the conditions are on their way from the device as it was at first
abbrev pub invariant-loop-over : goal.invariant-loop-over
invariant-loop-over g l = IsOnWay (option_copied l.word) (conditions l.want) l.stage l.over (g.D.Device.state l.fn.dev) (g.D.Device.state l.dev)

abbrev pub decreases-loop-over : goal.decreases-loop-over
decreases-loop-over g l = if l.over then 0 else left l.stage + 1
