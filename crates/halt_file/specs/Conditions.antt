-- The conditions on which a job is told to stop, as the machine has them.
use Rattle.scr_base.specs.Halt.{Halt}
use Rattle.halt_file.specs.declared.halt.Halt.{Halt as HaltFile}

-- the conditions that a value sets
abbrev pub conditions : HaltFile → Halt
conditions h = record { checkpoints = h.checkpoints; before = h.before; after = h.after; seconds = h.seconds; reason = h.reason }
