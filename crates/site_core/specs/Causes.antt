-- How a refused call ends a run, or is told.
use Rattle.std.specs.Prelude.{Bool, true, false}
use Rattle.ckpt_model.specs.declared.event.StopCause.{StopCause}
use Rattle.ckpt_model.specs.declared.event.StopCause.TheVariants as stops
use Rattle.site_calls.specs.declared.trouble.Trouble.{Trouble}
use Rattle.site_calls.specs.declared.trouble.Trouble.TheVariants as error

-- the end of a run that it brings
abbrev pub cause_of : Trouble → StopCause
cause_of error.Memory = stops.Command
cause_of (error.Fault node count) = stops.Device node count
cause_of (error.Full node used capacity) = stops.Full node used capacity

-- want of memory isn't told
abbrev pub is_told : Trouble → Bool
is_told error.Memory = false
is_told (error.Fault node count) = true
is_told (error.Full node used capacity) = true
