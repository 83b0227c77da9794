-- Each step of the machine keeps a fair state fair, and so does each run.
use Rattle.std.proofs.Common.{List, [], ◌∷◌, sym, subst}
use Rattle.std.specs.Prelude.{IsTrue, ◌&&◌}
use Rattle.ckpt_model.specs.declared.event.Event.{Event}
use Rattle.ckpt_model.specs.declared.event.Event.TheVariants as event
use Rattle.ckpt_model.specs.declared.event.ScavAnswer.TheVariants as scavenged
use Rattle.ckpt_model.specs.declared.event.StopCause.{StopCause}
use Rattle.ckpt_model.specs.declared.event.StopCause.TheVariants as cause
use Rattle.ckpt_model.specs.Machine.{Machine, Setup}
use Rattle.ckpt_model.specs.Moves.{may, after}
use Rattle.ckpt_model.specs.Stops.{Choice, is_first_change, may_stop, may_make, may_store, may_choose, after_stop, Stops}
use Rattle.ckpt_model.specs.Runs.{Moves, StepsTo, RunsTo}
use Rattle.model_proper.specs.Fair.{IsFair}
use Rattle.model_proper.proofs.Lists.{front, behind}
use Rattle.model_proper.proofs.Events.Commands.{takes_fair, takes_none_fair}
use Rattle.model_proper.proofs.Events.Each.{moves_fair}
use Rattle.model_proper.proofs.Stops.{Makes, after_stop_fair}

makes_of : (s : Setup) (m : Machine) (why : StopCause) (made : List Event) → IsTrue (may_make s m why made) → Makes s m made
makes_of s m why [] is = tt
makes_of s m (cause.Device node count) (e ∷ es) is = (
  front (is_first_change e) (may s m e) (front (is_first_change e && may s m e) (may_make s (after s m e) (cause.Device node count) es) is),
  behind (is_first_change e) (may s m e) (front (is_first_change e && may s m e) (may_make s (after s m e) (cause.Device node count) es) is),
  makes_of s (after s m e) (cause.Device node count) es (behind (is_first_change e && may s m e) (may_make s (after s m e) (cause.Device node count) es) is),
)
makes_of s m cause.Ended (e ∷ es) is = absurd (cc is)
makes_of s m cause.Script (e ∷ es) is = absurd (cc is)
makes_of s m cause.Runs (e ∷ es) is = absurd (cc is)
makes_of s m (cause.Full node used capacity) (e ∷ es) is = absurd (cc is)
makes_of s m cause.Command (e ∷ es) is = absurd (cc is)

-- a stop, by any choice
pub stop_fair : (s : Setup) (m : Machine) (why : StopCause) (c : Choice) → IsTrue (may_choose s m why c) → IsFair s m → IsFair s (after_stop s m c)
stop_fair s m why c may_be = after_stop_fair s m c (makes_of s m why c.made (behind (may_stop m why) (may_make s m why c.made) (front (may_stop m why && may_make s m why c.made) (may_store m c.stored) may_be)))

stops_fair : (s : Setup) (m : Machine) (why : StopCause) (new : Machine) → Stops s m why new → IsFair s m → IsFair s new
stops_fair s m why new stops fair = subst (λ (x : Machine). IsFair s x) (sym stops.2) (stop_fair s m why stops.0 stops.1 fair)

moved_fair : (s : Setup) (m : Machine) (e : Event) (new : Machine) → Moves s m e new → IsFair s m → IsFair s new
moved_fair s m e new moves fair = subst (λ (x : Machine). IsFair s x) (sym moves.1) (moves_fair s m e moves.0 fair)

-- one step of the machine
pub step_fair : (s : Setup) (m : Machine) (e : Event) (new : Machine) → StepsTo s m e new → IsFair s m → IsFair s new
step_fair s m (event.Stop why) new steps = stops_fair s m why new steps
step_fair s m (event.Scavenging which) new steps = takes_fair s m which new steps
step_fair s m (event.Scavenged scavenged.NoneLeft) new steps = takes_none_fair s m new steps
step_fair s m (event.Scavenged a) new steps = moved_fair s m (event.Scavenged a) new steps
step_fair s m e new steps = moved_fair s m e new steps

-- one step after another
pub run_fair : (s : Setup) (m : Machine) (events : List Event) (new : Machine) → RunsTo s m events new → IsFair s m → IsFair s new
run_fair s m [] new runs fair = subst (λ (x : Machine). IsFair s x) (sym runs) fair
run_fair s m (e ∷ es) new runs fair = run_fair s runs.0 es new runs.2 (step_fair s m e runs.0 runs.1 fair)
