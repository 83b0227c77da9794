-- The fault of a command on the conditions on which the job is to stop has its cause.
use Rattle.std.proofs.Common.{◌≡◌, ◌≢◌, inl, inr, ◌≤◌, ◌<◌, ◌^◌, ℕ, List, [], ◌∷◌, Option, refl, sym, subst, Ok}
use Rattle.std.proofs.lemmas.Bool.Decides.{eqb_tells}
use Rattle.scr_base.specs.declared.content.HaltWord.{HaltWord}
use Rattle.node_device.specs.Calls.{Crashes}
use Rattle.node_device.specs.DeviceState.{DeviceState}
use Rattle.node_device.specs.Rack.{OnlyAt}
use Rattle.admin.specs.Causes.{HaltCause}
use Rattle.admin.specs.Halting.{SetsHalt}
use Rattle.admin.specs.declared.answer.Answer.{Answer}
use Rattle.admin.specs.declared.answer.Answer.TheVariants as admin
use Rattle.ckpt_model.specs.declared.event.Event.{Event}
use Rattle.ckpt_model.specs.declared.event.Event.TheVariants as event
use Rattle.ckpt_model.specs.declared.event.StopCause.TheVariants as stops
use Rattle.site_core.specs.Faults.{TellsCauses}
use Rattle.site_core.proofs.Faults.{Rise, rose_later, equal_later, one_told, none_told, causes_then}
use Rattle.scr_replay.specs.Commands.{told_answer}

module _ (word : Option HaltWord) (old new : ℕ → DeviceState) (fits : (old 32).faults < 2 ^ 64) where
  -- no count but the prefix's changed, and it didn't fall
  here_rise : (a : Answer) → HaltCause word (old 32) (new 32) (Ok a) → (old 32).faults ≤ (new 32).faults
  here_rise admin.Done cause = equal_later (old 32).faults (new 32).faults cause
  here_rise (admin.Device count) cause = subst (λ (n : ℕ). (old 32).faults ≤ n) cause.now (rose_later (old 32).faults count fits cause.rose)
  here_rise (admin.Full used capacity) cause = equal_later (old 32).faults (new 32).faults cause.calm

  command_rise : (a : Answer) → OnlyAt 32 (SetsHalt word (Ok a)) old new → Rise old new
  command_rise a only place = elim (eqb_tells place 32) [
    | inl same ↦ subst (λ (p : ℕ). (old p).faults ≤ (new p).faults) (sym same.1) (here_rise a only.here.cause)
    | inr away ↦ equal_later (old place).faults (new place).faults (Rattle.std.proofs.Common.ap (λ (d : DeviceState). d.faults) (only.others place away.1))
  ]

  -- what is told of the command
  pub command_causes : (w : Option HaltWord) (a : Answer) → OnlyAt 32 (SetsHalt word (Ok a)) old new → TellsCauses old new (event.HaltSet w (told_answer a) ∷ [])
  command_causes w admin.Done only = none_told old new (event.HaltSet w (told_answer admin.Done)) refl (command_rise admin.Done only)
  command_causes w (admin.Full used capacity) only = none_told old new (event.HaltSet w (told_answer (admin.Full used capacity))) refl (command_rise (admin.Full used capacity) only)
  command_causes w (admin.Device count) only =
      let cause = only.here.cause in
      one_told old new (event.HaltSet w (told_answer (admin.Device count))) (record { node = 32; count = count }) (command_rise (admin.Device count) only) refl (record { rose = cause.rose; reached = equal_later count (new 32).faults (sym cause.now) })

  -- and of one that was refused, where all devices were stopped behind it
  pub refused_causes : (w : Option HaltWord) (a : Answer) (left : ℕ → DeviceState) → OnlyAt 32 (SetsHalt word (Ok a)) old new → ((place : ℕ) → Crashes (new place) (left place)) → TellsCauses old left (event.HaltSet w (told_answer a) ∷ event.Stop stops.Command ∷ [])
  refused_causes w a left only crashes =
      causes_then old new left (event.HaltSet w (told_answer a) ∷ []) (event.Stop stops.Command ∷ []) (command_causes w a only) (none_told new left (event.Stop stops.Command) refl (λ place. (crashes place).tells.later))
