-- Where a device refuses a round, and where it ends the run.
use Rattle.std.proofs.Common.{◌≡◌, ◌∙◌, inl, inr, ℕ, Bool, true, false, Option, None, Some, Result, Ok, Err, OnOk, refl, sym, ap}
use Rattle.scr_base.specs.declared.answers.Refusal.{Refusal}
use Rattle.site_state.specs.declared.run_state.RunState.{RunState}
use Rattle.site_state.specs.declared.run_state.RunStage.{RunStage}
use Rattle.site_state.specs.declared.run_state.RunStage.TheVariants as stage
use Rattle.std.specs.Prelude.{if◌then◌else◌}
use Rattle.site_state.specs.declared.run_state.SaveStep.{SaveStep}
use Rattle.site_state.specs.Ahead.{IsToRecord}
use Rattle.site_state.specs.Waiting.{is_over}
use Rattle.site_core.specs.Follows.{may_refuse, IsPlaced, carried, carried_at}

refuses_on : (st : RunStage) → may_refuse st ≡ true → is_over st ≡ false
refuses_on stage.Begun e = refl
refuses_on stage.Storing e = refl
refuses_on stage.Looking e = refl
refuses_on stage.Mending e = refl
refuses_on stage.Serving e = refl
refuses_on (stage.Saving work node) e = refl
refuses_on (stage.Dropping drop node) e = refl
refuses_on stage.Dropped e = refl
refuses_on stage.Over e = absurd (cc e)

-- a turn that leaves all as it was
pub placed_still : (c : RunState) → IsPlaced c c
placed_still c = record { goes_on = λ e. refuses_on c.stage e; late = λ e refusal is. is }

-- before the first gate the run isn't over
pub placed_early : (old new : RunState) → may_refuse old.stage ≡ true → is_over new.stage ≡ false → IsPlaced old new
placed_early old new early on = record { goes_on = λ e. on; late = λ e. absurd (let no : true ≡ false = sym early ∙ e in cc no) }

-- from then on nothing is carried
pub placed_late : (old new : RunState) → may_refuse old.stage ≡ false → carried new ≡ None → IsPlaced old new
placed_late old new late none = record { goes_on = λ e. absurd (let no : true ≡ false = sym e ∙ late in cc no); late = λ e refusal is. absurd (let no : None ≡ Some refusal = sym none ∙ is in cc no) }

-- an end by a device
pub placed_end : {T E : Type 0} (r : Result T E) (old mid new : RunState) → may_refuse old.stage ≡ false → OnOk r (new ≡ record mid { stage = stage.Over }) → OnOk r (IsPlaced old new)
placed_end (Ok v) old mid new late is = placed_late old new late (ap carried is)
placed_end (Err e) old mid new late is = tt

-- a round that a device refuses
pub placed_drop : {T E : Type 0} (r : Result T E) (old new : RunState) → may_refuse old.stage ≡ true → OnOk r (is_over new.stage ≡ false) → OnOk r (IsPlaced old new)
placed_drop (Ok v) old new early on = placed_early old new early on
placed_drop (Err e) old new early on = tt

-- a record is written, or is about to be
pub to_record_refuses : (st : RunStage) (node : ℕ) → IsToRecord st node → may_refuse st ≡ true
to_record_refuses st node (inl is) = ap may_refuse is
to_record_refuses st node (inr is) = ap may_refuse is.0

-- what comes after a sync isn't the run's end, and nothing is carried there
pub after_on : (b : Bool) (v w : SaveStep) (m n : ℕ) (st : RunStage) → st ≡ (if b then stage.Saving v m else stage.Saving w n) → is_over st ≡ false
after_on true v w m n st is = ap is_over is
after_on false v w m n st is = ap is_over is

pub after_none : (b : Bool) (v w : SaveStep) (m n : ℕ) (refusal : Option Refusal) (st : RunStage) → st ≡ (if b then stage.Saving v m else stage.Saving w n) → carried_at st refusal ≡ None
after_none true v w m n refusal st is = ap (λ (x : RunStage). carried_at x refusal) is
after_none false v w m n refusal st is = ap (λ (x : RunStage). carried_at x refusal) is
