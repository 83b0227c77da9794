-- What a rank that calls may be answered.
use Rattle.std.proofs.Common.{◌≡◌, ◌≢◌, Bool, true, false, Option, Some, None, refl, sym, ap, ◌∙◌}
use Rattle.std.specs.Prelude.{not, option_and_then}
use Rattle.scr_base.specs.declared.content.Step.{Step}
use Rattle.scr_base.specs.declared.content.Step.TheVariants as step
use Rattle.scr_base.specs.declared.answers.Phase.{Phase}
use Rattle.scr_base.specs.declared.answers.Phase.TheVariants as phase
use Rattle.scr_base.specs.declared.answers.Refusal.{Refusal}
use Rattle.scr_base.specs.declared.answers.Refusal.TheVariants as refusal
use Rattle.scr_base.specs.Calls.{or_else, refuse_if, judged, allows}
use Rattle.round_core.specs.Seats.{judged_of}
use Rattle.site_state.specs.declared.cache.Manifest.{Manifest}
use Rattle.site_state.specs.declared.run_state.RunState.{RunState}
use Rattle.site_state.specs.Asked.{IsClearRound}

pub some_same : {X : Type 0} (x y : X) → Some x ≡ Some y → x ≡ y
some_same x y e = cc

or-none : {X : Type 0} (a b : Option X) → or_else a b ≡ None → a ≡ None
or-none None b e = refl
or-none (Some x) b e = absurd (cc e)

or-none-right : {X : Type 0} (a b : Option X) → or_else a b ≡ None → b ≡ None
or-none-right None b e = e
or-none-right (Some x) b e = absurd (cc e)

allowed : (b : Bool) (r : Refusal) → refuse_if (not b) r ≡ None → b ≡ true
allowed true r e = refl
allowed false r e = absurd (cc e)

-- what a clear round calls is allowed in the phase
pub clear_allowed : (c : RunState) (call : Step) → IsClearRound c call → allows c.phase call ≡ true
clear_allowed c call round =
    let judged_none : judged c.phase call (Rattle.round_core.specs.Seats.calls_of c.ranks) ≡ None =
    ap (λ (o : Option Step). option_and_then (λ first. judged c.phase first (Rattle.round_core.specs.Seats.calls_of c.ranks)) o) (sym round.first) ∙ or-none (judged_of c.phase c.ranks) _ round.clear in
    allowed (allows c.phase call) (refusal.Phase c.phase) (or-none-right _ _ judged_none)

-- a call that is made when no dataset is open
abbrev pub is_resting : Step → Bool
is_resting (step.Start name flags) = true
is_resting step.Have = true
is_resting step.Restart = true
is_resting (step.Restarted valid) = true
is_resting step.Finalize = true
is_resting _ = false

pub not_output : (p : Phase) (call : Step) → is_resting call ≡ true → allows p call ≡ true → p ≢ phase.Output
not_output p (step.Start name flags) is may same = absurd (cc (ap (λ (x : Phase). allows x (step.Start name flags)) same, may))
not_output p step.Have is may same = absurd (cc (ap (λ (x : Phase). allows x step.Have) same, may))
not_output p step.Restart is may same = absurd (cc (ap (λ (x : Phase). allows x step.Restart) same, may))
not_output p (step.Restarted valid) is may same = absurd (cc (ap (λ (x : Phase). allows x (step.Restarted valid)) same, may))
not_output p step.Finalize is may same = absurd (cc (ap (λ (x : Phase). allows x step.Finalize) same, may))
not_output p _ is may same = absurd (cc is)

pub closed_phase : (c : RunState) (p : Phase) → c.opened ≡ None → (m : Manifest) → c.opened ≡ Some m → p ≡ phase.Output
closed_phase c p closed m opened = absurd (cc (closed, opened))
