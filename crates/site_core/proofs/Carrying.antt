-- A refusal that a round carries, and the ranks' calls.
use Rattle.std.proofs.Common.{◌≡◌, inl, inr, ℕ, true, List, [], ◌∷◌, ◌++◌, length, Option, Some, None, refl, ap, arith}
use Rattle.std.proofs.lemmas.List.{length_push}
use Rattle.scr_base.specs.declared.answers.Refusal.{Refusal}
use Rattle.scr_base.specs.declared.content.Step.{Step}
use Rattle.ckpt_model.specs.declared.event.Event.{Event}
use Rattle.ckpt_model.specs.declared.event.Event.TheVariants as event
use Rattle.site_state.specs.declared.run_state.RunState.{RunState}
use Rattle.site_state.specs.declared.run_state.RunStage.{RunStage}
use Rattle.site_state.specs.declared.run_state.RunStage.TheVariants as stage
use Rattle.site_core.specs.Follows.{carried, carried_at, CarriesNoMore, BecomesOf}
use Rattle.site_state.specs.Waiting.{is_over}

-- a run that is over carries none
pub over_none : (s : RunStage) (refusal : Option Refusal) → is_over s ≡ true → carried_at s refusal ≡ None
over_none (stage.Dropping d n) refusal over = absurd (cc over)
over_none stage.Dropped refusal over = absurd (cc over)
over_none stage.Begun refusal over = refl
over_none stage.Storing refusal over = refl
over_none stage.Looking refusal over = refl
over_none stage.Mending refusal over = refl
over_none stage.Serving refusal over = refl
over_none (stage.Saving w n) refusal over = refl
over_none stage.Over refusal over = refl

pub is_longer : (events : List Event) (e : Event) → events ++ e ∷ [] ≡ events → ⊥
is_longer events e same = omega (arith, length_push events e, ap length same)

pub call_finds_none : (old new : RunState) (before : List Event) (rank number : ℕ) (call : Step) → CarriesNoMore old new → ((refusal : Refusal) → carried old ≡ Some refusal → BecomesOf refusal new before (before ++ event.Call rank number call ∷ [])) → carried new ≡ None
call_finds_none old new before rank number call no_more becomes = pick (carried new) refl where
  gone : (refusal : Refusal) → BecomesOf refusal new before (before ++ event.Call rank number call ∷ []) → carried new ≡ None
  gone refusal (inl still) = absurd (is_longer before (event.Call rank number call) still.told)
  gone refusal (inr (inl decided)) = decided.none
  gone refusal (inr (inr over)) = over_none new.stage new.refusal over

  pick : (o : Option Refusal) → carried new ≡ o → carried new ≡ None
  pick None is = is
  pick (Some refusal) is = gone refusal (becomes refusal (no_more refusal is))
