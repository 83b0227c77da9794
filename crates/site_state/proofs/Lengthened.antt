-- Programs with a step more: what was a step of theirs still is.
use Rattle.std.proofs.Common.{◌≡◌, ℕ, zero, suc, ◌-◌, List, [], ◌∷◌, ◌++◌, Some}
use Rattle.std.specs.Prelude.{slice_get, unwrap_or}
use Rattle.scr_base.specs.declared.content.Step.{Step}
use Rattle.ckpt_model.specs.declared.event.Event.{Event}
use Rattle.ckpt_model.specs.declared.event.Event.TheVariants as event
use Rattle.ckpt_model.specs.Legal.{IsOfProgram}
use Rattle.site_state.specs.Asking.{lengthened}

-- a step of the front is one of the whole
front_step : (steps : List Step) (more : Step) (n : ℕ) (s : Step) → slice_get steps n ≡ Some s → slice_get (steps ++ more ∷ []) n ≡ Some s
front_step [] more n s e = absurd (cc e)
front_step (x ∷ steps) more zero s e = e
front_step (x ∷ steps) more (suc n) s e = front_step steps more n s e

pub still_there : (programs : List (List Step)) (rank : ℕ) (more : Step) (r n : ℕ) (s : Step) → slice_get (unwrap_or (slice_get programs r) []) n ≡ Some s → slice_get (unwrap_or (slice_get (lengthened programs rank more) r) []) n ≡ Some s
still_there [] rank more r n s e = absurd (cc e)
still_there (p ∷ programs) zero more zero n s e = front_step p more n s e
still_there (p ∷ programs) zero more (suc r) n s e = e
still_there (p ∷ programs) (suc rank) more zero n s e = e
still_there (p ∷ programs) (suc rank) more (suc r) n s e = still_there programs rank more r n s e

pub still_of_program : (programs : List (List Step)) (rank : ℕ) (more : Step) (e : Event) → IsOfProgram programs e → IsOfProgram (lengthened programs rank more) e
still_of_program programs rank more (event.Call r number step) h = still_there programs rank more r (number - 1) step h
still_of_program programs rank more (event.Local r number step answer) h = still_there programs rank more r (number - 1) step h
still_of_program programs rank more _ h = tt
