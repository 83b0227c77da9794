-- What each move of a run does to what is ahead of it.
use Rattle.std.proofs.Common.{◌≡◌, ℕ, ◌<◌, false, List, Some, Result, Ok, Err, IfOk, OnOk, sym, ap, ◌∙◌, subst, slice_get}
use Rattle.std.specs.Prelude.{slice_set}
use Rattle.scr_base.specs.declared.content.Step.{Step}
use Rattle.round_core.specs.declared.seat.Seat.{Seat}
use Rattle.round_core.specs.Seats.{stepped}
use Rattle.site_state.specs.declared.run_state.RunState.{RunState}
use Rattle.site_state.specs.declared.run_state.RunStage.TheVariants as stage
use Rattle.site_state.specs.declared.error.SiteError.{SiteError}
use Rattle.site_core.specs.declared.site.Site.{Site}
use Rattle.site_state.specs.declared.turn.Turn.{Turn}
use Rattle.site_state.specs.declared.turn.Turn.TheVariants as turn
use Rattle.site_state.specs.Waiting.{is_over}
use Rattle.site_state.specs.Steps.{IsNextLocal}
use Rattle.site_state.specs.Ahead.{ahead}
use Rattle.site_core.specs.Ahead.{Lowers}
use Rattle.site_calls.proofs.Telling.{on_ok}
use Rattle.site_state.proofs.AheadCores.{cut_lower, steps_lower}

-- a turn that moved lowers the number, where the run's memory shows it
pub moved_lowers : {D : Type 0} (old new : Site D) (r : Result Turn SiteError) → IfOk r (λ (t : Turn). t ≡ turn.Moved) → OnOk r (ahead new.core new.programs < ahead old.core old.programs) → IfOk r (λ (t : Turn). Lowers t old new)
moved_lowers old new (Ok t) is lt = subst (λ (x : Turn). Lowers x old new) (sym is) lt
moved_lowers old new (Err e) is lt = tt

pub ends_lower : {D : Type 0} (old new : Site D) (mid : RunState) (r : Result Turn SiteError) → is_over old.core.stage ≡ false → mid.shape ≡ old.core.shape → mid.ranks ≡ old.core.ranks → new.programs ≡ old.programs
    → IfOk r (λ (t : Turn). t ≡ turn.Moved) → OnOk r (new.core ≡ record mid { stage = stage.Over }) → IfOk r (λ (t : Turn). Lowers t old new)
ends_lower old new mid r on shape ranks programs moved core = moved_lowers old new r moved (on_ok r (λ is.
    subst (λ (ps : List (List Step)). ahead new.core ps < ahead old.core old.programs) (sym programs)
    (cut_lower old.core new.core old.programs on (ap (λ (x : RunState). x.stage) is) (ap (λ (x : RunState). x.shape) is ∙ shape) (ap (λ (x : RunState). x.ranks) is ∙ ranks))) core)

pub stepped_run : {D : Type 0} (old new : Site D) (mid : RunState) (rank : ℕ) (s : Step) (next : IsNextLocal old.programs old.core rank s) → old.core.stage ≡ stage.Serving → mid.stage ≡ stage.Serving → mid.shape ≡ old.core.shape → mid.ranks ≡ old.core.ranks
    → new.programs ≡ old.programs → ((seat : Seat) → slice_get mid.ranks rank ≡ Some seat → new.core ≡ record mid { ranks = slice_set mid.ranks rank (stepped seat) }) → ahead new.core new.programs < ahead old.core old.programs
stepped_run old new mid rank s next at to shape ranks programs stepped_on =
    let is : new.core ≡ record mid { ranks = slice_set mid.ranks rank (stepped next.seat) } = stepped_on next.seat (ap (λ (rs : List Seat). slice_get rs rank) ranks ∙ next.is) in
    subst (λ (ps : List (List Step)). ahead new.core ps < ahead old.core old.programs) (sym programs)
    (steps_lower old.core new.core old.programs rank s next at (ap (λ (x : RunState). x.stage) is ∙ to) (ap (λ (x : RunState). x.shape) is ∙ shape) (ap (λ (x : RunState). x.ranks) is ∙ ap (λ (rs : List Seat). slice_set rs rank (stepped next.seat)) ranks))
