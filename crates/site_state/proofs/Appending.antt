-- A program in a list of programs was written again.
use Rattle.std.proofs.Common.{◌≡◌, ◌<◌, ℕ, List, [], ◌∷◌, ◌++◌, length, map, get_or, sym, ap, ◌∙◌, arith}
use Rattle.std.specs.Prelude.{slice_get, slice_set, unwrap_or}
use Rattle.std.proofs.lemmas.List.{map-set, get_or-map, length-map}
use Rattle.std.proofs.lemmas.Option.{unwrap_or-slice_get}
use Rattle.std.proofs.Math.Seq.{map-set_same}
use Rattle.scr_base.specs.declared.content.Step.{Step}
use Rattle.site_state.specs.Asking.{lengthened}

-- as it was
pub put_same : {X : Type 0} (f : X → List Step) (xs : List X) (k : ℕ) (old new : X) → old ≡ get_or xs k old → f new ≡ f old → map f (slice_set xs k new) ≡ map f xs
put_same f xs k old new is same = map-set_same f xs k new old (same ∙ ap f is)

-- with a step more
pub put_longer : {X : Type 0} (f : X → List Step) (xs : List X) (k : ℕ) (old new : X) (step : Step) → k < length (map f xs) → old ≡ get_or xs k old → f new ≡ f old ++ step ∷ []
    → map f (slice_set xs k new) ≡ lengthened (map f xs) k step
put_longer f xs k old new step low is more =
    let low_in : k < length xs = omega (arith, low, length-map xs f) in
    let was : unwrap_or (slice_get (map f xs) k) [] ≡ f old = unwrap_or-slice_get (map f xs) k [] ∙ get_or-map f xs k old [] low_in ∙ ap f (sym is) in
    map-set f xs k new ∙ ap (λ (p : List Step). slice_set (map f xs) k p) (more ∙ ap (λ (p : List Step). p ++ step ∷ []) (sym was))
