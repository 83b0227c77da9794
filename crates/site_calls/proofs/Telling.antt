-- What each place tells, and places that stay as they were.
use Rattle.std.proofs.Common.{◌≡◌, ◌≢◌, ◌⊎◌, inl, inr, ◌<◌, ◌≤◌, ℕ, true, Result, Ok, Err, OnOk, OnErr, length, map, get_or, sym, ap, ◌∙◌, subst, arith}
use Rattle.std.proofs.lemmas.Bool.{cases_eq}
use Rattle.std.proofs.lemmas.Bool.Decides.{eqb_tells}
use Rattle.std.proofs.lemmas.List.{get_or-map, get_or_past}
use Rattle.std.proofs.Math.Path.{fun_ext}
use Rattle.node_device.specs.DeviceState.{DeviceState}
use Rattle.node_device.specs.Rack.{Rack, nowhere, states_of, OnlyAt}
use Rattle.site_calls.specs.Calls.{Same, Tells, TellsAlike}

-- where each device told its contents, each tells them
pub tell_on : (old new : ℕ → DeviceState) → TellsAlike old new → Tells old → Tells new
tell_on old new alike tells = λ p low. alike p ∙ tells p low

-- one device alone was called, and goes on telling
pub alike_only : (place : ℕ) (old new : ℕ → DeviceState) → ((q : ℕ) → q ≢ place → new q ≡ old q) → (new place).tells ≡ (old place).tells → TellsAlike old new
alike_only place old new others here = λ p. pick p (cases_eq p place) where
  pick : (p : ℕ) → (p ≡ place) ⊎ (p ≢ place) → (new p).tells ≡ (old p).tells
  pick p (inl is) = subst (λ (q : ℕ). (new q).tells ≡ (old q).tells) (sym is) here
  pick p (inr away) = ap (λ (d : DeviceState). d.tells) (others p away)

-- after a call that changed nothing each place is as it was
pub same_states : (place : ℕ) (old new : ℕ → DeviceState) → OnlyAt place Same old new → new ≡ old
same_states place old new done = fun_ext (λ p. pick p (cases_eq p place)) where
  pick : (p : ℕ) → (p ≡ place) ⊎ (p ≢ place) → new p ≡ old p
  pick p (inl is) = subst (λ (q : ℕ). new q ≡ old q) (sym is) done.here
  pick p (inr away) = done.others p away

-- what follows from what holds of a refusal
pub on_err : {T E : Type 0} (r : Result T E) {P Q : Type 0} → (P → Q) → OnErr r P → OnErr r Q
on_err (Ok v) f p = tt
on_err (Err e) f p = f p

-- what follows from what holds of a success
pub on_ok : {T E : Type 0} (r : Result T E) {P Q : Type 0} → (P → Q) → OnOk r P → OnOk r Q
on_ok (Ok v) f p = f p
on_ok (Err e) f p = p

pub on_ok2 : {T E : Type 0} (r : Result T E) {P Q S : Type 0} → (P → Q → S) → OnOk r P → OnOk r Q → OnOk r S
on_ok2 (Ok v) f p q = f p q
on_ok2 (Err e) f p q = p

pub on_ok3 : {T E : Type 0} (r : Result T E) {P Q R S : Type 0} → (P → Q → R → S) → OnOk r P → OnOk r Q → OnOk r R → OnOk r S
on_ok3 (Ok v) f p q t = f p q t
on_ok3 (Err e) f p q t = p
