-- What holds of every device holds of each place.
use Rattle.std.proofs.Common.{◌⊎◌, inl, inr, ◌<◌, ◌≤◌, ℕ, List, [], length, map, get_or, refl, sym, subst, arith}
use Rattle.std.specs.Prelude.{Contains}
use Rattle.std.proofs.lemmas.Bool.Decides.{eqb_tells}
use Rattle.std.proofs.lemmas.List.{get_or-map, get_or_past, length-map}
use Rattle.node_device.specs.DeviceState.{DeviceState, IsSound}
use Rattle.node_device.specs.Rack.{Rack, nowhere, states_of}

pub below_or_not : (k n : ℕ) → (k < n) ⊎ (n ≤ k)
below_or_not k n = grind arith

nowhere_sound : IsSound nowhere
nowhere_sound = record {
  ascending = λ i j lt within. absurd (omega (arith, within));
  listed = λ q. ((λ found. absurd (not_in q found)), (λ some. absurd (cc some)));
  named = λ q some. absurd (cc some);
  lengths = λ tells q. refl;
  now_allowed = λ q. inr refl;
  stable_allowed = λ q. inr refl;
  fits = omega arith;
} where
  not_in : (q : List ℕ) → Contains [] q → ⊥
  not_in q found = absurd (omega (arith, found.1))

pub sound_of : {D : Type 0} (state : D → DeviceState) → ((d : D) → IsSound (state d)) → (rack : Rack D) (place : ℕ) → IsSound (states_of state rack place)
unfolding states_of
sound_of state sound rack place = elim (eqb_tells place 32) [
  | inl h ↦ rw h.0 (sound rack.prefix)
  | inr h ↦ rw h.0 (elim (below_or_not place (length rack.nodes)) [
    | inl lt ↦ subst (λ (s : DeviceState). IsSound s) (sym (get_or-map state rack.nodes place rack.prefix nowhere lt)) (sound (get_or rack.nodes place rack.prefix))
    | inr past ↦ subst (λ (s : DeviceState). IsSound s) (sym (get_or_past (map state rack.nodes) place nowhere (omega (arith, past, length-map rack.nodes state)))) nowhere_sound
  ])
]
