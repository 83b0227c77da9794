-- What the places of a bay hold after one of its devices was used.
use Rattle.std.proofs.Common.{◌≡◌, ◌≢◌, ◌≤◌, ◌<◌, ◌⊎◌, ◌+◌, ℕ, List, length, map, get_or, set, refl, sym, ap, ◌∙◌, subst, inl, inr, arith}
use Rattle.std.proofs.lemmas.Bool.{cases_eq}
use Rattle.std.proofs.lemmas.Bool.Decides.{eqb_tells}
use Rattle.std.proofs.lemmas.List.{get_or-map, get_or-set_same, get_or-set_other, map-set, length-set, length-map, get_or_past, get_or_default}
use Rattle.std.specs.Prelude.{slice_index_or}
use Rattle.node_device.specs.DeviceState.{DeviceState, IsSound}
use Rattle.node_device.specs.Calls.{Crashes}
use Rattle.node_device.specs.Rack.{Rack, nowhere, device_at, with_device, states_of, OnlyAt}

below_or_not : (k n : ℕ) → (k < n) ⊎ (n ≤ k)
below_or_not k n = grind arith

module _ {D : Type 0} (state : D → DeviceState) (rack : Rack D) (full : length rack.nodes ≡ 32) where
  -- a node by its number
  pub states_of-node : (place : ℕ) (d : D) → place < 32 → states_of state rack place ≡ state (slice_index_or rack.nodes place d)
  unfolding states_of
  states_of-node place d lt = elim (eqb_tells place 32) [
    | inl h ↦ absurd (let is = h.1 in omega arith)
    | inr h ↦ rw h.0 (get_or-map state rack.nodes place d nowhere (omega arith))
  ]

  pub states_of-prefix : states_of state rack 32 ≡ state rack.prefix
  unfolding states_of
  states_of-prefix = refl

  -- a place above 32 holds nothing
  pub states_of-past : (place : ℕ) → 32 < place → states_of state rack place ≡ nowhere
  unfolding states_of
  states_of-past place lt = elim (eqb_tells place 32) [
    | inl h ↦ absurd (let is = h.1 in omega arith)
    | inr h ↦ rw h.0 (get_or_past (map state rack.nodes) place nowhere (omega (arith, length-map rack.nodes state)))
  ]

  module _ (place : ℕ) (le : place ≤ 32) where
    pub states_of-device : states_of state rack place ≡ state (device_at rack place)
    unfolding states_of
    states_of-device = elim (eqb_tells place 32) [
      | inl h ↦ rw h.0 refl
      | inr h ↦ let ne = h.1 in
          let lt : place < length rack.nodes = omega arith in
          rw h.0 (get_or-map state rack.nodes place rack.prefix nowhere lt)
    ]

    here_moved : (d : D) → states_of state (with_device rack place d) place ≡ state d
    unfolding states_of
    here_moved d = elim (eqb_tells place 32) [
      | inl h ↦ rw h.0 refl
      | inr h ↦ let ne = h.1 in
          let lt : place < length (set rack.nodes place d) = omega (arith, length-set rack.nodes place d) in
          let below : place < length rack.nodes = omega arith in
          rw h.0 (get_or-map state (set rack.nodes place d) place d nowhere lt ∙ ap state (get_or-set_same rack.nodes place d d below))
    ]

    others_moved : (d : D) (q : ℕ) → q ≢ place → states_of state (with_device rack place d) q ≡ states_of state rack q
    unfolding states_of
    others_moved d q ne = elim (eqb_tells place 32) [
      | inl h ↦ let e = h.1 in elim (eqb_tells q 32) [
        | inl k ↦ absurd (ne (k.1 ∙ sym e))
        | inr k ↦ rw (h.0, k.0) refl
      ]
      | inr h ↦ elim (eqb_tells q 32) [
        | inl k ↦ rw (h.0, k.0) refl
        | inr k ↦ rw (h.0, k.0) (rw (map-set state rack.nodes place d) (get_or-set_other (map state rack.nodes) place q (state d) nowhere ne))
      ]
    ]

    -- what a call did to the device that was lent, it did at that place of the bay, and nothing elsewhere
    pub only_at : (Done : DeviceState → DeviceState → Type 0) (lent left : D) → lent ≡ device_at rack place → Done (state lent) (state left) → OnlyAt place Done (states_of state rack) (states_of state (with_device rack place left))
    only_at Done lent left is done = record {
      here = subst (λ (s : DeviceState). Done s (states_of state (with_device rack place left) place)) (ap state is ∙ sym states_of-device) (subst (λ (s : DeviceState). Done (state lent) s) (sym (here_moved left)) done);
      others = others_moved left;
    }

within_or_past : (place : ℕ) → (place ≤ 32) ⊎ (32 < place)
within_or_past place = grind arith

module _ {D : Type 0} (state : D → DeviceState) (old new : Rack D) (R : DeviceState → DeviceState → Type 0) (old_full : length old.nodes ≡ 32) (new_full : length new.nodes ≡ 32) (nodes : (k : ℕ) → k < 32 → (d : D) → R (state (get_or old.nodes k d)) (state (get_or new.nodes k d))) (prefix : R (state old.prefix) (state new.prefix)) where
  -- what holds of each device before and after holds at its place
  pub at_device : (place : ℕ) → place ≤ 32 → R (states_of state old place) (states_of state new place)
  at_device place le = elim (cases_eq place 32) [
    | inl is ↦ subst (λ (k : ℕ). R (states_of state old k) (states_of state new k)) (sym is)
        (subst (λ (s : DeviceState). R s (states_of state new 32)) (sym (states_of-prefix state old old_full)) (subst (λ (s : DeviceState). R (state old.prefix) s) (sym (states_of-prefix state new new_full)) prefix))
    | inr ne ↦
        let other : place ≢ 32 = ne in
        let lt : place < 32 = grind arith in
        subst (λ (s : DeviceState). R s (states_of state new place)) (sym (states_of-node state old old_full place old.prefix lt))
        (subst (λ (s : DeviceState). R (state (get_or old.nodes place old.prefix)) s) (sym (states_of-node state new new_full place old.prefix lt)) (nodes place lt old.prefix))
  ]

  -- and at each place, where it holds of no device
  pub at_each : R nowhere nowhere → (place : ℕ) → R (states_of state old place) (states_of state new place)
  at_each none place = elim (within_or_past place) [
    | inl le ↦ at_device place le
    | inr past ↦
        subst (λ (s : DeviceState). R s (states_of state new place)) (sym (states_of-past state old old_full place past))
        (subst (λ (s : DeviceState). R nowhere s) (sym (states_of-past state new new_full place past)) none)
  ]

-- a stop finds nothing where there is no device
pub nowhere_crashes : Crashes nowhere nowhere
nowhere_crashes = record {
  tells = record { later = omega arith; capacity = refl; told_before = λ told. told; goes_on = λ told. inl told };
  outcome = λ told q. inr refl;
  at_rest = λ q. record { stable = refl; untouched = λ k. refl; not_fluid = refl; greatest = refl };
}

-- a device was stopped, and left what this says
pub record IsStopBy (Leaves : DeviceState → DeviceState → Type 0) (old new : DeviceState) : Type 0 where
  pub crashes : Crashes old new
  pub leaves : Leaves old new

-- the first i devices were used, one after another
pub record AreDone {D : Type 0} (state : D → DeviceState) (Done : DeviceState → DeviceState → Type 0) (i : ℕ) (old new : List D) : Type 0 where
  pub len : length new ≡ length old
  pub passed : (k : ℕ) → k < i → (d : D) → Done (state (get_or old k d)) (state (get_or new k d))
  pub ahead : (k : ℕ) → i ≤ k → (d : D) → get_or new k d ≡ get_or old k d

pub none_done : {D : Type 0} (state : D → DeviceState) (Done : DeviceState → DeviceState → Type 0) (old new : List D) → new ≡ old → AreDone state Done 0 old new
none_done state Done old new same = record {
  len = ap length same;
  passed = λ k lt. absurd (omega arith);
  ahead = λ k le d. ap (λ l. get_or l k d) same;
}

pub one_more_done : {D : Type 0} (state : D → DeviceState) (Done : DeviceState → DeviceState → Type 0) (i : ℕ) (old new : List D) (lent left : D) → i < length new → lent ≡ get_or new i lent → AreDone state Done i old new → Done (state lent) (state left) → AreDone state Done (i + 1) old (set new i left)
one_more_done state Done i old new lent left lt is done here = record {
  len = length-set new i left ∙ done.len;
  passed = λ k below d. elim (cases_eq k i) [
    | inl same ↦
        let before : get_or old k d ≡ lent = ap (λ (j : ℕ). get_or old j d) same ∙ sym (done.ahead i (omega arith) d) ∙ get_or_default new i d lent lt ∙ sym is in
        let after : get_or (set new i left) k d ≡ left = ap (λ (j : ℕ). get_or (set new i left) j d) same ∙ get_or-set_same new i left d lt in
        subst (λ x. Done (state x) (state (get_or (set new i left) k d))) (sym before) (subst (λ x. Done (state lent) (state x)) (sym after) here)
    | inr ne ↦
        let other : k ≢ i = ne in
        let earlier : k < i = grind arith in
        subst (λ x. Done (state (get_or old k d)) (state x)) (sym (get_or-set_other new i k left d other)) (done.passed k earlier d)
  ];
  ahead = λ k above d. get_or-set_other new i k left d (let ne : k ≢ i = omega arith in ne) ∙ done.ahead k (omega arith) d;
}

-- what holds of every device holds at each place
nowhere_sound : IsSound nowhere
nowhere_sound = record {
  ascending = λ i j lt below. absurd (omega arith);
  listed = λ q. (λ has. absurd (let lt : has.0 < 0 = has.1 in omega arith), λ some. absurd (cc some));
  named = λ q some. absurd (cc some);
  lengths = λ told q. refl;
  now_allowed = λ q. inr refl;
  stable_allowed = λ q. inr refl;
  fits = omega arith;
}

pub states_of-sound : {D : Type 0} (state : D → DeviceState) (sound : (d : D) → IsSound (state d)) (rack : Rack D) (place : ℕ) → IsSound (states_of state rack place)
unfolding states_of
states_of-sound state sound rack place = elim (eqb_tells place 32) [
  | inl h ↦ rw h.0 (sound rack.prefix)
  | inr h ↦ rw h.0 (elim (below_or_not place (length rack.nodes)) [
    | inl lt ↦ subst (λ (s : DeviceState). IsSound s) (sym (get_or-map state rack.nodes place rack.prefix nowhere lt)) (sound (get_or rack.nodes place rack.prefix))
    | inr past ↦ subst (λ (s : DeviceState). IsSound s) (sym (get_or_past (map state rack.nodes) place nowhere (omega (arith, length-map rack.nodes state)))) nowhere_sound
  ])
]
