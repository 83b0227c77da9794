-- What gates that are turned node by node make of a dataset: unsealed before its sealing, then in doubt, then settled, and back.
use Rattle.std.proofs.Common.{◌≡◌, ◌≢◌, ◌⊎◌, inl, inr, ◌<◌, ◌+◌, ◌==◌, ℕ, Bool, true, false, List, [], ◌∷◌, Option, Some, None, refl, sym, ◌∙◌, ap, subst, arith}
use Rattle.std.specs.Prelude.{IsTrue, slice_get, nat_lt, if◌then◌else◌, codes}
use Rattle.std.proofs.lemmas.Bool.{cases_eq}
use Rattle.std.proofs.lemmas.Bool.Decides.{nat_tests}
use Rattle.scr_base.specs.Sets.{is_among}
use Rattle.scr_base.specs.declared.shape.Shape.{Shape}
use Rattle.node_device.specs.File.{File, MayLeave, IsAtRest}
use Rattle.node_device.specs.DeviceState.{DeviceState}
use Rattle.node_device.specs.Outcomes.{rest_leaves}
use Rattle.gated_record.specs.Record.{IsOpen}
use Rattle.gated_record.specs.PairStages.{PairLeaves, IsOldOrWanted}
use Rattle.gated_record.specs.declared.pair.PairValue.{PairValue}
use Rattle.member_store.specs.Names.{record_name}
use Rattle.ckpt_model.specs.Dataset.{Dataset}
use Rattle.ckpt_model.specs.Machine.{Machine, Kept, MemberState, Mark}
use Rattle.ckpt_model.specs.Steps.{members_at}
use Rattle.ckpt_model.specs.Stops.{may_store}
use Rattle.ckpt_model.proofs.ShowsLemmas.{mapped_at}
use Rattle.site_stands.specs.Cells.{physical_nodes}
use Rattle.site_stands.specs.View.{run_in}
use Rattle.site_stands.specs.Members.{NodeStands, KeptStands, NoneSealed}
use Rattle.site_stands.specs.Prefix.{IsRunOf}
use Rattle.site_stands.specs.Gate.{Gate, GateIs, synced, MemberIs, GatesHold}
use Rattle.site_stands.proofs.Lists.{alone}

-- ## One gate

pub gate_synced : (f g : File) (k : ℕ) (t : Gate) → ((o : Option (List ℕ)) → MayLeave g o → MayLeave f o) → g.now ≡ f.now → IsAtRest g → GateIs f k t → GateIs g k (synced t)
gate_synced f g k Gate.Shut no_more same rest is = λ o may. is o (no_more o may)
gate_synced f g k Gate.Loose no_more same rest is = tt
gate_synced f g k Gate.Turning no_more same rest is = λ o may. subst (λ (x : Option (List ℕ)). IsOpen x k) (sym (rest_leaves g o rest may ∙ same)) is
gate_synced f g k Gate.Closing no_more same rest is = λ o may opens. is (subst (λ (x : Option (List ℕ)). IsOpen x k) (rest_leaves g o rest may ∙ same) opens)
gate_synced f g k Gate.Open no_more same rest is = λ o may. is o (no_more o may)

gate_left : (f : File) (k : ℕ) (t : Gate) → t ≡ Gate.Open → GateIs f k t → GateIs f k Gate.Open
gate_left f k t same is = subst (λ (x : Gate). GateIs f k x) same is

gate_shut : (f : File) (k : ℕ) (t : Gate) → t ≡ Gate.Shut → GateIs f k t → GateIs f k Gate.Shut
gate_shut f k t same is = subst (λ (x : Gate). GateIs f k x) same is

-- ## A dataset on its places

home_or_not : (places : List ℕ) (node p : ℕ) → (slice_get places node ≡ Some p) ⊎ (slice_get places node ≡ Some p → ⊥)
home_or_not places node p = pick (slice_get places node) where
  some_same : (x y : ℕ) → Some x ≡ Some y → x ≡ y
  some_same x y e = cc

  one : (x : ℕ) → (x ≡ p) ⊎ (x ≢ p) → (Some x ≡ Some p) ⊎ (Some x ≡ Some p → ⊥)
  one x (inl is) = inl (ap Some is)
  one x (inr other) = inr (λ e. other (some_same x p e))

  pick : (o : Option ℕ) → (o ≡ Some p) ⊎ (o ≡ Some p → ⊥)
  pick None = inr (λ e. absurd (cc e))
  pick (Some x) = one x (cases_eq x p)

module _ (shape : Shape) (states : ℕ → DeviceState) (places : List ℕ) (d : Dataset) (whole sealed : ℕ → Gate) (holds : GatesHold shape states places d whole sealed) where
  -- while all gates `sealed` are shut no record of it is left sealed
  pub gates_unsealed : ((node : ℕ) → sealed node ≡ Gate.Shut) → NoneSealed shape states d.which
  gates_unsealed shut p node low o may reads opens seals = elim (home_or_not places node p) [
    | inl home ↦ gate_shut ((states p).file (record_name d.which node)) 1 (sealed node) (shut node) (holds.members node p home).1.second o may seals
    | inr off ↦ holds.elsewhere p node low off o may reads opens
  ]

  -- once all gates `whole` are open it stands, on its places: in doubt, or settled once all gates `sealed` are
  pub gates_stand : (mark : Mark) (doubt : Bool) → ((node : ℕ) → whole node ≡ Gate.Open) → (doubt ≡ false → (node : ℕ) → sealed node ≡ Gate.Open) → KeptStands shape states (record { dataset = d; mark = mark; members = members_at places; doubt = doubt })
  gates_stand mark doubt all_whole all_sealed node st at =
      let of = mapped_at (λ (p : ℕ). let x : MemberState = record { homes = p ∷ []; unsure = false } in x) places node st at in
      subst (λ (x : MemberState). NodeStands shape states d doubt node x) (sym of.2) (record {
        present = λ home sure. record {
          home = of.0;
          is_home = alone of.0 of.0 refl;
          place = (holds.members node of.0 of.1).0;
          member = (holds.members node of.0 of.1).1.member;
          whole = gate_left ((states of.0).file (record_name d.which node)) 0 (whole node) (all_whole node) (holds.members node of.0 of.1).1.first;
          sealed = λ certain. gate_left ((states of.0).file (record_name d.which node)) 1 (sealed node) (all_sealed certain node) (holds.members node of.0 of.1).1.second;
        };
        exact = λ p low o may reads opens. elim (home_or_not places node p) [
          | inl home ↦ record { is_home = alone p of.0 (same_place p of.0 home of.1); member = (holds.members node p home).1.member }
          | inr off ↦ absurd (holds.elsewhere p node low off o may reads opens)
        ];
      })
    where
      same_place : (a b : ℕ) → slice_get places node ≡ Some a → slice_get places node ≡ Some b → a ≡ b
      same_place a b x y = cc (x, y)

-- a dataset at rest on its places alone has all gates open: where an eviction begins
pub gates_of_kept : (shape : Shape) (states : ℕ → DeviceState) (places : List ℕ) (k : Kept) → k.members ≡ members_at places → k.doubt ≡ false → KeptStands shape states k → (node p : ℕ) → slice_get places node ≡ Some p → (p < physical_nodes shape) × MemberIs shape (states p) k.dataset node Gate.Open Gate.Open
gates_of_kept shape states places k are certain stands node p at =
    let there : slice_get k.members node ≡ Some (record { homes = p ∷ []; unsure = false }) = ap (λ (ms : List MemberState). slice_get ms node) are ∙ Rattle.std.proofs.lemmas.Option.slice_get-map (λ (q : ℕ). let x : MemberState = record { homes = q ∷ []; unsure = false } in x) places node ∙ ap (Rattle.std.specs.Prelude.option_map (λ (q : ℕ). let x : MemberState = record { homes = q ∷ []; unsure = false } in x)) at in
    let h = (stands node (record { homes = p ∷ []; unsure = false }) there).present refl refl in
    let same : h.home ≡ p = only h.home p h.is_home in
    subst (λ (x : ℕ). (x < physical_nodes shape) × MemberIs shape (states x) k.dataset node Gate.Open Gate.Open) same (h.place, record { member = h.member; first = h.whole; second = h.sealed certain })
  where
    only : (a b : ℕ) → IsTrue (is_among a (b ∷ [])) → a ≡ b
    only a b is = test (b == a) refl is
      where
        number : (x y : ℕ) → (x == y) ≡ true → y ≡ x
        number x y e = grind (arith, nat_tests, e)

        test : (c : Bool) → (b == a) ≡ c → IsTrue (Rattle.std.specs.Prelude.◌||◌ c false) → a ≡ b
        test true e t = number b a e
        test false e t = absurd (cc t)

-- ## The run's number on its way

pub run_way : (m : Machine) (disk : DeviceState) (old : Option PairValue) (want : PairValue) → run_in old ≡ m.run → want.version ≡ m.run + 1 → IsTrue (may_store m true) → PairLeaves (codes "run") disk (IsOldOrWanted old want) → PairLeaves (codes "run") disk (λ v. IsRunOf m (run_in v))
run_way m disk old want was next may_be leaves a b may_a may_b = elim (leaves a b may_a may_b) [
  | inl is ↦ record { stored = false; may = refl; is = ap run_in is ∙ was }
  | inr is ↦ record { stored = true; may = may_be; is = ap run_in is ∙ next }
]
