-- The gates `sealed` of a dataset are closed and synced, node by node, while all its gates `whole` are open.
use Rattle.std.proofs.Common.{◌≡◌, ◌≢◌, inl, inr, ◌<◌, ◌+◌, ℕ, zero, suc, Bool, true, false, List, [], ◌∷◌, length, Some, refl, sym, ◌∙◌, ap, subst, arith}
use Rattle.std.specs.Prelude.{IsTrue, slice_get, option_map, ◌==◌, ◌||◌}
use Rattle.std.proofs.lemmas.Bool.{cases_eq}
use Rattle.std.proofs.lemmas.Bool.Decides.{nat_tests}
use Rattle.std.proofs.lemmas.Option.{slice_get_within, slice_get-map}
use Rattle.scr_base.specs.declared.shape.DataId.{DataId}
use Rattle.scr_base.specs.declared.shape.Shape.{Shape}
use Rattle.scr_base.specs.Sets.{is_among}
use Rattle.node_device.specs.File.{File, IsAtRest, IsPartlySynced}
use Rattle.node_device.specs.DeviceState.{DeviceState, ChangesOnly}
use Rattle.gate_outcomes.specs.Gates.{StaysShut}
use Rattle.gate_outcomes.proofs.Stays.{synced_shut}
use Rattle.member_store.specs.Names.{record_name, IsPlace}
use Rattle.member_store.proofs.Distinct.{one_member}
use Rattle.member_store.proofs.PartNames.{part_no_record}
use Rattle.ckpt_model.specs.Dataset.{Dataset}
use Rattle.ckpt_model.specs.Machine.{Kept, MemberState}
use Rattle.ckpt_model.specs.Steps.{members_at}
use Rattle.site_stands.specs.Cells.{physical_nodes}
use Rattle.site_stands.specs.Gate.{Gate, GateIs, synced, MemberIs, GatesHold, TurnsOneGate}
use Rattle.site_stands.specs.MemberMoves.{WritesAt, SyncsAt, Rests}
use Rattle.site_stands.specs.Members.{KeptStands}
use Rattle.site_stands.proofs.Moving.Members.{gates_still, gates_synced, hidden_still, writes_others, syncs_still}
use Rattle.site_stands.proofs.Safety.Nodes.{reads_small}
use Rattle.site_stands.proofs.Turning.Gates.{gates_of_kept}
use Rattle.site_stands.proofs.Turning.Sealed.{sealed_turn}
use Rattle.evict_core.specs.Holds.{closed_to, ShutTo}

-- gates as they are called otherwise
pub gates_as : (shape : Shape) (states : ℕ → DeviceState) (places : List ℕ) (d : Dataset) (sealed other : ℕ → Gate) → ((node : ℕ) → node < length places → other node ≡ sealed node)
    → GatesHold shape states places d (λ i. Gate.Open) sealed → GatesHold shape states places d (λ i. Gate.Open) other
gates_as shape states places d sealed other alike holds = record {
  members = λ i p at. let was = holds.members i p at in (was.0, subst (λ (g : Gate). MemberIs shape (states p) d i Gate.Open g) (sym (alike i (slice_get_within places i p at))) was.1);
  elsewhere = holds.elsewhere;
}

-- ## How far they have come

pub closed_other : (node : ℕ) (g h : Gate) (i : ℕ) → i ≢ node → closed_to node g i ≡ closed_to node h i
closed_other node g h i other = grind (arith, nat_tests)

pub closed_here : (node : ℕ) (g : Gate) → closed_to node g node ≡ g
closed_here node g = grind (arith, nat_tests)

pub closed_none : (i : ℕ) → closed_to 0 Gate.Open i ≡ Gate.Open
closed_none i = grind (arith, nat_tests)

pub closed_next : (node i : ℕ) → closed_to (suc node) Gate.Open i ≡ closed_to node Gate.Shut i
closed_next node i = grind (arith, nat_tests)

pub closed_last : (node i : ℕ) → i < node + 1 → closed_to node Gate.Shut i ≡ Gate.Shut
closed_last node i lt = grind (arith, nat_tests)

-- ## Where it begins

-- A dataset that stands on its places alone, and not in doubt, has all its gates open, and no record of it is whole anywhere else.
pub at_home : (shape : Shape) (states : ℕ → DeviceState) (places : List ℕ) (k : Kept) → length places ≡ shape.nodes → k.members ≡ members_at places → k.doubt ≡ false → KeptStands shape states k
    → GatesHold shape states places k.dataset (λ i. Gate.Open) (λ i. Gate.Open)
at_home shape states places k count are certain stands = record {
  members = gates_of_kept shape states places k are certain stands;
  elsewhere = λ p node low off o may reads opens.
      let home = got places node (omega (arith, count, reads_small shape o k.dataset.which node reads)) in
      let copy = (stands node (record { homes = home.0 ∷ []; unsure = false }) (there node home.0 home.1)).exact p low o may reads opens in
      off (home.1 ∙ ap Some (sym (only p home.0 copy.is_home)));
}
  where
    got : (xs : List ℕ) (i : ℕ) → i < length xs → (x : ℕ) × (slice_get xs i ≡ Some x)
    got [] i lt = absurd (omega (arith, lt))
    got (x ∷ xs) zero lt = (x, refl)
    got (x ∷ xs) (suc i) lt = got xs i (omega (arith, lt))

    there : (node p : ℕ) → slice_get places node ≡ Some p → slice_get k.members node ≡ Some (record { homes = p ∷ []; unsure = false })
    there node p at = ap (λ (ms : List MemberState). slice_get ms node) are ∙ slice_get-map (λ (q : ℕ). let x : MemberState = record { homes = q ∷ []; unsure = false } in x) places node
        ∙ ap (option_map (λ (q : ℕ). let x : MemberState = record { homes = q ∷ []; unsure = false } in x)) at

    only : (a b : ℕ) → IsTrue (is_among a (b ∷ [])) → a ≡ b
    only a b is = test (b == a) refl is
      where
        number : (x y : ℕ) → (x == y) ≡ true → y ≡ x
        number x y e = grind (arith, nat_tests, e)

        test : (c : Bool) → (b == a) ≡ c → IsTrue (c || false) → a ≡ b
        test true e t = number b a e
        test false e t = absurd (cc t)

-- ## A gate is closed

module _ (shape : Shape) (old new : ℕ → DeviceState) (places : List ℕ) (d : Dataset) (node place : ℕ) (home : slice_get places node ≡ Some place) (is_place : IsPlace d.which node) (writes : WritesAt d.which node 1 place old new) (only : ChangesOnly (record_name d.which node) (old place) (new place)) where
  turns : TurnsOneGate old new d node place 1 0
  turns = record {
    others = writes.elsewhere;
    only = only;
    body = writes.here.body;
    stays = λ opens. writes.here.gates 0 Gate.Open (λ e. absurd (omega (arith, e))) opens;
    apart = λ i q other at is same. other (one_member d.which d.which i node q at is_place is (inl same)).1;
    no_part = λ part. part_no_record d.which node part;
  }

  pub close_turn : (g : Gate) → GateIs ((new place).file (record_name d.which node)) 1 g → GatesHold shape old places d (λ i. Gate.Open) (closed_to node Gate.Open) → GatesHold shape new places d (λ i. Gate.Open) (closed_to node g)
  close_turn g is holds = sealed_turn shape old new places d node place home turns (closed_to node Gate.Open) (closed_to node g) (λ i other. closed_other node g Gate.Open i other)
      (subst (λ (x : Gate). GateIs ((new place).file (record_name d.which node)) 1 x) (sym (closed_here node g)) is)
      (λ i p other at was. gates_still shape (old p) (new p) d i Gate.Open (closed_to node Gate.Open i) (writes_others shape d.which node 1 place i old new is_place other writes p (holds.members i p at).0) was) holds

-- ## A sync

module _ (shape : Shape) (old new : ℕ → DeviceState) (places : List ℕ) (d : Dataset) (place : ℕ) (syncs : SyncsAt place old new) where
  still : (sealed : ℕ → Gate) → GatesHold shape old places d (λ i. Gate.Open) sealed → (i p : ℕ) → slice_get places i ≡ Some p → (p < physical_nodes shape) × MemberIs shape (new p) d i Gate.Open (sealed i)
  still sealed holds i p at = let was = holds.members i p at in (was.0, gates_still shape (old p) (new p) d i Gate.Open (sealed i) (syncs_still shape d.which i place old new syncs p was.0) was.1)

  -- of this device's node: what was closing is shut
  pub close_synced : (node : ℕ) → slice_get places node ≡ Some place → Rests (new place) → GatesHold shape old places d (λ i. Gate.Open) (closed_to node Gate.Closing) → GatesHold shape new places d (λ i. Gate.Open) (closed_to node Gate.Shut)
  close_synced node home rests holds = record {
    members = λ i p at. elim (cases_eq i node) [
      | inl same ↦
          let here : p ≡ place = one_place p place (subst (λ (x : ℕ). slice_get places x ≡ Some p) same at) home in
          let was = holds.members node place home in
          subst (λ (x : ℕ). (p < physical_nodes shape) × MemberIs shape (new p) d x Gate.Open (closed_to node Gate.Shut x)) (sym same)
          (subst (λ (x : ℕ). (x < physical_nodes shape) × MemberIs shape (new x) d node Gate.Open (closed_to node Gate.Shut node)) (sym here) (
            was.0,
            subst (λ (g : Gate). MemberIs shape (new place) d node Gate.Open g) (ap synced (closed_here node Gate.Closing) ∙ sym (closed_here node Gate.Shut))
                (gates_synced shape (old place) (new place) d node Gate.Open (closed_to node Gate.Closing node) (syncs_still shape d.which node place old new syncs place was.0) (rests (record_name d.which node)) was.1),
          ))
      | inr other ↦ let is = still (closed_to node Gate.Closing) holds i p at in (is.0, subst (λ (g : Gate). MemberIs shape (new p) d i Gate.Open g) (closed_other node Gate.Closing Gate.Shut i other) is.1)
    ];
    elsewhere = λ p i low off. hidden_still shape (old p) (new p) d.which i (syncs_still shape d.which i place old new syncs p low) (holds.elsewhere p i low off);
  }
    where
      one_place : (a b : ℕ) → slice_get places node ≡ Some a → slice_get places node ≡ Some b → a ≡ b
      one_place a b x y = cc (x, y)

-- ## Gates that are shut

pub shut_synced : (old new : ℕ → DeviceState) (places : List ℕ) (which : DataId) (node place : ℕ) → ((p : ℕ) → p ≢ place → new p ≡ old p) → ((q : List ℕ) → IsPartlySynced ((old place).file q) ((new place).file q)) → ShutTo old places which node → ShutTo new places which node
shut_synced old new places which node place elsewhere partly shut i p lt at = elim (cases_eq p place) [
  | inl here ↦ subst (λ (x : ℕ). StaysShut ((new x).file (record_name which i)) 1) (sym here)
      (synced_shut ((old place).file (record_name which i)) ((new place).file (record_name which i)) 1 (partly (record_name which i)) (subst (λ (x : ℕ). StaysShut ((old x).file (record_name which i)) 1) here (shut i p lt at)))
  | inr away ↦ subst (λ (x : DeviceState). StaysShut (x.file (record_name which i)) 1) (sym (elsewhere p away)) (shut i p lt at)
]

-- the write of another node's gate leaves them
pub shut_written : (old new : ℕ → DeviceState) (places : List ℕ) (which : DataId) (node place : ℕ) → ((i : ℕ) → i < node + 1 → IsPlace which i) → ((p : ℕ) → p ≢ place → new p ≡ old p) → ChangesOnly (record_name which node) (old place) (new place) → ShutTo old places which node → ShutTo new places which node
shut_written old new places which node place named elsewhere only shut i p lt at = elim (cases_eq p place) [
  | inl here ↦ subst (λ (x : ℕ). StaysShut ((new x).file (record_name which i)) 1) (sym here)
      (subst (λ (f : File). StaysShut f 1) (sym (only.others (record_name which i) apart)) (subst (λ (x : ℕ). StaysShut ((old x).file (record_name which i)) 1) here (shut i p lt at)))
  | inr away ↦ subst (λ (x : DeviceState). StaysShut (x.file (record_name which i)) 1) (sym (elsewhere p away)) (shut i p lt at)
]
  where
    apart : record_name which i ≢ record_name which node
    apart same = let one = (one_member which which i node (record_name which i) (named i (omega (arith, lt))) (named node (omega arith)) (inl refl) (inl same)).1 in absurd (omega (arith, one, lt))

-- one node more
pub shut_more : (states : ℕ → DeviceState) (places : List ℕ) (which : DataId) (node place : ℕ) → slice_get places node ≡ Some place → StaysShut ((states place).file (record_name which node)) 1 → ShutTo states places which node → ShutTo states places which (suc node)
shut_more states places which node place home is shut i p lt at = elim (cases_eq i node) [
  | inl same ↦
      let here : p ≡ place = one_place p place (subst (λ (x : ℕ). slice_get places x ≡ Some p) same at) home in
      subst (λ (x : ℕ). StaysShut ((states p).file (record_name which x)) 1) (sym same) (subst (λ (x : ℕ). StaysShut ((states x).file (record_name which node)) 1) (sym here) is)
  | inr other ↦ shut i p (omega (arith, lt, other)) at
]
  where
    one_place : (a b : ℕ) → slice_get places node ≡ Some a → slice_get places node ≡ Some b → a ≡ b
    one_place a b x y = cc (x, y)

-- a gate of a file at rest that no stop leaves open stays shut
pub rest_stays : (f : File) → IsAtRest f → GateIs f 1 Gate.Shut → StaysShut f 1
rest_stays f rest shut = record { shut = shut; untouched = rest.untouched 1 }
