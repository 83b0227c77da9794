-- Gates `whole`, then gates `sealed`, are opened node by node, or closed: what it makes of a dataset and of the site.
use Rattle.std.proofs.Common.{◌≡◌, ◌≢◌, inl, inr, ◌<◌, ◌≤◌, ◌+◌, ℕ, true, false, List, length, Some, refl, sym, ◌∙◌, ap, subst, arith}
use Rattle.std.specs.Prelude.{slice_get}
use Rattle.std.proofs.lemmas.Bool.{cases_eq}
use Rattle.std.proofs.lemmas.Bool.Decides.{nat_tests}
use Rattle.std.proofs.lemmas.Option.{slice_get_within}
use Rattle.scr_base.specs.declared.shape.Shape.{Shape}
use Rattle.node_device.specs.DeviceState.{DeviceState}
use Rattle.member_store.specs.Names.{record_name, IsPlace}
use Rattle.ckpt_model.specs.Dataset.{Dataset}
use Rattle.ckpt_model.specs.Machine.{Machine, Setup, Kept, Mark}
use Rattle.ckpt_model.specs.Questions.{is_kept}
use Rattle.ckpt_model.specs.Steps.{add_sealing, kept_sealing, kept_settled, change_kept, after_settling}
use Rattle.ckpt_model.specs.Proper.{IsProper}
use Rattle.site_stands.specs.Cells.{physical_nodes}
use Rattle.site_stands.specs.Members.{KeptStands, IsHidden}
use Rattle.site_stands.specs.Site.{NodesStand, SiteStands}
use Rattle.site_stands.specs.Moves.{MovesDataset}
use Rattle.site_stands.specs.Gate.{Gate, GateIs, synced, MemberIs, GatesHold}
use Rattle.commit_core.specs.Opened.{opened_to}
use Rattle.site_stands.proofs.Changes.Nodes.{sealing_event, change_event}
use Rattle.site_stands.proofs.Turning.Gates.{gates_unsealed, gates_stand}
use Rattle.site_stands.specs.MemberMoves.{WritesAt, SyncsAt, Rests}
use Rattle.site_stands.proofs.Moving.Members.{gates_still, gates_synced, first_written, second_written, hidden_still, writes_else, writes_others, syncs_still}
use Rattle.site_stands.proofs.Moving.Datasets.{free_step, kept_step, cache_event, nodes_as}

one_place : (places : List ℕ) (node a b : ℕ) → slice_get places node ≡ Some a → slice_get places node ≡ Some b → a ≡ b
one_place places node a b x y = cc (x, y)

-- gates as they are called otherwise
pub gates_as : (shape : Shape) (states : ℕ → DeviceState) (places : List ℕ) (d : Dataset) (whole sealed whole_as sealed_as : ℕ → Gate) → ((node : ℕ) → node < length places → (whole_as node ≡ whole node) × (sealed_as node ≡ sealed node))
    → GatesHold shape states places d whole sealed → GatesHold shape states places d whole_as sealed_as
gates_as shape states places d whole sealed whole_as sealed_as alike holds = record {
  members = λ i p at.
      let was = holds.members i p at in
      let same = alike i (slice_get_within places i p at) in
      (was.0, subst (λ (g : Gate). MemberIs shape (states p) d i g (sealed_as i)) (sym same.0) (subst (λ (g : Gate). MemberIs shape (states p) d i (whole i) g) (sym same.1) was.1));
  elsewhere = holds.elsewhere;
}

-- ## One gate of one node

module _ (shape : Shape) (old new : ℕ → DeviceState) (places : List ℕ) (d : Dataset) (node place : ℕ) (home : slice_get places node ≡ Some place) (is_place : IsPlace d.which node) where
  -- one member comes on, the others stay
  gate_turn : (gate : ℕ) (whole sealed whole_after sealed_after : ℕ → Gate) → WritesAt d.which node gate place old new
      → ((i : ℕ) → i ≢ node → (whole_after i ≡ whole i) × (sealed_after i ≡ sealed i)) → (MemberIs shape (old place) d node (whole node) (sealed node) → MemberIs shape (new place) d node (whole_after node) (sealed_after node))
      → GatesHold shape old places d whole sealed → GatesHold shape new places d whole_after sealed_after
  gate_turn gate whole sealed whole_after sealed_after writes alike step holds = record {
    members = λ i p at. elim (cases_eq i node) [
      | inl same ↦
          let here : p ≡ place = one_place places node p place (subst (λ (x : ℕ). slice_get places x ≡ Some p) same at) home in
          let was = holds.members node place home in
          subst (λ (x : ℕ). (p < physical_nodes shape) × MemberIs shape (new p) d x (whole_after x) (sealed_after x)) (sym same)
          (subst (λ (x : ℕ). (x < physical_nodes shape) × MemberIs shape (new x) d node (whole_after node) (sealed_after node)) (sym here) (was.0, step was.1))
      | inr other ↦
          let was = holds.members i p at in
          let so = alike i other in (
            was.0,
            subst (λ (g : Gate). MemberIs shape (new p) d i g (sealed_after i)) (sym so.0) (subst (λ (g : Gate). MemberIs shape (new p) d i (whole i) g) (sym so.1)
                (gates_still shape (old p) (new p) d i (whole i) (sealed i) (writes_others shape d.which node gate place i old new is_place other writes p was.0) was.1)),
          )
    ];
    elsewhere = λ p i low off. elim (cases_eq i node) [
      | inl same ↦ elim (cases_eq p place) [
        | inl here ↦ absurd (off (subst (λ (x : ℕ). slice_get places x ≡ Some p) (sym same) (home ∙ ap Some (sym here))))
        | inr away ↦ subst (λ (x : ℕ). IsHidden shape ((new p).file (record_name d.which x)) d.which x) (sym same) (hidden_still shape (old p) (new p) d.which node (writes_else shape d.which node gate place old new writes p low away)
            (subst (λ (x : ℕ). IsHidden shape ((old p).file (record_name d.which x)) d.which x) same (holds.elsewhere p i low off)))
      ]
      | inr other ↦ hidden_still shape (old p) (new p) d.which i (writes_others shape d.which node gate place i old new is_place other writes p low) (holds.elsewhere p i low off)
    ];
  }

  -- its gate `whole` is written, done or refused
  pub whole_turn : (whole sealed after : ℕ → Gate) → WritesAt d.which node 0 place old new → ((i : ℕ) → i ≢ node → after i ≡ whole i) → GateIs ((new place).file (record_name d.which node)) 0 (after node)
      → GatesHold shape old places d whole sealed → GatesHold shape new places d after sealed
  whole_turn whole sealed after writes alike turned holds = gate_turn 0 whole sealed after sealed writes (λ i other. (alike i other, refl)) (λ is. first_written shape (old place) (new place) d node (whole node) (sealed node) (after node) writes.here turned is) holds

  -- its gate `sealed`
  pub sealed_turn : (whole sealed after : ℕ → Gate) → WritesAt d.which node 1 place old new → ((i : ℕ) → i ≢ node → after i ≡ sealed i) → GateIs ((new place).file (record_name d.which node)) 1 (after node)
      → GatesHold shape old places d whole sealed → GatesHold shape new places d whole after
  sealed_turn whole sealed after writes alike turned holds = gate_turn 1 whole sealed whole after writes (λ i other. (refl, alike i other)) (λ is. second_written shape (old place) (new place) d node (whole node) (sealed node) (after node) writes.here turned is) holds

-- ## A sync

module _ (shape : Shape) (old new : ℕ → DeviceState) (places : List ℕ) (d : Dataset) (place : ℕ) (syncs : SyncsAt place old new) where
  -- refused, or of a device on which no gate is turned
  pub gates_kept : (whole sealed : ℕ → Gate) → GatesHold shape old places d whole sealed → GatesHold shape new places d whole sealed
  gates_kept whole sealed holds = record {
    members = λ i p at. let was = holds.members i p at in (was.0, gates_still shape (old p) (new p) d i (whole i) (sealed i) (syncs_still shape d.which i place old new syncs p was.0) was.1);
    elsewhere = λ p i low off. hidden_still shape (old p) (new p) d.which i (syncs_still shape d.which i place old new syncs p low) (holds.elsewhere p i low off);
  }

  -- done: the gates of this device's node come on
  pub gates_rest : (node : ℕ) → slice_get places node ≡ Some place → Rests (new place) → (whole sealed whole_after sealed_after : ℕ → Gate) → ((i : ℕ) → i ≢ node → (whole_after i ≡ whole i) × (sealed_after i ≡ sealed i))
      → whole_after node ≡ synced (whole node) → sealed_after node ≡ synced (sealed node) → GatesHold shape old places d whole sealed → GatesHold shape new places d whole_after sealed_after
  gates_rest node home rests whole sealed whole_after sealed_after alike first second holds = record {
    members = λ i p at. elim (cases_eq i node) [
      | inl same ↦
          let here : p ≡ place = one_place places node p place (subst (λ (x : ℕ). slice_get places x ≡ Some p) same at) home in
          let was = holds.members node place home in
          subst (λ (x : ℕ). (p < physical_nodes shape) × MemberIs shape (new p) d x (whole_after x) (sealed_after x)) (sym same)
          (subst (λ (x : ℕ). (x < physical_nodes shape) × MemberIs shape (new x) d node (whole_after node) (sealed_after node)) (sym here) (
            was.0,
            subst (λ (g : Gate). MemberIs shape (new place) d node g (sealed_after node)) (sym first) (subst (λ (g : Gate). MemberIs shape (new place) d node (synced (whole node)) g) (sym second)
                (gates_synced shape (old place) (new place) d node (whole node) (sealed node) (syncs_still shape d.which node place old new syncs place was.0) (rests (record_name d.which node)) was.1)),
          ))
      | inr other ↦
          let was = holds.members i p at in
          let so = alike i other in (
            was.0,
            subst (λ (g : Gate). MemberIs shape (new p) d i g (sealed_after i)) (sym so.0) (subst (λ (g : Gate). MemberIs shape (new p) d i (whole i) g) (sym so.1)
                (gates_still shape (old p) (new p) d i (whole i) (sealed i) (syncs_still shape d.which i place old new syncs p was.0) was.1)),
          )
    ];
    elsewhere = λ p i low off. hidden_still shape (old p) (new p) d.which i (syncs_still shape d.which i place old new syncs p low) (holds.elsewhere p i low off);
  }

-- ## The turns of the nodes

pub opened_other : (node : ℕ) (g h : Gate) (i : ℕ) → i ≢ node → opened_to node g i ≡ opened_to node h i
opened_other node g h i other = grind (arith, nat_tests)

pub opened_here : (node : ℕ) (g : Gate) → opened_to node g node ≡ g
opened_here node g = grind (arith, nat_tests)

pub opened_none : (i : ℕ) → opened_to 0 Gate.Shut i ≡ Gate.Shut
opened_none i = grind (arith, nat_tests)

pub opened_next : (node i : ℕ) → opened_to (node + 1) Gate.Shut i ≡ opened_to node Gate.Open i
opened_next node i = grind (arith, nat_tests)

pub opened_all : (node : ℕ) (g : Gate) (i : ℕ) → i < node → opened_to node g i ≡ Gate.Open
opened_all node g i lt = grind (arith, nat_tests)

-- ## The site

-- gates `whole` are opened: still none of it is left sealed
pub whole_step : (s : Setup) (old new : ℕ → DeviceState) (m : Machine) (d : Dataset) (whole sealed : ℕ → Gate) → is_kept m d.which ≡ false → d.which.run ≤ m.run → MovesDataset s.shape d.which old new → ((node : ℕ) → sealed node ≡ Gate.Shut) → GatesHold s.shape new m.places d whole sealed
    → SiteStands s old m → SiteStands s new m
whole_step s old new m d whole sealed not_kept so_far moves shut holds stands = free_step s old new m d.which not_kept so_far moves (gates_unsealed s.shape new m.places d whole sealed holds shut) stands

-- The first gate `sealed` is written, done (its gate turning) or refused (loose): the devices hold for the state after Sealing.
pub first_seal : (s : Setup) (old new : ℕ → DeviceState) (m : Machine) (d : Dataset) (before sealed : ℕ → Gate) → is_kept m d.which ≡ false → d.which.run ≤ m.run → MovesDataset s.shape d.which old new
    → GatesHold s.shape old m.places d (λ i. Gate.Open) before → GatesHold s.shape new m.places d (λ i. Gate.Open) sealed
    → IsProper s (add_sealing m d) → ((i : ℕ) (k : Kept) → slice_get (add_sealing m d).kept i ≡ Some k → k.dataset.which ≡ d.which → k ≡ kept_sealing m.places d) → is_kept (add_sealing m d) d.which ≡ true
    → SiteStands s old m → SiteStands s new (add_sealing m d)
first_seal s old new m d before sealed not_kept so_far moves held holds proper alone there stands =
    let event = cache_event s old m (add_sealing m d) (record { run = refl; halt = refl; mark = refl; stage = refl; index = refl }) proper
    (sealing_event s old m d (gates_stand s.shape old m.places d (λ i. Gate.Open) before held Mark.Sealing true (λ node. refl) (λ certain. absurd (cc certain))) stands.nodes) stands in
    kept_step s old new (add_sealing m d) d.which there so_far moves
    (λ i k at same stood. subst (λ (x : Kept). KeptStands s.shape new x) (sym (alone i k at same)) (gates_stand s.shape new m.places d (λ i. Gate.Open) sealed holds Mark.Sealing true (λ node. refl) (λ certain. absurd (cc certain)))) event

-- A later gate `sealed` is written, or a node is synced, done or refused: in doubt every gate is allowed.
pub seal_step : (s : Setup) (old new : ℕ → DeviceState) (m : Machine) (d : Dataset) (sealed : ℕ → Gate) → d.which.run ≤ m.run → MovesDataset s.shape d.which old new → GatesHold s.shape new m.places d (λ i. Gate.Open) sealed
    → ((i : ℕ) (k : Kept) → slice_get m.kept i ≡ Some k → k.dataset.which ≡ d.which → k ≡ kept_sealing m.places d) → is_kept m d.which ≡ true → SiteStands s old m → SiteStands s new m
seal_step s old new m d sealed so_far moves holds alone there stands = kept_step s old new m d.which there so_far moves
    (λ i k at same stood. subst (λ (x : Kept). KeptStands s.shape new x) (sym (alone i k at same)) (gates_stand s.shape new m.places d (λ i. Gate.Open) sealed holds Mark.Sealing true (λ node. refl) (λ certain. absurd (cc certain)))) stands

-- Once all gates are open, the dataset may be called settled.
pub settled_nodes : (s : Setup) (states : ℕ → DeviceState) (m : Machine) (d : Dataset) (sealed : ℕ → Gate) → ((node : ℕ) → node < length m.places → sealed node ≡ Gate.Open) → GatesHold s.shape states m.places d (λ i. Gate.Open) sealed
    → ((i : ℕ) (k : Kept) → slice_get m.kept i ≡ Some k → k.dataset.which ≡ d.which → k ≡ kept_sealing m.places d) → NodesStand s states m → NodesStand s states (change_kept kept_settled d.which m)
settled_nodes s states m d sealed all holds alone stands =
    change_event s states m kept_settled d.which (λ k. refl) (λ i k at same stood. subst (λ (x : Kept). KeptStands s.shape states (kept_settled x)) (sym (alone i k at same))
    (gates_stand s.shape states m.places d (λ i. Gate.Open) (λ i. Gate.Open) (gates_as s.shape states m.places d (λ i. Gate.Open) sealed (λ i. Gate.Open) (λ i. Gate.Open) (λ node lt. (refl, sym (all node lt))) holds) Mark.Settled false (λ node. refl) (λ certain node. refl))) stands

-- so after the last sync of one that is saved
pub settled_site : (s : Setup) (states : ℕ → DeviceState) (m : Machine) (d : Dataset) (sealed : ℕ → Gate) → ((node : ℕ) → node < length m.places → sealed node ≡ Gate.Open) → GatesHold s.shape states m.places d (λ i. Gate.Open) sealed
    → ((i : ℕ) (k : Kept) → slice_get m.kept i ≡ Some k → k.dataset.which ≡ d.which → k ≡ kept_sealing m.places d) → IsProper s (after_settling m d.which) → SiteStands s states m → SiteStands s states (after_settling m d.which)
settled_site s states m d sealed all holds alone proper stands = cache_event s states m (after_settling m d.which) (record { run = refl; halt = refl; mark = refl; stage = refl; index = refl }) proper
    (nodes_as s states (change_kept kept_settled d.which m) (after_settling m d.which) refl refl (settled_nodes s states m d sealed all holds alone stands.nodes)) stands
