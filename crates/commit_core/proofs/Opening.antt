-- Gates are opened and synced, node by node: what it makes of the commit and of the site.
use Rattle.std.proofs.Common.{◌≡◌, ◌≢◌, inl, inr, ◌<◌, ◌+◌, ℕ, true, false, List, length, set, Option, Some, refl, sym, ◌∙◌, ap, subst, arith}
use Rattle.std.specs.Prelude.{slice_get, nat_lt, if◌then◌else◌}
use Rattle.std.specs.Option.{option_map}
use Rattle.std.proofs.lemmas.Bool.Decides.{nat_tests}
use Rattle.std.proofs.lemmas.List.{get_or-set_same}
use Rattle.scr_base.specs.declared.shape.DataId.{DataId}
use Rattle.scr_base.specs.declared.shape.Shape.{Shape}
use Rattle.node_device.specs.File.{File, bytes_of, byte_at}
use Rattle.node_device.specs.DeviceState.{DeviceState, IsSound}
use Rattle.node_device.specs.Outcomes.{is_there}
use Rattle.node_device.specs.Rack.{OnlyAt}
use Rattle.gated_record.specs.Record.{HasBody, HasPlace, open_gate_byte}
use Rattle.gate_outcomes.specs.Leaves.{HasByte}
use Rattle.member_store.specs.Names.{record_name, IsPlace}
use Rattle.member_store.specs.Members.{member_body}
use Rattle.ckpt_model.specs.Dataset.{Dataset}
use Rattle.ckpt_model.specs.Machine.{Machine, Setup}
use Rattle.ckpt_model.specs.Questions.{is_kept}
use Rattle.ckpt_model.specs.Steps.{add_sealing}
use Rattle.model_proper.specs.Next.{IsSealedNext}
use Rattle.site_stands.specs.Cells.{physical_nodes}
use Rattle.site_stands.specs.Gate.{Gate, GateIs, GatesHold}
use Rattle.site_stands.specs.MemberMoves.{WritesAt}
use Rattle.site_stands.specs.Members.{MemberStands}
use Rattle.site_stands.specs.Moves.{MovesDataset}
use Rattle.site_stands.specs.Site.{SiteStands}
use Rattle.site_stands.proofs.Moving.Files.{change_moves}
use Rattle.site_stands.proofs.Moving.Records.{gate_written, record_there}
use Rattle.site_calls.specs.Calls.{Synced, Turned, Unturned, KeptAlike}
use Rattle.site_calls.proofs.CallCauses.{has_place}
use Rattle.commit_core.specs.Holds.{IsSealedAlone}
use Rattle.commit_core.specs.Opened.{opened_to}
use Rattle.commit_core.proofs.GateTurns.{whole_turn, sealed_turn, gates_kept, gates_rest, gates_as, opened_other, opened_here, opened_next, opened_all, whole_step, first_seal, seal_step}
use Rattle.commit_core.proofs.Recording.{synced_at, kept_at}

-- ## One gate of a member that stands

module _ (which : DataId) (node gate place : ℕ) (old new : ℕ → DeviceState) (body : List ℕ) (lt : gate < 8) (told : (old place).tells ≡ true) (sound : IsSound (old place)) (stands : Rattle.gated_record.specs.Record.KeepsBody ((old place).file (record_name which node)) body) where
  its : File
  its = (old place).file (record_name which node)

  has : HasBody ((old place).file (record_name which node)).now body
  has = stands ((old place).file (record_name which node)).now (sound.now_allowed (record_name which node))

  there : HasByte ((old place).file (record_name which node)) gate
  there = record_there ((old place).file (record_name which node)) body gate lt (sound.now_allowed (record_name which node)) stands

  long : gate < length (bytes_of ((old place).file (record_name which node)).now)
  long = let whole = has.whole in omega (arith, lt, whole)

  pub has_gate : HasPlace ((old place).file (record_name which node)) gate
  has_gate = has_place ((old place).file (record_name which node)) ((old place).file (record_name which node)).now gate refl (sound.lengths told (record_name which node)) long

  pub turned_at : OnlyAt place (Turned (record_name which node) gate) old new → WritesAt which node gate place old new
  turned_at done = record {
    elsewhere = done.others;
    here = gate_written which node gate (old place) (new place) lt done.here.only.others there done.here.torn
        (inr (open_gate_byte, done.here.now told long ∙ sym (ap (option_map (λ b. set b gate open_gate_byte)) (is_there ((old place).file (record_name which node)).now there.there))));
  }

  pub unturned_at : OnlyAt place (Unturned (record_name which node) gate) old new → WritesAt which node gate place old new
  unturned_at done = record {
    elsewhere = done.others;
    here = gate_written which node gate (old place) (new place) lt done.here.only.others there done.here.torn (inl (done.here.refused.alike.files (record_name which node)).now);
  }

  pub turned_reads : OnlyAt place (Turned (record_name which node) gate) old new → GateIs ((new place).file (record_name which node)) gate Gate.Turning
  turned_reads done = ap (λ (o : Option (List ℕ)). byte_at o gate) (done.here.now told long) ∙ get_or-set_same (bytes_of ((old place).file (record_name which node)).now) gate open_gate_byte 0 long

-- a gate write is a move of its dataset
pub gate_moves : (shape : Shape) (which : DataId) (node gate place : ℕ) (old new : ℕ → DeviceState) → IsPlace which node → place < physical_nodes shape → WritesAt which node gate place old new → MovesDataset shape which old new
gate_moves shape which node gate place old new is_place low writes = change_moves shape which node (record_name which node) place old new is_place (record { its = inl refl; elsewhere = writes.elsewhere; others = writes.here.others }) low

-- ## The dataset that is committed

-- the gate of the node is as it is said to be
opened_is : (f : File) (k node : ℕ) (g : Gate) → GateIs f k g → GateIs f k (opened_to node g node)
opened_is f k node g is = subst (λ (x : Gate). GateIs f k x) (sym (opened_here node g)) is

module _ (s : Setup) (m : Machine) (d : Dataset) (so_far : Rattle.std.specs.Prelude.◌≤◌ d.which.run m.run) (old new : ℕ → DeviceState) (node place : ℕ) (home : slice_get m.places node ≡ Some place) (is_place : IsPlace d.which node) (low : place < physical_nodes s.shape) (told : (old place).tells ≡ true) (sound : IsSound (old place)) where
  member_of : (whole sealed : ℕ → Gate) → GatesHold s.shape old m.places d whole sealed → MemberStands s.shape (old place) d node
  member_of whole sealed holds = (holds.members node place home).1.member

  pub gate_there : (gate : ℕ) → gate < 8 → (whole sealed : ℕ → Gate) → GatesHold s.shape old m.places d whole sealed → HasPlace ((old place).file (record_name d.which node)) gate
  gate_there gate lt whole sealed holds = let x = member_of whole sealed holds in has_gate d.which node gate place old new (member_body x.desc node x.rows) lt told sound x.body

  written_by : (gate : ℕ) → gate < 8 → (whole sealed : ℕ → Gate) → GatesHold s.shape old m.places d whole sealed → OnlyAt place (Turned (record_name d.which node) gate) old new → WritesAt d.which node gate place old new
  written_by gate lt whole sealed holds done = let x = member_of whole sealed holds in turned_at d.which node gate place old new (member_body x.desc node x.rows) lt told sound x.body done

  refused_by : (gate : ℕ) → gate < 8 → (whole sealed : ℕ → Gate) → GatesHold s.shape old m.places d whole sealed → OnlyAt place (Unturned (record_name d.which node) gate) old new → WritesAt d.which node gate place old new
  refused_by gate lt whole sealed holds done = let x = member_of whole sealed holds in unturned_at d.which node gate place old new (member_body x.desc node x.rows) lt told sound x.body done

  reads_by : (gate : ℕ) → gate < 8 → (whole sealed : ℕ → Gate) → GatesHold s.shape old m.places d whole sealed → OnlyAt place (Turned (record_name d.which node) gate) old new → GateIs ((new place).file (record_name d.which node)) gate Gate.Turning
  reads_by gate lt whole sealed holds done = let x = member_of whole sealed holds in turned_reads d.which node gate place old new (member_body x.desc node x.rows) lt told sound x.body done

  -- its gate `whole` comes so far
  whole_by : (g : Gate) → WritesAt d.which node 0 place old new → GateIs ((new place).file (record_name d.which node)) 0 g → GatesHold s.shape old m.places d (opened_to node Gate.Shut) (λ i. Gate.Shut) → GatesHold s.shape new m.places d (opened_to node g) (λ i. Gate.Shut)
  whole_by g writes is holds = whole_turn s.shape old new m.places d node place home is_place (opened_to node Gate.Shut) (λ i. Gate.Shut) (opened_to node g) writes (λ i other. opened_other node g Gate.Shut i other) (opened_is ((new place).file (record_name d.which node)) 0 node g is) holds

  whole_site : (g : Gate) → is_kept m d.which ≡ false → WritesAt d.which node 0 place old new → GatesHold s.shape new m.places d (opened_to node g) (λ i. Gate.Shut) → SiteStands s old m → SiteStands s new m
  whole_site g free writes holds stands = whole_step s old new m d (opened_to node g) (λ i. Gate.Shut) free so_far (gate_moves s.shape d.which node 0 place old new is_place low writes) (λ i. refl) holds stands

  pub whole_done : is_kept m d.which ≡ false → OnlyAt place (Turned (record_name d.which node) 0) old new → GatesHold s.shape old m.places d (opened_to node Gate.Shut) (λ i. Gate.Shut) → SiteStands s old m
      → SiteStands s new m × GatesHold s.shape new m.places d (opened_to node Gate.Turning) (λ i. Gate.Shut)
  whole_done free done holds stands =
      let writes = written_by 0 (omega arith) (opened_to node Gate.Shut) (λ i. Gate.Shut) holds done in
      let gates = whole_by Gate.Turning writes (reads_by 0 (omega arith) (opened_to node Gate.Shut) (λ i. Gate.Shut) holds done) holds in
      (whole_site Gate.Turning free writes gates stands, gates)

  pub whole_failed : is_kept m d.which ≡ false → OnlyAt place (Unturned (record_name d.which node) 0) old new → GatesHold s.shape old m.places d (opened_to node Gate.Shut) (λ i. Gate.Shut) → SiteStands s old m → SiteStands s new m
  whole_failed free done holds stands =
      let writes = refused_by 0 (omega arith) (opened_to node Gate.Shut) (λ i. Gate.Shut) holds done in
      whole_site Gate.Loose free writes (whole_by Gate.Loose writes tt holds) stands

  -- its gate `sealed`
  sealed_by : (g : Gate) → WritesAt d.which node 1 place old new → GateIs ((new place).file (record_name d.which node)) 1 g → GatesHold s.shape old m.places d (λ i. Gate.Open) (opened_to node Gate.Shut) → GatesHold s.shape new m.places d (λ i. Gate.Open) (opened_to node g)
  sealed_by g writes is holds = sealed_turn s.shape old new m.places d node place home is_place (λ i. Gate.Open) (opened_to node Gate.Shut) (opened_to node g) writes (λ i other. opened_other node g Gate.Shut i other) (opened_is ((new place).file (record_name d.which node)) 1 node g is) holds

  first_site : (g : Gate) → IsSealedNext s m d → WritesAt d.which node 1 place old new → GatesHold s.shape old m.places d (λ i. Gate.Open) (opened_to node Gate.Shut) → GatesHold s.shape new m.places d (λ i. Gate.Open) (opened_to node g) → SiteStands s old m → SiteStands s new (add_sealing m d)
  first_site g next writes held holds stands = first_seal s old new m d (opened_to node Gate.Shut) (opened_to node g) next.not_kept so_far (gate_moves s.shape d.which node 1 place old new is_place low writes) held holds next.proper next.alone next.there stands

  pub first_done : IsSealedNext s m d → OnlyAt place (Turned (record_name d.which node) 1) old new → GatesHold s.shape old m.places d (λ i. Gate.Open) (opened_to node Gate.Shut) → SiteStands s old m
      → SiteStands s new (add_sealing m d) × GatesHold s.shape new m.places d (λ i. Gate.Open) (opened_to node Gate.Turning)
  first_done next done holds stands =
      let writes = written_by 1 (omega arith) (λ i. Gate.Open) (opened_to node Gate.Shut) holds done in
      let gates = sealed_by Gate.Turning writes (reads_by 1 (omega arith) (λ i. Gate.Open) (opened_to node Gate.Shut) holds done) holds in
      (first_site Gate.Turning next writes holds gates stands, gates)

  pub first_failed : IsSealedNext s m d → OnlyAt place (Unturned (record_name d.which node) 1) old new → GatesHold s.shape old m.places d (λ i. Gate.Open) (opened_to node Gate.Shut) → SiteStands s old m → SiteStands s new (add_sealing m d)
  first_failed next done holds stands =
      let writes = refused_by 1 (omega arith) (λ i. Gate.Open) (opened_to node Gate.Shut) holds done in
      first_site Gate.Loose next writes holds (sealed_by Gate.Loose writes tt holds) stands

  next_site : (g : Gate) → IsSealedAlone m d → WritesAt d.which node 1 place old new → GatesHold s.shape new m.places d (λ i. Gate.Open) (opened_to node g) → SiteStands s old m → SiteStands s new m
  next_site g kept writes holds stands = seal_step s old new m d (opened_to node g) so_far (gate_moves s.shape d.which node 1 place old new is_place low writes) holds kept.alone kept.there stands

  pub next_done : IsSealedAlone m d → OnlyAt place (Turned (record_name d.which node) 1) old new → GatesHold s.shape old m.places d (λ i. Gate.Open) (opened_to node Gate.Shut) → SiteStands s old m
      → SiteStands s new m × GatesHold s.shape new m.places d (λ i. Gate.Open) (opened_to node Gate.Turning)
  next_done kept done holds stands =
      let writes = written_by 1 (omega arith) (λ i. Gate.Open) (opened_to node Gate.Shut) holds done in
      let gates = sealed_by Gate.Turning writes (reads_by 1 (omega arith) (λ i. Gate.Open) (opened_to node Gate.Shut) holds done) holds in
      (next_site Gate.Turning kept writes gates stands, gates)

  pub next_failed : IsSealedAlone m d → OnlyAt place (Unturned (record_name d.which node) 1) old new → GatesHold s.shape old m.places d (λ i. Gate.Open) (opened_to node Gate.Shut) → SiteStands s old m → SiteStands s new m
  next_failed kept done holds stands =
      let writes = refused_by 1 (omega arith) (λ i. Gate.Open) (opened_to node Gate.Shut) holds done in
      next_site Gate.Loose kept writes (sealed_by Gate.Loose writes tt holds) stands

-- ## Syncs between the gates

module _ (shape : Shape) (old new : ℕ → DeviceState) (places : List ℕ) (d : Dataset) (node place : ℕ) (home : slice_get places node ≡ Some place) where
  opened_so : (i : ℕ) → i ≢ node → opened_to node Gate.Open i ≡ opened_to node Gate.Turning i
  opened_so i other = opened_other node Gate.Open Gate.Turning i other

  opened_sync : opened_to node Gate.Open node ≡ Rattle.site_stands.specs.Gate.synced (opened_to node Gate.Turning node)
  opened_sync = opened_here node Gate.Open ∙ ap Rattle.site_stands.specs.Gate.synced (sym (opened_here node Gate.Turning))

  pub whole_synced : OnlyAt place Synced old new → GatesHold shape old places d (opened_to node Gate.Turning) (λ i. Gate.Shut) → GatesHold shape new places d (opened_to node Gate.Open) (λ i. Gate.Shut)
  whole_synced done holds = gates_rest shape old new places d place (synced_at place old new done) node home done.here.at_rest (opened_to node Gate.Turning) (λ i. Gate.Shut) (opened_to node Gate.Open) (λ i. Gate.Shut) (λ i other. (opened_so i other, refl)) opened_sync refl holds

  pub sealed_synced : OnlyAt place Synced old new → GatesHold shape old places d (λ i. Gate.Open) (opened_to node Gate.Turning) → GatesHold shape new places d (λ i. Gate.Open) (opened_to node Gate.Open)
  sealed_synced done holds = gates_rest shape old new places d place (synced_at place old new done) node home done.here.at_rest (λ i. Gate.Open) (opened_to node Gate.Turning) (λ i. Gate.Open) (opened_to node Gate.Open) (λ i other. (refl, opened_so i other)) refl opened_sync holds

  pub gates_unsynced : (whole sealed : ℕ → Gate) → OnlyAt place KeptAlike old new → GatesHold shape old places d whole sealed → GatesHold shape new places d whole sealed
  gates_unsynced whole sealed done holds = gates_kept shape old new places d place (kept_at place old new done) whole sealed holds

-- the next node's gate comes
pub next_whole : (shape : Shape) (states : ℕ → DeviceState) (places : List ℕ) (d : Dataset) (node : ℕ) → GatesHold shape states places d (opened_to node Gate.Open) (λ i. Gate.Shut) → GatesHold shape states places d (opened_to (node + 1) Gate.Shut) (λ i. Gate.Shut)
next_whole shape states places d node holds = gates_as shape states places d (opened_to node Gate.Open) (λ i. Gate.Shut) (opened_to (node + 1) Gate.Shut) (λ i. Gate.Shut) (λ i lt. (opened_next node i, refl)) holds

pub next_sealed : (shape : Shape) (states : ℕ → DeviceState) (places : List ℕ) (d : Dataset) (node : ℕ) → GatesHold shape states places d (λ i. Gate.Open) (opened_to node Gate.Open) → GatesHold shape states places d (λ i. Gate.Open) (opened_to (node + 1) Gate.Shut)
next_sealed shape states places d node holds = gates_as shape states places d (λ i. Gate.Open) (opened_to node Gate.Open) (λ i. Gate.Open) (opened_to (node + 1) Gate.Shut) (λ i lt. (refl, opened_next node i)) holds

pub opened_last : (node i : ℕ) → i < node + 1 → opened_to node Gate.Open i ≡ Gate.Open
opened_last node i lt = grind (arith, nat_tests)

-- after the last gate `whole` the gates `sealed` come
pub first_sealed : (shape : Shape) (states : ℕ → DeviceState) (places : List ℕ) (d : Dataset) (node : ℕ) → length places ≡ node + 1 → GatesHold shape states places d (opened_to node Gate.Open) (λ i. Gate.Shut) → GatesHold shape states places d (λ i. Gate.Open) (opened_to 0 Gate.Shut)
first_sealed shape states places d node last holds = gates_as shape states places d (opened_to node Gate.Open) (λ i. Gate.Shut) (λ i. Gate.Open) (opened_to 0 Gate.Shut) (λ i lt. (sym (opened_last node i (omega (arith, lt, last))), Rattle.commit_core.proofs.GateTurns.opened_none i)) holds
