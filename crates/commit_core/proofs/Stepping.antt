-- One step of a commit, over plain values: from what the change did to the devices to all that the step promises.
use Rattle.std.proofs.Common.{◌≡◌, inl, inr, ◌<◌, ◌≤◌, ◌+◌, ℕ, zero, suc, Bool, true, false, List, [], ◌∷◌, length, Some, None, Result, Ok, Err, refl, sym, ◌∙◌, ap, subst, arith}
use Rattle.std.specs.Prelude.{slice_get, slice_index_or, nat_lt, fold, ◌&&◌, if◌then◌else◌}
use Rattle.std.specs.List.{list_all}
use Rattle.std.proofs.lemmas.Bool.{cases_eq}
use Rattle.std.proofs.lemmas.Bool.Decides.{nat_tests}
use Rattle.std.proofs.lemmas.Option.{slice_get_within}
use Rattle.scr_base.specs.declared.memory.Memory.{Memory}
use Rattle.scr_base.specs.declared.shape.DataId.{DataId}
use Rattle.node_device.specs.DeviceState.{DeviceState, IsSound}
use Rattle.node_device.specs.Rack.{OnlyAt}
use Rattle.gated_record.specs.Record.{HasPlace}
use Rattle.member_store.specs.Names.{record_name}
use Rattle.member_store.specs.Members.{member_body}
use Rattle.member_store.specs.declared.gates.MemberGate.TheVariants as gate
use Rattle.ckpt_model.specs.declared.event.Event.TheVariants as event
use Rattle.ckpt_model.specs.declared.event.Event.{Event}
use Rattle.ckpt_model.specs.declared.progress.Progress.{Progress}
use Rattle.ckpt_model.specs.declared.progress.Progress.TheVariants as progress
use Rattle.ckpt_model.specs.Dataset.{Dataset}
use Rattle.ckpt_model.specs.Machine.{Machine, Setup}
use Rattle.ckpt_model.specs.Moves.{after}
use Rattle.ckpt_model.specs.Questions.{is_kept}
use Rattle.ckpt_model.specs.Steps.{after_settling}
use Rattle.site_stands.specs.Gate.{Gate, GatesHold}
use Rattle.site_stands.specs.Site.{SiteStands}
use Rattle.site_calls.specs.Calls.{Tells, Synced, Recorded, Turned, Unrecorded, Unturned}
use Rattle.site_calls.specs.Causes.{IsCalm, is_device_fault}
use Rattle.site_calls.specs.declared.trouble.Trouble.{Trouble}
use Rattle.site_calls.specs.declared.trouble.Trouble.TheVariants as error
use Rattle.commit_core.specs.declared.claim.Claim.{Claim}
use Rattle.commit_core.specs.declared.change.NextChange.{NextChange}
use Rattle.commit_core.specs.declared.change.NextChange.TheVariants as change
use Rattle.commit_core.specs.declared.set.CommitSet.{CommitSet}
use Rattle.commit_core.specs.declared.stage.CommitStage.{CommitStage}
use Rattle.commit_core.specs.declared.stage.CommitStage.TheVariants as stage
use Rattle.commit_core.specs.declared.standing.Standing.{Standing}
use Rattle.commit_core.specs.declared.standing.Standing.TheVariants.{Unclaimed}
use Rattle.commit_core.specs.Changes.{ChangeWrites, MakesChange}
use Rattle.commit_core.specs.Committing.{Committing, shown_at, stage_when, IsAnswer, ready_at}
use Rattle.commit_core.specs.Fill.{Fill, FillHolds}
use Rattle.commit_core.specs.Holds.{IsCommitOf, IsSealedAlone, IsKeptBy, StageHolds, OutsAsk, MayShow, made_at, told_by, done_in}
use Rattle.commit_core.specs.LedgerBook.{Book, is_done}
use Rattle.commit_core.specs.Opened.{opened_to, filled_to}
use Rattle.commit_core.specs.Stages.{IsStage, change_at, node_of, stage_after, LeavesLess}
use Rattle.commit_core.specs.Steps.{IsOneChange, StepWrites, StepCause, IsLess, LeavesSite, TakesStep}
use Rattle.site_calls.proofs.CallCauses.{full_by}
use Rattle.commit_core.proofs.GateTurns.{settled_site}
use Rattle.commit_core.proofs.Opening.{gate_there, whole_done, whole_failed, first_done, first_failed, next_done, next_failed, whole_synced, sealed_synced, gates_unsynced, next_whole, next_sealed, first_sealed, opened_last}
use Rattle.commit_core.proofs.Recording.{fills_as, filled_none, places_count, is_place, place_low, place_tells, record_done, record_failed, record_synced, record_unsynced, next_record, first_gate, synced_site, unsynced_site}
use Rattle.commit_core.proofs.SharePieces.{pieces_done, pieces_same}

kept_next : (m : Machine) (d : Dataset) (node : ℕ) → IsSealedAlone m d → IsKeptBy m d (node + 1)
kept_next m d node kept = let same : suc node ≡ node + 1 = omega arith in subst (λ (n : ℕ). IsKeptBy m d n) same kept

-- what an outcome of the next change leaves
abbrev pub Leaves : Setup → Machine → Dataset → CommitSet → Book → (ℕ → DeviceState) → CommitStage → Result (Unit {0}) Trouble → Type 0
Leaves s m d base book new at (Ok v) = SiteStands s new (told_by s m (shown_at base.desc.nodes base.desc.which at)) × StageHolds s new (told_by s m (shown_at base.desc.nodes base.desc.which at)) d book (stage_after base.desc.nodes at)
Leaves s m d base book new at (Err error.Memory) = SiteStands s new m × StageHolds s new m d book at
Leaves s m d base book new at (Err _) = SiteStands s new (fold (after s) m (made_at d at))

module _ (s : Setup) (m : Machine) (d : Dataset) (base : CommitSet) (of : IsCommitOf s m d base) (book : Book) (old new : ℕ → DeviceState) (told : Tells old) (sound : (p : ℕ) → IsSound (old p)) (stands : SiteStands s old m) where
  nodes_are : length m.places ≡ base.desc.nodes
  nodes_are = ap (length {A = ℕ}) (sym of.places) ∙ base.fits.places_are

  at_home : (node place : ℕ) → slice_get base.places node ≡ Some place → slice_get m.places node ≡ Some place
  at_home node place home = subst (λ (ps : List ℕ). slice_get ps node ≡ Some place) of.places home

  last_is : (node : ℕ) → node < base.desc.nodes → nat_lt (node + 1) base.desc.nodes ≡ false → length m.places ≡ node + 1
  last_is node lt end = let past : base.desc.nodes ≤ node + 1 = grind (arith, nat_tests, end) in omega (arith, nodes_are, lt, past)

  -- a refusal that can't have opened a gate
  kept_by : (at : CommitStage) → made_at d at ≡ [] → SiteStands s new m × StageHolds s new m d book at → (t : Trouble) → Leaves s m d base book new at (Err t)
  kept_by at none x error.Memory = x
  kept_by at none x (error.Fault node count) = subst (λ (es : List Event). SiteStands s new (fold (after s) m es)) (sym none) x.0
  kept_by at none x (error.Full node used capacity) = subst (λ (es : List Event). SiteStands s new (fold (after s) m es)) (sym none) x.0

  -- only a fault refuses a gate write
  fault_by : (at : CommitStage) → SiteStands s new (fold (after s) m (made_at d at)) → (t : Trouble) → is_device_fault t ≡ true → Leaves s m d base book new at (Err t)
  fault_by at x error.Memory sure = absurd (cc sure)
  fault_by at x (error.Fault node count) sure = x
  fault_by at x (error.Full node used capacity) sure = absurd (cc sure)

  -- ## Records and their syncs

  record_named : (Done : List ℕ → DeviceState → DeviceState → Type 0) (node place : ℕ) → OnlyAt place (Done (record_name base.desc.which node)) old new → OnlyAt place (Done (record_name d.which node)) old new
  record_named Done node place done = subst (λ (w : DataId). OnlyAt place (Done (record_name w node)) old new) of.describes.which done

  record_leaves : (node place : ℕ) → slice_get base.places node ≡ Some place → is_kept m d.which ≡ false → FillHolds s.shape old m.places d (filled_to node Fill.Parts) → OnlyAt place (Recorded (record_name base.desc.which node) (member_body base.desc node base.files)) old new
      → SiteStands s new m × StageHolds s new m d book (stage.RecordSync node)
  record_leaves node place home free holds done =
      let x = record_done s m d base of old new node place (at_home node place home) free told (record_named (λ name. Recorded name (member_body base.desc node base.files)) node place done) holds stands in
      (x.0, (free, x.1))

  record_stays : (node place : ℕ) → slice_get base.places node ≡ Some place → is_kept m d.which ≡ false → FillHolds s.shape old m.places d (filled_to node Fill.Parts) → OnlyAt place (Unrecorded (record_name base.desc.which node)) old new
      → SiteStands s new m × StageHolds s new m d book (stage.Record node)
  record_stays node place home free holds done =
      let x = record_failed s m d base of old new node place (at_home node place home) free (record_named Unrecorded node place done) holds stands in
      (x.0, (free, x.1))

  sync_leaves : (node place : ℕ) → node < base.desc.nodes → slice_get base.places node ≡ Some place → is_kept m d.which ≡ false → FillHolds s.shape old m.places d (filled_to node Fill.Written) → OnlyAt place Synced old new
      → SiteStands s new m × StageHolds s new m d book (stage_after base.desc.nodes (stage.RecordSync node))
  sync_leaves node place lt home free holds done = (synced_site s m place old new done stands, by_next (nat_lt (node + 1) base.desc.nodes) refl)
    where
      stable : FillHolds s.shape new m.places d (filled_to node Fill.Stable)
      stable = record_synced s m d base of old new node place (at_home node place home) done holds

      by_next : (b : Bool) → nat_lt (node + 1) base.desc.nodes ≡ b → StageHolds s new m d book (if b then stage.Record (node + 1) else stage.Whole 0)
      by_next true more = (free, next_record s new m d node stable)
      by_next false end = (free, first_gate s new m d node (last_is node lt end) stable)

  -- ## Gates and their syncs

  whole_leaves : (node place : ℕ) → slice_get base.places node ≡ Some place → is_kept m d.which ≡ false → GatesHold s.shape old m.places d (opened_to node Gate.Shut) (λ i. Gate.Shut) → OnlyAt place (Turned (record_name base.desc.which node) 0) old new
      → SiteStands s new m × StageHolds s new m d book (stage.WholeSync node)
  whole_leaves node place home free holds done =
      let there = at_home node place home in
      let x = whole_done s m d of.so_far old new node place there (is_place s m d base of old new node place there) (place_low s m d base of old new node place there) (place_tells s m d base of old new node place there told) (sound place) free (record_named (λ name. Turned name 0) node place done) holds stands in
      (x.0, (free, x.1))

  whole_stays : (node place : ℕ) → slice_get base.places node ≡ Some place → is_kept m d.which ≡ false → GatesHold s.shape old m.places d (opened_to node Gate.Shut) (λ i. Gate.Shut) → OnlyAt place (Unturned (record_name base.desc.which node) 0) old new → SiteStands s new m
  whole_stays node place home free holds done =
      let there = at_home node place home in
      whole_failed s m d of.so_far old new node place there (is_place s m d base of old new node place there) (place_low s m d base of old new node place there) (place_tells s m d base of old new node place there told) (sound place) free (record_named (λ name. Unturned name 0) node place done) holds stands

  whole_sync_leaves : (node place : ℕ) → node < base.desc.nodes → slice_get base.places node ≡ Some place → is_kept m d.which ≡ false → GatesHold s.shape old m.places d (opened_to node Gate.Turning) (λ i. Gate.Shut) → OnlyAt place Synced old new
      → SiteStands s new m × StageHolds s new m d book (stage_after base.desc.nodes (stage.WholeSync node))
  whole_sync_leaves node place lt home free holds done = (synced_site s m place old new done stands, by_next (nat_lt (node + 1) base.desc.nodes) refl)
    where
      open_gates : GatesHold s.shape new m.places d (opened_to node Gate.Open) (λ i. Gate.Shut)
      open_gates = whole_synced s.shape old new m.places d node place (at_home node place home) done holds

      by_next : (b : Bool) → nat_lt (node + 1) base.desc.nodes ≡ b → StageHolds s new m d book (if b then stage.Whole (node + 1) else stage.Sealed 0)
      by_next true more = (free, next_whole s.shape new m.places d node open_gates)
      by_next false end = (free, first_sealed s.shape new m.places d node (last_is node lt end) open_gates)

  seal_leaves : (node place : ℕ) → slice_get base.places node ≡ Some place → MayShow s m d (stage.Sealed node) → StageHolds s old m d book (stage.Sealed node) → OnlyAt place (Turned (record_name base.desc.which node) 1) old new → (v : Unit {0}) → Leaves s m d base book new (stage.Sealed node) (Ok v)
  seal_leaves zero place home next holds done v =
      let there = at_home 0 place home in
      let x = first_done s m d of.so_far old new 0 place there (is_place s m d base of old new 0 place there) (place_low s m d base of old new 0 place there) (place_tells s m d base of old new 0 place there told) (sound place) next (record_named (λ name. Turned name 1) 0 place done) holds.1 stands in
      subst (λ (n : Machine). SiteStands s new n × (IsSealedAlone n d × GatesHold s.shape new n.places d (λ i. Gate.Open) (opened_to 0 Gate.Turning))) (sym next.after_is) (x.0, (record { there = next.there; alone = next.alone }, x.1))
  seal_leaves (suc k) place home next holds done v =
      let there = at_home (suc k) place home in
      let x = next_done s m d of.so_far old new (suc k) place there (is_place s m d base of old new (suc k) place there) (place_low s m d base of old new (suc k) place there) (place_tells s m d base of old new (suc k) place there told) (sound place) holds.0 (record_named (λ name. Turned name 1) (suc k) place done) holds.1 stands in
      (x.0, (holds.0, x.1))

  seal_stays : (node place : ℕ) → slice_get base.places node ≡ Some place → MayShow s m d (stage.Sealed node) → StageHolds s old m d book (stage.Sealed node) → OnlyAt place (Unturned (record_name base.desc.which node) 1) old new → SiteStands s new (fold (after s) m (made_at d (stage.Sealed node)))
  seal_stays zero place home next holds done =
      let there = at_home 0 place home in
      subst (λ (n : Machine). SiteStands s new n) (sym next.after_is) (first_failed s m d of.so_far old new 0 place there (is_place s m d base of old new 0 place there) (place_low s m d base of old new 0 place there) (place_tells s m d base of old new 0 place there told) (sound place) next (record_named (λ name. Unturned name 1) 0 place done) holds.1 stands)
  seal_stays (suc k) place home next holds done =
      let there = at_home (suc k) place home in
      next_failed s m d of.so_far old new (suc k) place there (is_place s m d base of old new (suc k) place there) (place_low s m d base of old new (suc k) place there) (place_tells s m d base of old new (suc k) place there told) (sound place) holds.0 (record_named (λ name. Unturned name 1) (suc k) place done) holds.1 stands

  seal_sync_leaves : (node place : ℕ) → node < base.desc.nodes → slice_get base.places node ≡ Some place → MayShow s m d (stage.SealedSync node) → StageHolds s old m d book (stage.SealedSync node) → OnlyAt place Synced old new → (v : Unit {0}) → Leaves s m d base book new (stage.SealedSync node) (Ok v)
  seal_sync_leaves node place lt home proper holds done v = by_next (nat_lt (node + 1) base.desc.nodes) refl
    where
      synced : SiteStands s new m
      synced = synced_site s m place old new done stands

      open_gates : GatesHold s.shape new m.places d (λ i. Gate.Open) (opened_to node Gate.Open)
      open_gates = sealed_synced s.shape old new m.places d node place (at_home node place home) done holds.1

      settled : length m.places ≡ node + 1 → SiteStands s new (after_settling m base.desc.which)
      settled last = subst (λ (w : DataId). SiteStands s new (after_settling m w)) (sym of.describes.which)
          (settled_site s new m d (opened_to node Gate.Open) (λ i within. opened_last node i (omega (arith, within, last))) open_gates holds.0.alone (proper (omega (arith, last, places_count s m d base of))) synced)

      by_next : (b : Bool) → nat_lt (node + 1) base.desc.nodes ≡ b → SiteStands s new (told_by s m (if b then progress.Silent else progress.Shown (event.Settled base.desc.which))) × StageHolds s new (told_by s m (if b then progress.Silent else progress.Shown (event.Settled base.desc.which))) d book (if b then stage.Sealed (node + 1) else stage.Over)
      by_next true more = (synced, (kept_next m d node holds.0, next_sealed s.shape new m.places d node open_gates))
      by_next false end = (settled (last_is node lt end), tt)

  -- ## Any change

  of_change : (it next : NextChange) → Some it ≡ Some next → (o : Result (Unit {0}) Trouble) → MakesChange {T = Unit {0}} base next old new o → MakesChange {T = Unit {0}} base it old new o
  of_change it next is o made = subst (λ (x : NextChange). MakesChange {T = Unit {0}} base x old new o) (sym (same is)) made
    where
      same : Some it ≡ Some next → it ≡ next
      same e = cc

  has_place_at : (node k : ℕ) → k < 8 → (place : ℕ) → slice_get base.places node ≡ Some place → (whole sealed : ℕ → Gate) → GatesHold s.shape old m.places d whole sealed → HasPlace ((old place).file (record_name base.desc.which node)) k
  has_place_at node k lt place home whole sealed holds =
      let there = at_home node place home in
      subst (λ (w : DataId). HasPlace ((old place).file (record_name w node)) k) (sym of.describes.which)
      (gate_there s m d of.so_far old new node place there (is_place s m d base of old new node place there) (place_low s m d base of old new node place there) (place_tells s m d base of old new node place there told) (sound place) k lt whole sealed holds)

  reads_same : (name : List ℕ) (place : ℕ) → OnlyAt place (Unrecorded name) old new → (p : ℕ) (q : List ℕ) → ((new p).file q).now ≡ ((old p).file q).now
  reads_same name place done p q = elim (cases_eq p place) [
    | inl here ↦ subst (λ (x : ℕ). ((new x).file q).now ≡ ((old x).file q).now) (sym here) (done.here.refused.alike.files q).now
    | inr away ↦ ap (λ (x : DeviceState). (x.file q).now) (done.others p away)
  ]

  -- once all pieces are done the first record comes
  pieces_over : list_all is_done book.standings ≡ true → StageHolds s old m d book stage.Pieces → FillHolds s.shape old m.places d (filled_to 0 Fill.Parts)
  pieces_over all holds = fills_as s.shape old m.places d (λ node. Fill.Parts) (filled_to 0 Fill.Parts) (λ i lt. filled_none i)
      (pieces_done s.shape old m.places d book.pieces (done_in book) (λ i piece at. each book.standings i all (omega (arith, holds.1, slice_get_within book.pieces i piece at))) holds.2)
    where
      each : (xs : List Standing) (i : ℕ) → list_all is_done xs ≡ true → i < length xs → is_done (slice_index_or xs i Unclaimed) ≡ true
      each [] i is lt = absurd (omega (arith, lt))
      each (x ∷ xs) i is lt = pick (is_done x) refl is i lt (λ j rest within. each xs j rest within)
        where
          pick : (b : Bool) → is_done x ≡ b → b && list_all is_done xs ≡ true → (i : ℕ) → i < length (x ∷ xs) → ((j : ℕ) → list_all is_done xs ≡ true → j < length xs → is_done (slice_index_or xs j Unclaimed) ≡ true) → is_done (slice_index_or (x ∷ xs) i Unclaimed) ≡ true
          pick true e rest zero lt go = e
          pick true e rest (suc j) lt go = go j rest (omega (arith, lt))
          pick false e rest i lt go = absurd (cc rest)

  -- each outcome of the change that comes next
  pub leaves_at : (at : CommitStage) → IsStage base.desc.nodes at → ready_at book at ≡ true → MayShow s m d at → StageHolds s old m d book at → (next : NextChange) → change_at at ≡ Some next
      → (outcome : Result (Unit {0}) Trouble) → MakesChange {T = Unit {0}} base next old new outcome → Leaves s m d base book new at outcome
  leaves_at stage.Pieces lt all show holds next is outcome made = by_outcome outcome (of_change (change.Record 0) next is outcome made)
    where
      files : FillHolds s.shape old m.places d (filled_to 0 Fill.Parts)
      files = pieces_over all holds

      stays : (place : ℕ) → slice_get base.places 0 ≡ Some place → OnlyAt place (Unrecorded (record_name base.desc.which 0)) old new → SiteStands s new m × StageHolds s new m d book stage.Pieces
      stays place home done =
          let x = record_stays 0 place home holds.0 files done in
          (x.0, (holds.0, holds.1, pieces_same s.shape old new m.places d book.pieces (done_in book) (reads_same (record_name base.desc.which 0) place done) x.1.1.unused holds.2))

      by_outcome : (o : Result (Unit {0}) Trouble) → MakesChange {T = Unit {0}} base (change.Record 0) old new o → Leaves s m d base book new stage.Pieces o
      by_outcome (Ok v) x = record_leaves 0 x.place x.home holds.0 files x.done
      by_outcome (Err t) x = kept_by stage.Pieces refl (stays x.place x.home x.refused) t
  leaves_at (stage.Record node) lt all show holds next is outcome made = by_outcome outcome (of_change (change.Record node) next is outcome made)
    where
      by_outcome : (o : Result (Unit {0}) Trouble) → MakesChange {T = Unit {0}} base (change.Record node) old new o → Leaves s m d base book new (stage.Record node) o
      by_outcome (Ok v) x = record_leaves node x.place x.home holds.0 holds.1 x.done
      by_outcome (Err t) x = kept_by (stage.Record node) refl (record_stays node x.place x.home holds.0 holds.1 x.refused) t
  leaves_at (stage.RecordSync node) lt all show holds next is outcome made = by_outcome outcome (of_change (change.Sync node) next is outcome made)
    where
      by_outcome : (o : Result (Unit {0}) Trouble) → MakesChange {T = Unit {0}} base (change.Sync node) old new o → Leaves s m d base book new (stage.RecordSync node) o
      by_outcome (Ok v) x = sync_leaves node x.place lt x.home holds.0 holds.1 x.done
      by_outcome (Err t) x = kept_by (stage.RecordSync node) refl (unsynced_site s m x.place old new x.refused stands, (holds.0, record_unsynced s m d base of old new node x.place (at_home node x.place x.home) x.refused holds.1)) t
  leaves_at (stage.Whole node) lt all show holds next is outcome made = by_outcome outcome (of_change (change.Open node gate.Whole) next is outcome made)
    where
      by_outcome : (o : Result (Unit {0}) Trouble) → MakesChange {T = Unit {0}} base (change.Open node gate.Whole) old new o → Leaves s m d base book new (stage.Whole node) o
      by_outcome (Ok v) x = whole_leaves node x.place x.home holds.0 holds.1 x.done
      by_outcome (Err t) x = fault_by (stage.Whole node) (whole_stays node x.place x.home holds.0 holds.1 x.refused) t (x.sure (has_place_at node 0 (omega arith) x.place x.home (opened_to node Gate.Shut) (λ i. Gate.Shut) holds.1))
  leaves_at (stage.WholeSync node) lt all show holds next is outcome made = by_outcome outcome (of_change (change.Sync node) next is outcome made)
    where
      by_outcome : (o : Result (Unit {0}) Trouble) → MakesChange {T = Unit {0}} base (change.Sync node) old new o → Leaves s m d base book new (stage.WholeSync node) o
      by_outcome (Ok v) x = whole_sync_leaves node x.place lt x.home holds.0 holds.1 x.done
      by_outcome (Err t) x = kept_by (stage.WholeSync node) refl (unsynced_site s m x.place old new x.refused stands, (holds.0, gates_unsynced s.shape old new m.places d node x.place (at_home node x.place x.home) (opened_to node Gate.Turning) (λ i. Gate.Shut) x.refused holds.1)) t
  leaves_at (stage.Sealed node) lt all show holds next is outcome made = by_outcome outcome (of_change (change.Open node gate.Sealed) next is outcome made)
    where
      by_outcome : (o : Result (Unit {0}) Trouble) → MakesChange {T = Unit {0}} base (change.Open node gate.Sealed) old new o → Leaves s m d base book new (stage.Sealed node) o
      by_outcome (Ok v) x = seal_leaves node x.place x.home show holds x.done v
      by_outcome (Err t) x = fault_by (stage.Sealed node) (seal_stays node x.place x.home show holds x.refused) t (x.sure (has_place_at node 1 (omega arith) x.place x.home (λ i. Gate.Open) (opened_to node Gate.Shut) holds.1))
  leaves_at (stage.SealedSync node) lt all show holds next is outcome made = by_outcome outcome (of_change (change.Sync node) next is outcome made)
    where
      by_outcome : (o : Result (Unit {0}) Trouble) → MakesChange {T = Unit {0}} base (change.Sync node) old new o → Leaves s m d base book new (stage.SealedSync node) o
      by_outcome (Ok v) x = seal_sync_leaves node x.place lt x.home show holds x.done v
      by_outcome (Err t) x = kept_by (stage.SealedSync node) refl (unsynced_site s m x.place old new x.refused stands, (holds.0, gates_unsynced s.shape old new m.places d node x.place (at_home node x.place x.home) (λ i. Gate.Open) (opened_to node Gate.Turning) x.refused holds.1)) t
  leaves_at stage.Over lt all show holds next is outcome made = absurd (cc is)

-- ## The step whole

-- an answer of a change that was made: nothing is told, or an event
abbrev is_step : Progress → Bool
is_step progress.Silent = true
is_step (progress.Shown e) = true
is_step _ = false

step_shown : (nodes : ℕ) (which : DataId) (at : CommitStage) (next : NextChange) → change_at at ≡ Some next → is_step (shown_at nodes which at) ≡ true
step_shown nodes which stage.Pieces next is = refl
step_shown nodes which (stage.Record node) next is = refl
step_shown nodes which (stage.RecordSync node) next is = refl
step_shown nodes which (stage.Whole node) next is = refl
step_shown nodes which (stage.WholeSync node) next is = refl
step_shown nodes which (stage.Sealed zero) next is = refl
step_shown nodes which (stage.Sealed (suc node)) next is = refl
step_shown nodes which (stage.SealedSync node) next is = pick (nat_lt (node + 1) nodes)
  where
    pick : (b : Bool) → is_step (if b then progress.Silent else progress.Shown (event.Settled which)) ≡ true
    pick true = refl
    pick false = refl
step_shown nodes which stage.Over next is = absurd (cc is)

-- each change that is made leaves one less
one_less : (nodes : ℕ) (at : CommitStage) (next : NextChange) → IsStage nodes at → change_at at ≡ Some next → LeavesLess nodes at (stage_after nodes at)
one_less nodes stage.Pieces next lt is = record { gates = omega (arith, lt); records = omega (arith, lt) }
one_less nodes (stage.Record node) next lt is = record { gates = omega (arith, lt); records = omega (arith, lt) }
one_less nodes (stage.RecordSync node) next lt is = pick (nat_lt (node + 1) nodes) refl
  where
    pick : (b : Bool) → nat_lt (node + 1) nodes ≡ b → LeavesLess nodes (stage.RecordSync node) (if b then stage.Record (node + 1) else stage.Whole 0)
    pick true more = let below : node + 1 < nodes = grind (arith, nat_tests, more) in record { gates = omega (arith, lt, below); records = omega (arith, lt, below) }
    pick false end = let past : nodes ≤ node + 1 = grind (arith, nat_tests, end) in record { gates = omega (arith, lt, past); records = omega (arith, lt, past) }
one_less nodes (stage.Whole node) next lt is = record { gates = omega (arith, lt); records = refl }
one_less nodes (stage.WholeSync node) next lt is = pick (nat_lt (node + 1) nodes) refl
  where
    pick : (b : Bool) → nat_lt (node + 1) nodes ≡ b → LeavesLess nodes (stage.WholeSync node) (if b then stage.Whole (node + 1) else stage.Sealed 0)
    pick true more = let below : node + 1 < nodes = grind (arith, nat_tests, more) in record { gates = omega (arith, lt, below); records = refl }
    pick false end = let past : nodes ≤ node + 1 = grind (arith, nat_tests, end) in record { gates = omega (arith, lt, past); records = refl }
one_less nodes (stage.Sealed node) next lt is = record { gates = omega (arith, lt); records = refl }
one_less nodes (stage.SealedSync node) next lt is = pick (nat_lt (node + 1) nodes) refl
  where
    pick : (b : Bool) → nat_lt (node + 1) nodes ≡ b → LeavesLess nodes (stage.SealedSync node) (if b then stage.Sealed (node + 1) else stage.Over)
    pick true more = let below : node + 1 < nodes = grind (arith, nat_tests, more) in record { gates = omega (arith, lt, below); records = refl }
    pick false end = let past : nodes ≤ node + 1 = grind (arith, nat_tests, end) in record { gates = omega (arith, lt, past); records = refl }
one_less nodes stage.Over next lt is = absurd (cc is)

-- what is said of any answer, for an answer of a change that was made
cause_shown : (writes : ℕ → List ℕ → ℕ → ℕ → Type 0) (old new : ℕ → DeviceState) (p : Progress) → is_step p ≡ true → IsCalm old new → StepCause writes old new (Ok p)
cause_shown writes old new progress.Silent is calm = calm
cause_shown writes old new (progress.Shown e) is calm = calm
cause_shown writes old new progress.Over is calm = absurd (cc is)
cause_shown writes old new (progress.Fault node count) is calm = absurd (cc is)
cause_shown writes old new (progress.Full node used capacity) is calm = absurd (cc is)

less_shown : (nodes : ℕ) (before after : Committing) (p : Progress) → is_step p ≡ true → LeavesLess nodes before.stage after.stage → IsLess nodes before after p
less_shown nodes before later progress.Silent is less = less
less_shown nodes before later (progress.Shown e) is less = less
less_shown nodes before later progress.Over is less = absurd (cc is)
less_shown nodes before later (progress.Fault node count) is less = absurd (cc is)
less_shown nodes before later (progress.Full node used capacity) is less = absurd (cc is)

site_shown : (s : Setup) (m : Machine) (d : Dataset) (before after : Committing) (new : ℕ → DeviceState) (p : Progress) → is_step p ≡ true → OutsAsk d after.outs → SiteStands s new (told_by s m p) × StageHolds s new (told_by s m p) d after.book after.stage → LeavesSite s m d before after new (Ok p)
site_shown s m d before later new progress.Silent is asks x = (x.0, record { so_far = x.1; asks = asks })
site_shown s m d before later new (progress.Shown e) is asks x = (x.0, record { so_far = x.1; asks = asks })
site_shown s m d before later new progress.Over is asks x = absurd (cc is)
site_shown s m d before later new (progress.Fault node count) is asks x = absurd (cc is)
site_shown s m d before later new (progress.Full node used capacity) is asks x = absurd (cc is)

module _ (before : Committing) (old new : ℕ → DeviceState) (sound : (p : ℕ) → IsSound (old p)) (next : NextChange) (is : change_at before.stage ≡ Some next) (within : IsStage before.set.desc.nodes before.stage) (ready : ready_at before.book before.stage ≡ true) where
  abbrev moved : Result (Unit {0}) Trouble → Committing
  moved outcome = record { set = before.set; stage = stage_when before.set.desc.nodes before.stage outcome; book = before.book; outs = before.outs }

  change_one : (outcome : Result (Unit {0}) Trouble) → MakesChange {T = Unit {0}} before.set next old new outcome → IsOneChange old new
  change_one outcome made = by next outcome made
    where
      by : (c : NextChange) (o : Result (Unit {0}) Trouble) → MakesChange {T = Unit {0}} before.set c old new o → IsOneChange old new
      by (change.Record node) (Ok v) x = record { place = x.place; elsewhere = x.done.others; here = inl (record_name before.set.desc.which node, x.done.here.only) }
      by (change.Record node) (Err t) x = record { place = x.place; elsewhere = x.refused.others; here = inl (record_name before.set.desc.which node, x.refused.here.only) }
      by (change.Sync node) (Ok v) x = record { place = x.place; elsewhere = x.done.others; here = inr (x.done.here.alike, x.done.here.partly) }
      by (change.Sync node) (Err t) x = record { place = x.place; elsewhere = x.refused.others; here = inr (x.refused.here.alike, x.refused.here.partly) }
      by (change.Open node k) (Ok v) x = record { place = x.place; elsewhere = x.done.others; here = inl (record_name before.set.desc.which node, x.done.here.only) }
      by (change.Open node k) (Err t) x = record { place = x.place; elsewhere = x.refused.others; here = inl (record_name before.set.desc.which node, x.refused.here.only) }

  -- the write of the step is that of its change
  step_write : (c : NextChange) (place p : ℕ) (name : List ℕ) (at count : ℕ) → c ≡ next → slice_get before.set.places (node_of c) ≡ Some place → ChangeWrites before.set c place p name at count → StepWrites before p name at count
  step_write c place p name at count same home writes = record { change = c; next = is ∙ ap Some (sym same); place = place; home = home; writes = writes }

  change_write : (outcome : Result (Unit {0}) Trouble) → (made : MakesChange {T = Unit {0}} before.set next old new outcome) → (p : ℕ) (name : List ℕ) (at count : ℕ) → StepWrites before p name at count → ChangeWrites before.set next made.place p name at count
  change_write outcome made p name at count w =
      let same : w.change ≡ next = one w.change next (sym w.next ∙ is) in
      let home : slice_get before.set.places (node_of next) ≡ Some w.place = subst (λ (c : NextChange). slice_get before.set.places (node_of c) ≡ Some w.place) same w.home in
      subst (λ (x : ℕ). ChangeWrites before.set next x p name at count) (place_one w.place made.place (sym home ∙ made.home)) (subst (λ (c : NextChange). ChangeWrites before.set c w.place p name at count) same w.writes)
    where
      one : (a b : NextChange) → Some a ≡ Some b → a ≡ b
      one a b e = cc

      place_one : (a b : ℕ) → Some a ≡ Some b → a ≡ b
      place_one a b e = cc

  site_left : (outcome : Result (Unit {0}) Trouble) → MakesChange {T = Unit {0}} before.set next old new outcome → (s : Setup) (m : Machine) (d : Dataset) → Tells old → IsCommitOf s m d before.set → MayShow s m d before.stage → SiteStands s old m → StageHolds s old m d before.book before.stage
      → Leaves s m d before.set before.book new before.stage outcome
  site_left outcome made s m d told of show stands holds = leaves_at s m d before.set of before.book old new told sound stands before.stage within ready show holds next is outcome made

  done_taken : (v : Unit {0}) → MakesChange {T = Unit {0}} before.set next old new (Ok v) → TakesStep before (moved (Ok v)) old new (Ok (shown_at before.set.desc.nodes before.set.desc.which before.stage))
  done_taken v made =
      let step = step_shown before.set.desc.nodes before.set.desc.which before.stage next is in
      record {
        set = refl;
        book = refl;
        outs = refl;
        memory = tt;
        one = change_one (Ok v) made;
        cause = cause_shown (StepWrites before) old new (shown_at before.set.desc.nodes before.set.desc.which before.stage) step made.cause;
        fits = λ not_refused place name at count w passes. made.fits place name at count (change_write (Ok v) made place name at count w) passes;
        left = less_shown before.set.desc.nodes before (moved (Ok v)) (shown_at before.set.desc.nodes before.set.desc.which before.stage) step (one_less before.set.desc.nodes before.stage next within is);
        tells = made.tells;
        safe = λ s m d told of show stands holds. site_shown s m d before (moved (Ok v)) new (shown_at before.set.desc.nodes before.set.desc.which before.stage) step holds.asks (site_left (Ok v) made s m d told of show stands holds.so_far);
      }

  memory_taken : (e : Memory) → MakesChange {T = Unit {0}} before.set next old new (Err error.Memory) → TakesStep before (moved (Err error.Memory)) old new (Err e)
  memory_taken e made = record {
    set = refl;
    book = refl;
    outs = refl;
    memory = refl;
    one = change_one (Err error.Memory) made;
    cause = made.cause;
    fits = tt;
    left = tt;
    tells = made.tells;
    safe = λ s m d told of show stands holds. let x = site_left (Err error.Memory) made s m d told of show stands holds.so_far in (x.0, record { so_far = x.1; asks = holds.asks });
  }

  fault_taken : (node count : ℕ) → MakesChange {T = Unit {0}} before.set next old new (Err (error.Fault node count)) → TakesStep before (moved (Err (error.Fault node count))) old new (Ok (progress.Fault node count))
  fault_taken node count made = record {
    set = refl;
    book = refl;
    outs = refl;
    memory = tt;
    one = change_one (Err (error.Fault node count)) made;
    cause = made.cause;
    fits = λ not_refused place name at many w passes. absurd (cc not_refused);
    left = refl;
    tells = made.tells;
    safe = λ s m d told of show stands holds. site_left (Err (error.Fault node count)) made s m d told of show stands holds.so_far;
  }

  full_taken : (node used capacity : ℕ) → MakesChange {T = Unit {0}} before.set next old new (Err (error.Full node used capacity)) → TakesStep before (moved (Err (error.Full node used capacity))) old new (Ok (progress.Full node used capacity))
  full_taken node used capacity made = record {
    set = refl;
    book = refl;
    outs = refl;
    memory = tt;
    one = change_one (Err (error.Full node used capacity)) made;
    cause = full_by (ChangeWrites before.set next made.place) (StepWrites before) (λ p name at many w. step_write next made.place p name at many refl made.home w) old new node used capacity made.cause;
    fits = λ not_refused place name at many w passes. absurd (cc not_refused);
    left = refl;
    tells = made.tells;
    safe = λ s m d told of show stands holds. site_left (Err (error.Full node used capacity)) made s m d told of show stands holds.so_far;
  }

  -- the answer of an outcome
  pub step_taken : (after : Committing) (outcome : Result (Unit {0}) Trouble) (result : Result Progress Memory) → MakesChange {T = Unit {0}} before.set next old new outcome → after.set ≡ before.set → after.book ≡ before.book → after.outs ≡ before.outs → after.stage ≡ stage_when before.set.desc.nodes before.stage outcome
      → IsAnswer before.set.desc.nodes before.set.desc.which before.stage outcome result → TakesStep before after old new result
  step_taken later outcome result made set book outs stage answer = subst (λ (c : Committing). TakesStep before c old new result) (sym (whole later outcome set book outs stage)) (by outcome result made answer)
    where
      whole : (c : Committing) (o : Result (Unit {0}) Trouble) → c.set ≡ before.set → c.book ≡ before.book → c.outs ≡ before.outs → c.stage ≡ stage_when before.set.desc.nodes before.stage o → c ≡ moved o
      whole c o s b t g = ap (λ (x : CommitSet). let y : Committing = record { set = x; stage = c.stage; book = c.book; outs = c.outs } in y) s
          ∙ ap (λ (x : CommitStage). let y : Committing = record { set = before.set; stage = x; book = c.book; outs = c.outs } in y) g
          ∙ ap (λ (x : Book). let y : Committing = record { set = before.set; stage = stage_when before.set.desc.nodes before.stage o; book = x; outs = c.outs } in y) b
          ∙ ap (λ (x : List Claim). let y : Committing = record { set = before.set; stage = stage_when before.set.desc.nodes before.stage o; book = before.book; outs = x } in y) t

      by : (o : Result (Unit {0}) Trouble) (r : Result Progress Memory) → MakesChange {T = Unit {0}} before.set next old new o → IsAnswer before.set.desc.nodes before.set.desc.which before.stage o r → TakesStep before (moved o) old new r
      by (Ok v) r x same = subst (λ (z : Result Progress Memory). TakesStep before (moved (Ok v)) old new z) (sym same) (done_taken v x)
      by (Err error.Memory) (Err e) x same = memory_taken e x
      by (Err error.Memory) (Ok p) x same = absurd (cc same)
      by (Err (error.Fault node count)) r x same = subst (λ (z : Result Progress Memory). TakesStep before (moved (Err (error.Fault node count))) old new z) (sym same) (fault_taken node count x)
      by (Err (error.Full node used capacity)) r x same = subst (λ (z : Result Progress Memory). TakesStep before (moved (Err (error.Full node used capacity))) old new z) (sym same) (full_taken node used capacity x)

-- where nothing is left to do
pub none_taken : (before : Committing) (states : ℕ → DeviceState) → change_at before.stage ≡ None → TakesStep before before states states (Ok progress.Over)
none_taken before states none = record {
  set = refl;
  book = refl;
  outs = refl;
  memory = tt;
  one = record { place = 0; elsewhere = λ q other. refl; here = inl ([], record { tells = refl; capacity = refl; others = λ q other. refl }) };
  cause = λ place. refl;
  fits = λ not_refused place name at count w passes. absurd (let next = w.next in cc (next, none));
  left = (over before.stage none, over before.stage none);
  tells = λ p. refl;
  safe = λ s m d told of show stands holds. (stands, holds);
}
  where
    over : (at : CommitStage) → change_at at ≡ None → at ≡ stage.Over
    over stage.Pieces is = absurd (cc is)
    over (stage.Record node) is = absurd (cc is)
    over (stage.RecordSync node) is = absurd (cc is)
    over (stage.Whole node) is = absurd (cc is)
    over (stage.WholeSync node) is = absurd (cc is)
    over (stage.Sealed node) is = absurd (cc is)
    over (stage.SealedSync node) is = absurd (cc is)
    over stage.Over is = refl
