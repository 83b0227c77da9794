-- The moves of the encoder, over the devices.
use Rattle.std.proofs.Common.{◌≡◌, ◌≢◌, ◌⊎◌, inl, inr, ℕ, ◌+◌, ◌<◌, Bool, true, false, List, Option, Some, refl, sym, ap, ◌∙◌, subst, slice_get, arith}
use Rattle.std.proofs.lemmas.Bool.{cases_eq}
use Rattle.std.proofs.lemmas.Option.{slice_get_within, get_or_from_slice_get}
use Rattle.std.proofs.lemmas.List.FromFn.{length-range_with_len, get_or-range_with_len}
use Rattle.scr_base.specs.Sets.{numbers_below}
use Rattle.scr_base.specs.declared.content.Step.{Step}
use Rattle.node_device.specs.File.{File, IsAtRest}
use Rattle.gate_outcomes.specs.Gates.{StaysShut, StaysWhole}
use Rattle.gate_outcomes.proofs.Stays.{synced_shut, synced_whole, rest_whole}
use Rattle.node_device.specs.DeviceState.{DeviceState, ChangesOnly}
use Rattle.node_device.specs.Rack.{OnlyAt}
use Rattle.member_store.specs.Names.{record_name, IsPlace}
use Rattle.member_store.specs.Members.{member_body}
use Rattle.ckpt_model.specs.declared.event.Event.{Event}
use Rattle.ckpt_model.specs.Machine.{Machine}
use Rattle.site_state.specs.declared.cache.Manifest.{Manifest}
use Rattle.site_state.specs.declared.run_state.RunState.{RunState}
use Rattle.site_state.specs.declared.run_state.RunStage.{RunStage}
use Rattle.site_state.specs.declared.run_state.RunStage.TheVariants as stage
use Rattle.site_state.specs.declared.run_state.SaveStep.{SaveStep}
use Rattle.site_state.specs.Shown.{Contents, running, setup_of}
use Rattle.site_calls.specs.Calls.{Synced}
use Rattle.site_core.specs.Stored.{Cells, cells_of, contents_of, IsKnown, IsWell, FilesHold, RecordIs}
use Rattle.site_core.specs.Left.{LeavesSaved, is_filling_at, is_sealing_work}
use Rattle.site_core.specs.Holds.{Leads, IsSaving, SavesAt, IsSaved, RecordAt, is_written_at, is_whole_at, is_sealed_at, is_pending_at}
use Rattle.site_core.proofs.Told.{leads_up}
use Rattle.site_core.proofs.Puts.{file_changes, rest_stays}
use Rattle.site_state.proofs.Shapes.{few_nodes}
use Rattle.site_core.proofs.RecordFiles.{record_holds, contents_same, alike_cells, synced_rest, node_small}
use Rattle.site_core.proofs.Frames.{is_place}
use Rattle.site_core.proofs.LeftFiles.{gate_opens, sync_partly}
use Rattle.site_core.proofs.Names.{records-same}

-- each node is at the place of its number
pub place_of_node : (c : RunState) (node p : ℕ) → IsWell c → slice_get c.places node ≡ Some p → (p ≡ node) × (node < c.shape.nodes)
place_of_node c node p w home =
    let at : slice_get (numbers_below c.shape.nodes) node ≡ Some p = subst (λ (ps : List ℕ). slice_get ps node ≡ Some p) w.places home in
    let lt : node < c.shape.nodes = omega (arith, slice_get_within (numbers_below c.shape.nodes) node p at, length-range_with_len 0 c.shape.nodes) in
    (sym (get_or_from_slice_get (numbers_below c.shape.nodes) node p 0 at) ∙ get_or-range_with_len 0 c.shape.nodes node 0 lt ∙ (let e : 0 + node ≡ node = omega arith in e), lt)

-- the dataset that is being saved is one that the run knows
pub saved_known : (w : SaveStep) (n : ℕ) (c : RunState) (m : Manifest) → IsSaved w n c m → IsKnown c m
saved_known w n c m (inl opened) = inl opened
saved_known w n c m (inr s) = inr (s.1.1, s.1.0, s.1.2, s.1.3)

-- ## What the records are after a change

-- how the records of the other nodes are, stays
pub record StaysElsewhere (w v : SaveStep) (n k : ℕ) (nodes : ℕ) : Type 0 where
  pub written : (i : ℕ) → i < nodes → i ≢ n → is_written_at v k i ≡ is_written_at w n i
  pub whole : (i : ℕ) → i < nodes → i ≢ n → is_whole_at v k i ≡ is_whole_at w n i
  pub sealed : (i : ℕ) → i < nodes → i ≢ n → is_sealed_at v k i ≡ is_sealed_at w n i
  pub pending : (i : ℕ) → i < nodes → i ≢ n → is_pending_at v k i ≡ false → is_pending_at w n i ≡ false
  pub fills : (i : ℕ) → is_filling_at v k i ≡ false → is_filling_at w n i ≡ false
  pub sealing : is_sealing_work v ≡ is_sealing_work w

-- what a stop leaves of the record that was changed
pub record LeavesRecord (v : SaveStep) (opened : Option Manifest) (m : Manifest) (f : File) (body : List ℕ) : Type 0 where
  pub unsealed : opened ≡ Some m → StaysShut f 1
  pub whole : is_sealing_work v ≡ true → StaysWhole f body

-- a record was written, or a gate of it turned, done or refused
module _ (w v : SaveStep) (n : ℕ) (c : RunState) (m : Manifest) (states after : ℕ → DeviceState) (well : IsWell c) (place : ℕ) (home : slice_get c.places n ≡ Some place) (h : LeavesSaved w n c.places c.opened m states)
    (done : OnlyAt place (λ a b. ChangesOnly (record_name m.desc.which n) a b) states after) (fills : (i : ℕ) → is_filling_at v n i ≡ false → is_filling_at w n i ≡ false) (sealing : is_sealing_work v ≡ is_sealing_work w)
    (left : LeavesRecord v c.opened m ((after place).file (record_name m.desc.which n)) (member_body m.desc n m.files)) where
  node_at : (i p : ℕ) → slice_get c.places i ≡ Some p → i ≢ n → after p ≡ states p
  node_at i p at other = done.others p (λ same. other (sym (place_of_node c i p well at).0 ∙ same ∙ (place_of_node c n place well home).0))

  here_is : (i p : ℕ) → slice_get c.places i ≡ Some p → i ≡ n → p ≡ place
  here_is i p at same = (place_of_node c i p well at).0 ∙ same ∙ sym (place_of_node c n place well home).0

  node_is : (i p : ℕ) → slice_get c.places i ≡ Some p → p ≡ place → i ≡ n
  node_is i p at is = sym (place_of_node c i p well at).0 ∙ is ∙ (place_of_node c n place well home).0

  pub put_leaves : LeavesSaved v n c.places c.opened m after
  put_leaves = record {
    elsewhere = λ p node low at off. rest_stays place (record_name m.desc.which n) states after done p (record_name m.desc.which node) (λ is e. off (at_home node p is at e)) (h.elsewhere p node low at off);
    parts = λ i p q at calm other. rest_stays place (record_name m.desc.which n) states after done p q (λ is e. other (e ∙ ap (λ (k : ℕ). record_name m.desc.which k) (sym (node_is i p at is)))) (h.parts i p q at (fills i calm) other);
    unsealed = λ calm i p at. shut i p at calm (cases_eq i n);
    whole = λ calm i p at. whole i p at calm (cases_eq i n);
  } where
    at_home : (node p : ℕ) → p ≡ place → IsPlace m.desc.which node → record_name m.desc.which node ≡ record_name m.desc.which n → slice_get c.places node ≡ Some p
    at_home node p is at e =
        let same : node ≡ n = (records-same m.desc.which m.desc.which node n at (is_place m.desc n (node_small c n place well home)) e).node_is in
        ap (λ (k : ℕ). slice_get c.places k) same ∙ home ∙ ap Some (sym is)

    shut : (i p : ℕ) → slice_get c.places i ≡ Some p → c.opened ≡ Some m → (i ≡ n) ⊎ (i ≢ n) → StaysShut ((after p).file (record_name m.desc.which i)) 1
    shut i p at calm (inl same) = subst (λ (j : ℕ). StaysShut ((after p).file (record_name m.desc.which j)) 1) (sym same) (subst (λ (x : ℕ). StaysShut ((after x).file (record_name m.desc.which n)) 1) (sym (here_is i p at same)) (left.unsealed calm))
    shut i p at calm (inr other) = subst (λ (d : DeviceState). StaysShut (d.file (record_name m.desc.which i)) 1) (sym (node_at i p at other)) (h.unsealed calm i p at)

    whole : (i p : ℕ) → slice_get c.places i ≡ Some p → is_sealing_work v ≡ true → (i ≡ n) ⊎ (i ≢ n) → StaysWhole ((after p).file (record_name m.desc.which i)) (member_body m.desc i m.files)
    whole i p at calm (inl same) = subst (λ (j : ℕ). StaysWhole ((after p).file (record_name m.desc.which j)) (member_body m.desc j m.files)) (sym same) (subst (λ (x : ℕ). StaysWhole ((after x).file (record_name m.desc.which n)) (member_body m.desc n m.files)) (sym (here_is i p at same)) (left.whole calm))
    whole i p at calm (inr other) = subst (λ (d : DeviceState). StaysWhole (d.file (record_name m.desc.which i)) (member_body m.desc i m.files)) (sym (node_at i p at other)) (h.whole (sym sealing ∙ calm) i p at)

module _ (w v : SaveStep) (n : ℕ) (c : RunState) (m : Manifest) (states after : ℕ → DeviceState) (well : IsWell c) (place : ℕ) (home : slice_get c.places n ≡ Some place) (h : SavesAt w n c m states)
    (done : OnlyAt place (λ a b. ChangesOnly (record_name m.desc.which n) a b) states after)
    (stays : StaysElsewhere w v n n c.shape.nodes)
    (new : RecordAt (is_written_at v n n) (cells_of after place (record_name m.desc.which n)) m n (is_whole_at v n n) (is_sealed_at v n n))
    (wrote : is_written_at v n n ≡ true) (pends : is_pending_at v n n ≡ true)
    (left : LeavesRecord v c.opened m ((after place).file (record_name m.desc.which n)) (member_body m.desc n m.files)) where
  away : (i p : ℕ) → slice_get c.places i ≡ Some p → i ≢ n → p ≢ place
  away i p at other same = other (sym (place_of_node c i p well at).0 ∙ same ∙ (place_of_node c n place well home).0)

  same_states : (i p : ℕ) → slice_get c.places i ≡ Some p → i ≢ n → after p ≡ states p
  same_states i p at other = done.others p (away i p at other)

  put_saves : SavesAt v n c m after
  put_saves = record {
    round = h.round;
    below = h.below;
    open_yet = λ early. h.open_yet (sym stays.sealing ∙ early);
    apart = h.apart;
    one = h.one;
    records = λ i p at. at_record i p at (cases_eq i n);
    clean = λ i p at written. at_clean i p at written (cases_eq i n);
    quiet = λ i p q at calm. at_quiet i p q at calm (cases_eq i n);
    leaves = put_leaves w v n c m states after well place home h.leaves done stays.fills stays.sealing left;
  } where
    at_record : (i p : ℕ) → slice_get c.places i ≡ Some p → (i ≡ n) ⊎ (i ≢ n) → RecordAt (is_written_at v n i) (((after p).file (record_name m.desc.which i)).now) m i (is_whole_at v n i) (is_sealed_at v n i)
    at_record i p at (inl same) =
        let here : p ≡ place = (place_of_node c i p well at).0 ∙ same ∙ sym (place_of_node c n place well home).0 in
        subst (λ (j : ℕ). RecordAt (is_written_at v n j) (((after p).file (record_name m.desc.which j)).now) m j (is_whole_at v n j) (is_sealed_at v n j)) (sym same)
        (subst (λ (x : ℕ). RecordAt (is_written_at v n n) (((after x).file (record_name m.desc.which n)).now) m n (is_whole_at v n n) (is_sealed_at v n n)) (sym here) new)
    at_record i p at (inr other) =
        let lt = (place_of_node c i p well at).1 in
        subst (λ (b : Bool). RecordAt b (((after p).file (record_name m.desc.which i)).now) m i (is_whole_at v n i) (is_sealed_at v n i)) (sym (stays.written i lt other))
        (subst (λ (b : Bool). RecordAt (is_written_at w n i) (((after p).file (record_name m.desc.which i)).now) m i b (is_sealed_at v n i)) (sym (stays.whole i lt other))
        (subst (λ (b : Bool). RecordAt (is_written_at w n i) (((after p).file (record_name m.desc.which i)).now) m i (is_whole_at w n i) b) (sym (stays.sealed i lt other))
        (subst (λ (d : DeviceState). RecordAt (is_written_at w n i) ((d.file (record_name m.desc.which i)).now) m i (is_whole_at w n i) (is_sealed_at w n i)) (sym (same_states i p at other)) (h.records i p at))))

    at_clean : (i p : ℕ) → slice_get c.places i ≡ Some p → is_written_at v n i ≡ false → (i ≡ n) ⊎ (i ≢ n) → IsAtRest ((after p).file (record_name m.desc.which i))
    at_clean i p at written (inl same) = absurd (cc (ap (λ (j : ℕ). is_written_at v n j) same, wrote, written))
    at_clean i p at written (inr other) = subst (λ (d : DeviceState). IsAtRest (d.file (record_name m.desc.which i))) (sym (same_states i p at other)) (h.clean i p at (sym (stays.written i (place_of_node c i p well at).1 other) ∙ written))

    at_quiet : (i p : ℕ) (q : List ℕ) → slice_get c.places i ≡ Some p → is_pending_at v n i ≡ false → (i ≡ n) ⊎ (i ≢ n) → IsAtRest ((after p).file q)
    at_quiet i p q at calm (inl same) = absurd (cc (ap (λ (j : ℕ). is_pending_at v n j) same, pends, calm))
    at_quiet i p q at calm (inr other) = subst (λ (d : DeviceState). IsAtRest (d.file q)) (sym (same_states i p at other)) (h.quiet i p q at (stays.pending i (place_of_node c i p well at).1 other calm))

-- each record reads as whole, and nothing is pending
pub record AreAllWhole (v : SaveStep) (k : ℕ) (nodes : ℕ) : Type 0 where
  pub written : (i : ℕ) → i < nodes → is_written_at v k i ≡ true
  pub opened : (i : ℕ) → i < nodes → is_whole_at v k i ≡ true
  pub calm : (i : ℕ) → i < nodes → is_pending_at v k i ≡ false

-- after a sync of one node, the records are as before
pub record StaysAll (w v : SaveStep) (n k : ℕ) (nodes : ℕ) : Type 0 where
  pub written : (i : ℕ) → i < nodes → is_written_at v k i ≡ is_written_at w n i
  pub whole : (i : ℕ) → i < nodes → is_whole_at v k i ≡ is_whole_at w n i
  pub sealed : (i : ℕ) → i < nodes → is_sealed_at v k i ≡ is_sealed_at w n i
  pub pending : (i : ℕ) → i < nodes → is_pending_at v k i ≡ false → (i ≡ n) ⊎ (is_pending_at w n i ≡ false)
  pub fills : (i : ℕ) → i < nodes → is_filling_at v k i ≡ false → (i ≡ n) ⊎ (is_filling_at w n i ≡ false)
  pub shut : is_sealing_work v ≡ false → is_sealing_work w ≡ false
  pub whole_then : is_sealing_work v ≡ true → (is_sealing_work w ≡ true) ⊎ AreAllWhole v k nodes
  pub below : k < nodes

sync_saves : (w v : SaveStep) (n k : ℕ) (c : RunState) (m : Manifest) (states after : ℕ → DeviceState) → IsWell c → (place : ℕ) → slice_get c.places n ≡ Some place → SavesAt w n c m states → OnlyAt place Synced states after → StaysAll w v n k c.shape.nodes → SavesAt v k c m after
sync_saves w v n k c m states after well place home h done stays = record {
  round = h.round;
  below = stays.below;
  open_yet = λ early. h.open_yet (stays.shut early);
  apart = h.apart;
  one = h.one;
  records = at_record;
  clean = λ i p at written. synced_rest place states after done p (record_name m.desc.which i) (h.clean i p at (sym (stays.written i (place_of_node c i p well at).1) ∙ written));
  quiet = λ i p q at calm. at_quiet i p q at (stays.pending i (place_of_node c i p well at).1 calm);
  leaves = record {
    elsewhere = λ p node low at off. synced_rest place states after done p (record_name m.desc.which node) (h.leaves.elsewhere p node low at off);
    parts = λ i p q at calm other. at_parts i p q at other (stays.fills i (place_of_node c i p well at).1 calm);
    unsealed = λ calm i p at. synced_shut ((states p).file (record_name m.desc.which i)) ((after p).file (record_name m.desc.which i)) 1 (sync_partly place states after done p (record_name m.desc.which i)) (h.leaves.unsealed calm i p at);
    whole = λ calm i p at. at_whole i p at (stays.whole_then calm);
  };
} where
  at_record : (i p : ℕ) → slice_get c.places i ≡ Some p → RecordAt (is_written_at v k i) (((after p).file (record_name m.desc.which i)).now) m i (is_whole_at v k i) (is_sealed_at v k i)
  at_record i p at =
      let lt = (place_of_node c i p well at).1 in
      subst (λ (b : Bool). RecordAt b (((after p).file (record_name m.desc.which i)).now) m i (is_whole_at v k i) (is_sealed_at v k i)) (sym (stays.written i lt))
      (subst (λ (b : Bool). RecordAt (is_written_at w n i) (((after p).file (record_name m.desc.which i)).now) m i b (is_sealed_at v k i)) (sym (stays.whole i lt))
      (subst (λ (b : Bool). RecordAt (is_written_at w n i) (((after p).file (record_name m.desc.which i)).now) m i (is_whole_at w n i) b) (sym (stays.sealed i lt))
      (subst (λ (cells : Cells). RecordAt (is_written_at w n i) (cells p (record_name m.desc.which i)) m i (is_whole_at w n i) (is_sealed_at w n i)) (sym (alike_cells place states after done)) (h.records i p at))))

  at_parts : (i p : ℕ) (q : List ℕ) → slice_get c.places i ≡ Some p → q ≢ record_name m.desc.which i → (i ≡ n) ⊎ (is_filling_at w n i ≡ false) → IsAtRest ((after p).file q)
  at_parts i p q at other (inl same) = subst (λ (x : ℕ). IsAtRest ((after x).file q)) (sym ((place_of_node c i p well at).0 ∙ same ∙ sym (place_of_node c n place well home).0)) (done.here.at_rest q)
  at_parts i p q at other (inr calm) = synced_rest place states after done p q (h.leaves.parts i p q at calm other)

  at_quiet : (i p : ℕ) (q : List ℕ) → slice_get c.places i ≡ Some p → (i ≡ n) ⊎ (is_pending_at w n i ≡ false) → IsAtRest ((after p).file q)
  at_quiet i p q at (inl same) = subst (λ (x : ℕ). IsAtRest ((after x).file q)) (sym ((place_of_node c i p well at).0 ∙ same ∙ sym (place_of_node c n place well home).0)) (done.here.at_rest q)
  at_quiet i p q at (inr calm) = synced_rest place states after done p q (h.quiet i p q at calm)

  at_whole : (i p : ℕ) → slice_get c.places i ≡ Some p → (is_sealing_work w ≡ true) ⊎ AreAllWhole v k c.shape.nodes → StaysWhole ((after p).file (record_name m.desc.which i)) (member_body m.desc i m.files)
  at_whole i p at (inl was) = synced_whole ((states p).file (record_name m.desc.which i)) ((after p).file (record_name m.desc.which i)) (member_body m.desc i m.files) (sync_partly place states after done p (record_name m.desc.which i)) (h.leaves.whole was i p at)
  at_whole i p at (inr all) =
      let lt = (place_of_node c i p well at).1 in
      let is : RecordIs (((after p).file (record_name m.desc.which i)).now) m i true (is_sealed_at v k i) =
      subst (λ (b : Bool). RecordIs (((after p).file (record_name m.desc.which i)).now) m i b (is_sealed_at v k i)) (all.opened i lt)
      (subst (λ (b : Bool). RecordAt b (((after p).file (record_name m.desc.which i)).now) m i (is_whole_at v k i) (is_sealed_at v k i)) (all.written i lt) (at_record i p at)) in
      rest_whole ((after p).file (record_name m.desc.which i)) (member_body m.desc i m.files) (at_quiet i p (record_name m.desc.which i) at (stays.pending i lt (all.calm i lt)))
      (gate_opens (((after p).file (record_name m.desc.which i)).now) 0 is.whole_is) is.body

-- ## The run after a move of the encoder

-- the run at another stage
abbrev pub staged : RunState → RunStage → RunState
staged c s = record c { stage = s }

staged_well : (c : RunState) (s : RunStage) → IsWell c → IsWell (staged c s)
staged_well c s w = record { single = w.single; places = w.places; rise = w.rise; below = w.below; sets = w.sets; opened_run = w.opened_run; opened_below = w.opened_below; opened_last = w.opened_last; output = w.output; ranks = w.ranks }

staged_files : (c : RunState) (s : RunStage) (cells : Cells) → FilesHold c cells → FilesHold (staged c s) cells
staged_files c s cells f = record { stored = f.stored; halted = f.halted; unindexed = f.unindexed; files = f.files; records = f.records; others = f.others; future = f.future; fresh = f.fresh }

staged_saves : (w : SaveStep) (n : ℕ) (c : RunState) (s : RunStage) (m : Manifest) (states : ℕ → DeviceState) → SavesAt w n c m states → SavesAt w n (staged c s) m states
staged_saves w n c s m states h = record {
  round = record { complete = h.round.complete; valid = h.round.valid; first = h.round.first; clear = h.round.clear; all = h.round.all };
  below = h.below;
  open_yet = h.open_yet;
  apart = h.apart;
  one = h.one;
  records = h.records;
  clean = h.clean;
  quiet = h.quiet;
  leaves = h.leaves;
}

pub saving_leads : (first : Machine) (c : RunState) (programs : List (List Step)) (states : ℕ → DeviceState) (events : List Event) (w : SaveStep) (n : ℕ) (m : Manifest) → IsSaving first c programs states events w n m → Leads first (staged c (stage.Saving w n)) programs states events
saving_leads first c programs states events w n m h =
    let s = stage.Saving w n in
    leads_up first (staged c s) programs states events refl (record {
      run = h.run;
      so_far = h.so_far;
      well = staged_well c s h.well;
      files = staged_files c s (cells_of states) h.files;
      quiet = h.quiet;
      unrecorded = tt;
      working = (m, h.saved, staged_saves w n c s m states h.saves, h.mended);
    })

-- a record of the dataset was written, or a gate of it turned
pub save_put : (first : Machine) (c : RunState) (programs : List (List Step)) (states after : ℕ → DeviceState) (events : List Event) (w v : SaveStep) (n : ℕ) (m : Manifest) (place : ℕ) → slice_get c.places n ≡ Some place → IsSaving first c programs states events w n m
    → OnlyAt place (λ a b. ChangesOnly (record_name m.desc.which n) a b) states after → StaysElsewhere w v n n c.shape.nodes
    → RecordAt (is_written_at v n n) (cells_of after place (record_name m.desc.which n)) m n (is_whole_at v n n) (is_sealed_at v n n) → is_written_at v n n ≡ true → is_pending_at v n n ≡ true
    → LeavesRecord v c.opened m ((after place).file (record_name m.desc.which n)) (member_body m.desc n m.files)
    → IsSaving first c programs after events v n m
save_put first c programs states after events w v n m place home h done stays new wrote pends left =
    let change = file_changes place (record_name m.desc.which n) states after done in
    let at = place_of_node c n place h.well home in
    let low : place < 32 = omega (arith, at.0, at.1, few_nodes c.shape) in
    let known = saved_known w n c m h.saved in
    let same = contents_same c m n place (cells_of states) (cells_of after) h.well h.files known home h.saves.apart low change in
    record {
      run = subst (λ (b : Contents). Rattle.ckpt_model.specs.Runs.RunsTo (setup_of c) first events (running b c)) (sym same) h.run;
      so_far = h.so_far;
      well = h.well;
      files = record_holds c m n place (cells_of states) (cells_of after) h.well h.files known home h.saves.apart low change;
      quiet = λ p q lw calm. rest_stays place (record_name m.desc.which n) states after done p q (λ here is. calm (omega (arith, here, at.0, at.1)) (m, h.saved, inr (n, omega (arith, at.1, few_nodes c.shape), is))) (h.quiet p q lw calm);
      saved = h.saved;
      saves = put_saves w v n c m states after h.well place home h.saves done stays new wrote pends left;
      mended = h.mended;
    }

-- a node was made stable
pub save_sync : (first : Machine) (c : RunState) (programs : List (List Step)) (states after : ℕ → DeviceState) (events : List Event) (w v : SaveStep) (n k : ℕ) (m : Manifest) (place : ℕ) → slice_get c.places n ≡ Some place → IsSaving first c programs states events w n m
    → OnlyAt place Synced states after → StaysAll w v n k c.shape.nodes → IsSaving first c programs after events v k m
save_sync first c programs states after events w v n k m place home h done stays =
    let same = alike_cells place states after done in
    record {
      run = subst (λ (cells : Cells). Rattle.ckpt_model.specs.Runs.RunsTo (setup_of c) first events (running (contents_of cells c) c)) (sym same) h.run;
      so_far = h.so_far;
      well = h.well;
      files = subst (λ (cells : Cells). FilesHold c cells) (sym same) h.files;
      quiet = λ p q lw calm. synced_rest place states after done p q (h.quiet p q lw calm);
      saved = h.saved;
      saves = sync_saves w v n k c m states after h.well place home h.saves done stays;
      mended = h.mended;
    }
