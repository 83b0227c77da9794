-- The moves of the evictor, over the devices.
use Rattle.std.proofs.Common.{◌≡◌, ◌≢◌, ◌⊎◌, inl, inr, ℕ, ◌+◌, ◌-◌, ◌/◌, ◌<◌, ◌≤◌, ◌^◌, Bool, true, false, List, Option, None, Some, refl, sym, ap, ◌∙◌, subst, slice_get, length, arith}
use Rattle.std.specs.Prelude.{nat_lt, nat_le, if◌then◌else◌, option_map}
use Rattle.std.specs.List.{list_any}
use Rattle.std.proofs.lemmas.Bool.{cases_eq}
use Rattle.std.proofs.lemmas.Bool.Decides.{nat_tests}
use Rattle.scr_base.specs.declared.shape.DataId.{DataId}
use Rattle.scr_base.specs.declared.shape.Shape.{Shape}
use Rattle.scr_base.specs.declared.answers.Refusal.{Refusal}
use Rattle.scr_base.specs.declared.answers.Reply.TheVariants as reply
use Rattle.scr_base.specs.declared.content.Step.{Step}
use Rattle.scr_base.specs.declared.content.Step.TheVariants as step
use Rattle.node_device.specs.File.{File as OneFile, IsAtRest}
use Rattle.node_device.specs.DeviceState.{DeviceState, IsSound}
use Rattle.node_device.specs.Rack.{OnlyAt}
use Rattle.member_store.specs.Calls.{RemovesAtMost, HasNoFile}
use Rattle.member_store.specs.Names.{record_name, IsNameOf, IsPlace}
use Rattle.gate_outcomes.specs.Gates.{StaysShut}
use Rattle.gate_outcomes.proofs.Stays.{rest_shut, body_shut}
use Rattle.ckpt_model.specs.declared.event.Event.{Event}
use Rattle.ckpt_model.specs.Answers.{is_fault}
use Rattle.ckpt_model.specs.Machine.{Machine, Kept}
use Rattle.ckpt_model.specs.Runs.{RunsTo}
use Rattle.site_state.specs.declared.cache.Cached.{Cached}
use Rattle.site_state.specs.declared.cache.Manifest.{Manifest}
use Rattle.site_state.specs.declared.run_state.RunState.{RunState}
use Rattle.site_state.specs.declared.run_state.DropStep.{DropStep}
use Rattle.site_state.specs.declared.run_state.DropStep.TheVariants as drop
use Rattle.site_state.specs.declared.run_state.RunStage.{RunStage}
use Rattle.site_state.specs.declared.run_state.RunStage.TheVariants as stage
use Rattle.site_state.specs.declared.run_state.SaveStep.{SaveStep}
use Rattle.site_state.specs.declared.run_state.SaveStep.TheVariants as work
use Rattle.site_calls.specs.Calls.{Unrecorded, KeptAlike, Synced, FileDropped, Tells}
use Rattle.site_state.specs.Choosing.{seals, is_being_sealed}
use Rattle.site_state.specs.Cores.{dropping_core, next_drop_core}
use Rattle.site_calls.specs.Removals.{Leaving, leaving}
use Rattle.site_state.specs.Shown.{running, setup_of, set_of, mends}
use Rattle.site_core.specs.Stored.{Cells, cells_of, contents_of, IsAmong, IsKnown, IsWell, FilesHold, IsUnindexed}
use Rattle.site_core.specs.Holds.{HoldsAt, ToldAt, ClosesAt, Leads, IsSoFar, IsPending, NoRecordYet, WorkIs, IsSaving, IsSaved, IsOfDataset, IsLeavingAt, IsDropping, IsDropped, RemovalIs, is_gone_at}
use Rattle.site_state.specs.Asked.{IsDropRound, IsDropCause, IsDropFor}
use Rattle.site_core.proofs.Told.{is_up, led}
use Rattle.site_state.proofs.Shapes.{few_nodes}
use Rattle.site_core.proofs.Puts.{kept_other}
use Rattle.site_core.proofs.Refusals.{cells_alike, refused_rest, alike_rest}
use Rattle.site_core.specs.Left.{NoneSealed}
use Rattle.site_core.specs.Holds.{RecordAt}
use Rattle.site_core.proofs.Names.{records-same}
use Rattle.site_core.proofs.Frames.{is_place, file_no_record, div_small}
use Rattle.site_core.proofs.SaveMoves.{no_file_shut}
use Rattle.site_core.proofs.LeftFiles.{none_shut, none_sealed, none_sealed_on, none_sealed_gone, alike_partly, sync_partly}
use Rattle.site_core.proofs.RecordFiles.{alike_cells, synced_rest, node_small}
use Rattle.site_core.proofs.Saving.{place_of_node}
use Rattle.site_core.proofs.SaveEnds.{none-passes, none-if}
use Rattle.site_core.proofs.Halts.{halt_same, unindexed_same}
use Rattle.site_core.proofs.Losses.{Loses, loses, others_rest, kept_stand, records_kept, others_gone, future_gone, prefix_same, stored_same, kept_same, file_of}

-- ## A core at another stage of the removal

abbrev pub going : RunState → RunStage → Leaving → RunState
going c s r = record c { stage = s; removal = r }

going_well : (c : RunState) (s : RunStage) (r : Leaving) → IsWell c → IsWell (going c s r)
going_well c s r w = record { single = w.single; places = w.places; rise = w.rise; below = w.below; sets = w.sets; opened_run = w.opened_run; opened_below = w.opened_below; opened_last = w.opened_last; output = w.output; ranks = w.ranks }

going_for : (c : RunState) (s : RunStage) (r : Leaving) → IsDropFor c → IsDropFor (going c s r)
going_for c s r d = record { complete = d.complete; valid = d.valid; first = d.first; clear = d.clear; why = d.why }

not_both : {X : Type 0} (b : Bool) → b ≡ true → b ≡ false → X
not_both b t f = absurd (cc (t, f))

lt-self : (n : ℕ) → nat_lt n n ≡ false
lt-self n = grind (arith, nat_tests)

lt-zero : (n : ℕ) → nat_lt n 0 ≡ false
lt-zero n = grind (arith, nat_tests)

some_same : {X : Type 0} (x y : X) → Some x ≡ Some y → x ≡ y
some_same x y e = cc

-- a run whose open dataset is on its way out has told the events of a run so far
pub dropping_at : (first : Machine) (c : RunState) (programs : List (List Step)) (states : ℕ → DeviceState) (events : List Event) (d : DropStep) (n : ℕ) → c.stage ≡ stage.Dropping d n → (leads : Leads first c programs states events) → IsDropping d n c states leads.state × IsSoFar c.places programs events
dropping_at first c programs states events d n at leads = (
  subst (λ (s : RunStage). HoldsAt s c states leads.state) at leads.holds,
  subst (λ (s : RunStage). ToldAt s c.places programs events) at leads.told,
)

pub dropped_at : (first : Machine) (c : RunState) (programs : List (List Step)) (states : ℕ → DeviceState) (events : List Event) → c.stage ≡ stage.Dropped → (leads : Leads first c programs states events) → IsDropped c states leads.state × IsSoFar c.places programs events
dropped_at first c programs states events at leads = (
  subst (λ (s : RunStage). HoldsAt s c states leads.state) at leads.holds,
  subst (λ (s : RunStage). ToldAt s c.places programs events) at leads.told,
)

-- ## The beginning

some_nodes : (shape : Shape) → 0 < shape.nodes
some_nodes shape = grind (arith, nat_tests, shape.limits)

-- what holds of the files before the first is removed
record IsWhole (c : RunState) (m : Manifest) (refusal : Option Refusal) (states : ℕ → DeviceState) : Type 0 where
  pub opened : c.opened ≡ Some m
  pub complete : Rattle.round_core.specs.Seats.is_complete c.ranks ≡ true
  pub valid : Bool
  pub first : Rattle.round_core.specs.Seats.first_call c.ranks ≡ Some (step.Complete valid)
  pub clear : Rattle.site_state.specs.Choosing.verdict_of c (step.Complete valid) ≡ None
  pub why : IsDropCause c refusal
  pub well : IsWell c
  pub files : FilesHold c (cells_of states)
  pub mended : list_any mends c.kept ≡ false
  pub sealed : list_any seals c.kept ≡ false
  pub unsealed : NoneSealed m.desc.which states
  pub quiet : (p : ℕ) (q : List ℕ) → p ≤ 32 → (p < c.shape.nodes → IsOfDataset m.desc.which q → ⊥) → IsAtRest ((states p).file q)

begins_by : (first : Machine) (c : RunState) (programs : List (List Step)) (states : ℕ → DeviceState) (events : List Event) (m : Manifest) (which : DataId) (refusal : Option Refusal) → which ≡ m.desc.which → IsWhole c m refusal states
    → RunsTo (setup_of c) first events (running (contents_of (cells_of states) c) c) → IsSoFar c.places programs events → Leads first (dropping_core c which refusal) programs states events
begins_by first c programs states events m which refusal is h run so_far =
    let bytes = contents_of (cells_of states) c in
    let d = dropping_core c which refusal in
    let now : Machine = running bytes c in
    record {
      state = running bytes c;
      run = run;
      holds = record {
        leaves = record {
          set = m;
          opened = h.opened;
          dataset = set_of (setup_of c) bytes m;
          is = ap (λ (o : Option Manifest). record now { open_dataset = option_map (set_of (setup_of c) bytes) o }) h.opened;
          round = record { complete = h.complete; valid = h.valid; first = h.first; clear = h.clear; why = h.why };
          well = record { single = h.well.single; places = h.well.places; rise = h.well.rise; below = h.well.below; sets = h.well.sets; opened_run = h.well.opened_run; opened_below = h.well.opened_below; opened_last = h.well.opened_last; output = h.well.output; ranks = h.well.ranks };
          stored = h.files.stored;
          halted = h.files.halted;
          unindexed = h.files.unindexed;
          files = λ x among. h.files.files x (inr among);
          records = λ i x at. h.files.records i x at (none-passes seals c.kept i x h.sealed at);
          others = h.files.others;
          future = h.files.future;
          mended = h.mended;
          sealed = h.sealed;
          unsealed = h.unsealed;
          removed = λ node p home gone. not_both (nat_lt node 0) gone (lt-zero node);
          quiet = λ p q low calm. h.quiet p q low (λ lt of. calm lt (lt-zero p) of);
        };
        below = some_nodes c.shape;
        which_is = is;
        work = (refl, tt);
      };
      told = so_far;
      closes = tt;
    }

-- the ranks ask for the removal
pub dropping_begins : (first : Machine) (c : RunState) (programs : List (List Step)) (states : ℕ → DeviceState) (events : List Event) (which : DataId) → c.stage ≡ stage.Serving → IsDropRound c which → Leads first c programs states events
    → Leads first (dropping_core c which None) programs states events
dropping_begins first c programs states events which at round leads =
    let h = led first c programs states events (ap is_up at) leads in
    let working : WorkIs stage.Serving c states = subst (λ (s : RunStage). WorkIs s c states) at h.working in
    let quiet = subst (λ (s : RunStage). (p : ℕ) (q : List ℕ) → p ≤ 32 → (p < c.shape.nodes → IsPending s c q → ⊥) → IsAtRest ((states p).file q)) at h.quiet in
    let none : NoRecordYet stage.Serving c (cells_of states) = subst (λ (s : RunStage). NoRecordYet s c (cells_of states)) at h.unrecorded in
    begins_by first c programs states events round.set which None round.which_is (record {
      opened = round.opened;
      complete = round.complete;
      valid = round.valid;
      first = round.first;
      clear = round.clear;
      why = round.some;
      well = h.well;
      files = h.files;
      mended = working.0;
      sealed = working.1;
      unsealed = λ p node low at. rest_shut ((states p).file (record_name round.set.desc.which node)) 1 (quiet p (record_name round.set.desc.which node) (omega (arith, low)) (λ lt pending. no_record_file node at pending.0 pending.2))
          (none_shut (cells_of states p (record_name round.set.desc.which node)) 1 (none round.set round.opened p node low at));
      quiet = λ p q low calm. quiet p q low (λ lt pending. calm lt (of_set pending.0 pending.1 pending.2));
    }) h.run h.so_far where
      no_record_file : (node : ℕ) → IsPlace round.set.desc.which node → (x : Manifest) → Rattle.site_core.specs.Holds.IsFileOf c x (record_name round.set.desc.which node) → ⊥
      no_record_file node place x file =
          let of = is_place x.desc 0 (omega arith) in
          file_no_record x.desc.which round.set.desc.which c.shape.ranks file.0 file.1 node (record { id = of.id; run = of.run; rank_is = file.2; file = file.3 }) place (sym file.4)

      of_set : {q : List ℕ} (x : Manifest) → c.opened ≡ Some x → Rattle.site_core.specs.Holds.IsFileOf c x q → IsOfDataset round.set.desc.which q
      of_set {q} x opened file =
          let same : x ≡ round.set = some_same x round.set (sym opened ∙ round.opened) in
          (file.0 / c.shape.ranks, div_small file.0 c.shape.ranks file.2, subst (λ (name : List ℕ). IsNameOf round.set.desc.which (file.0 / c.shape.ranks) name) (sym (file.4 ∙ ap (λ (y : Manifest). Rattle.site_core.specs.Stored.file_name y.desc.which c.shape.ranks file.0 file.1) same)) (file_of round.set.desc.which c.shape.ranks file.0 file.1 file.2 file.3))

-- ## A device refuses the round while records are written

is_open_one : (w : SaveStep) (n : ℕ) (c : RunState) (m x : Manifest) → c.opened ≡ Some m → IsSaved w n c x → x ≡ m
is_open_one w n c m x opened (inl is) = some_same x m (sym is ∙ opened)
is_open_one w n c m x opened (inr s) = absurd (cc (opened, s.0))

carried : (first : Machine) (c : RunState) (programs : List (List Step)) (states after : ℕ → DeviceState) (events : List Event) (w : SaveStep) (n : ℕ) (m : Manifest) (refusal : Refusal) → c.opened ≡ Some m → is_fault (reply.Refused refusal) ≡ true
    → IsSaving first c programs states events w n m → cells_of after ≡ cells_of states → ((p : ℕ) (q : List ℕ) → (p ≡ n → q ≢ record_name m.desc.which n) → IsAtRest ((states p).file q) → IsAtRest ((after p).file q))
    → NoneSealed m.desc.which after → Leads first (dropping_core c m.desc.which (Some refusal)) programs after events
carried first c programs states after events w n m refusal opened fault h same rest none =
    begins_by first c programs after events m m.desc.which (Some refusal) refl (record {
      opened = opened;
      complete = h.saves.round.complete;
      valid = h.saves.round.valid;
      first = h.saves.round.first;
      clear = h.saves.round.clear;
      why = (fault, h.saves.round.all);
      well = h.well;
      files = subst (λ (cells : Cells). FilesHold c cells) (sym same) h.files;
      mended = h.mended;
      sealed = none-if seals c.kept (λ i x at. unsealed i x at (is_being_sealed x.mark) refl);
      unsealed = none;
      quiet = λ p q low calm. rest p q (λ here is. calm (omega (arith, here, h.saves.below)) (n, omega (arith, h.saves.below, few_nodes c.shape), inl is)) (h.quiet p q low (λ lt pending. calm lt (of_set q pending.0 pending.1 pending.2)));
    }) (subst (λ (cells : Cells). RunsTo (setup_of c) first events (running (contents_of cells c) c)) (sym same) h.run) h.so_far where
      unsealed : (i : ℕ) (x : Cached) → slice_get c.kept i ≡ Some x → (b : Bool) → is_being_sealed x.mark ≡ b → seals x ≡ false
      unsealed i x at false e = e
      unsealed i x at true e = absurd (kept_other c m x.manifest h.well opened (i, x, at, refl) (ap (λ (y : Manifest). y.desc.which) (h.saves.one i x at e)))

      of_set : (q : List ℕ) (x : Manifest) → IsSaved w n c x → Rattle.site_core.specs.Holds.IsFileOf c x q ⊎ ((node : ℕ) × (node < 2 ^ 8) × (q ≡ record_name x.desc.which node)) → IsOfDataset m.desc.which q
      of_set q x saved (inl file) =
          let one : x ≡ m = is_open_one w n c m x opened saved in
          (file.0 / c.shape.ranks, div_small file.0 c.shape.ranks file.2, subst (λ (name : List ℕ). IsNameOf m.desc.which (file.0 / c.shape.ranks) name) (sym (file.4 ∙ ap (λ (y : Manifest). Rattle.site_core.specs.Stored.file_name y.desc.which c.shape.ranks file.0 file.1) one)) (file_of m.desc.which c.shape.ranks file.0 file.1 file.2 file.3))
      of_set q x saved (inr is) =
          let one : x ≡ m = is_open_one w n c m x opened saved in
          (is.0, is.1, inl (is.2 ∙ ap (λ (y : Manifest). record_name y.desc.which is.0) one))

module _ (first : Machine) (c : RunState) (programs : List (List Step)) (states after : ℕ → DeviceState) (events : List Event) (n : ℕ) (m : Manifest) (place : ℕ) (home : slice_get c.places n ≡ Some place) (refusal : Refusal) (opened : c.opened ≡ Some m) (fault : is_fault (reply.Refused refusal) ≡ true) where
  -- a record's write was refused
  pub carried_write : IsSaving first c programs states events work.Record n m → OnlyAt place (Unrecorded (record_name m.desc.which n)) states after → Leads first (dropping_core c m.desc.which (Some refusal)) programs after events
  carried_write h done =
      carried first c programs states after events work.Record n m refusal opened fault h (cells_alike place states after done.here.refused.alike done.others)
      (λ p q other rest. refused_rest place states after (record_name m.desc.which n) (record { here = done.here.refused; others = done.others }) p q (λ is. other (is ∙ (place_of_node c n place h.well home).0)) rest)
      (λ p node low at. pick p node at (none_sealed work.Record n c m states opened h.files h.saves.leaves p node low at) (cases_eq p place) (cases_eq node n)) where
        name : ℕ → List ℕ
        name node = record_name m.desc.which node

        was : cells_of states place (name n) ≡ None
        was = subst (λ (b : Bool). RecordAt b (cells_of states place (name n)) m n false false) (lt-self n) (h.saves.records n place home)

        written : StaysShut ((after place).file (name n)) 1
        written = body_shut ((after place).file (name n)) 1 (omega arith) (done.here.shut (no_file_shut ((states place).file (name n)) was (h.saves.clean n place home (lt-self n))))

        pick : (p node : ℕ) → IsPlace m.desc.which node → StaysShut ((states p).file (name node)) 1 → (p ≡ place) ⊎ (p ≢ place) → (node ≡ n) ⊎ (node ≢ n) → StaysShut ((after p).file (name node)) 1
        pick p node at shut (inr away) _ = subst (λ (d : DeviceState). StaysShut (d.file (name node)) 1) (sym (done.others p away)) shut
        pick p node at shut (inl is) (inl same) = subst (λ (x : ℕ). StaysShut ((after x).file (name node)) 1) (sym is) (subst (λ (k : ℕ). StaysShut ((after place).file (name k)) 1) (sym same) written)
        pick p node at shut (inl is) (inr other) = subst (λ (x : ℕ). StaysShut ((after x).file (name node)) 1) (sym is)
            (subst (λ (f : OneFile). StaysShut f 1) (sym (done.here.only.others (name node) (λ e. other (records-same m.desc.which m.desc.which node n at (is_place m.desc n (node_small c n place h.well home)) e).node_is)))
            (subst (λ (x : ℕ). StaysShut ((states x).file (name node)) 1) is shut))

  -- its sync was
  pub carried_sync : IsSaving first c programs states events work.RecordSync n m → OnlyAt place KeptAlike states after → Leads first (dropping_core c m.desc.which (Some refusal)) programs after events
  carried_sync h done =
      carried first c programs states after events work.RecordSync n m refusal opened fault h (cells_alike place states after done.here.alike done.others) (λ p q other rest. alike_rest place states after done p q rest)
      (none_sealed_on m.desc.which states after (alike_partly place states after done) (none_sealed work.RecordSync n c m states opened h.files h.saves.leaves))

-- ## A file goes

no_record : (f : OneFile) → f.len ≡ option_map length f.now → f.len ≡ None → f.now ≡ None
no_record f told none = pick f.now refl where
  pick : (o : Option (List ℕ)) → f.now ≡ o → f.now ≡ None
  pick None e = e
  pick (Some bytes) e = absurd (cc (sym none ∙ told ∙ ap (λ (o : Option (List ℕ)). option_map length o) e))

module _ (c : RunState) (states after : ℕ → DeviceState) (m : Machine) (gone settled : ℕ → Bool) (h : IsLeavingAt gone settled c states m) (n : ℕ) (lt : n < c.shape.nodes) (unsettled : settled n ≡ false)
    (done : OnlyAt n (RemovesAtMost h.set.desc.which n) states after) (sound : (p : ℕ) → IsSound (states p)) where
  small : n < 2 ^ 8
  small = omega (arith, lt, few_nodes c.shape)

  low_place : n < 32
  low_place = omega (arith, lt, few_nodes c.shape)

  pub loss : Loses h.set.desc.which n n (cells_of states) (cells_of after)
  loss = loses h.set.desc.which n n states after done

  pub leaves_on : (s : RunStage) (r : Leaving) (gone_then : ℕ → Bool) → ((node p : ℕ) → slice_get c.places node ≡ Some p → gone_then node ≡ true → cells_of after p (record_name h.set.desc.which node) ≡ None) → IsLeavingAt gone_then settled (going c s r) after m
  leaves_on s r gone_then removed = record {
    set = h.set;
    opened = h.opened;
    dataset = h.dataset;
    is = h.is ∙ ap (λ (ks : List Kept). let x : Machine = running (contents_of (cells_of states) c) c in record x { open_dataset = Some h.dataset; kept = ks }) (sym (kept_same c h.set n n (cells_of states) (cells_of after) h.well h.opened small low_place loss (setup_of c)));
    round = going_for c s r h.round;
    well = going_well c s r h.well;
    stored = stored_same c h.set n n (cells_of states) (cells_of after) h.well h.opened small low_place loss ∙ h.stored;
    halted = halt_same (cells_of states) (cells_of after) (prefix_same c h.set n n (cells_of states) (cells_of after) h.well h.opened small low_place loss) ∙ h.halted;
    unindexed = unindexed_same (cells_of states) (cells_of after) (prefix_same c h.set n n (cells_of states) (cells_of after) h.well h.opened small low_place loss) h.unindexed;
    files = λ x among. kept_stand c h.set n n (cells_of states) (cells_of after) h.well h.opened small low_place loss x among (h.files x among);
    records = λ i x at. records_kept c h.set n n (cells_of states) (cells_of after) h.well h.opened small low_place loss x.manifest (i, x, at, refl) (h.records i x at);
    others = others_gone c h.set n n (cells_of states) (cells_of after) h.well h.opened small low_place loss (IsKnown c) h.others;
    future = future_gone c h.set n n (cells_of states) (cells_of after) h.well h.opened small low_place loss c.run c.next h.future;
    mended = h.mended;
    sealed = h.sealed;
    unsealed = none_sealed_gone h.set.desc.which h.set.desc.which n n states after sound done h.unsealed;
    removed = removed;
    quiet = λ p q low calm. others_rest h.set.desc.which n n states after done p q (λ is of. calm (omega (arith, is, lt)) (ap settled is ∙ unsettled) (n, small, of)) (h.quiet p q low calm);
  }

module _ (first : Machine) (c : RunState) (programs : List (List Step)) (states after : ℕ → DeviceState) (events : List Event) (n place : ℕ) (at : c.stage ≡ stage.Dropping drop.File n) (home : slice_get c.places n ≡ Some place) (leads : Leads first c programs states events)
    (r : Leaving) (which_is : r.which ≡ c.removal.which) (node_is : r.node ≡ c.removal.node) (over : Bool) (done : OnlyAt place (FileDropped c.removal.which c.removal.node over c.removal.changes r.changes) states after) (steady : (p : ℕ) → IsSound (states p)) where
  abbrev dropping : IsDropping drop.File n c states leads.state
  dropping = (dropping_at first c programs states events drop.File n at leads).0

  abbrev which : DataId
  which = dropping.leaves.set.desc.which

  here : OnlyAt n (FileDropped which n over c.removal.changes r.changes) states after
  here = subst (λ (p : ℕ). OnlyAt p (FileDropped which n over c.removal.changes r.changes) states after) (place_of_node c n place dropping.leaves.well home).0
      (subst (λ (k : ℕ). OnlyAt place (FileDropped which k over c.removal.changes r.changes) states after) dropping.work.0
      (subst (λ (w : DataId). OnlyAt place (FileDropped w c.removal.node over c.removal.changes r.changes) states after) dropping.which_is done))

  at_most : OnlyAt n (RemovesAtMost which n) states after
  at_most = record { here = here.here.at_most; others = here.others }

  gone_still : (node p : ℕ) → slice_get c.places node ≡ Some p → nat_lt node n ≡ true → cells_of after p (record_name which node) ≡ None
  gone_still node p home_of_it gone = (loses which n n states after at_most).gone p (record_name which node) (dropping.leaves.removed node p home_of_it gone)

  so_far : IsSoFar c.places programs events
  so_far = (dropping_at first c programs states events drop.File n at leads).1

  -- more may be left
  pub file_dropped : Leads first (record c { removal = r }) programs after events
  unfolding leaves_on dropping_at
  file_dropped =
      let d : RunState = record c { removal = r } in
      let holds : IsDropping drop.File n d after leads.state = record {
        leaves = leaves_on c states after leads.state (is_gone_at drop.File n) (λ node. nat_lt node n) dropping.leaves n dropping.below (lt-self n) at_most steady c.stage r (is_gone_at drop.File n) gone_still;
        below = dropping.below;
        which_is = which_is ∙ dropping.which_is;
        work = (node_is ∙ dropping.work.0, here.here.goes dropping.work.1);
      } in
      record {
        state = leads.state;
        run = leads.run;
        holds = subst (λ (s : RunStage). HoldsAt s d after leads.state) (sym at) holds;
        told = leads.told;
        closes = subst (λ (s : RunStage). ClosesAt s (setup_of c) first c.places programs after events) (sym at) tt;
      }

  -- it was the last
  pub files_dropped : over ≡ true → Tells after → ((p : ℕ) → IsSound (after p)) → Leads first (record c { removal = r; stage = stage.Dropping drop.Sync n }) programs after events
  unfolding leaves_on dropping_at
  files_dropped is_over tells sound = record {
    state = leads.state;
    run = leads.run;
    holds = record {
      leaves = leaves_on c states after leads.state (is_gone_at drop.File n) (λ node. nat_lt node n) dropping.leaves n dropping.below (lt-self n) at_most steady (stage.Dropping drop.Sync n) r (is_gone_at drop.Sync n) (λ node p h gone. gone_now node p h gone (cases_eq node n));
      below = dropping.below;
      which_is = which_is ∙ dropping.which_is;
      work = tt;
    };
    told = so_far;
    closes = tt;
  } where
    none : HasNoFile which n (after n)
    none = (here.here.none_left dropping.work.1).0 is_over

    before : (a b : ℕ) → nat_le a b ≡ true → a ≢ b → nat_lt a b ≡ true
    before a b le other = grind (arith, nat_tests, le, other)

    gone_now : (node p : ℕ) → slice_get c.places node ≡ Some p → nat_le node n ≡ true → (node ≡ n) ⊎ (node ≢ n) → cells_of after p (record_name which node) ≡ None
    gone_now node p h gone (inl same) =
        let p_is : p ≡ n = (place_of_node c node p dropping.leaves.well h).0 ∙ same in
        subst (λ (x : ℕ). cells_of after x (record_name which node) ≡ None) (sym p_is)
        (subst (λ (k : ℕ). cells_of after n (record_name which k) ≡ None) (sym same)
        (no_record ((after n).file (record_name which n)) ((sound n).lengths (tells n (omega (arith, dropping.below, few_nodes c.shape))) (record_name which n)) (none (record_name which n) (inl refl))))
    gone_now node p h gone (inr other) = gone_still node p h (before node n gone other)

-- ## What went is stable

module _ (c : RunState) (states after : ℕ → DeviceState) (m : Machine) (gone settled : ℕ → Bool) (h : IsLeavingAt gone settled c states m) (n : ℕ) (done : OnlyAt n Synced states after) where
  leaves_synced : (s : RunStage) (r : Leaving) (gone_then stable : ℕ → Bool) → ((node : ℕ) → node < c.shape.nodes → gone_then node ≡ true → gone node ≡ true) → ((p : ℕ) → p < c.shape.nodes → p ≢ n → settled p ≡ false → stable p ≡ false)
      → IsLeavingAt gone_then stable (going c s r) after m
  leaves_synced s r gone_then stable went settles =
      let same = alike_cells n states after done in
      record {
        set = h.set;
        opened = h.opened;
        dataset = h.dataset;
        is = h.is ∙ ap (λ (cells : Cells). let x : Machine = running (contents_of cells c) c in record x { open_dataset = Some h.dataset }) (sym same);
        round = going_for c s r h.round;
        well = going_well c s r h.well;
        stored = ap (λ (cells : Cells). Rattle.site_core.specs.Stored.stored_run cells) same ∙ h.stored;
        halted = ap (λ (cells : Cells). Rattle.site_core.specs.Stored.stored_halt cells) same ∙ h.halted;
        unindexed = subst (λ (cells : Cells). IsUnindexed (cells 32)) (sym same) h.unindexed;
        files = subst (λ (cells : Cells). (x : Manifest) → IsAmong c.kept x → Rattle.site_core.specs.Stored.FilesStand cells c.places c.shape.ranks x) (sym same) h.files;
        records = subst (λ (cells : Cells). (i : ℕ) (x : Cached) → slice_get c.kept i ≡ Some x → Rattle.site_core.specs.Stored.RecordsStand cells c.places x.manifest) (sym same) h.records;
        others = subst (λ (cells : Cells). Rattle.site_core.specs.Stored.NoOtherRecords (IsKnown c) cells c.places) (sym same) h.others;
        future = subst (λ (cells : Cells). Rattle.site_core.specs.Stored.NoFutureFiles cells c.run c.next) (sym same) h.future;
        mended = h.mended;
        sealed = h.sealed;
        unsealed = none_sealed_on h.set.desc.which states after (sync_partly n states after done) h.unsealed;
        removed = λ node p home is. ap (λ (cells : Cells). cells p (record_name h.set.desc.which node)) same ∙ h.removed node p home (went node (place_of_node c node p h.well home).1 is);
        quiet = λ p q low calm. pick p q low calm (cases_eq p n);
      } where
        pick : (p : ℕ) (q : List ℕ) → p ≤ 32 → (p < c.shape.nodes → stable p ≡ false → IsOfDataset h.set.desc.which q → ⊥) → (p ≡ n) ⊎ (p ≢ n) → IsAtRest ((after p).file q)
        pick p q low calm (inl is) = subst (λ (x : ℕ). IsAtRest ((after x).file q)) (sym is) (done.here.at_rest q)
        pick p q low calm (inr other) = synced_rest n states after done p q (h.quiet p q low (λ lt unsettled of. calm lt (settles p lt other unsettled) of))

lt_next : (i n : ℕ) → nat_lt i (n + 1) ≡ true → nat_le i n ≡ true
lt_next i n e = grind (arith, nat_tests, e)

after_next : (i n : ℕ) → i ≢ n → nat_lt i n ≡ false → nat_lt i (n + 1) ≡ false
after_next i n other e = grind (arith, nat_tests, other, e)

up_to_last : (i n nodes : ℕ) → i < nodes → n + 1 ≡ nodes → nat_le i n ≡ true
up_to_last i n nodes lt last = grind (arith, nat_tests, lt, last)

not_below : (i n : ℕ) → nat_lt i n ≡ false → n ≤ i
not_below i n e = grind (arith, nat_tests, e)

none_after : (i n nodes : ℕ) → i < nodes → i ≢ n → nat_lt i n ≡ false → n + 1 ≡ nodes → ⊥
none_after i n nodes lt other e last = other (omega (arith, lt, not_below i n e, last))

next_or_last : (n nodes : ℕ) (b : Bool) → nat_lt n (nodes - 1) ≡ b → n < nodes → ((b ≡ true) × (n + 1 < nodes)) ⊎ ((b ≡ false) × (n + 1 ≡ nodes))
next_or_last n nodes true e lt = inl (refl, grind (arith, nat_tests, e, lt))
next_or_last n nodes false e lt = inr (refl, grind (arith, nat_tests, e, lt))

module _ (first : Machine) (c : RunState) (programs : List (List Step)) (states after : ℕ → DeviceState) (events : List Event) (n place : ℕ) (at : c.stage ≡ stage.Dropping drop.Sync n) (home : slice_get c.places n ≡ Some place) (leads : Leads first c programs states events) (done : OnlyAt place Synced states after) where
  abbrev syncing : IsDropping drop.Sync n c states leads.state
  syncing = (dropping_at first c programs states events drop.Sync n at leads).0

  synced_here : OnlyAt n Synced states after
  synced_here = subst (λ (p : ℕ). OnlyAt p Synced states after) (place_of_node c n place syncing.leaves.well home).0 done

  next_goes : n + 1 < c.shape.nodes → Leads first (next_drop_core c (n + 1)) programs after events
  unfolding leaves_synced dropping_at
  next_goes more = record {
    state = leads.state;
    run = leads.run;
    holds = record {
      leaves = leaves_synced c states after leads.state (is_gone_at drop.Sync n) (λ node. nat_lt node n) syncing.leaves n synced_here (stage.Dropping drop.File (n + 1)) (leaving c.removal.which (n + 1)) (is_gone_at drop.File (n + 1)) (λ node. nat_lt node (n + 1))
          (λ node lt is. lt_next node n is) (λ p lt other un. after_next p n other un);
      below = more;
      which_is = syncing.which_is;
      work = (refl, tt);
    };
    told = (dropping_at first c programs states events drop.Sync n at leads).1;
    closes = tt;
  }

  all_gone : n + 1 ≡ c.shape.nodes → Leads first (record c { stage = stage.Dropped }) programs after events
  all_gone last = record {
    state = leads.state;
    run = leads.run;
    holds = leaves_synced c states after leads.state (is_gone_at drop.Sync n) (λ node. nat_lt node n) syncing.leaves n synced_here stage.Dropped c.removal (λ node. true) (λ node. true) (λ node lt is. up_to_last node n c.shape.nodes lt last) (λ p lt other un. absurd (none_after p n c.shape.nodes lt other un last));
    told = (dropping_at first c programs states events drop.Sync n at leads).1;
    closes = tt;
  }

  pub removal_synced : Leads first (if nat_lt n (c.shape.nodes - 1) then next_drop_core c (n + 1) else record c { stage = stage.Dropped }) programs after events
  removal_synced = pick (nat_lt n (c.shape.nodes - 1)) (next_or_last n c.shape.nodes (nat_lt n (c.shape.nodes - 1)) refl syncing.below) where
    pick : (b : Bool) → ((b ≡ true) × (n + 1 < c.shape.nodes)) ⊎ ((b ≡ false) × (n + 1 ≡ c.shape.nodes)) → Leads first (if b then next_drop_core c (n + 1) else record c { stage = stage.Dropped }) programs after events
    pick true (inl more) = next_goes more.1
    pick true (inr last) = absurd (cc last.0)
    pick false (inl more) = absurd (cc more.0)
    pick false (inr last) = all_gone last.1
