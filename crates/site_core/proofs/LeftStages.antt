-- What a stop leaves of the datasets in cache, at each stage of a run.
use Rattle.std.proofs.Common.{◌+◌, ap₂, codes, ◌≡◌, ◌≢◌, ◌⊎◌, inl, inr, ℕ, zero, suc, ◌/◌, ◌<◌, ◌≤◌, ◌^◌, Bool, true, false, List, [], ◌∷◌, map, Option, Some, None, refl, sym, ap, ◌∙◌, subst, slice_get, arith}
use Rattle.std.specs.Prelude.{nat_lt, IsTrue, fold, option_map, get_or}
use Rattle.std.specs.List.{list_any}
use Rattle.std.proofs.Math.Path.{fun_ext}
use Rattle.std.proofs.lemmas.Bool.Decides.{nat_tests}
use Rattle.scr_base.specs.Sets.{numbers_below}
use Rattle.scr_base.specs.declared.content.Step.{Step}
use Rattle.scr_base.specs.declared.shape.DataId.{DataId}
use Rattle.scr_base.specs.declared.shape.Shape.{Shape}
use Rattle.node_device.specs.File.{File, IsAtRest, MayLeave, byte_at}
use Rattle.node_device.specs.DeviceState.{DeviceState}
use Rattle.node_device.specs.Outcomes.{rest_leaves, true_or_false}
use Rattle.node_device.specs.Rack.{OnlyAt}
use Rattle.gated_record.specs.Record.{IsOpen}
use Rattle.gated_record.specs.Pair.{pair_value, copy_name, newer, value_in}
use Rattle.gated_record.specs.PairStages.{PairLeaves, IsOldOrWanted}
use Rattle.gated_record.specs.declared.pair.PairValue.{PairValue}
use Rattle.halt_file.specs.Stores.{halt_in}
use Rattle.gate_outcomes.specs.Leaves.{Leaves}
use Rattle.filemap.specs.Maps.{rows_of}
use Rattle.member_store.specs.Names.{record_name, IsPlace, IsNameOf}
use Rattle.member_store.specs.Members.{member_body}
use Rattle.ckpt_model.specs.declared.event.Event.{Event}
use Rattle.ckpt_model.specs.declared.event.StopCause.{StopCause}
use Rattle.ckpt_model.specs.declared.event.StopCause.TheVariants as cause
use Rattle.ckpt_model.specs.Moves.{after}
use Rattle.ckpt_model.specs.Stops.{may_make, may_store, pending_of}
use Rattle.ckpt_model.specs.Machine.{Machine, Setup, Stage as Place}
use Rattle.site_stands.specs.Entry.{entry_name, ReadsEntry, mark_in}
use Rattle.site_state.specs.declared.cache.Cached.{Cached}
use Rattle.site_state.specs.declared.cache.Manifest.{Manifest}
use Rattle.site_state.specs.declared.run_state.RunState.{RunState}
use Rattle.site_state.specs.declared.run_state.RunStage.{RunStage}
use Rattle.site_state.specs.declared.run_state.RunStage.TheVariants as stage
use Rattle.site_state.specs.declared.run_state.SaveStep.{SaveStep}
use Rattle.site_state.specs.declared.run_state.SaveStep.TheVariants as work
use Rattle.site_calls.specs.Calls.{KeptAlike, Unturned, Unnumbered}
use Rattle.site_calls.specs.Numbers.{IsNumberFile}
use Rattle.site_state.specs.Choosing.{is_being_sealed, seals}
use Rattle.site_state.specs.Shown.{running, setup_of, kept_of}
use Rattle.site_state.specs.Waiting.{is_over}
use Rattle.site_calls.specs.Numbers.{run_number}
use Rattle.site_core.specs.Stored.{Cells, cells_of, contents_of, contents_in, file_name, place_of_rank, FilesStand, FileStands, RecordsStand, NoOtherRecords, IsAmong, IsKnown, IsWell, IsOfSite, IsUnindexed, FilesHold, RecordIs}
use Rattle.site_core.specs.Left.{LeavesSaved, LeavesWhole, LeavesKept, PrefixLeft, LeavesPrefix, LeavesUnindexed, NoLater, IsPlain, is_sealing_work, is_filling_at}
use Rattle.site_core.specs.Holds.{IsOneOf, settled_set, HoldsAt, IsBegun, IsStoring, IsLooking, IsUp, IsSaved, IsSaving, IsPending, IsFileOf, IsOfDataset, IsLeavingAt, WorkIs, NoRecordYet, is_whole_at, is_sealed_at}
use Rattle.site_core.proofs.Frames.{is_place, file_no_record, div_small, place_named}
use Rattle.site_state.proofs.Shapes.{few_nodes}
use Rattle.site_core.proofs.Puts.{few_rows, row_rank, row_named, node_below, place_is, kept_other}
use Rattle.site_core.proofs.Halts.{no_run_file}
use Rattle.site_core.proofs.Losses.{file_of}
use Rattle.site_core.proofs.Refusals.{cells_alike, refused_rest}
use Rattle.site_calls.proofs.RefusedCalls.{same_partly}
use Rattle.gate_outcomes.proofs.Stays.{torn_shut}
use Rattle.site_core.proofs.Saving.{LeavesRecord, place_of_node, put_leaves}
use Rattle.site_core.proofs.SaveEnds.{none-passes}
use Rattle.site_core.proofs.LeftFiles.{alike_partly, has_byte, turned_whole}
use Rattle.site_core.proofs.LeftCaches.{CacheFacts, cache_left, none_later, kept_on, later_on, low_place, home_is}

-- what is known of the datasets in cache, and of the prefix
pub record IsLeft (c : RunState) (states : ℕ → DeviceState) (m : Machine) : Type 0 where
  pub leaves : LeavesKept (setup_of c) c.places states m
  pub prefix : LeavesPrefix (states 32) m
  pub later : NoLater states m.run
  pub plain : IsPlain m
  pub unindexed : LeavesUnindexed (states 32)

-- What is known of the datasets in cache where this state is stopped so: perhaps with a change that a refused call made.
pub record Remains (c : RunState) (states : ℕ → DeviceState) (m : Machine) (why : StopCause) : Type 0 where
  pub made : List Event
  pub may : IsTrue (may_make (setup_of c) m why made)
  pub same_run : (fold (after (setup_of c)) m made).run ≡ m.run
  pub leaves : LeavesKept (setup_of c) c.places states (fold (after (setup_of c)) m made)
  pub prefix : LeavesPrefix (states 32) m
  pub later : NoLater states m.run
  pub plain : IsPlain m
  pub unindexed : LeavesUnindexed (states 32)

pub nothing_made : (s : Setup) (m : Machine) (why : StopCause) → IsTrue (may_make s m why [])
nothing_made s m (cause.Device node count) = refl
nothing_made s m (cause.Full node used capacity) = refl
nothing_made s m cause.Script = refl
nothing_made s m cause.Ended = refl
nothing_made s m cause.Runs = refl
nothing_made s m cause.Command = refl

-- with none
pub remains : (c : RunState) (states : ℕ → DeviceState) (m : Machine) (why : StopCause) → IsLeft c states m → Remains c states m why
remains c states m why l = record { made = []; may = nothing_made (setup_of c) m why; same_run = refl; leaves = l.leaves; prefix = l.prefix; later = l.later; plain = l.plain; unindexed = l.unindexed }

some_same : {X : Type 0} (x y : X) → Some x ≡ Some y → x ≡ y
some_same x y e = cc

not_left : (f : File) → IsAtRest f → f.now ≡ None → (o : Option (List ℕ)) → MayLeave f o → IsOpen o 1 → ⊥
not_left f rest none o may opens = absurd (omega (arith, opens, ap (λ (x : Option (List ℕ)). byte_at x 1) (rest_leaves f o rest may ∙ none)))

-- ## The prefix

no_node : (shape : Shape) → 32 < shape.nodes → ⊥
no_node shape lt = absurd (omega (arith, lt, few_nodes shape))

-- the conditions stand under no name of the run's number
no_number_file : (k : ℕ) → IsNumberFile (copy_name (codes "halt") k) → ⊥
no_number_file k (inl is) = no_run_file k 0 is
no_number_file k (inr is) = no_run_file k 1 is

-- a prefix at rest is left as it reads
rest_prefix : (d : DeviceState) (m : Machine) → ((q : List ℕ) → IsAtRest (d.file q)) → run_number (pair_value (codes "run") (λ q. (d.file q).now)) ≡ m.run → halt_in (pair_value (codes "halt") (λ q. (d.file q).now)) ≡ m.halt → LeavesPrefix d m
rest_prefix d m rest run halt left out =
    let same : left ≡ (λ q. (d.file q).now) = fun_ext (λ q. rest_leaves (d.file q) (left q) (rest q) (out q)) in
    record {
      stored = false;
      may = refl;
      run = ap (λ (files : List ℕ → Option (List ℕ)). run_number (pair_value (codes "run") files)) same ∙ run;
      halt = ap (λ (files : List ℕ → Option (List ℕ)). halt_in (pair_value (codes "halt") files)) same ∙ halt;
    }

-- an index record or a mark stands under no name of the run's number
entry_apart : (which : DataId) → IsNumberFile (entry_name which) → ⊥
entry_apart which (inl is) = absurd (omega (arith, ap (λ (name : List ℕ). get_or name 0 0) is))
entry_apart which (inr is) = absurd (omega (arith, ap (λ (name : List ℕ). get_or name 0 0) is))

mark_apart : (k : ℕ) → IsNumberFile (copy_name (codes "cur") k) → ⊥
mark_apart k (inl is) = absurd (omega (arith, ap (λ (name : List ℕ). get_or name 0 0) is))
mark_apart k (inr is) = absurd (omega (arith, ap (λ (name : List ℕ). get_or name 0 0) is))

-- a prefix that has neither, and of which these files are at rest, is left so
rest_unindexed : (d : DeviceState) → ((q : List ℕ) → (IsNumberFile q → ⊥) → IsAtRest (d.file q)) → IsUnindexed (λ q. (d.file q).now) → LeavesUnindexed d
rest_unindexed d rest h = record {
  entries = λ which o may reads. h.entries which (subst (λ (x : Option (List ℕ)). ReadsEntry x which) (rest_leaves (d.file (entry_name which)) o (rest (entry_name which) (entry_apart which)) may) reads);
  unmarked = λ a b may_a may_b. ap mark_in (ap₂ newer (ap (value_in 0) (rest_leaves (d.file (copy_name (codes "cur") 0)) a (rest (copy_name (codes "cur") 0) (mark_apart 0)) may_a)) (ap (value_in 1) (rest_leaves (d.file (copy_name (codes "cur") 1)) b (rest (copy_name (codes "cur") 1) (mark_apart 1)) may_b))) ∙ h.unmarked;
}

-- and so is one that may leave no more of them
less_unindexed : (old new : DeviceState) → ((q : List ℕ) → (IsNumberFile q → ⊥) → (o : Option (List ℕ)) → MayLeave (new.file q) o → MayLeave (old.file q) o) → LeavesUnindexed old → LeavesUnindexed new
less_unindexed old new less h = record {
  entries = λ which o may. h.entries which o (less (entry_name which) (entry_apart which) o may);
  unmarked = λ a b may_a may_b. h.unmarked a b (less (copy_name (codes "cur") 0) (mark_apart 0) a may_a) (less (copy_name (codes "cur") 1) (mark_apart 1) b may_b);
}

may_be_stored : (m : Machine) → m.stage ≡ Place.Between → m.run + 1 < 2 ^ 32 → IsTrue (may_store m true)
may_be_stored m at lt = rw (at, below m.run lt) refl where
  below : (n : ℕ) → n + 1 < 2 ^ 32 → nat_lt n 4294967295 ≡ true
  below n lt = grind (arith, nat_tests, lt)

-- while the run's number is on its way, the old one stands or the next
module _ (c : RunState) (states : ℕ → DeviceState) (m : Machine) (h : IsStoring c states m) (prefix : DeviceState) (run : PairLeaves (codes "run") prefix (IsOldOrWanted h.old c.storing.want))
    (halt : (k : ℕ) → k < 2 → Leaves (prefix.file (copy_name (codes "halt") k)) (λ o. o ≡ cells_of states 32 (copy_name (codes "halt") k))) where
  storing_prefix : LeavesPrefix prefix m
  storing_prefix left out = pick (run (left (copy_name (codes "run") 0)) (left (copy_name (codes "run") 1)) (out (copy_name (codes "run") 0)) (out (copy_name (codes "run") 1))) where
    halt_is : halt_in (pair_value (codes "halt") left) ≡ m.halt
    halt_is = ap halt_in (ap₂ newer
        (ap (value_in 0) (halt 0 (omega arith) (left (copy_name (codes "halt") 0)) (out (copy_name (codes "halt") 0))))
        (ap (value_in 1) (halt 1 (omega arith) (left (copy_name (codes "halt") 1)) (out (copy_name (codes "halt") 1))))) ∙ h.halted ∙ sym h.halt

    pick : IsOldOrWanted h.old c.storing.want (pair_value (codes "run") left) → PrefixLeft m left
    pick (inl old) = record { stored = false; may = refl; run = ap run_number old ∙ h.old_is; halt = halt_is }
    pick (inr new) = record { stored = true; may = may_be_stored m h.between (omega (arith, h.run, h.fits)); run = ap run_number new ∙ ap (λ (v : PairValue). v.version) h.want ∙ h.run; halt = halt_is }

-- ## Before recovery has looked

-- a dataset as a run leaves it
record IsSettledSet (sets : List Manifest) (i : ℕ) (x : Cached) : Type 0 where
  pub set : Manifest
  pub at : slice_get sets i ≡ Some set
  pub is : settled_set set ≡ x

set_at : (sets : List Manifest) (i : ℕ) (x : Cached) → slice_get (map settled_set sets) i ≡ Some x → IsSettledSet sets i x
set_at [] i x at = absurd (cc at)
set_at (y ∷ ys) zero x at = record { set = y; at = refl; is = some_same (settled_set y) x at }
set_at (y ∷ ys) (suc i) x at = let s = set_at ys i x at in record { set = s.set; at = s.at; is = s.is }

set_there : (sets : List Manifest) (i : ℕ) (y : Manifest) → slice_get sets i ≡ Some y → slice_get (map settled_set sets) i ≡ Some (settled_set y)
set_there [] i y at = absurd (cc at)
set_there (z ∷ zs) zero y at = ap (λ (o : Option Manifest). option_map settled_set o) at
set_there (z ∷ zs) (suc i) y at = set_there zs i y at

early_facts : (shape : Shape) (run : ℕ) (places : List ℕ) (states : ℕ → DeviceState) (sets : List Manifest) → places ≡ numbers_below shape.nodes → ((x : Manifest) → IsOneOf sets x → IsOfSite shape run x)
    → ((x : Manifest) → IsOneOf sets x → FilesStand (cells_of states) places shape.ranks x) → ((x : Manifest) → IsOneOf sets x → RecordsStand (cells_of states) places x) → NoOtherRecords (IsOneOf sets) (cells_of states) places
    → ((p : ℕ) (q : List ℕ) → p < 32 → IsAtRest ((states p).file q)) → CacheFacts shape run places states (map settled_set sets) None None
early_facts shape run places states sets are of_site files records others quiet = record {
  places_are = are;
  of_site = λ i x at. let s = set_at sets i x at in subst (λ (y : Cached). IsOfSite shape run y.manifest) s.is (of_site s.set (i, s.at));
  files = λ i x at. let s = set_at sets i x at in subst (λ (y : Cached). FilesStand (cells_of states) places shape.ranks y.manifest) s.is (files s.set (i, s.at));
  records = λ i x at calm. let s = set_at sets i x at in subst (λ (y : Cached). RecordsStand (cells_of states) places y.manifest) s.is (records s.set (i, s.at));
  others = λ p which node low at foreign. others p which node low at (λ m one same home. foreign m (inr (one.0, settled_set m, set_there sets one.0 m one.1, refl)) same home);
  quiet = λ p q low calm. quiet p q low;
  apart = λ i x at calm m e. absurd (cc e);
  sealing = λ i x at sealed. let s = set_at sets i x at in absurd (cc (ap (λ (y : Cached). is_being_sealed y.mark) s.is, sealed));
  opening = λ m e. absurd (cc e);
  known = λ m e. absurd (cc e);
  away = λ m e. absurd (cc e);
  sealing_away = λ i x at sealed. let s = set_at sets i x at in absurd (cc (ap (λ (y : Cached). is_being_sealed y.mark) s.is, sealed));
  hand_run = λ m e. absurd (cc e);
  open_run = λ m e. absurd (cc e);
}

-- ## A run that is up

-- a file of the dataset is under a name of it
file_is_of : (c : RunState) (x : Manifest) (q : List ℕ) → IsFileOf c x q → IsOfDataset x.desc.which q
file_is_of c x q file = (file.0 / c.shape.ranks, div_small file.0 c.shape.ranks file.2, subst (λ (name : List ℕ). IsNameOf x.desc.which (file.0 / c.shape.ranks) name) (sym file.4) (file_of x.desc.which c.shape.ranks file.0 file.1 file.2 file.3))

-- a record's name is no file's
no_record_file : (c : RunState) (m x : Manifest) (node : ℕ) → IsPlace m.desc.which node → IsFileOf c x (record_name m.desc.which node) → ⊥
no_record_file c m x node at file =
    let of = is_place x.desc 0 (omega arith) in
    file_no_record x.desc.which m.desc.which c.shape.ranks file.0 file.1 node (record { id = of.id; run = of.run; rank_is = file.2; file = file.3 }) at (sym file.4)

home_place : (c : RunState) (m : Manifest) (node p : ℕ) → c.places ≡ numbers_below c.shape.nodes → slice_get c.places node ≡ Some p → IsPlace m.desc.which node
home_place c m node p are home = is_place m.desc node (omega (arith, (home_is c.shape c.places node p are home).1, few_nodes c.shape))

home_low : (c : RunState) (node p : ℕ) → c.places ≡ numbers_below c.shape.nodes → slice_get c.places node ≡ Some p → p < 32
home_low c node p are home = let is = home_is c.shape c.places node p are home in omega (arith, is.0, is.1, few_nodes c.shape)

module _ (c : RunState) (states : ℕ → DeviceState) (well : IsWell c) (files : FilesHold c (cells_of states)) (quiet : (p : ℕ) (q : List ℕ) → p ≤ 32 → (p < c.shape.nodes → IsPending stage.Serving c q → ⊥) → IsAtRest ((states p).file q))
    (none : NoRecordYet stage.Serving c (cells_of states)) (calm : list_any seals c.kept ≡ false) where
  unsealed : (m : Manifest) → c.opened ≡ Some m → (p node : ℕ) → p < 32 → IsPlace m.desc.which node → (o : Option (List ℕ)) → MayLeave ((states p).file (record_name m.desc.which node)) o → IsOpen o 1 → ⊥
  unsealed m is p node low at = not_left ((states p).file (record_name m.desc.which node))
      (quiet p (record_name m.desc.which node) (omega (arith, low)) (λ lt pending. no_record_file c m pending.0 node at pending.2)) (none m is p node low at)

  serving_facts : CacheFacts c.shape c.run c.places states c.kept c.opened c.opened
  serving_facts = record {
    places_are = well.places;
    of_site = λ i x at. well.sets x.manifest (inr (i, x, at, refl));
    files = λ i x at. files.files x.manifest (inr (i, x, at, refl));
    records = files.records;
    others = files.others;
    quiet = λ p q low away. quiet p q (omega (arith, low)) (λ lt pending. away pending.0 pending.1 (file_is_of c pending.0 q pending.2));
    apart = λ i x at still m is. kept_other c m x.manifest well is (i, x, at, refl);
    sealing = λ i x at sealed. absurd (cc (none-passes seals c.kept i x calm at, sealed));
    opening = λ m is node p home. unsealed m is p node (home_low c node p well.places home) (home_place c m node p well.places home);
    known = λ m is no_open no_kept. no_open is;
    away = λ m is p node low at off. unsealed m is p node low at;
    sealing_away = λ i x at sealed. absurd (cc (none-passes seals c.kept i x calm at, sealed));
    hand_run = λ m is. (well.sets m (inl is)).run_is;
    open_run = λ m is. (well.sets m (inl is)).run_is;
  }

-- ## A dataset that is being saved

-- What is known of the files while a dataset is being saved, though a gate was refused.
pub record IsLoose (w : SaveStep) (n : ℕ) (c : RunState) (m : Manifest) (states : ℕ → DeviceState) : Type 0 where
  pub well : IsWell c
  pub files : FilesHold c (cells_of states)
  pub quiet : (p : ℕ) (q : List ℕ) → p ≤ 32 → (p < c.shape.nodes → IsPending (stage.Saving w n) c q → ⊥) → IsAtRest ((states p).file q)
  pub saved : IsSaved w n c m
  pub open_yet : is_sealing_work w ≡ false → c.opened ≡ Some m
  pub apart : (i : ℕ) (x : Cached) → slice_get c.kept i ≡ Some x → is_being_sealed x.mark ≡ false → x.manifest.desc.which ≢ m.desc.which
  pub one : (i : ℕ) (x : Cached) → slice_get c.kept i ≡ Some x → is_being_sealed x.mark ≡ true → x.manifest ≡ m
  pub leaves : LeavesSaved w n c.places c.opened m states

pub loose_of : (first : Machine) (c : RunState) (programs : List (List Step)) (states : ℕ → DeviceState) (events : List Event) (w : SaveStep) (n : ℕ) (m : Manifest) → IsSaving first c programs states events w n m → IsLoose w n c m states
loose_of first c programs states events w n m h = record { well = h.well; files = h.files; quiet = h.quiet; saved = h.saved; open_yet = h.saves.open_yet; apart = h.saves.apart; one = h.saves.one; leaves = h.saves.leaves }

filled : (w : SaveStep) (n i : ℕ) → is_sealing_work w ≡ true → is_filling_at w n i ≡ false
filled work.Record n i e = absurd (cc e)
filled work.RecordSync n i e = absurd (cc e)
filled work.Whole n i e = refl
filled work.WholeSync n i e = refl
filled work.Sealed n i e = refl
filled work.SealedSync n i e = refl

module _ (w : SaveStep) (n : ℕ) (c : RunState) (m : Manifest) (states : ℕ → DeviceState) (h : IsLoose w n c m states) where
  -- the one dataset in hand
  is_it : (x : Manifest) → IsSaved w n c x → x ≡ m
  is_it x saved = pick saved h.saved where
    pick : IsSaved w n c x → IsSaved w n c m → x ≡ m
    pick (inl a) (inl b) = some_same x m (sym a ∙ b)
    pick (inl a) (inr b) = absurd (cc (a, b.0))
    pick (inr a) (inl b) = absurd (cc (b, a.0))
    pick (inr a) (inr b) = sym a.1.3 ∙ h.one a.1.1 a.1.0 a.1.2 (ap is_being_sealed a.1.4)

  known : IsKnown c m
  known = pick h.saved where
    pick : IsSaved w n c m → IsKnown c m
    pick (inl is) = inl is
    pick (inr s) = inr (s.1.1, s.1.0, s.1.2, s.1.3)

  -- once gates `sealed` are being opened, all of it is left whole
  saved_whole : is_sealing_work w ≡ true → LeavesWhole c.places c.shape.ranks states m
  saved_whole late = record {
    records = h.leaves.whole late;
    files = λ rank j row there o may.
        let of = h.well.sets m known in
        let lt = row_rank m.files rank j row there in
        let name = row_named c.shape c.run m rank j of lt (omega (arith, few_rows c.shape c.run m rank of lt, Rattle.std.proofs.lemmas.Option.slice_get_within (rows_of m.files rank) j row there)) in
        let node = node_below c.shape rank (omega (arith, lt, of.files.ranks_are)) in
        let at = place_is c.shape c.places (rank / c.shape.ranks) h.well.places node in
        let home : slice_get c.places (rank / c.shape.ranks) ≡ Some (place_of_rank c.places c.shape.ranks rank) = home_there (rank / c.shape.ranks) node ∙ ap Some (sym at) in
        let rest = h.leaves.parts (rank / c.shape.ranks) (place_of_rank c.places c.shape.ranks rank) (file_name m.desc.which c.shape.ranks rank j) home (filled w n (rank / c.shape.ranks) late)
        (λ e. file_no_record m.desc.which m.desc.which c.shape.ranks rank j (rank / c.shape.ranks) name (place_named m.desc.which rank j c.shape.ranks name) e) in
        let same = rest_leaves ((states (place_of_rank c.places c.shape.ranks rank)).file (file_name m.desc.which c.shape.ranks rank j)) o rest may in
        (subst (λ (b : Option (List ℕ)). FileStands b row) (sym same) (h.files.files m known rank j row there), same);
  } where
    home_there : (k : ℕ) → k < c.shape.nodes → slice_get c.places k ≡ Some k
    home_there k lt = Rattle.site_core.proofs.SaveEnds.home_of c k h.well lt

  saving_facts : CacheFacts c.shape c.run c.places states c.kept c.opened (Some m)
  saving_facts = record {
    places_are = h.well.places;
    of_site = λ i x at. h.well.sets x.manifest (inr (i, x, at, refl));
    files = λ i x at. h.files.files x.manifest (inr (i, x, at, refl));
    records = h.files.records;
    others = h.files.others;
    quiet = λ p q low away. h.quiet p q (omega (arith, low)) (λ lt pending. of_hand q (away m refl) pending.0 (is_it pending.0 pending.1) pending.2);
    apart = λ i x at still y is. λ same. h.apart i x at still (same ∙ ap (λ (z : Manifest). z.desc.which) (sym (some_same m y is)));
    sealing = λ i x at sealed. subst (λ (z : Manifest). LeavesWhole c.places c.shape.ranks states z) (sym (h.one i x at sealed)) (saved_whole (late_of i x at sealed (true_or_false (is_sealing_work w))));
    opening = λ y is node p home o may. (h.leaves.unsealed (is ∙ ap Some (opened_it y is)) node p home).shut o (subst (λ (z : Manifest). MayLeave ((states p).file (record_name z.desc.which node)) o) (opened_it y is) may);
    known = λ y is no_open no_kept. pick_known (some_same m y is) no_open no_kept known;
    away = λ y is p node low at off. subst (λ (z : Manifest). IsPlace z.desc.which node → (o : Option (List ℕ)) → MayLeave ((states p).file (record_name z.desc.which node)) o → IsOpen o 1 → ⊥) (some_same m y is) (λ place. off_home p node low place off) at;
    sealing_away = λ i x at sealed p node low place off. subst (λ (z : Manifest). IsPlace z.desc.which node → IsAtRest ((states p).file (record_name z.desc.which node))) (sym (h.one i x at sealed)) (λ at. h.leaves.elsewhere p node low at off) place;
    hand_run = λ y is. subst (λ (z : Manifest). z.desc.which.run ≤ c.run) (some_same m y is) (h.well.sets m known).run_is;
    open_run = λ y is. (h.well.sets y (inl is)).run_is;
  } where
    of_hand : (q : List ℕ) → (IsOfDataset m.desc.which q → ⊥) → (x : Manifest) → x ≡ m → IsFileOf c x q ⊎ ((node : ℕ) × (node < 2 ^ 8) × (q ≡ record_name x.desc.which node)) → ⊥
    of_hand q away x is (inl file) = away (subst (λ (z : Manifest). IsOfDataset z.desc.which q) is (file_is_of c x q file))
    of_hand q away x is (inr record_is) = away (subst (λ (z : Manifest). IsOfDataset z.desc.which q) is (record_is.0, record_is.1, inl record_is.2))

    late_of : (i : ℕ) (x : Cached) → slice_get c.kept i ≡ Some x → is_being_sealed x.mark ≡ true → (is_sealing_work w ≡ true) ⊎ (is_sealing_work w ≡ false) → is_sealing_work w ≡ true
    late_of i x at sealed (inl late) = late
    late_of i x at sealed (inr early) = absurd (kept_other c m x.manifest h.well (h.open_yet early) (i, x, at, refl) (ap (λ (z : Manifest). z.desc.which) (h.one i x at sealed)))

    opened_it : (y : Manifest) → c.opened ≡ Some y → y ≡ m
    opened_it y is = is_it y (inl is)

    pick_known : {y : Manifest} → m ≡ y → (c.opened ≡ Some y → ⊥) → (IsAmong c.kept y → ⊥) → IsKnown c m → ⊥
    pick_known same no_open no_kept (inl is) = no_open (is ∙ ap Some same)
    pick_known same no_open no_kept (inr among) = no_kept (among.0, among.1, among.2, among.3 ∙ same)

    off_home : (p node : ℕ) → p < 32 → IsPlace m.desc.which node → (slice_get c.places node ≡ Some p → ⊥) → (o : Option (List ℕ)) → MayLeave ((states p).file (record_name m.desc.which node)) o → IsOpen o 1 → ⊥
    off_home p node low place off = not_left ((states p).file (record_name m.desc.which node)) (h.leaves.elsewhere p node low place off) (h.files.others p m.desc.which node low place (λ y is same home. off home))

  loose_kept : LeavesKept (setup_of c) c.places states (running (contents_of (cells_of states) c) c)
  loose_kept = record { sets = c.kept; kept = refl; places_are = h.well.places; of_site = λ i x at. h.well.sets x.manifest (inr (i, x, at, refl)); rise = h.well.rise; index = refl; cache = cache_left c.shape c.run c.places states c.kept c.opened (Some m) saving_facts }

  loose_prefix : LeavesPrefix (states 32) (running (contents_of (cells_of states) c) c)
  loose_prefix = rest_prefix (states 32) (running (contents_of (cells_of states) c) c) (λ q. h.quiet 32 q (omega arith) (λ lt pending. no_node c.shape lt)) h.files.stored h.files.halted

  pub loose_left : IsLeft c states (running (contents_of (cells_of states) c) c)
  loose_left = record { leaves = loose_kept; prefix = loose_prefix; later = none_later c.shape c.run c.places states c.kept c.opened (Some m) saving_facts; plain = record { mark = refl; pending = refl }; unindexed = rest_unindexed (states 32) (λ q other. h.quiet 32 q (omega arith) (λ lt pending. no_node c.shape lt)) h.files.unindexed }

-- ## A dataset on its way out

leaving_facts : (gone settled : ℕ → Bool) (c : RunState) (states : ℕ → DeviceState) (m : Machine) (h : IsLeavingAt gone settled c states m) → CacheFacts c.shape c.run c.places states c.kept c.opened (Some h.set)
leaving_facts gone settled c states m h = record {
  places_are = h.well.places;
  of_site = λ i x at. h.well.sets x.manifest (inr (i, x, at, refl));
  files = λ i x at. h.files x.manifest (i, x, at, refl);
  records = λ i x at calm. h.records i x at;
  others = h.others;
  quiet = λ p q low away. h.quiet p q (omega (arith, low)) (λ lt un of. away h.set refl of);
  apart = λ i x at still y is. λ same. kept_other c h.set x.manifest h.well h.opened (i, x, at, refl) (same ∙ ap (λ (z : Manifest). z.desc.which) (sym (some_same h.set y is)));
  sealing = λ i x at sealed. absurd (cc (none-passes seals c.kept i x h.sealed at, sealed));
  opening = λ y is node p home. shut_of y (some_same h.set y (sym h.opened ∙ is)) p node (home_low c node p h.well.places home) (home_place c y node p h.well.places home);
  known = λ y is no_open no_kept. no_open (h.opened ∙ is);
  away = λ y is p node low at off. shut_of y (some_same h.set y is) p node low at;
  sealing_away = λ i x at sealed. absurd (cc (none-passes seals c.kept i x h.sealed at, sealed));
  hand_run = λ y is. subst (λ (z : Manifest). z.desc.which.run ≤ c.run) (some_same h.set y is) (h.well.sets h.set (inl h.opened)).run_is;
  open_run = λ y is. (h.well.sets y (inl is)).run_is;
} where
  shut_of : (y : Manifest) → h.set ≡ y → (p node : ℕ) → p < 32 → IsPlace y.desc.which node → (o : Option (List ℕ)) → MayLeave ((states p).file (record_name y.desc.which node)) o → IsOpen o 1 → ⊥
  shut_of y same p node low = subst (λ (z : Manifest). IsPlace z.desc.which node → (o : Option (List ℕ)) → MayLeave ((states p).file (record_name z.desc.which node)) o → IsOpen o 1 → ⊥) same (λ at. (h.unsealed p node low at).shut)

leaving_kept : (gone settled : ℕ → Bool) (c : RunState) (states : ℕ → DeviceState) (m : Machine) → IsLeavingAt gone settled c states m → LeavesKept (setup_of c) c.places states m
leaving_kept gone settled c states m h = record {
  sets = c.kept;
  kept = ap (λ (x : Machine). x.kept) h.is;
  places_are = h.well.places;
  of_site = λ i x at. subst (λ (run : ℕ). IsOfSite c.shape run x.manifest) (ap (λ (y : Machine). y.run) (sym h.is)) (h.well.sets x.manifest (inr (i, x, at, refl)));
  rise = h.well.rise;
  index = ap (λ (x : Machine). x.index) h.is;
  cache = cache_left c.shape c.run c.places states c.kept c.opened (Some h.set) (leaving_facts gone settled c states m h);
}

leaving_prefix : (gone settled : ℕ → Bool) (c : RunState) (states : ℕ → DeviceState) (m : Machine) → IsLeavingAt gone settled c states m → LeavesPrefix (states 32) m
leaving_prefix gone settled c states m h =
    rest_prefix (states 32) m (λ q. h.quiet 32 q (omega arith) (λ lt un of. no_node c.shape lt)) (h.stored ∙ ap (λ (y : Machine). y.run) (sym h.is)) (h.halted ∙ ap (λ (y : Machine). y.halt) (sym h.is))

-- ## Every stage of a run that isn't over

-- what is known of the files where the stage is one of saving
saving_now : (w : SaveStep) (n : ℕ) (c : RunState) (states : ℕ → DeviceState) (m : Machine) → c.stage ≡ stage.Saving w n → IsUp c states m → (x : Manifest) × IsLoose w n c x states
saving_now w n c states m at h =
    let working : WorkIs (stage.Saving w n) c states = subst (λ (s : RunStage). WorkIs s c states) at h.working in
    let x = working.0 in
    let loose : IsLoose w n c x states = record {
      well = h.well;
      files = h.files;
      quiet = subst (λ (s : RunStage). (p : ℕ) (q : List ℕ) → p ≤ 32 → (p < c.shape.nodes → IsPending s c q → ⊥) → IsAtRest ((states p).file q)) at h.quiet;
      saved = working.1;
      open_yet = working.2.open_yet;
      apart = working.2.apart;
      one = working.2.one;
      leaves = working.2.leaves;
    } in
    (x, loose)

begun_facts : (c : RunState) (states : ℕ → DeviceState) (m : Machine) (h : IsBegun c states m) → CacheFacts c.shape m.run c.places states (map settled_set h.begins.sets) None None
begun_facts c states m h = early_facts c.shape m.run c.places states h.begins.sets h.fresh.places h.begins.store.sets_are
    (λ x is. subst (λ (ps : List ℕ). FilesStand (cells_of states) ps c.shape.ranks x) (sym h.fresh.places) (h.begins.store.files x is))
    (λ x is. subst (λ (ps : List ℕ). RecordsStand (cells_of states) ps x) (sym h.fresh.places) (h.begins.store.records x is))
    (subst (λ (ps : List ℕ). NoOtherRecords (IsOneOf h.begins.sets) (cells_of states) ps) (sym h.fresh.places) h.begins.store.others)
    (λ p q low. h.begins.quiet p q (omega (arith, low)))

storing_facts : (c : RunState) (states : ℕ → DeviceState) (m : Machine) (h : IsStoring c states m) → CacheFacts c.shape m.run c.places states (map settled_set h.sets) None None
storing_facts c states m h = early_facts c.shape m.run c.places states h.sets h.fresh.places h.sets_are h.files h.records h.others (λ p q low. h.quiet p q (omega (arith, low)) (λ is. absurd (omega (arith, is, low))))

looking_facts : (c : RunState) (states : ℕ → DeviceState) (m : Machine) (h : IsLooking c states m) → CacheFacts c.shape c.run c.places states (map settled_set h.sets) None None
looking_facts c states m h = early_facts c.shape c.run c.places states h.sets h.fresh.places h.store.sets_are
    (λ x is. subst (λ (ps : List ℕ). FilesStand (cells_of states) ps c.shape.ranks x) (sym h.fresh.places) (h.store.files x is))
    (λ x is. subst (λ (ps : List ℕ). RecordsStand (cells_of states) ps x) (sym h.fresh.places) (h.store.records x is))
    (subst (λ (ps : List ℕ). NoOtherRecords (IsOneOf h.sets) (cells_of states) ps) (sym h.fresh.places) h.store.others)
    (λ p q low. h.quiet p q (omega (arith, low)))

stage_kept : (s : RunStage) (c : RunState) (states : ℕ → DeviceState) (m : Machine) → c.stage ≡ s → is_over s ≡ false → HoldsAt s c states m → LeavesKept (setup_of c) c.places states m
stage_kept stage.Begun c states m at on h = record {
  sets = map settled_set h.begins.sets;
  kept = subst (λ (ps : List ℕ). m.kept ≡ map (kept_of (setup_of c) (contents_in (cells_of states) ps c.shape.ranks) ps) (map settled_set h.begins.sets)) (sym h.fresh.places) h.begins.kept;
  places_are = h.fresh.places;
  of_site = λ i x at. let y = set_at h.begins.sets i x at in subst (λ (z : Cached). IsOfSite c.shape m.run z.manifest) y.is (h.begins.store.sets_are y.set (i, y.at));
  rise = h.begins.store.rise;
  index = h.begins.index;
  cache = cache_left c.shape m.run c.places states (map settled_set h.begins.sets) None None (begun_facts c states m h);
}
stage_kept stage.Storing c states m at on h = record {
  sets = map settled_set h.sets;
  kept = h.kept;
  places_are = h.fresh.places;
  of_site = λ i x at. let y = set_at h.sets i x at in subst (λ (z : Cached). IsOfSite c.shape m.run z.manifest) y.is (h.sets_are y.set (i, y.at));
  rise = h.rise;
  index = h.index;
  cache = cache_left c.shape m.run c.places states (map settled_set h.sets) None None (storing_facts c states m h);
}
stage_kept stage.Looking c states m at on h = record {
  sets = map settled_set h.sets;
  kept = ap (λ (x : Machine). x.kept) h.is;
  places_are = h.fresh.places;
  of_site = λ i x at. let y = set_at h.sets i x at in subst (λ (run : ℕ). IsOfSite c.shape run x.manifest) (ap (λ (z : Machine). z.run) (sym h.is)) (subst (λ (z : Cached). IsOfSite c.shape c.run z.manifest) y.is (h.store.sets_are y.set (i, y.at)));
  rise = h.store.rise;
  index = ap (λ (x : Machine). x.index) h.is;
  cache = cache_left c.shape c.run c.places states (map settled_set h.sets) None None (looking_facts c states m h);
}
stage_kept stage.Mending c states m at on h =
    let working : WorkIs stage.Mending c states = subst (λ (s : RunStage). WorkIs s c states) at h.working in
    record {
      sets = c.kept;
      kept = ap (λ (x : Machine). x.kept) h.is;
      places_are = h.well.places;
      of_site = λ i x there. subst (λ (run : ℕ). IsOfSite c.shape run x.manifest) (ap (λ (y : Machine). y.run) (sym h.is)) (h.well.sets x.manifest (inr (i, x, there, refl)));
      rise = h.well.rise;
      index = ap (λ (x : Machine). x.index) h.is;
      cache = cache_left c.shape c.run c.places states c.kept c.opened c.opened (serving_facts c states h.well h.files (subst (λ (s : RunStage). (p : ℕ) (q : List ℕ) → p ≤ 32 → (p < c.shape.nodes → IsPending s c q → ⊥) → IsAtRest ((states p).file q)) at h.quiet) (subst (λ (s : RunStage). NoRecordYet s c (cells_of states)) at h.unrecorded) working.1);
    }
stage_kept stage.Serving c states m at on h =
    let working : WorkIs stage.Serving c states = subst (λ (s : RunStage). WorkIs s c states) at h.working in
    record {
      sets = c.kept;
      kept = ap (λ (x : Machine). x.kept) h.is;
      places_are = h.well.places;
      of_site = λ i x there. subst (λ (run : ℕ). IsOfSite c.shape run x.manifest) (ap (λ (y : Machine). y.run) (sym h.is)) (h.well.sets x.manifest (inr (i, x, there, refl)));
      rise = h.well.rise;
      index = ap (λ (x : Machine). x.index) h.is;
      cache = cache_left c.shape c.run c.places states c.kept c.opened c.opened (serving_facts c states h.well h.files (subst (λ (s : RunStage). (p : ℕ) (q : List ℕ) → p ≤ 32 → (p < c.shape.nodes → IsPending s c q → ⊥) → IsAtRest ((states p).file q)) at h.quiet) (subst (λ (s : RunStage). NoRecordYet s c (cells_of states)) at h.unrecorded) working.1);
    }
stage_kept (stage.Saving w n) c states m at on h = let x = saving_now w n c states m at h in subst (λ (y : Machine). LeavesKept (setup_of c) c.places states y) (sym h.is) (loose_kept w n c x.0 states x.1)
stage_kept (stage.Dropping d n) c states m at on h = leaving_kept _ _ c states m h.leaves
stage_kept stage.Dropped c states m at on h = leaving_kept _ _ c states m h
stage_kept stage.Over c states m at on h = absurd (cc on)

up_prefix : (c : RunState) (states : ℕ → DeviceState) (m : Machine) → IsUp c states m → LeavesPrefix (states 32) m
up_prefix c states m h = rest_prefix (states 32) m (λ q. h.quiet 32 q (omega arith) (λ lt pending. no_node c.shape lt)) (h.files.stored ∙ ap (λ (y : Machine). y.run) (sym h.is)) (h.files.halted ∙ ap (λ (y : Machine). y.halt) (sym h.is))

up_unindexed : (c : RunState) (states : ℕ → DeviceState) (m : Machine) → IsUp c states m → LeavesUnindexed (states 32)
up_unindexed c states m h = rest_unindexed (states 32) (λ q other. h.quiet 32 q (omega arith) (λ lt pending. no_node c.shape lt)) h.files.unindexed

leaving_unindexed : (gone settled : ℕ → Bool) (c : RunState) (states : ℕ → DeviceState) (m : Machine) → IsLeavingAt gone settled c states m → LeavesUnindexed (states 32)
leaving_unindexed gone settled c states m h = rest_unindexed (states 32) (λ q other. h.quiet 32 q (omega arith) (λ lt un of. no_node c.shape lt)) h.unindexed

stage_prefix : (s : RunStage) (c : RunState) (states : ℕ → DeviceState) (m : Machine) → is_over s ≡ false → HoldsAt s c states m → LeavesPrefix (states 32) m
stage_prefix stage.Begun c states m on h = rest_prefix (states 32) m (λ q. h.begins.quiet 32 q (omega arith)) h.begins.store.stored (sym h.begins.halt)
stage_prefix stage.Storing c states m on h = storing_prefix c states m h (states 32) h.leaves (λ k lt o may. rest_leaves ((states 32).file (copy_name (codes "halt") k)) o (h.quiet 32 (copy_name (codes "halt") k) (omega arith) (λ is. no_number_file k)) may)
stage_prefix stage.Looking c states m on h = rest_prefix (states 32) m (λ q. h.quiet 32 q (omega arith)) (h.store.stored ∙ ap (λ (y : Machine). y.run) (sym h.is)) (h.halted ∙ ap (λ (y : Machine). y.halt) (sym h.is))
stage_prefix stage.Mending c states m on h = up_prefix c states m h
stage_prefix stage.Serving c states m on h = up_prefix c states m h
stage_prefix (stage.Saving w n) c states m on h = up_prefix c states m h
stage_prefix (stage.Dropping d n) c states m on h = leaving_prefix _ _ c states m h.leaves
stage_prefix stage.Dropped c states m on h = leaving_prefix _ _ c states m h
stage_prefix stage.Over c states m on h = absurd (cc on)

saving_later : (w : SaveStep) (n : ℕ) (c : RunState) (states : ℕ → DeviceState) (m : Machine) → c.stage ≡ stage.Saving w n → IsUp c states m → NoLater states c.run
saving_later w n c states m at h = let x = saving_now w n c states m at h in none_later c.shape c.run c.places states c.kept c.opened (Some x.0) (saving_facts w n c x.0 states x.1)

stage_later : (s : RunStage) (c : RunState) (states : ℕ → DeviceState) (m : Machine) → c.stage ≡ s → is_over s ≡ false → HoldsAt s c states m → NoLater states m.run
stage_later stage.Begun c states m at on h = none_later c.shape m.run c.places states (map settled_set h.begins.sets) None None (begun_facts c states m h)
stage_later stage.Storing c states m at on h = none_later c.shape m.run c.places states (map settled_set h.sets) None None (storing_facts c states m h)
stage_later stage.Looking c states m at on h = subst (λ (run : ℕ). NoLater states run) (ap (λ (y : Machine). y.run) (sym h.is)) (none_later c.shape c.run c.places states (map settled_set h.sets) None None (looking_facts c states m h))
stage_later stage.Mending c states m at on h =
    let working : WorkIs stage.Mending c states = subst (λ (s : RunStage). WorkIs s c states) at h.working in
    subst (λ (run : ℕ). NoLater states run) (ap (λ (y : Machine). y.run) (sym h.is)) (none_later c.shape c.run c.places states c.kept c.opened c.opened (serving_facts c states h.well h.files (subst (λ (s : RunStage). (p : ℕ) (q : List ℕ) → p ≤ 32 → (p < c.shape.nodes → IsPending s c q → ⊥) → IsAtRest ((states p).file q)) at h.quiet) (subst (λ (s : RunStage). NoRecordYet s c (cells_of states)) at h.unrecorded) working.1))
stage_later stage.Serving c states m at on h =
    let working : WorkIs stage.Serving c states = subst (λ (s : RunStage). WorkIs s c states) at h.working in
    subst (λ (run : ℕ). NoLater states run) (ap (λ (y : Machine). y.run) (sym h.is)) (none_later c.shape c.run c.places states c.kept c.opened c.opened (serving_facts c states h.well h.files (subst (λ (s : RunStage). (p : ℕ) (q : List ℕ) → p ≤ 32 → (p < c.shape.nodes → IsPending s c q → ⊥) → IsAtRest ((states p).file q)) at h.quiet) (subst (λ (s : RunStage). NoRecordYet s c (cells_of states)) at h.unrecorded) working.1))
stage_later (stage.Saving w n) c states m at on h = subst (λ (run : ℕ). NoLater states run) (ap (λ (y : Machine). y.run) (sym h.is)) (saving_later w n c states m at h)
stage_later (stage.Dropping d n) c states m at on h = subst (λ (run : ℕ). NoLater states run) (ap (λ (y : Machine). y.run) (sym h.leaves.is)) (none_later c.shape c.run c.places states c.kept c.opened (Some h.leaves.set) (leaving_facts _ _ c states m h.leaves))
stage_later stage.Dropped c states m at on h = subst (λ (run : ℕ). NoLater states run) (ap (λ (y : Machine). y.run) (sym h.is)) (none_later c.shape c.run c.places states c.kept c.opened (Some h.set) (leaving_facts _ _ c states m h))
stage_later stage.Over c states m at on h = absurd (cc on)

stage_plain : (s : RunStage) (c : RunState) (states : ℕ → DeviceState) (m : Machine) → is_over s ≡ false → HoldsAt s c states m → IsPlain m
stage_plain stage.Begun c states m on h = record { mark = h.begins.mark_is; pending = ap pending_of h.begins.between }
stage_plain stage.Storing c states m on h = record { mark = h.mark_is; pending = ap pending_of h.between }
stage_plain stage.Looking c states m on h = record { mark = ap (λ (y : Machine). y.mark) h.is; pending = ap (λ (y : Machine). pending_of y.stage) h.is }
stage_plain stage.Mending c states m on h = record { mark = ap (λ (y : Machine). y.mark) h.is; pending = ap (λ (y : Machine). pending_of y.stage) h.is }
stage_plain stage.Serving c states m on h = record { mark = ap (λ (y : Machine). y.mark) h.is; pending = ap (λ (y : Machine). pending_of y.stage) h.is }
stage_plain (stage.Saving w n) c states m on h = record { mark = ap (λ (y : Machine). y.mark) h.is; pending = ap (λ (y : Machine). pending_of y.stage) h.is }
stage_plain (stage.Dropping d n) c states m on h = record { mark = ap (λ (y : Machine). y.mark) h.leaves.is; pending = ap (λ (y : Machine). pending_of y.stage) h.leaves.is }
stage_plain stage.Dropped c states m on h = record { mark = ap (λ (y : Machine). y.mark) h.is; pending = ap (λ (y : Machine). pending_of y.stage) h.is }
stage_plain stage.Over c states m on h = absurd (cc on)

stage_unindexed : (s : RunStage) (c : RunState) (states : ℕ → DeviceState) (m : Machine) → is_over s ≡ false → HoldsAt s c states m → LeavesUnindexed (states 32)
stage_unindexed stage.Begun c states m on h = rest_unindexed (states 32) (λ q other. h.begins.quiet 32 q (omega arith)) h.begins.unindexed
stage_unindexed stage.Storing c states m on h = rest_unindexed (states 32) (λ q other. h.quiet 32 q (omega arith) (λ is number. other number)) h.unindexed
stage_unindexed stage.Looking c states m on h = rest_unindexed (states 32) (λ q other. h.quiet 32 q (omega arith)) h.unindexed
stage_unindexed stage.Mending c states m on h = up_unindexed c states m h
stage_unindexed stage.Serving c states m on h = up_unindexed c states m h
stage_unindexed (stage.Saving w n) c states m on h = up_unindexed c states m h
stage_unindexed (stage.Dropping d n) c states m on h = leaving_unindexed _ _ c states m h.leaves
stage_unindexed stage.Dropped c states m on h = leaving_unindexed _ _ c states m h
stage_unindexed stage.Over c states m on h = absurd (cc on)

pub stage_left : (s : RunStage) (c : RunState) (states : ℕ → DeviceState) (m : Machine) → c.stage ≡ s → is_over s ≡ false → HoldsAt s c states m → IsLeft c states m
stage_left s c states m at on h = record { leaves = stage_kept s c states m at on h; prefix = stage_prefix s c states m on h; later = stage_later s c states m at on h; plain = stage_plain s c states m on h; unindexed = stage_unindexed s c states m on h }

-- ## After a call that was refused

-- the nodes are as they were
kept_apart : (c : RunState) (states after : ℕ → DeviceState) (m : Machine) → ((p : ℕ) → p ≢ 32 → after p ≡ states p) → LeavesKept (setup_of c) c.places states m → LeavesKept (setup_of c) c.places after m
kept_apart c states after m apart l = kept_on (setup_of c) c.places states after m (λ k. low_place c.shape c.places k l.places_are)
    (λ p q low. same_partly ((states p).file q) ((after p).file q) (ap (λ (d : DeviceState). d.file q) (apart p (not_prefix p low)))) (λ p q low. ap (λ (d : DeviceState). (d.file q).now) (apart p (not_prefix p low))) l where
      not_prefix : (p : ℕ) → p < 32 → p ≢ 32
      not_prefix p low is = absurd (omega (arith, low, is))

-- a read, a sync or a removal was refused
pub left_alike : (c : RunState) (place : ℕ) (states after : ℕ → DeviceState) (m : Machine) → OnlyAt place KeptAlike states after → IsLeft c states m → IsLeft c after m
left_alike c place states after m done l = record {
  leaves = kept_on (setup_of c) c.places states after m (λ k. low_place c.shape c.places k l.leaves.places_are) (λ p q low. alike_partly place states after done p q)
      (λ p q low. ap (λ (cells : Cells). cells p q) (cells_alike place states after done.here.alike done.others)) l.leaves;
  prefix = λ left out. l.prefix left (λ q. (alike_partly place states after done 32 q).outcomes (left q) (out q));
  later = later_on states after m.run (λ p q low. alike_partly place states after done p q) l.later;
  plain = l.plain;
  unindexed = less_unindexed (states 32) (after 32) (λ q other. (alike_partly place states after done 32 q).outcomes) l.unindexed;
}

-- a step of the run's number was refused
pub left_unnumbered : (c : RunState) (states after : ℕ → DeviceState) (m : Machine) → c.stage ≡ stage.Storing → IsStoring c states m → (after 32).tells ≡ true → OnlyAt 32 (Unnumbered c.storing.want c.storing.changes) states after → IsLeft c after m
left_unnumbered c states after m at h told done = record {
  leaves = kept_apart c states after m done.others (stage_kept stage.Storing c states m at refl h);
  prefix = storing_prefix c states m h (after 32) (done.here.leaves h.old h.way told) (λ k lt o may.
      rest_leaves ((states 32).file (copy_name (codes "halt") k)) o (h.quiet 32 (copy_name (codes "halt") k) (omega arith) (λ is. no_number_file k)) ((done.here.only.others (copy_name (codes "halt") k) (no_run_file k 0) (no_run_file k 1)).outcomes o may));
  later = later_on states after m.run (λ p q low. same_partly ((states p).file q) ((after p).file q) (ap (λ (d : DeviceState). d.file q) (done.others p (λ is. absurd (omega (arith, is, low)))))) (stage_later stage.Storing c states m at refl h);
  plain = stage_plain stage.Storing c states m refl h;
  unindexed = less_unindexed (states 32) (after 32) (λ q other o may. (done.here.only.others q (λ is. other (inl is)) (λ is. other (inr is))).outcomes o may) (stage_unindexed stage.Storing c states m refl h);
}

-- a gate of the dataset that is being saved was refused
module _ (first : Machine) (c : RunState) (programs : List (List Step)) (states after : ℕ → DeviceState) (events : List Event) (w : SaveStep) (n : ℕ) (m : Manifest) (h : IsSaving first c programs states events w n m) (place gate : ℕ) (home : slice_get c.places n ≡ Some place)
    (done : OnlyAt place (Unturned (record_name m.desc.which n) gate) states after) where
  same_cells : cells_of after ≡ cells_of states
  same_cells = cells_alike place states after done.here.refused.alike done.others

  gate_loose : LeavesRecord w c.opened m ((after place).file (record_name m.desc.which n)) (member_body m.desc n m.files) → IsLoose w n c m after
  gate_loose left = record {
    well = h.well;
    files = subst (λ (cells : Cells). FilesHold c cells) (sym same_cells) h.files;
    quiet = λ p q low calm. refused_rest place states after (record_name m.desc.which n) (record { here = done.here.refused; others = done.others }) p q
        (λ here is. let at = place_of_node c n place h.well home in calm (omega (arith, here, at.0, at.1)) (m, h.saved, inr (n, omega (arith, at.1, few_nodes c.shape), is))) (h.quiet p q low calm);
    saved = h.saved;
    open_yet = h.saves.open_yet;
    apart = h.saves.apart;
    one = h.saves.one;
    leaves = put_leaves w w n c m states after h.well place home h.saves.leaves (record { here = done.here.only; others = done.others }) (λ i e. e) refl left;
  }

  pub gate_left : LeavesRecord w c.opened m ((after place).file (record_name m.desc.which n)) (member_body m.desc n m.files) → IsLeft c after (running (contents_of (cells_of states) c) c)
  gate_left left = subst (λ (cells : Cells). IsLeft c after (running (contents_of cells c) c)) same_cells (loose_left w n c m after (gate_loose left))

-- of a gate `whole`
pub whole_refused : (first : Machine) (c : RunState) (programs : List (List Step)) (states after : ℕ → DeviceState) (events : List Event) (n : ℕ) (m : Manifest) → IsSaving first c programs states events work.Whole n m → (place : ℕ) → slice_get c.places n ≡ Some place
    → OnlyAt place (Unturned (record_name m.desc.which n) 0) states after → IsLeft c after (running (contents_of (cells_of states) c) c)
whole_refused first c programs states after events n m h place home done =
    let f = (states place).file (record_name m.desc.which n) in
    let was : RecordIs f.now m n (is_whole_at work.Whole n n) false = h.saves.records n place home in
    gate_left first c programs states after events work.Whole n m h place 0 home done (record {
      unsealed = λ is. torn_shut 0 1 f ((after place).file (record_name m.desc.which n)) (λ e. absurd (omega (arith, e)))
          (has_byte f (member_body m.desc n m.files) 0 (omega arith) (h.saves.quiet n place (record_name m.desc.which n) home refl) was.body) done.here.torn (h.saves.leaves.unsealed is n place home);
      whole = λ late. absurd (cc late);
    })

-- of a gate `sealed`
pub sealed_refused : (first : Machine) (c : RunState) (programs : List (List Step)) (states after : ℕ → DeviceState) (events : List Event) (n : ℕ) (m : Manifest) → c.opened ≡ None → IsSaving first c programs states events work.Sealed n m → (place : ℕ) → slice_get c.places n ≡ Some place
    → OnlyAt place (Unturned (record_name m.desc.which n) 1) states after → IsLeft c after (running (contents_of (cells_of states) c) c)
sealed_refused first c programs states after events n m closed h place home done =
    let f = (states place).file (record_name m.desc.which n) in
    let was : RecordIs f.now m n true (is_sealed_at work.Sealed n n) = h.saves.records n place home in
    gate_left first c programs states after events work.Sealed n m h place 1 home done (record {
      unsealed = λ is. absurd (cc (closed, is));
      whole = λ late. turned_whole f ((after place).file (record_name m.desc.which n)) (member_body m.desc n m.files)
          (has_byte f (member_body m.desc n m.files) 1 (omega arith) (h.saves.quiet n place (record_name m.desc.which n) home refl) was.body) done.here.torn (h.saves.leaves.whole refl n place home);
    })
