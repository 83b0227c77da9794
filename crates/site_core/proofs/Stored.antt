-- A run's number comes to the prefix, change by change.
use Rattle.std.proofs.Common.{◌≡◌, ◌≢◌, ◌⊎◌, inl, inr, ℕ, zero, suc, ◌+◌, ◌-◌, ◌/◌, ◌<◌, ◌≤◌, ◌^◌, Bool, true, false, List, [], ◌∷◌, ◌++◌, length, map, Option, Some, None, refl, sym, ap, ap₂, ◌∙◌, subst, slice_get, arith, codes, Ok, mod-lt}
use Rattle.std.specs.Prelude.{IsTrue, slice_index, not, ◌&&◌, ◌==◌, nat_lt, if◌then◌else◌, bytes_eq}
use Rattle.std.specs.List.{list_all, list_any, range_with_len}
use Rattle.std.proofs.Math.Path.{fun_ext}
use Rattle.std.proofs.lemmas.Bool.{cases_eq}
use Rattle.std.proofs.lemmas.Bool.Decides.{nat_tests}
use Rattle.std.proofs.lemmas.Slice.Eq.{bytes_eq-Decides}
use Rattle.std.proofs.lemmas.Option.{get_or_from_slice_get}
use Rattle.std.proofs.lemmas.List.{get_or_past}
use Rattle.std.proofs.lemmas.List.FromFn.{length-range_with_len}
use Rattle.halt_file.specs.Conditions.{conditions}
use Rattle.scr_base.specs.Sets.{numbers_below, is_among}
use Rattle.scr_base.specs.declared.shape.DataId.{DataId}
use Rattle.scr_base.specs.declared.shape.Shape.{Shape}
use Rattle.scr_base.specs.declared.change.Change.{Change}
use Rattle.scr_base.specs.declared.content.Step.{Step}
use Rattle.node_device.specs.File.{File, IsAtRest, bytes_of}
use Rattle.node_device.specs.DeviceState.{DeviceState}
use Rattle.node_device.specs.Rack.{OnlyAt}
use Rattle.gated_record.specs.Pair.{value_in, newer, copy_name, copy_of}
use Rattle.gated_record.specs.PairStages.{IsPairStage, PairLeaves, IsOldOrWanted, HasCome}
use Rattle.gated_record.specs.PairSteps.{StepsPair, PairStands}
use Rattle.gated_record.specs.declared.pair.PairValue.{PairValue}
use Rattle.gated_record.proofs.PairWay.{shut_no_value}
use Rattle.member_store.specs.Names.{record_name, part_name}
use Rattle.member_store.specs.declared.part.Part.TheVariants.{File as FilePart}
use Rattle.ckpt_model.specs.declared.event.Event.{Event}
use Rattle.ckpt_model.specs.declared.event.Event.TheVariants as event
use Rattle.ckpt_model.specs.Machine.{Machine, Setup, Kept}
use Rattle.ckpt_model.specs.Steps.{are_places, are_distinct, physical_count, after_begin, is_between}
use Rattle.ckpt_model.proofs.RunLemmas.{run_on}
use Rattle.ckpt_model.proofs.SameLemmas.{bytes-same}
use Rattle.site_state.specs.declared.cache.Manifest.{Manifest}
use Rattle.site_state.specs.declared.run_state.RunState.{RunState}
use Rattle.site_state.specs.declared.run_state.RunStage.{RunStage}
use Rattle.site_state.specs.declared.run_state.RunStage.TheVariants as stage
use Rattle.site_calls.specs.Calls.{Tells}
use Rattle.site_calls.specs.Numbers.{IsNumberFile, Way}
use Rattle.site_state.specs.Shown.{Contents, setup_of, kept_of, begun}
use Rattle.site_calls.specs.Numbers.{run_number}
use Rattle.site_core.specs.Stored.{cells_of, contents_of, contents_in, is_named, place_of_rank, file_name, FilesStand, FileStands, RecordsStand, RecordIs, NoOtherRecords, NoFutureFiles, IsFuture}
use Rattle.site_core.specs.Holds.{HoldsAt, ClosesAt, Leads, IsOneOf, settled_set, IsStoring, IsSoFar}
use Rattle.site_core.proofs.Halts.{halt_apart, unindexed_apart}
use Rattle.site_core.proofs.Puts.{place_is}
use Rattle.site_state.proofs.Shapes.{few_nodes}
use Rattle.site_core.proofs.Numbering.{storing_at, told_storing}

-- ## Places

below_or_not : (k n : ℕ) → (k < n) ⊎ (n ≤ k)
below_or_not k n = grind arith

place_low : (shape : Shape) (places : List ℕ) → places ≡ numbers_below shape.nodes → (k : ℕ) → slice_index places k < 32
place_low shape places is k = pick (below_or_not k shape.nodes) where
  pick : (k < shape.nodes) ⊎ (shape.nodes ≤ k) → slice_index places k < 32
  pick (inl lt) = omega (arith, place_is shape places k is lt, lt, few_nodes shape)
  pick (inr le) = omega (arith, get_or_past places k 0 (omega (arith, le, ap length is, length-range_with_len 0 shape.nodes)))

all_low : (a n top : ℕ) → a + n ≤ top → list_all (λ p. nat_lt p top) (range_with_len a n) ≡ true
all_low a zero top le = refl
all_low a (suc n) top le = ap (λ (b : Bool). b && list_all (λ p. nat_lt p top) (range_with_len (a + 1) n)) (let lt : a < top = omega (arith, le) in test a top lt) ∙ all_low (a + 1) n top (omega (arith, le)) where
  test : (x y : ℕ) → x < y → nat_lt x y ≡ true
  test x y lt = grind (arith, nat_tests, lt)

differ : (x y : ℕ) → x < y → (y == x) ≡ false
differ x y lt = grind (arith, nat_tests, lt)

none_before : (p a n : ℕ) → p < a → is_among p (range_with_len a n) ≡ false
none_before p a zero lt = refl
none_before p a (suc n) lt = ap (λ (b : Bool). Rattle.std.specs.Prelude.◌||◌ b (is_among p (range_with_len (a + 1) n))) (differ p a lt) ∙ none_before p (a + 1) n (omega (arith, lt))

all_apart : (a n : ℕ) → are_distinct (range_with_len a n) ≡ true
all_apart a zero = refl
all_apart a (suc n) = ap (λ (b : Bool). not b && are_distinct (range_with_len (a + 1) n)) (none_before a (a + 1) n (omega arith)) ∙ all_apart (a + 1) n

equal : (x y : ℕ) → x ≡ y → (x == y) ≡ true
equal x y e = grind (arith, nat_tests, e)

places_fit : (s : Setup) → are_places s (numbers_below s.shape.nodes) ≡ true
places_fit s = rw (equal (length (numbers_below s.shape.nodes)) s.shape.nodes (length-range_with_len 0 s.shape.nodes), all_low 0 s.shape.nodes (physical_count s) (omega arith), all_apart 0 s.shape.nodes) refl

-- ## What a number's step leaves as it is

module _ (states after : ℕ → DeviceState) (same : (p : ℕ) → p < 32 → cells_of after p ≡ cells_of states p) where
  pub others_after : (known : Manifest → Type 0) (places : List ℕ) → NoOtherRecords known (cells_of states) places → NoOtherRecords known (cells_of after) places
  others_after known places h p which node low at foreign = ap (λ (f : List ℕ → Option (List ℕ)). f (record_name which node)) (same p low) ∙ h p which node low at foreign

  pub future_after : (run next : ℕ) → NoFutureFiles (cells_of states) run next → NoFutureFiles (cells_of after) run next
  future_after run next h p which node local j low at sl sj future = ap (λ (f : List ℕ → Option (List ℕ)). f (part_name which node (FilePart local j))) (same p low) ∙ h p which node local j low at sl sj future

  module _ (shape : Shape) (places : List ℕ) (are : places ≡ numbers_below shape.nodes) where
    home_low : (node p : ℕ) → slice_get places node ≡ Some p → p < 32
    home_low node p home = subst (λ (k : ℕ). k < 32) (get_or_from_slice_get places node p 0 home) (place_low shape places are node)

    pub contents_after : contents_in (cells_of after) places shape.ranks ≡ contents_in (cells_of states) places shape.ranks
    contents_after = fun_ext (λ which. fun_ext (λ rank. fun_ext (λ j.
        ap (λ (f : List ℕ → Option (List ℕ)). if is_named which rank j then bytes_of (f (file_name which shape.ranks rank j)) else []) (same (place_of_rank places shape.ranks rank) (place_low shape places are (rank / shape.ranks))))))

    pub files_after : (x : Manifest) → FilesStand (cells_of states) places shape.ranks x → FilesStand (cells_of after) places shape.ranks x
    files_after x h rank j row at = subst (λ (f : List ℕ → Option (List ℕ)). FileStands (f (file_name x.desc.which shape.ranks rank j)) row) (sym (same (place_of_rank places shape.ranks rank) (place_low shape places are (rank / shape.ranks)))) (h rank j row at)

    pub records_after : (x : Manifest) → RecordsStand (cells_of states) places x → RecordsStand (cells_of after) places x
    records_after x h node p home = subst (λ (f : List ℕ → Option (List ℕ)). RecordIs (f (record_name x.desc.which node)) x node true true) (sym (same p (home_low node p home))) (h node p home)

-- where the prefix alone was used, the nodes read as they did
nodes_same : (states after : ℕ → DeviceState) → ((q : ℕ) → q ≢ 32 → after q ≡ states q) → (p : ℕ) → p < 32 → cells_of after p ≡ cells_of states p
nodes_same states after others p low = fun_ext (λ q. ap (λ (d : DeviceState). (d.file q).now) (others p (λ e. absurd (omega (arith, low, e)))))

-- ## On the way

-- one change was made, at most
abbrev pub Stepped : PairValue → Bool → Option (List Change) → Option (List Change) → (ℕ → DeviceState) → (ℕ → DeviceState) → Type 0
Stepped want over before next states after = OnlyAt 32 (λ a b. StepsPair (codes "run") want (Ok over) before next a b) states after

pub stepped : (first : Machine) (c : RunState) (programs : List (List Step)) (states after : ℕ → DeviceState) (events : List Event) (over : Bool) (way : Way) → c.stage ≡ stage.Storing → way.want ≡ c.storing.want
    → Stepped c.storing.want over c.storing.changes way.changes states after → (after 32).tells ≡ true → Leads first c programs states events → Leads first (record c { storing = way }) programs after events
stepped first c programs states after events over way at same done told leads =
    let m = leads.state in
    let h = storing_at c.stage c states m at leads.holds in
    let fresh = h.fresh in
    let places = fresh.places in
    let nodes = nodes_same states after done.others in
    let d : RunState = record c { storing = way } in
    let way_on : IsPairStage (codes "run") h.old c.storing.want (after 32) way.changes = (done.here.goes h.old h.way).stage in
    let holds : IsStoring d after m = record {
      fresh = record { single = fresh.single; places = fresh.places; phase_is = fresh.phase_is; offer = fresh.offer; opened = fresh.opened; ranks = fresh.ranks; settled = fresh.settled; needs = fresh.needs; reading = fresh.reading };
      sets = h.sets;
      old = h.old;
      old_is = h.old_is;
      want = same ∙ h.want;
      way = subst (λ (w : PairValue). IsPairStage (codes "run") h.old w (after 32) way.changes) (sym same) way_on;
      leaves = subst (λ (w : PairValue). PairLeaves (codes "run") (after 32) (IsOldOrWanted h.old w)) (sym same) ((done.here.goes h.old h.way).leaves told);
      quiet = λ p q low other. pick p q low other (cases_eq p 32) (h.quiet p q low other);
      rise = h.rise;
      sets_are = h.sets_are;
      files = λ x one. files_after states after nodes c.shape c.places places x (h.files x one);
      records = λ x one. records_after states after nodes c.shape c.places places x (h.records x one);
      others = others_after states after nodes (IsOneOf h.sets) c.places h.others;
      future = future_after states after nodes (m.run + 1) 0 h.future;
      between = h.between;
      kept = h.kept ∙ ap (λ (bytes : Contents). map (kept_of (setup_of c) bytes c.places) (map settled_set h.sets)) (sym (contents_after states after nodes c.shape c.places places));
      index = h.index;
      halt = h.halt;
      halted = halt_apart states after done.here.only ∙ h.halted;
      unindexed = unindexed_apart states after done.here.only h.unindexed;
      mark_is = h.mark_is;
      run = h.run;
      fits = h.fits;
    } in
    record {
      state = m;
      run = leads.run;
      holds = subst (λ (s : RunStage). HoldsAt s d after m) (sym at) holds;
      told = leads.told;
      closes = subst (λ (s : RunStage). ClosesAt s (setup_of c) first c.places programs after events) (sym at) tt;
    } where
      pick : (p : ℕ) (q : List ℕ) → p ≤ 32 → (p ≡ 32 → IsNumberFile q → ⊥) → (p ≡ 32) ⊎ (p ≢ 32) → IsAtRest ((states p).file q) → IsAtRest ((after p).file q)
      pick p q low other (inl is) rest = subst (λ (k : ℕ). IsAtRest ((after k).file q)) (sym is) (done.here.rest q (λ e. other is (inl e)) (λ e. other is (inr e)) (subst (λ (k : ℕ). IsAtRest ((states k).file q)) is rest))
      pick p q low other (inr ne) rest = subst (λ (s : DeviceState). IsAtRest (s.file q)) (sym (done.others p ne)) rest

-- ## At the prefix

two : (k : ℕ) → k < 2 → (k ≡ 0) ⊎ (k ≡ 1)
two k lt = grind (arith, lt)

come_value : (f : ℕ → File) (copy : ℕ) (want : PairValue) → (copy ≡ 0) ⊎ (copy ≡ 1) → HasCome copy want (f copy) (f (1 - copy)) → newer (value_in 0 (f 0).now) (value_in 1 (f 1).now) ≡ Some want
come_value f copy want (inl e) h =
    let come : HasCome 0 want (f 0) (f 1) = subst (λ (k : ℕ). HasCome k want (f k) (f (1 - k))) e h in
    ap₂ newer come.stands (shut_no_value 1 (f 1).now come.shut)
come_value f copy want (inr e) h =
    let come : HasCome 1 want (f 1) (f 0) = subst (λ (k : ℕ). HasCome k want (f k) (f (1 - k))) e h in
    ap₂ newer (shut_no_value 0 (f 0).now come.shut) come.stands

come_rest : (f : ℕ → File) (copy : ℕ) (want : PairValue) → (copy ≡ 0) ⊎ (copy ≡ 1) → HasCome copy want (f copy) (f (1 - copy)) → IsAtRest (f 0) × IsAtRest (f 1)
come_rest f copy want (inl e) h =
    let come : HasCome 0 want (f 0) (f 1) = subst (λ (k : ℕ). HasCome k want (f k) (f (1 - k))) e h in
    (come.stable, come.other_stable)
come_rest f copy want (inr e) h =
    let come : HasCome 1 want (f 1) (f 0) = subst (λ (k : ℕ). HasCome k want (f k) (f (1 - k))) e h in
    (come.other_stable, come.stable)

is_or_not : (a b : List ℕ) → (a ≡ b) ⊎ (a ≢ b)
is_or_not a b = pick (bytes_eq a b) refl where
  pick : (t : Bool) → bytes_eq a b ≡ t → (a ≡ b) ⊎ (a ≢ b)
  pick true e = inl ((bytes_eq-Decides a b).0 e)
  pick false e = inr (λ same. absurd (let is = (bytes_eq-Decides a b).1 same in cc (e, is)))

four : (a b c d : Bool) → a ≡ true → b ≡ true → c ≡ true → d ≡ true → IsTrue (a && b && c && d)
four a b c d p q r t = rw (p, q, r, t) refl

small_run : (n k : ℕ) → k ≡ n + 1 → k < 2 ^ 32 → nat_lt n 4294967295 ≡ true
small_run n k e lt = grind (arith, nat_tests, e, lt)

begun_is : (c : RunState) (m : Machine) (kept : List Kept) → m.kept ≡ kept → m.index ≡ [] → m.halt ≡ conditions c.halt → m.mark ≡ None → begun c m.next kept ≡ after_begin (setup_of c) m c.run c.places
begun_is c m kept k i h e = rw (k, i, h, e) refl

-- the run's number is stored: the run is told
pub arrived : (first : Machine) (c : RunState) (programs : List (List Step)) (states after : ℕ → DeviceState) (events events' : List Event) (over : Bool) (way : Way) → c.stage ≡ stage.Storing → over ≡ true → Tells states
    → Stepped c.storing.want over c.storing.changes way.changes states after → events' ≡ events ++ event.Run c.run c.places ∷ [] → Leads first c programs states events
    → Leads first (record c { storing = way; stage = stage.Looking }) programs after events'
arrived first c programs states after events events' over way at is_over tells done more leads =
    let m = leads.state in
    let h = storing_at c.stage c states m at leads.holds in
    let none = told_storing c.stage c.places programs events at leads.told in
    let alone : events' ≡ event.Run c.run c.places ∷ [] = more ∙ ap (λ (es : List Event). es ++ event.Run c.run c.places ∷ []) none in
    let fresh = h.fresh in
    let places = fresh.places in
    let nodes = nodes_same states after done.others in
    let want = c.storing.want in
    let stands : PairStands (codes "run") want (after 32) = done.here.stands h.old h.way is_over (tells 32 (omega arith)) in
    let copy = two (copy_of want) (mod-lt want.version {m = 2} (omega arith)) in
    let files : ℕ → File = λ k. (after 32).file (copy_name (codes "run") k) in
    let at_rest = come_rest files (copy_of want) want copy stands in
    let d : RunState = record c { storing = way; stage = stage.Looking } in
    let kept = map (kept_of (setup_of c) (contents_of (cells_of after) c) c.places) (map settled_set h.sets) in
    let kept_is : m.kept ≡ kept = h.kept ∙ ap (λ (bytes : Contents). map (kept_of (setup_of c) bytes c.places) (map settled_set h.sets)) (sym (contents_after states after nodes c.shape c.places places)) in
    let future : NoFutureFiles (cells_of after) c.run 0 = subst (λ (r : ℕ). NoFutureFiles (cells_of after) r 0) (sym h.run) (future_after states after nodes (m.run + 1) 0 h.future) in
    record {
      state = begun c m.next kept;
      run = run_on (setup_of c) first m (begun c m.next kept) events events' (event.Run c.run c.places) more leads.run
          (four _ _ _ _ (ap is_between h.between) (equal c.run (m.run + 1) h.run) (small_run m.run c.run h.run h.fits) (ap (are_places (setup_of c)) places ∙ places_fit (setup_of c)), begun_is c m kept kept_is h.index h.halt h.mark_is);
      holds = record {
        fresh = record { single = fresh.single; places = fresh.places; phase_is = fresh.phase_is; offer = fresh.offer; opened = fresh.opened; ranks = fresh.ranks; settled = fresh.settled; needs = fresh.needs; reading = fresh.reading };
        sets = h.sets;
        next = m.next;
        quiet = λ p q low. pick p q low at_rest (cases_eq p 32) (is_or_not q (copy_name (codes "run") 0)) (is_or_not q (copy_name (codes "run") 1)) (h.quiet p q low);
        store = record {
          stored = ap run_number (come_value files (copy_of want) want copy stands) ∙ ap (λ (w : PairValue). w.version) h.want;
          rise = h.rise;
          sets_are = λ x one. let of = h.sets_are x one in record { named = of.named; nodes = of.nodes; ranks = of.ranks; files = of.files; run_is = omega (arith, of.run_is, h.run); single = of.single };
          files = λ x one. subst (λ (ps : List ℕ). FilesStand (cells_of after) ps c.shape.ranks x) places (files_after states after nodes c.shape c.places places x (h.files x one));
          records = λ x one. subst (λ (ps : List ℕ). RecordsStand (cells_of after) ps x) places (records_after states after nodes c.shape c.places places x (h.records x one));
          others = subst (λ (ps : List ℕ). NoOtherRecords (IsOneOf h.sets) (cells_of after) ps) places (others_after states after nodes (IsOneOf h.sets) c.places h.others);
          future = λ p which node local j low place sl sj later. future p which node local j low place sl sj (sooner which later);
        };
        halted = halt_apart states after done.here.only ∙ h.halted;
        unindexed = unindexed_apart states after done.here.only h.unindexed;
        runs = λ x one. let of = h.sets_are x one in omega (arith, of.run_is, h.run);
        future = future;
        is = refl;
      };
      told = subst (λ (es : List Event). IsSoFar c.places programs es) (sym alone) (record { begin = bytes-same c.places; steps = (tt, tt); goes_on = refl });
      closes = tt;
    } where
      sooner : (which : DataId) → IsFuture (c.run + 1) 0 which → IsFuture c.run 0 which
      sooner which (inl lt) = inl (omega (arith, lt))
      sooner which (inr s) = inl (omega (arith, s.0))

      pick : (p : ℕ) (q : List ℕ) → p ≤ 32 → IsAtRest ((after 32).file (copy_name (codes "run") 0)) × IsAtRest ((after 32).file (copy_name (codes "run") 1)) → (p ≡ 32) ⊎ (p ≢ 32)
          → (q ≡ copy_name (codes "run") 0) ⊎ (q ≢ copy_name (codes "run") 0) → (q ≡ copy_name (codes "run") 1) ⊎ (q ≢ copy_name (codes "run") 1)
          → ((p ≡ 32 → IsNumberFile q → ⊥) → IsAtRest ((states p).file q)) → IsAtRest ((after p).file q)
      pick p q low at_rest (inr ne) zero_is one_is rest = subst (λ (s : DeviceState). IsAtRest (s.file q)) (sym (done.others p ne)) (rest (λ e. absurd (ne e)))
      pick p q low at_rest (inl is) (inl zero_is) one_is rest = subst (λ (k : ℕ). IsAtRest ((after k).file q)) (sym is) (subst (λ (n : List ℕ). IsAtRest ((after 32).file n)) (sym zero_is) at_rest.0)
      pick p q low at_rest (inl is) (inr zero_no) (inl one_is) rest = subst (λ (k : ℕ). IsAtRest ((after k).file q)) (sym is) (subst (λ (n : List ℕ). IsAtRest ((after 32).file n)) (sym one_is) at_rest.1)
      pick p q low at_rest (inl is) (inr zero_no) (inr one_no) rest =
          subst (λ (k : ℕ). IsAtRest ((after k).file q)) (sym is) (done.here.rest q zero_no one_no (subst (λ (k : ℕ). IsAtRest ((states k).file q)) is (rest (λ e. not_copy))))
        where
          not_copy : IsNumberFile q → ⊥
          not_copy (inl e) = zero_no e
          not_copy (inr e) = one_no e
