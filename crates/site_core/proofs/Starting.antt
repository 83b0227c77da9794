-- A dataset is begun.
use Rattle.std.proofs.Common.{◌≡◌, ◌⊎◌, inl, inr, ℕ, zero, suc, ◌+◌, ◌*◌, ◌/◌, ◌%◌, ◌<◌, ◌≤◌, ◌^◌, true, false, List, [], ◌∷◌, ◌++◌, length, map, replicate, Some, None, refl, sym, ap, ◌∙◌, subst, slice_get, get_or, arith}
use Rattle.std.specs.Prelude.{All}
use Rattle.std.proofs.lemmas.List.{length-map, length-replicate}
use Rattle.scr_base.specs.declared.shape.DataId.{DataId}
use Rattle.scr_base.specs.declared.shape.Flags.{Flags}
use Rattle.scr_base.specs.declared.content.Step.{Step}
use Rattle.scr_base.specs.declared.content.Step.TheVariants as step
use Rattle.scr_base.specs.declared.answers.Phase.TheVariants as phase
use Rattle.scr_base.specs.declared.answers.Reply.TheVariants as reply
use Rattle.node_device.specs.File.{IsAtRest}
use Rattle.node_device.specs.DeviceState.{DeviceState}
use Rattle.filemap.specs.Rows.{IsRows}
use Rattle.filemap.specs.Maps.{IsMap, rows_of}
use Rattle.filemap.specs.declared.rows.FileRow.{FileRow}
use Rattle.ckpt_model.specs.declared.event.Event.{Event}
use Rattle.ckpt_model.specs.declared.event.Event.TheVariants as event
use Rattle.ckpt_model.specs.declared.event.Kind.TheVariants as kind
use Rattle.ckpt_model.specs.Machine.{Machine}
use Rattle.ckpt_model.proofs.RunLemmas.{run_on}
use Rattle.round_core.specs.declared.seat.Seat.{Seat}
use Rattle.round_core.specs.Seats.{owed}
use Rattle.site_state.specs.declared.cache.Cached.{Cached}
use Rattle.site_state.specs.declared.cache.Manifest.{Manifest}
use Rattle.site_state.specs.declared.run_state.RunState.{RunState}
use Rattle.site_state.specs.declared.run_state.RunStage.{RunStage}
use Rattle.site_state.specs.declared.run_state.RunStage.TheVariants as stage
use Rattle.site_state.specs.Shown.{running, setup_of}
use Rattle.site_state.specs.Choosing.{AreBelow, is_crowded}
use Rattle.site_state.specs.Cores.{IsOpened, HasShape}
use Rattle.site_stands.specs.Described.{is_single}
use Rattle.site_core.specs.Stored.{cells_of, contents_of, place_of_rank, IsFuture, IsKnown, IsOfSite}
use Rattle.site_core.specs.Holds.{Leads, IsPending, NoRecordYet, WorkIs}
use Rattle.site_state.specs.Asked.{IsClearRound}
use Rattle.site_core.proofs.Told.{is_up, led, leads_up, tells_more}
use Rattle.site_core.proofs.Frames.{div_small, mod_small}
use Rattle.site_state.proofs.Shapes.{few_ranks}
use Rattle.site_core.proofs.Puts.{below_of, rank_place_low}
use Rattle.site_state.proofs.Rounds.{started}

below-more : (n : ℕ) (sets : List Cached) → AreBelow n sets → AreBelow (n + 1) sets
below-more n [] below = tt
below-more n (x ∷ xs) below = (omega (arith, below.0), below-more n xs below.1)

abbrev no_rows : List FileRow
no_rows = []

none-row : (n rank : ℕ) → get_or (replicate n no_rows) rank no_rows ≡ no_rows
none-row zero rank = refl
none-row (suc n) zero = refl
none-row (suc n) (suc rank) = none-row n rank

none-rows : (n : ℕ) → All IsRows (replicate n no_rows)
none-rows zero = Rattle.std.proofs.lemmas.List.Elements.All-nil IsRows
none-rows (suc n) = Rattle.std.proofs.lemmas.List.Elements.All-cons IsRows [] (replicate n []) empty (none-rows n) where
  empty : IsRows []
  empty = record { few = omega arith; fit = Rattle.std.proofs.lemmas.List.Elements.All-nil Rattle.filemap.specs.Rows.IsRow; distinct = λ i j d lt within. absurd (omega (arith, within)) }

some_same : {X : Type 0} (x y : X) → Some x ≡ Some y → x ≡ y
some_same x y e = cc

-- the run with this dataset begun
abbrev pub begun_core : RunState → Manifest → List Seat → RunState
begun_core c m ranks = record c { opened = Some m; next = c.next + 1; phase = phase.Output; reading = None; ranks = ranks }

pub begins : (first : Machine) (c : RunState) (programs : List (List Step)) (states : ℕ → DeviceState) (events events' : List Event) (name : List ℕ) (flags : Flags) (m : Manifest) (which : DataId) (ranks : List Seat) → c.stage ≡ stage.Serving → IsClearRound c (step.Start name flags)
    → c.opened ≡ None → is_crowded c ≡ false → which ≡ record { id = c.next; run = c.run } → IsOpened c name flags m → HasShape c m → ranks ≡ map (owed (reply.Started which)) c.ranks
    → events' ≡ events ++ event.Decided kind.Start (reply.Started which) ∷ [] → Leads first c programs states events → Leads first (begun_core c m ranks) programs states events'
begins first c programs states events events' name flags m which ranks at round closed room is opened shape ranks_are more leads =
    let h = led first c programs states events (ap is_up at) leads in
    let d = begun_core c m ranks in
    let bytes = contents_of (cells_of states) c in
    let working : WorkIs stage.Serving c states = subst (λ (s : RunStage). WorkIs s c states) at h.working in
    let quiet = subst (λ (s : RunStage). (p : ℕ) (q : List ℕ) → p ≤ 32 → (p < c.shape.nodes → IsPending s c q → ⊥) → IsAtRest ((states p).file q)) at h.quiet in
    leads_up first d programs states events' (ap is_up at) (record {
      run = run_on (setup_of c) first (running bytes c) (running bytes d) events events' (event.Decided kind.Start (reply.Started which)) more h.run
          (subst (λ (rs : List Seat). Rattle.ckpt_model.specs.Runs.StepsTo (setup_of c) (running bytes c) (event.Decided kind.Start (reply.Started which)) (running bytes (begun_core c m rs))) (sym ranks_are)
          (started c bytes name flags m round.complete round.first round.clear room opened which is));
      so_far = tells_more c.places programs events events' (event.Decided kind.Start (reply.Started which)) more h.so_far tt refl;
      well = record {
        single = h.well.single;
        places = h.well.places;
        rise = h.well.rise;
        below = below-more c.next c.kept h.well.below;
        sets = λ x known. of_site h.well.single h.well.sets x known;
        opened_run = λ x e. ap (λ (w : DataId). w.run) (which_is x e);
        opened_below = λ x e. omega (arith, ap (λ (w : DataId). w.id) (which_is x e));
        output = λ x e. refl;
        opened_last = λ x e. subst (λ (n : ℕ). AreBelow n c.kept) (sym (ap (λ (w : DataId). w.id) (which_is x e))) h.well.below;
        ranks = ap length ranks_are ∙ length-map c.ranks (owed (reply.Started which)) ∙ h.well.ranks;
      };
      files = record {
        stored = h.files.stored;
        halted = h.files.halted;
        unindexed = h.files.unindexed;
        files = λ x known. stands h.files.files x known;
        records = h.files.records;
        others = λ p w node low place foreign. h.files.others p w node low place (λ x known same home. foreign x (known_more x known) same home);
        future = λ p w node local j low place sl sj later. h.files.future p w node local j low place sl sj (sooner w later);
        fresh = λ x e rank j lt small past. no_file h.well h.files x e rank j lt small;
      };
      quiet = λ p q low calm. quiet p q low (λ on pending. absurd (cc (closed, pending.1)));
      unrecorded = subst (λ (s : RunStage). NoRecordYet s d (cells_of states)) (sym at) (λ x e p node low place. h.files.others p x.desc.which node low place (λ y known same home. not_known h.well x e y known same));
      working = subst (λ (s : RunStage). WorkIs s d states) (sym at) working;
    }) where
      which_is : (x : Manifest) → Some m ≡ Some x → x.desc.which ≡ record { id = c.next; run = c.run }
      which_is x e = ap (λ (y : Manifest). y.desc.which) (sym (some_same m x e)) ∙ opened.which

      known_before : (x : Manifest) → IsKnown (begun_core c m ranks) x → (Some m ≡ Some x) ⊎ IsKnown c x
      known_before x (inl e) = inl e
      known_before x (inr among) = inr (inr among)

      known_more : (x : Manifest) → IsKnown c x → IsKnown (begun_core c m ranks) x
      known_more x (inl e) = absurd (cc (closed, e))
      known_more x (inr among) = inr among

      map_is : IsMap (c.shape.nodes * c.shape.ranks) m.files
      map_is = subst (λ (fs : List (List FileRow)). IsMap (c.shape.nodes * c.shape.ranks) fs) (sym opened.files) (record { ranks_are = length-replicate (c.shape.nodes * c.shape.ranks) []; rows = none-rows (c.shape.nodes * c.shape.ranks) })

      of_site : is_single c.config.scheme ≡ true → ((x : Manifest) → IsKnown c x → IsOfSite c.shape c.run x) → (x : Manifest) → IsKnown (begun_core c m ranks) x → IsOfSite c.shape c.run x
      of_site single old x known = pick (known_before x known) where
        mine : IsOfSite c.shape c.run m
        mine = record { named = opened.named; nodes = shape.nodes; ranks = shape.ranks; files = map_is; run_is = omega (arith, ap (λ (w : DataId). w.run) opened.which); single = ap is_single opened.scheme ∙ single }

        pick : (Some m ≡ Some x) ⊎ IsKnown c x → IsOfSite c.shape c.run x
        pick (inl e) = subst (λ (y : Manifest). IsOfSite c.shape c.run y) (some_same m x e) mine
        pick (inr k) = old x k

      stands : ((x : Manifest) → IsKnown c x → Rattle.site_core.specs.Stored.FilesStand (cells_of states) c.places c.shape.ranks x) → (x : Manifest) → IsKnown (begun_core c m ranks) x → Rattle.site_core.specs.Stored.FilesStand (cells_of states) c.places c.shape.ranks x
      stands old x known = pick (known_before x known) where
        pick : (Some m ≡ Some x) ⊎ IsKnown c x → Rattle.site_core.specs.Stored.FilesStand (cells_of states) c.places c.shape.ranks x
        pick (inr k) = old x k
        pick (inl e) = λ rank j row is.
            let empty : rows_of x.files rank ≡ [] = ap (λ (y : Manifest). rows_of y.files rank) (sym (some_same m x e)) ∙ ap (λ (fs : List (List FileRow)). rows_of fs rank) opened.files ∙ none-row (c.shape.nodes * c.shape.ranks) rank in
            absurd (no_row j row (ap (λ (rs : List FileRow). slice_get rs j) (sym empty) ∙ is)) where
              no_row : (j : ℕ) (row : FileRow) → slice_get [] j ≡ Some row → ⊥
              no_row j row e = cc e

      sooner : (w : DataId) → IsFuture c.run (c.next + 1) w → IsFuture c.run c.next w
      sooner w (inl later) = inl later
      sooner w (inr s) = inr (s.0, omega (arith, s.1))

      no_file : Rattle.site_core.specs.Stored.IsWell c → Rattle.site_core.specs.Stored.FilesHold c (cells_of states) → (x : Manifest) → Some m ≡ Some x → (rank j : ℕ) → rank < length x.files → j < 2 ^ 8
          → cells_of states (place_of_rank c.places c.shape.ranks rank) (Rattle.site_core.specs.Stored.file_name x.desc.which c.shape.ranks rank j) ≡ None
      no_file well files x e rank j lt small =
          let total : length x.files ≡ c.shape.nodes * c.shape.ranks = ap (λ (y : Manifest). length y.files) (sym (some_same m x e)) ∙ map_is.ranks_are in
          let below : rank < c.shape.nodes * c.shape.ranks = omega (arith, lt, total) in
          let byte : rank < 2 ^ 8 = omega (arith, below, few_ranks c.shape) in
          files.future (place_of_rank c.places c.shape.ranks rank) x.desc.which (rank / c.shape.ranks) (rank % c.shape.ranks) j (rank_place_low c rank well below)
          (Rattle.site_core.proofs.Frames.is_place x.desc (rank / c.shape.ranks) (div_small rank c.shape.ranks byte)) (mod_small rank c.shape.ranks byte) small
          (inr (ap (λ (w : DataId). w.run) (which_is x e), omega (arith, ap (λ (w : DataId). w.id) (which_is x e))))

      not_known : Rattle.site_core.specs.Stored.IsWell c → (x : Manifest) → Some m ≡ Some x → (y : Manifest) → IsKnown c y → y.desc.which ≡ x.desc.which → ⊥
      not_known well x e y (inl k) same = absurd (cc (closed, k))
      not_known well x e y (inr among) same =
          let lt = below_of c.next c.kept among.0 among.1 well.below among.2 in
          absurd (omega (arith, lt, ap (λ (z : Manifest). z.desc.which.id) among.3, ap (λ (w : DataId). w.id) same, ap (λ (w : DataId). w.id) (which_is x e)))
