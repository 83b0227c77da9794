-- A rank's own steps, with their files.
use Rattle.std.proofs.Common.{◌≡◌, ◌≢◌, ◌⊎◌, inl, inr, ℕ, zero, suc, ◌+◌, ◌-◌, ◌*◌, ◌/◌, ◌%◌, ◌<◌, ◌≤◌, ◌^◌, Bool, true, false, List, [], ◌∷◌, ◌++◌, length, max, take, drop, replicate, Option, Some, None, refl, sym, ap, ◌∙◌, subst, slice_get, get_or, arith, length-append, length-take, length-drop}
use Rattle.std.specs.Prelude.{slice_set, All, if◌then◌else◌}
use Rattle.std.proofs.lemmas.Bool.{cases_eq}
use Rattle.std.proofs.Math.Path.{fun_ext}
use Rattle.std.proofs.lemmas.Option.{slice_get_within, slice_get-get_or}
use Rattle.std.proofs.lemmas.List.{get_or-set_same, get_or-set_other, length-set, length-replicate}
use Rattle.scr_base.specs.declared.shape.DataId.{DataId}
use Rattle.scr_base.specs.declared.answers.Phase.TheVariants as phase
use Rattle.scr_base.specs.declared.answers.Reply.TheVariants as reply
use Rattle.scr_base.specs.declared.content.Content.{Content}
use Rattle.scr_base.specs.declared.content.Step.{Step}
use Rattle.scr_base.specs.declared.content.Step.TheVariants as step
use Rattle.scr_base.specs.Bytes.{bytes_for}
use Rattle.node_device.specs.File.{bytes_of, written, IsAtRest}
use Rattle.node_device.specs.DeviceState.{DeviceState, ChangesOnly}
use Rattle.node_device.specs.Rack.{OnlyAt}
use Rattle.filemap.specs.Rows.{IsRows, is_routed, routed, extended, place_of}
use Rattle.filemap.specs.Maps.{rows_of}
use Rattle.filemap.specs.declared.rows.FileRow.{FileRow}
use Rattle.member_store.specs.Names.{record_name, IsPlace}
use Rattle.ckpt_model.specs.declared.event.Event.{Event}
use Rattle.ckpt_model.specs.declared.event.Event.TheVariants as event
use Rattle.ckpt_model.specs.Machine.{Machine}
use Rattle.ckpt_model.specs.Legal.{IsOfProgram, is_stop}
use Rattle.ckpt_model.specs.Dataset.{written_at, extended_to}
use Rattle.ckpt_model.specs.Answers.{part_name}
use Rattle.ckpt_model.specs.Runs.{StepsTo}
use Rattle.ckpt_model.proofs.RunLemmas.{run_on}
use Rattle.round_core.specs.declared.seat.Seat.{Seat}
use Rattle.round_core.specs.Seats.{is_free, stepped}
use Rattle.site_state.specs.declared.cache.Cached.{Cached}
use Rattle.site_state.specs.declared.cache.Manifest.{Manifest}
use Rattle.site_state.specs.declared.run_state.RunState.{RunState}
use Rattle.site_state.specs.declared.run_state.RunStage.{RunStage}
use Rattle.site_state.specs.declared.run_state.RunStage.TheVariants as stage
use Rattle.site_state.specs.Shown.{Contents, running, setup_of}
use Rattle.site_state.specs.Choosing.{seals, local_verdict_of, at_hand}
use Rattle.site_calls.specs.Calls.{Written, Tells}
use Rattle.site_core.specs.Stored.{Cells, cells_of, contents_in, contents_of, place_of_rank, file_name, IsKnown, IsWell, IsOfSite, ChangesFile}
use Rattle.site_core.specs.Holds.{Leads, NoRecordYet, IsPending, WorkIs, IsFileOf}
use Rattle.site_core.proofs.Told.{is_up, IsLed, led, leads_up, tells_more}
use Rattle.site_core.proofs.Frames.{IsNamed, AreFilesSame, other_contents, this_contents, these_contents, every_record, data-same}
use Rattle.site_core.proofs.Puts.{file_changes, rest_stays, IsPutRow, put_holds, rank_place_low, place_is, node_below, row_named, few_rows}
use Rattle.site_state.specs.Cores.{with_rows, with_open}
use Rattle.site_state.proofs.Locals.{AreOther, NoneMore, Other, routes, writes}

-- ## Rows

routed_row : (rows : List FileRow) (name : List ℕ) → is_routed rows name ≡ false → IsPutRow rows (rows ++ record { name = name; len = 0 } ∷ []) (length rows) 0
routed_row rows name new = record {
  others = others rows;
  this = this rows;
  there = omega (arith, length-append rows ((let r : FileRow = record { name = name; len = 0 } in r) ∷ []));
  longer = omega (arith, length-append rows ((let r : FileRow = record { name = name; len = 0 } in r) ∷ []));
} where
  row : FileRow
  row = record { name = name; len = 0 }

  others : (xs : List FileRow) (i : ℕ) (x : FileRow) → slice_get (xs ++ record { name = name; len = 0 } ∷ []) i ≡ Some x → i ≢ length xs → slice_get xs i ≡ Some x
  others [] zero x at other = absurd (other refl)
  others [] (suc i) x at other = absurd (cc at)
  others (y ∷ ys) zero x at other = at
  others (y ∷ ys) (suc i) x at other = others ys i x at (λ e. other (ap suc e))

  this : (xs : List FileRow) (x : FileRow) → slice_get (xs ++ record { name = name; len = 0 } ∷ []) (length xs) ≡ Some x → x.len ≡ 0
  this [] x at = ap (λ (r : FileRow). r.len) (sym (some_row (record { name = name; len = 0 }) x at)) where
    some_row : (a b : FileRow) → Some a ≡ Some b → a ≡ b
    some_row a b e = cc
  this (y ∷ ys) x at = this ys x at

length-extended : (rows : List FileRow) (j len : ℕ) → length (extended rows j len) ≡ length rows
length-extended [] j len = refl
length-extended (r ∷ rs) zero len = refl
length-extended (r ∷ rs) (suc j) len = ap suc (length-extended rs j len)

extended_others : (rows : List FileRow) (j len i : ℕ) (x : FileRow) → slice_get (extended rows j len) i ≡ Some x → i ≢ j → slice_get rows i ≡ Some x
extended_others [] j len i x at other = absurd (cc at)
extended_others (r ∷ rs) zero len zero x at other = absurd (other refl)
extended_others (r ∷ rs) zero len (suc i) x at other = at
extended_others (r ∷ rs) (suc j) len zero x at other = at
extended_others (r ∷ rs) (suc j) len (suc i) x at other = extended_others rs j len i x at (λ e. other (ap suc e))

extended_this : (rows : List FileRow) (j len : ℕ) (row x : FileRow) → slice_get rows j ≡ Some row → slice_get (extended rows j len) j ≡ Some x → x.len ≡ max row.len len
extended_this [] j len row x was at = absurd (cc at)
extended_this (r ∷ rs) zero len row x was at = ap (λ (y : FileRow). y.len) (sym (some_row (record { name = r.name; len = max r.len len }) x at)) ∙ ap (λ (y : FileRow). max y.len len) (some_row r row was) where
  some_row : (a b : FileRow) → Some a ≡ Some b → a ≡ b
  some_row a b e = cc
extended_this (r ∷ rs) (suc j) len row x was at = extended_this rs j len row x was at

-- as a file is after its length was raised to a place
extended_length : (len : ℕ) (bytes : List ℕ) → length (extended_to len bytes) ≡ max len (length bytes)
extended_length len bytes = grind (arith, length-append bytes (replicate (len - length bytes) 0), length-replicate {A = ℕ} (len - length bytes) 0)

pub length-written_at : (old : List ℕ) (at : ℕ) (new : List ℕ) → length (written_at old at new) ≡ max (length old) (at + length new)
length-written_at old at new = grind (arith, extended_length at old, length-take at (extended_to at old), length-drop (at + length new) old, length-append (take at (extended_to at old) ++ new) (drop (at + length new) old), length-append (take at (extended_to at old)) new)

-- ## The run after a put

module _ (first : Machine) (c : RunState) (programs : List (List Step)) (states after : ℕ → DeviceState) (events events' : List Event) (e : Event) (m : Manifest) (rank j : ℕ) (rows : List FileRow) (bytes : List ℕ) (ranks : List Seat)
    (at : c.stage ≡ stage.Serving) (h : IsLed first c programs states events) (opened : c.opened ≡ Some m) (lt : rank < length m.files) (small : j < 2 ^ 8)
    (fit : IsRows rows) (row : IsPutRow (rows_of m.files rank) rows j (length bytes)) (same_ranks : length ranks ≡ length c.ranks)
    (done : OnlyAt (place_of_rank c.places c.shape.ranks rank) (λ a b. ChangesOnly (file_name m.desc.which c.shape.ranks rank j) a b) states after)
    (put : cells_of after (place_of_rank c.places c.shape.ranks rank) (file_name m.desc.which c.shape.ranks rank j) ≡ Some bytes) where
  change : ChangesFile (place_of_rank c.places c.shape.ranks rank) (file_name m.desc.which c.shape.ranks rank j) (cells_of states) (cells_of after)
  change = file_changes (place_of_rank c.places c.shape.ranks rank) (file_name m.desc.which c.shape.ranks rank j) states after done

  put_well : IsWell (with_open c (with_rows m rank rows) ranks)
  put_well = record {
    single = h.well.single;
    places = h.well.places;
    rise = h.well.rise;
    below = h.well.below;
    sets = sets;
    opened_run = λ x is. ap (λ (y : Manifest). y.desc.which.run) (sym (some_one (with_rows m rank rows) x is)) ∙ h.well.opened_run m opened;
    opened_below = λ x is. subst (λ (y : Manifest). y.desc.which.id < c.next) (some_one (with_rows m rank rows) x is) (h.well.opened_below m opened);
    output = λ x is. h.well.output m opened;
    opened_last = λ x is. subst (λ (y : Manifest). Rattle.site_state.specs.Choosing.AreBelow y.desc.which.id c.kept) (some_one (with_rows m rank rows) x is) (h.well.opened_last m opened);
    ranks = same_ranks ∙ h.well.ranks;
  } where
    some_one : (a b : Manifest) → Some a ≡ Some b → a ≡ b
    some_one a b q = cc

    of : IsOfSite c.shape c.run m
    of = h.well.sets m (inl opened)

    all_rows : All IsRows (slice_set m.files rank rows)
    all_rows k d low = pick (cases_eq k rank) where
      pick : (k ≡ rank) ⊎ (k ≢ rank) → IsRows (get_or (slice_set m.files rank rows) k d)
      pick (inl is) = subst (λ (rs : List FileRow). IsRows rs) (sym (get_or-set_same m.files rank rows d lt) ∙ ap (λ (i : ℕ). get_or (slice_set m.files rank rows) i d) (sym is)) fit
      pick (inr other) = subst (λ (rs : List FileRow). IsRows rs) (sym (get_or-set_other m.files rank k rows d other)) (of.files.rows k d (omega (arith, low, length-set m.files rank rows)))

    of_then : IsOfSite c.shape c.run (with_rows m rank rows)
    of_then = record { named = of.named; nodes = of.nodes; ranks = of.ranks; files = record { ranks_are = length-set m.files rank rows ∙ of.files.ranks_are; rows = all_rows }; run_is = of.run_is; single = of.single }

    sets : (x : Manifest) → IsKnown (with_open c (with_rows m rank rows) ranks) x → IsOfSite c.shape c.run x
    sets x (inl is) = subst (λ (y : Manifest). IsOfSite c.shape c.run y) (some_one (with_rows m rank rows) x is) of_then
    sets x (inr among) = h.well.sets x (inr among)

  pub put_leads : StepsTo (setup_of c) (running (contents_of (cells_of states) c) c) e (running (contents_of (cells_of after) c) (with_open c (with_rows m rank rows) ranks))
      → IsOfProgram programs e → is_stop e ≡ false → events' ≡ events ++ e ∷ [] → Leads first (with_open c (with_rows m rank rows) ranks) programs after events'
  put_leads step one goes more =
      let d = with_open c (with_rows m rank rows) ranks in
      let of = row_named c.shape c.run m rank j (h.well.sets m (inl opened)) lt small in
      let work : WorkIs stage.Serving c states = subst (λ (s : RunStage). WorkIs s c states) at h.working in
      let none : NoRecordYet stage.Serving c (cells_of states) = subst (λ (s : RunStage). NoRecordYet s c (cells_of states)) at h.unrecorded in
      let quiet = subst (λ (s : RunStage). (p : ℕ) (q : List ℕ) → p ≤ 32 → (p < c.shape.nodes → IsPending s c q → ⊥) → IsAtRest ((states p).file q)) at h.quiet in
      let l : IsLed first d programs after events' = record {
        run = run_on (setup_of c) first (running (contents_of (cells_of states) c) c) (running (contents_of (cells_of after) c) d) events events' e more h.run step;
        so_far = tells_more c.places programs events events' e more h.so_far one goes;
        well = put_well;
        files = put_holds c m rank j rows bytes (cells_of states) (cells_of after) ranks h.well h.files opened lt small row change put;
        quiet = subst (λ (s : RunStage). (p : ℕ) (q : List ℕ) → p ≤ 32 → (p < c.shape.nodes → IsPending s d q → ⊥) → IsAtRest ((after p).file q)) (sym at)
            (λ p q low calm. rest_stays (place_of_rank c.places c.shape.ranks rank) (file_name m.desc.which c.shape.ranks rank j) states after done p q
            (λ same is. calm (on_node p same) (with_rows m rank rows, refl, (rank, j, of.rank_is, of.file, is)))
            (quiet p q low (λ node pending. calm node (still q pending))));
        unrecorded = subst (λ (s : RunStage). NoRecordYet s d (cells_of after)) (sym at)
            (λ x is p node low n.
            let same : m.desc.which ≡ x.desc.which = ap (λ (y : Manifest). y.desc.which) (some_one (with_rows m rank rows) x is) in
            every_record (cells_of states) (cells_of after) c.places c.shape.ranks (place_of_rank c.places c.shape.ranks rank) m.desc.which rank j (row_named c.shape c.run m rank j (h.well.sets m (inl opened)) lt small) change x.desc.which p node n
            ∙ ap (λ (w : DataId). cells_of states p (record_name w node)) (sym same) ∙ none m opened p node low (subst (λ (w : DataId). IsPlace w node) (sym same) n));
        working = subst (λ (s : RunStage). WorkIs s d after) (sym at) work;
      } in
      leads_up first d programs after events' (ap is_up at) l where
        some_one : (a b : Manifest) → Some a ≡ Some b → a ≡ b
        some_one a b q = cc

        on_node : (p : ℕ) → p ≡ place_of_rank c.places c.shape.ranks rank → p < c.shape.nodes
        on_node p same =
            let below : rank < c.shape.nodes * c.shape.ranks = omega (arith, lt, (h.well.sets m (inl opened)).files.ranks_are) in
            omega (arith, same, place_is c.shape c.places (rank / c.shape.ranks) h.well.places (node_below c.shape rank below), node_below c.shape rank below)

        still : (q : List ℕ) → IsPending stage.Serving c q → IsPending stage.Serving (with_open c (with_rows m rank rows) ranks) q
        still q pending =
            let same : pending.0 ≡ m = some_one pending.0 m (sym pending.1 ∙ opened) in
            (with_rows m rank rows, refl, subst (λ (y : Manifest). IsFileOf c y q) same pending.2)

-- ## Contents

-- two files are one, or not
one_or_not : (w which : DataId) (r rank i j : ℕ) → AreFilesSame w r i which rank j ⊎ (AreFilesSame w r i which rank j → ⊥)
one_or_not w which r rank i j = pick (cases_eq w.id which.id) (cases_eq w.run which.run) (cases_eq r rank) (cases_eq i j) where
  pick : (w.id ≡ which.id) ⊎ (w.id ≢ which.id) → (w.run ≡ which.run) ⊎ (w.run ≢ which.run) → (r ≡ rank) ⊎ (r ≢ rank) → (i ≡ j) ⊎ (i ≢ j) → AreFilesSame w r i which rank j ⊎ (AreFilesSame w r i which rank j → ⊥)
  pick (inl a) (inl b) (inl p) (inl q) = inl (record { which_is = data-same w which a b; rank_is = p; file_is = q })
  pick (inr a) b p q = inr (λ s. a (ap (λ (d : DataId). d.id) s.which_is))
  pick (inl a) (inr b) p q = inr (λ s. b (ap (λ (d : DataId). d.run) s.which_is))
  pick (inl a) (inl b) (inr p) q = inr (λ s. p s.rank_is)
  pick (inl a) (inl b) (inl p) (inr q) = inr (λ s. q s.file_is)

-- a new file that is empty changes no content
new_contents : (old new : Cells) (places : List ℕ) (ranks place : ℕ) (which : DataId) (rank j : ℕ) → IsNamed which rank j → ChangesFile place (file_name which ranks rank j) old new
    → bytes_of (old (place_of_rank places ranks rank) (file_name which ranks rank j)) ≡ [] → bytes_of (new (place_of_rank places ranks rank) (file_name which ranks rank j)) ≡ [] → contents_in new places ranks ≡ contents_in old places ranks
new_contents old new places ranks place which rank j is change was put = fun_ext (λ w. fun_ext (λ r. fun_ext (λ i. pick w r i (one_or_not w which r rank i j)))) where
  pick : (w : DataId) (r i : ℕ) → AreFilesSame w r i which rank j ⊎ (AreFilesSame w r i which rank j → ⊥) → contents_in new places ranks w r i ≡ contents_in old places ranks w r i
  pick w r i (inr other) = other_contents old new places ranks place which rank j is change w r i other
  pick w r i (inl same) =
      ap (λ (x : DataId). contents_in new places ranks x r i) same.which_is ∙ ap (λ (x : ℕ). contents_in new places ranks which x i) same.rank_is ∙ ap (λ (x : ℕ). contents_in new places ranks which rank x) same.file_is
      ∙ this_contents old new places ranks place which rank j is change ∙ put ∙ sym was ∙ sym (these_contents old new places ranks place which rank j is change)
      ∙ sym (ap (λ (x : DataId). contents_in old places ranks x r i) same.which_is ∙ ap (λ (x : ℕ). contents_in old places ranks which x i) same.rank_is ∙ ap (λ (x : ℕ). contents_in old places ranks which rank x) same.file_is)

-- the step with which a rank goes on
pub record IsNextStep (programs : List (List Step)) (c : RunState) (rank : ℕ) (seat : Seat) (call : Step) : Type 0 where
  pub seat_is : slice_get c.ranks rank ≡ Some seat
  pub free : is_free seat.doing ≡ true
  pub goes : seat.ended ≡ false
  pub of_program : Rattle.ckpt_model.specs.Legal.is_step_of programs rank (seat.number + 1) call
  pub clear : local_verdict_of c rank call ≡ None

rank_lt : (c : RunState) (m : Manifest) (rank : ℕ) (seat : Seat) → IsWell c → c.opened ≡ Some m → slice_get c.ranks rank ≡ Some seat → rank < length m.files
rank_lt c m rank seat w opened at = omega (arith, slice_get_within c.ranks rank seat at, w.ranks, (w.sets m (inl opened)).files.ranks_are)

rank_low : (c : RunState) (rank : ℕ) (seat : Seat) → IsWell c → slice_get c.ranks rank ≡ Some seat → rank < c.shape.nodes * c.shape.ranks
rank_low c rank seat w at = omega (arith, slice_get_within c.ranks rank seat at, w.ranks)

written_nothing : (old : List ℕ) → old ≡ [] → written old 0 [] ≡ []
written_nothing old is = ap (λ (o : List ℕ). written o 0 []) is

pub routed_new : (first : Machine) (c : RunState) (programs : List (List Step)) (states after : ℕ → DeviceState) (events events' : List Event) (rank : ℕ) (seat : Seat) (name : List ℕ) (m : Manifest) (part : List ℕ)
    → c.stage ≡ stage.Serving → c.phase ≡ phase.Output → IsNextStep programs c rank seat (step.Route name) → c.opened ≡ Some m → is_routed (rows_of m.files rank) name ≡ false → IsRows (routed (rows_of m.files rank) name)
    → OnlyAt (place_of_rank c.places c.shape.ranks rank) (Written (file_name m.desc.which c.shape.ranks rank (length (rows_of m.files rank))) 0 []) states after → Tells states
    → part ≡ part_name m.desc.which (rank / c.shape.ranks) (rank % c.shape.ranks) (place_of (rows_of m.files rank) name)
    → events' ≡ events ++ event.Local rank (seat.number + 1) (step.Route name) (reply.Routed part) ∷ [] → Leads first c programs states events
    → Leads first (with_open c (with_rows m rank (routed (rows_of m.files rank) name)) (slice_set c.ranks rank (stepped seat))) programs after events'
routed_new first c programs states after events events' rank seat name m part at output next opened new fit done tells is more leads =
    let h = led first c programs states events (ap is_up at) leads in
    let rows = rows_of m.files rank in
    let j = length rows in
    let place = place_of_rank c.places c.shape.ranks rank in
    let file = file_name m.desc.which c.shape.ranks rank j in
    let work : WorkIs stage.Serving c states = subst (λ (s : RunStage). WorkIs s c states) at h.working in
    let of = h.well.sets m (inl opened) in
    let lt = rank_lt c m rank seat h.well opened next.seat_is in
    let small : j < 2 ^ 8 = omega (arith, few_rows c.shape c.run m rank of lt) in
    let none : cells_of states place file ≡ None = h.files.fresh m opened rank j lt small (omega arith) in
    let rows_are : routed rows name ≡ rows ++ (let r : FileRow = record { name = name; len = 0 } in r) ∷ [] = ap (λ (b : Bool). if b then rows else rows ++ (let r : FileRow = record { name = name; len = 0 } in r) ∷ []) new in
    let row : IsPutRow rows (routed rows name) j 0 = subst (λ (rs : List FileRow). IsPutRow rows rs j 0) (sym rows_are) (routed_row rows name new) in
    let only : OnlyAt place (λ a b. ChangesOnly file a b) states after = record { here = done.here.only; others = done.others } in
    let low : place < 32 = rank_place_low c rank h.well (rank_low c rank seat h.well next.seat_is) in
    let put : cells_of after place file ≡ Some [] = done.here.now (tells place (omega (arith, low))) ∙ ap Some (written_nothing (bytes_of (cells_of states place file)) (ap bytes_of none)) in
    let same : contents_in (cells_of after) c.places c.shape.ranks ≡ contents_in (cells_of states) c.places c.shape.ranks =
    new_contents (cells_of states) (cells_of after) c.places c.shape.ranks place m.desc.which rank j (row_named c.shape c.run m rank j of lt small) (file_changes place file states after only) (ap bytes_of none) (ap bytes_of put) in
    let empty : contents_of (cells_of states) c m.desc.which rank j ≡ [] = these_contents (cells_of states) (cells_of after) c.places c.shape.ranks place m.desc.which rank j (row_named c.shape c.run m rank j of lt small) (file_changes place file states after only) ∙ ap bytes_of none in
    put_leads first c programs states after events events' (event.Local rank (seat.number + 1) (step.Route name) (reply.Routed part)) m rank j (routed rows name) [] (slice_set c.ranks rank (stepped seat)) at h opened lt small fit row (length-set c.ranks rank (stepped seat)) only put
    (subst (λ (b : Contents). StepsTo (setup_of c) (running (contents_of (cells_of states) c) c) (event.Local rank (seat.number + 1) (step.Route name) (reply.Routed part)) (running b (with_open c (with_rows m rank (routed rows name)) (slice_set c.ranks rank (stepped seat))))) (sym same)
    (routes c (contents_of (cells_of states) c) rank seat name m part next.seat_is next.free next.goes work.0 next.clear output opened (λ e. empty) is))
    next.of_program refl more

-- none of the datasets in cache is the open one
are_other : (n : ℕ) (which : DataId) (sets : List Cached) → Rattle.site_state.specs.Choosing.AreBelow n sets → n ≡ which.id → AreOther which sets
are_other n which [] below is = NoneMore
are_other n which (x ∷ xs) below is = Other x xs (λ same. absurd (omega (arith, below.0, is, ap (λ (d : DataId). d.id) same))) (are_other n which xs below.1 is)

pub wrote : (first : Machine) (c : RunState) (programs : List (List Step)) (states after : ℕ → DeviceState) (events events' : List Event) (rank : ℕ) (seat : Seat) (name : List ℕ) (at : ℕ) (content : Content) (m : Manifest)
    → c.stage ≡ stage.Serving → IsNextStep programs c rank seat (step.Write name at content) → c.opened ≡ Some m → is_routed (rows_of m.files rank) name ≡ true → place_of (rows_of m.files rank) name < length (rows_of m.files rank)
    → IsRows (rows_of m.files rank) → IsRows (extended (rows_of m.files rank) (place_of (rows_of m.files rank) name) (at + length (bytes_for content rank)))
    → OnlyAt (place_of_rank c.places c.shape.ranks rank) (Written (file_name m.desc.which c.shape.ranks rank (place_of (rows_of m.files rank) name)) at (bytes_for content rank)) states after → Tells states
    → events' ≡ events ++ event.Local rank (seat.number + 1) (step.Write name at content) reply.Done ∷ [] → Leads first c programs states events
    → Leads first (with_open c (with_rows m rank (extended (rows_of m.files rank) (place_of (rows_of m.files rank) name) (at + length (bytes_for content rank)))) (slice_set c.ranks rank (stepped seat))) programs after events'
wrote first c programs states after events events' rank seat name at content m st next opened there low fit grown done tells more leads =
    let h = led first c programs states events (ap is_up st) leads in
    let rows = rows_of m.files rank in
    let j = place_of rows name in
    let new = bytes_for content rank in
    let place = place_of_rank c.places c.shape.ranks rank in
    let file = file_name m.desc.which c.shape.ranks rank j in
    let work : WorkIs stage.Serving c states = subst (λ (s : RunStage). WorkIs s c states) st h.working in
    let of = h.well.sets m (inl opened) in
    let lt = rank_lt c m rank seat h.well opened next.seat_is in
    let small : j < 2 ^ 8 = omega (arith, fit.few, low) in
    let old_row = slice_get-get_or rows j (record { name = name; len = 0 }) low in
    let stands = h.files.files m (inl opened) rank j (get_or rows j (record { name = name; len = 0 })) old_row in
    let bytes = written_at stands.bytes at new in
    let row : IsPutRow rows (extended rows j (at + length new)) j (length bytes) = record {
      others = λ i x is other. extended_others rows j (at + length new) i x is other;
      this = λ x is. extended_this rows j (at + length new) (get_or rows j (record { name = name; len = 0 })) x old_row is ∙ ap (λ (n : ℕ). max n (at + length new)) (sym stands.len) ∙ sym (length-written_at stands.bytes at new);
      there = omega (arith, low, length-extended rows j (at + length new));
      longer = omega (arith, length-extended rows j (at + length new));
    } in
    let only : OnlyAt place (λ a b. ChangesOnly file a b) states after = record { here = done.here.only; others = done.others } in
    let within : place < 32 = rank_place_low c rank h.well (rank_low c rank seat h.well next.seat_is) in
    let put : cells_of after place file ≡ Some bytes = done.here.now (tells place (omega (arith, within))) ∙ ap (λ (o : Option (List ℕ)). Some (written (bytes_of o) at new)) stands.there in
    let change = file_changes place file states after only in
    let n = row_named c.shape c.run m rank j of lt small in
    let old_is = these_contents (cells_of states) (cells_of after) c.places c.shape.ranks place m.desc.which rank j n change ∙ ap bytes_of stands.there in
    let new_is = this_contents (cells_of states) (cells_of after) c.places c.shape.ranks place m.desc.which rank j n change ∙ ap bytes_of put in
    let stays = other_contents (cells_of states) (cells_of after) c.places c.shape.ranks place m.desc.which rank j n change in
    put_leads first c programs states after events events' (event.Local rank (seat.number + 1) (step.Write name at content) reply.Done) m rank j (extended rows j (at + length new)) bytes (slice_set c.ranks rank (stepped seat)) st h opened lt small grown row (length-set c.ranks rank (stepped seat)) only put
    (writes c (contents_of (cells_of states) c) (contents_of (cells_of after) c) rank seat name at content m (at + length new) next.seat_is next.free next.goes work.0 next.clear opened
    (are_other m.desc.which.id m.desc.which c.kept (h.well.opened_last m opened) refl) fit.distinct there
    (λ w other r i. stays w r i (λ s. other s.which_is)) (λ r other i. stays m.desc.which r i (λ s. other s.rank_is)) (λ i other. stays m.desc.which rank i (λ s. other s.file_is))
    (new_is ∙ ap (λ (b : List ℕ). written_at b at new) (sym old_is)))
    next.of_program refl more
