-- A rank's own steps, as the calls that make them say what was done.
use Rattle.std.proofs.Common.{◌≡◌, ◌≢◌, ◌⊎◌, inl, inr, ℕ, ◌+◌, ◌-◌, ◌/◌, ◌%◌, ◌<◌, ◌≤◌, ◌^◌, Bool, true, false, List, [], ◌∷◌, ◌++◌, length, min, take, drop, Option, Some, None, refl, sym, ap, ◌∙◌, subst, slice_get, arith, codes, append_assoc}
use Rattle.std.specs.Prelude.{decimal, slice_set, option_map, option_and_then, find, if◌then◌else◌}
use Rattle.std.specs.List.{list_any, position_or_len}
use Rattle.std.proofs.lemmas.Bool.{cases_eq}
use Rattle.std.proofs.Math.Path.{fun_ext}
use Rattle.std.proofs.lemmas.List.{length-set}
use Rattle.std.proofs.lemmas.List.Folds.{find_at}
use Rattle.std.proofs.lemmas.Option.{get_or_from_slice_get, slice_get_within}
use Rattle.scr_base.specs.Bytes.{bytes_for}
use Rattle.scr_base.specs.Same.{same_id}
use Rattle.scr_base.specs.declared.shape.DataId.{DataId}
use Rattle.scr_base.specs.declared.answers.Phase.{Phase}
use Rattle.scr_base.specs.declared.answers.Phase.TheVariants as phase
use Rattle.scr_base.specs.declared.answers.Refusal.{Refusal}
use Rattle.scr_base.specs.declared.answers.Reply.{Reply}
use Rattle.scr_base.specs.declared.answers.Reply.TheVariants as reply
use Rattle.scr_base.specs.declared.content.Content.{Content}
use Rattle.scr_base.specs.declared.content.Step.{Step}
use Rattle.scr_base.specs.declared.content.Step.TheVariants as step
use Rattle.node_device.specs.File.{bytes_of}
use Rattle.node_device.specs.DeviceState.{DeviceState}
use Rattle.node_device.specs.Rack.{OnlyAt}
use Rattle.filemap.specs.Rows.{IsRows, is_routed, routed, extended, place_of}
use Rattle.filemap.specs.Maps.{rows_of}
use Rattle.filemap.specs.declared.rows.FileRow.{FileRow}
use Rattle.member_store.specs.Names.{part_name}
use Rattle.member_store.specs.declared.part.Part.{Part}
use Rattle.member_store.specs.declared.part.Part.TheVariants.{File}
use Rattle.ckpt_model.specs.Answers.{is_fault, part_name as model_name}
use Rattle.ckpt_model.specs.declared.event.Event.{Event}
use Rattle.ckpt_model.specs.declared.event.Event.TheVariants as event
use Rattle.ckpt_model.specs.Machine.{Machine}
use Rattle.ckpt_model.specs.Legal.{is_step_of}
use Rattle.ckpt_model.specs.Runs.{StepsTo}
use Rattle.round_core.specs.declared.seat.Seat.{Seat}
use Rattle.round_core.specs.Seats.{is_free, stepped}
use Rattle.site_state.specs.declared.cache.Cached.{Cached}
use Rattle.site_state.specs.declared.cache.Manifest.{Manifest}
use Rattle.site_state.specs.declared.run_state.RunState.{RunState}
use Rattle.site_state.specs.declared.run_state.RunStage.{RunStage}
use Rattle.site_state.specs.declared.run_state.RunStage.TheVariants as stage
use Rattle.site_state.specs.declared.run_moves.Spot.{Spot}
use Rattle.site_state.specs.Shown.{Contents, running, setup_of, mends, served}
use Rattle.site_state.specs.Choosing.{local_verdict_of, rows_at, rows_in, at_hand, hand_in, set_in}
use Rattle.site_calls.specs.Calls.{Same, Written, Tells}
use Rattle.site_state.specs.Cores.{IsSpot, with_rows, with_open}
use Rattle.site_state.specs.Steps.{IsNextLocal}
use Rattle.site_core.specs.Stored.{cells_of, contents_of, place_of_rank, file_name, FileStands, IsAmong, IsKnown}
use Rattle.site_core.specs.Holds.{Leads, WorkIs}
use Rattle.site_core.proofs.Told.{is_up, led, serves}
use Rattle.site_core.proofs.Frames.{IsNamed, is_named_true}
use Rattle.site_core.proofs.Puts.{row_rank, few_rows, row_named}
use Rattle.site_state.proofs.Locals.{refuses_local, routes, routes_kept, reads}
use Rattle.site_core.proofs.LocalMoves.{routed_new, wrote, IsNextStep}
use Rattle.site_state.proofs.LocalCalls.{clear_write, clear_read, clear_route, clear_new, routed_there, routed_rows, extended_rows, place_there, place_new, read_within}

-- ## Devices and names

dot : (x y : List ℕ) → x ++ codes "." ++ y ≡ x ++ 46 ∷ y
dot x y = append_assoc x (codes ".") y

-- the name that a reply tells is that of the file
pub names_are : (which : DataId) (node local file : ℕ) → part_name which node (File local file) ≡ model_name which node local file
names_are which node local file =
    let b = codes "d." ++ decimal which.id in
    let stem = b ++ 46 ∷ decimal which.run ++ 46 ∷ decimal node in
    sym (ap (λ (x : List ℕ). x ++ codes ".f." ++ decimal local ++ codes "." ++ decimal file) (dot (b ++ codes "." ++ decimal which.run) (decimal node) ∙ ap (λ (x : List ℕ). x ++ 46 ∷ decimal node) (dot b (decimal which.run)))
    ∙ dot (stem ++ codes ".f." ++ decimal local) (decimal file)
    ∙ ap (λ (x : List ℕ). x ++ 46 ∷ decimal file) (append_assoc stem (codes ".f.") (decimal local))
    ∙ append_assoc stem (codes ".f." ++ decimal local) (46 ∷ decimal file))

-- ## The place of a rank's file

pub spot_file : (c : RunState) (rank file : ℕ) (spot : Spot) (at : IsSpot c rank file spot) → part_name spot.which spot.node spot.part ≡ file_name at.set.desc.which c.shape.ranks rank file
spot_file c rank file spot at =
    ap (λ (w : DataId). part_name w spot.node spot.part) at.which
    ∙ ap (λ (n : ℕ). part_name at.set.desc.which n spot.part) at.node
    ∙ ap (λ (p : Part). part_name at.set.desc.which (rank / c.shape.ranks) p) at.part

pub spot_place : (c : RunState) (rank file : ℕ) (spot : Spot) → IsSpot c rank file spot → spot.place ≡ place_of_rank c.places c.shape.ranks rank
spot_place c rank file spot at = sym (get_or_from_slice_get c.places (rank / c.shape.ranks) spot.place 0 at.home)

-- the answer to a route
pub spot_name : (c : RunState) (rank file : ℕ) (spot : Spot) (part : List ℕ) (name : List ℕ) (at : IsSpot c rank file spot) → part ≡ part_name spot.which spot.node spot.part → file ≡ place_of (rows_of at.set.files rank) name
    → part ≡ model_name at.set.desc.which (rank / c.shape.ranks) (rank % c.shape.ranks) (place_of (rows_of at.set.files rank) name)
spot_name c rank file spot part name at is number =
    is ∙ spot_file c rank file spot at ∙ names_are at.set.desc.which (rank / c.shape.ranks) (rank % c.shape.ranks) file
    ∙ ap (λ (k : ℕ). model_name at.set.desc.which (rank / c.shape.ranks) (rank % c.shape.ranks) k) number

-- the rank's rows are those of the dataset at hand
pub hand_rows : (c : RunState) (m : Manifest) (rank : ℕ) → at_hand c ≡ Some m → rows_at c rank ≡ rows_of m.files rank
hand_rows c m rank hand = ap (λ (o : Option Manifest). rows_in o rank) hand

pub hand_opened : (c : RunState) (m : Manifest) → c.phase ≡ phase.Output → at_hand c ≡ Some m → c.opened ≡ Some m
hand_opened c m output hand = ap (λ (p : Phase). hand_in p c) (sym output) ∙ hand

find_among : (sets : List Cached) (p : Cached → Bool) (m : Manifest) (o : Option Cached) → find p sets ≡ o → option_map (λ (set : Cached). set.manifest) o ≡ Some m → IsAmong sets m
find_among sets p m None found is = absurd (cc is)
find_among sets p m (Some x) found is = (position_or_len p sets, x, sym (find_at p sets) ∙ found, some_one x.manifest m is) where
  some_one : (a b : Manifest) → Some a ≡ Some b → a ≡ b
  some_one a b e = cc

offer_among : (sets : List Cached) (m : Manifest) (o : Option DataId) → option_and_then (set_in sets) o ≡ Some m → IsAmong sets m
offer_among sets m None is = absurd (cc is)
offer_among sets m (Some which) is = find_among sets (λ set. same_id set.manifest.desc.which which) m (find (λ set. same_id set.manifest.desc.which which) sets) refl is

-- what is at hand is known
pub hand_known : (c : RunState) (m : Manifest) → at_hand c ≡ Some m → IsKnown c m
hand_known c m hand = pick c.phase hand where
  pick : (p : Phase) → hand_in p c ≡ Some m → IsKnown c m
  pick phase.Output is = inl is
  pick phase.Restart is = inr (offer_among c.kept m c.offer is)
  pick phase.Idle is = absurd (cc is)
  pick phase.Offered is = absurd (cc is)
  pick phase.Final is = absurd (cc is)

-- ## Told, with no file changed

mended : (first : Machine) (c : RunState) (programs : List (List Step)) (states : ℕ → DeviceState) (events : List Event) → c.stage ≡ stage.Serving → Leads first c programs states events → list_any mends c.kept ≡ false
mended first c programs states events at leads =
    let work : WorkIs stage.Serving c states = subst (λ (s : RunStage). WorkIs s c states) at (led first c programs states events (ap is_up at) leads).working in
    work.0

pub tells_local : (first : Machine) (c : RunState) (programs : List (List Step)) (states : ℕ → DeviceState) (events events' : List Event) (rank : ℕ) (seat : Seat) (call : Step) (answer : Reply)
    → c.stage ≡ stage.Serving → is_step_of programs rank (seat.number + 1) call → Leads first c programs states events
    → StepsTo (setup_of c) (running (contents_of (cells_of states) c) c) (event.Local rank (seat.number + 1) call answer) (running (contents_of (cells_of states) c) (served c c.phase c.offer (slice_set c.ranks rank (stepped seat))))
    → events' ≡ events ++ event.Local rank (seat.number + 1) call answer ∷ [] → Leads first (record c { ranks = slice_set c.ranks rank (stepped seat) }) programs states events'
tells_local first c programs states events events' rank seat call answer at one leads step more =
    serves first c programs states events events' (event.Local rank (seat.number + 1) call answer) c.phase c.offer (slice_set c.ranks rank (stepped seat)) at (length-set c.ranks rank (stepped seat)) (led first c programs states events (ap is_up at) leads).well.output (led first c programs states events (ap is_up at) leads) step one refl more

some_seat : (a b : Seat) → Some a ≡ Some b → a ≡ b
some_seat a b e = cc

pub same_seat : (ranks : List Seat) (rank : ℕ) (a b : Seat) → slice_get ranks rank ≡ Some a → slice_get ranks rank ≡ Some b → a ≡ b
same_seat ranks rank a b p q = some_seat a b (sym p ∙ q)

pub may_refuse : (first : Machine) (c : RunState) (programs : List (List Step)) (states : ℕ → DeviceState) (events : List Event) (rank : ℕ) (call : Step) (r : Refusal) (seat : Seat)
    → c.stage ≡ stage.Serving → IsNextLocal programs c rank call → local_verdict_of c rank call ≡ Some r → is_fault (reply.Refused r) ≡ false → Leads first c programs states events → slice_get c.ranks rank ≡ Some seat
    → StepsTo (setup_of c) (running (contents_of (cells_of states) c) c) (event.Local rank (seat.number + 1) call (reply.Refused r)) (running (contents_of (cells_of states) c) (served c c.phase c.offer (slice_set c.ranks rank (stepped seat))))
may_refuse first c programs states events rank call r seat at next is no_fault leads here =
    let same : next.seat ≡ seat = same_seat c.ranks rank next.seat seat next.is here in
    subst (λ (x : Seat). StepsTo (setup_of c) (running (contents_of (cells_of states) c) c) (event.Local rank (x.number + 1) call (reply.Refused r)) (running (contents_of (cells_of states) c) (served c c.phase c.offer (slice_set c.ranks rank (stepped x))))) same
    (refuses_local c (contents_of (cells_of states) c) rank next.seat call r next.is next.free next.goes (mended first c programs states events at leads) next.local is no_fault)

-- a route of a file that is there
routes_again : (c : RunState) (bytes : Contents) (rank : ℕ) (seat : Seat) (name : List ℕ) (m : Manifest) (part : List ℕ) → slice_get c.ranks rank ≡ Some seat → is_free seat.doing ≡ true → seat.ended ≡ false → list_any mends c.kept ≡ false
    → local_verdict_of c rank (step.Route name) ≡ None → at_hand c ≡ Some m → is_routed (rows_of m.files rank) name ≡ true → (c.phase ≡ phase.Restart → c.opened ≡ None)
    → part ≡ model_name m.desc.which (rank / c.shape.ranks) (rank % c.shape.ranks) (place_of (rows_of m.files rank) name)
    → StepsTo (setup_of c) (running bytes c) (event.Local rank (seat.number + 1) (step.Route name) (reply.Routed part)) (running bytes (record c { ranks = slice_set c.ranks rank (stepped seat) }))
routes_again c bytes rank seat name m part here free goes up clear hand there alone is = pick (clear_route c rank name clear) where
  pick : (c.phase ≡ phase.Output) ⊎ (c.phase ≡ phase.Restart) → StepsTo (setup_of c) (running bytes c) (event.Local rank (seat.number + 1) (step.Route name) (reply.Routed part)) (running bytes (record c { ranks = slice_set c.ranks rank (stepped seat) }))
  pick (inr restart) = routes_kept c bytes rank seat name m part here free goes up clear hand (alone restart) is
  pick (inl output) =
      let opened = hand_opened c m output hand in
      let r = routes c bytes rank seat name m part here free goes up clear output opened (λ new. absurd (cc (sym there ∙ new))) is in
      let same = subst (λ (fs : List (List FileRow)). StepsTo (setup_of c) (running bytes c) (event.Local rank (seat.number + 1) (step.Route name) (reply.Routed part)) (running bytes (record c { opened = Some (record m { files = fs }); ranks = slice_set c.ranks rank (stepped seat) }))) (routed_there m rank name there) r in
      subst (λ (o : Option Manifest). StepsTo (setup_of c) (running bytes c) (event.Local rank (seat.number + 1) (step.Route name) (reply.Routed part)) (running bytes (record c { opened = o; ranks = slice_set c.ranks rank (stepped seat) }))) (sym opened) same

pub may_route_again : (first : Machine) (c : RunState) (programs : List (List Step)) (states : ℕ → DeviceState) (events : List Event) (rank file : ℕ) (name : List ℕ) (spot : Spot) (part : List ℕ) (seat : Seat)
    → c.stage ≡ stage.Serving → IsNextLocal programs c rank (step.Route name) → local_verdict_of c rank (step.Route name) ≡ None → is_routed (rows_at c rank) name ≡ true → IsSpot c rank file spot → file ≡ place_of (rows_at c rank) name
    → part ≡ part_name spot.which spot.node spot.part → (c.phase ≡ phase.Restart → c.opened ≡ None) → Leads first c programs states events → slice_get c.ranks rank ≡ Some seat
    → StepsTo (setup_of c) (running (contents_of (cells_of states) c) c) (event.Local rank (seat.number + 1) (step.Route name) (reply.Routed part)) (running (contents_of (cells_of states) c) (served c c.phase c.offer (slice_set c.ranks rank (stepped seat))))
may_route_again first c programs states events rank file name spot part seat at next clear there spot_is number is alone leads here =
    let m = spot_is.set in
    let rows = hand_rows c m rank spot_is.hand in
    let same : next.seat ≡ seat = same_seat c.ranks rank next.seat seat next.is here in
    subst (λ (x : Seat). StepsTo (setup_of c) (running (contents_of (cells_of states) c) c) (event.Local rank (x.number + 1) (step.Route name) (reply.Routed part)) (running (contents_of (cells_of states) c) (served c c.phase c.offer (slice_set c.ranks rank (stepped x))))) same
    (routes_again c (contents_of (cells_of states) c) rank next.seat name m part next.is next.free next.goes (mended first c programs states events at leads) clear spot_is.hand
    (ap (λ (rs : List FileRow). is_routed rs name) (sym rows) ∙ there) alone
    (spot_name c rank file spot part name spot_is is (number ∙ ap (λ (rs : List FileRow). place_of rs name) rows)))

-- ## Read

contents_at : (c : RunState) (states : ℕ → DeviceState) (which : DataId) (rank j : ℕ) → IsNamed which rank j → contents_of (cells_of states) c which rank j ≡ bytes_of (cells_of states (place_of_rank c.places c.shape.ranks rank) (file_name which c.shape.ranks rank j))
contents_at c states which rank j is = ap (λ (b : Bool). if b then bytes_of (cells_of states (place_of_rank c.places c.shape.ranks rank) (file_name which c.shape.ranks rank j)) else []) (is_named_true which rank j is)

-- what was read, as the file that stands has it
read_is : (o : Option (List ℕ)) (row : FileRow) (at len : ℕ) → FileStands o row → take (min len (row.len - at)) (drop (min at row.len) (bytes_of o)) ≡ take len (drop at (bytes_of o))
read_is o row at len stands =
    subst (λ (p : Option (List ℕ)). take (min len (row.len - at)) (drop (min at row.len) (bytes_of p)) ≡ take len (drop at (bytes_of p))) (sym stands.there)
    (subst (λ (n : ℕ). take (min len (n - at)) (drop (min at n) stands.bytes) ≡ take len (drop at stands.bytes)) stands.len (read_within stands.bytes at len))

pub read_told : (first : Machine) (c : RunState) (programs : List (List Step)) (states : ℕ → DeviceState) (events events' : List Event) (rank file : ℕ) (name : List ℕ) (at len : ℕ) (spot : Spot) (row : FileRow) (text : List ℕ)
    → c.stage ≡ stage.Serving → (next : IsNextLocal programs c rank (step.Read name at len)) → local_verdict_of c rank (step.Read name at len) ≡ None → IsSpot c rank file spot → file ≡ place_of (rows_at c rank) name → slice_get (rows_at c rank) file ≡ Some row
    → text ≡ take (min len (row.len - at)) (drop (min at row.len) (bytes_of ((states spot.place).file (part_name spot.which spot.node spot.part)).now))
    → Leads first c programs states events → events' ≡ events ++ event.Local rank (next.seat.number + 1) (step.Read name at len) (reply.Bytes text) ∷ []
    → Leads first (record c { ranks = slice_set c.ranks rank (stepped next.seat) }) programs states events'
read_told first c programs states events events' rank file name at len spot row text serving next clear spot_is number row_is is leads more =
    let m = spot_is.set in
    let h = led first c programs states events (ap is_up serving) leads in
    let rows = hand_rows c m rank spot_is.hand in
    let known = hand_known c m spot_is.hand in
    let of = h.well.sets m known in
    let j = place_of (rows_of m.files rank) name in
    let number_is : file ≡ j = number ∙ ap (λ (rs : List FileRow). place_of rs name) rows in
    let row_there : slice_get (rows_of m.files rank) j ≡ Some row = ap (λ (k : ℕ). slice_get (rows_of m.files rank) k) (sym number_is) ∙ ap (λ (rs : List FileRow). slice_get rs file) (sym rows) ∙ row_is in
    let lt = row_rank m.files rank j row row_there in
    let small : j < 2 ^ 8 = omega (arith, slice_get_within (rows_of m.files rank) j row row_there, few_rows c.shape c.run m rank of lt) in
    let n = row_named c.shape c.run m rank j of lt small in
    let cell = cells_of states (place_of_rank c.places c.shape.ranks rank) (file_name m.desc.which c.shape.ranks rank j) in
    let cell_is : cells_of states spot.place (part_name spot.which spot.node spot.part) ≡ cell =
    ap (λ (p : ℕ). cells_of states p (part_name spot.which spot.node spot.part)) (spot_place c rank file spot spot_is)
    ∙ ap (λ (q : List ℕ). cells_of states (place_of_rank c.places c.shape.ranks rank) q) (spot_file c rank file spot spot_is)
    ∙ ap (λ (k : ℕ). cells_of states (place_of_rank c.places c.shape.ranks rank) (file_name m.desc.which c.shape.ranks rank k)) number_is in
    let text_is : text ≡ take len (drop at (contents_of (cells_of states) c m.desc.which rank j)) =
    is ∙ ap (λ (o : Option (List ℕ)). take (min len (row.len - at)) (drop (min at row.len) (bytes_of o))) cell_is
    ∙ read_is cell row at len (h.files.files m known rank j row row_there)
    ∙ ap (λ (bs : List ℕ). take len (drop at bs)) (sym (contents_at c states m.desc.which rank j n)) in
    tells_local first c programs states events events' rank next.seat (step.Read name at len) (reply.Bytes text) serving next.of_program leads
    (reads c (contents_of (cells_of states) c) rank next.seat name at len m text next.is next.free next.goes (mended first c programs states events serving leads) clear spot_is.hand
    (ap (λ (rs : List FileRow). is_routed rs name) (sym rows) ∙ clear_read c rank name at len clear) text_is) more

-- ## A file changed

moved : (place place' : ℕ) (name name' : List ℕ) (at : ℕ) (bytes bytes' : List ℕ) (old new : ℕ → DeviceState) → place ≡ place' → name ≡ name' → bytes ≡ bytes' → OnlyAt place (Written name at bytes) old new → OnlyAt place' (Written name' at bytes') old new
moved place place' name name' at bytes bytes' old new p n b done =
    subst (λ (x : ℕ). OnlyAt x (Written name' at bytes') old new) p (subst (λ (q : List ℕ). OnlyAt place (Written q at bytes') old new) n (subst (λ (bs : List ℕ). OnlyAt place (Written name at bs) old new) b done))

next_step : (programs : List (List Step)) (c : RunState) (rank : ℕ) (call : Step) (next : IsNextLocal programs c rank call) → local_verdict_of c rank call ≡ None → IsNextStep programs c rank next.seat call
next_step programs c rank call next clear = record { seat_is = next.is; free = next.free; goes = next.goes; of_program = next.of_program; clear = clear }

pub write_told : (first : Machine) (c : RunState) (programs : List (List Step)) (states after : ℕ → DeviceState) (events events' : List Event) (rank file : ℕ) (name : List ℕ) (at : ℕ) (content : Content) (bytes : List ℕ) (end : ℕ) (spot : Spot)
    → c.stage ≡ stage.Serving → (next : IsNextLocal programs c rank (step.Write name at content)) → local_verdict_of c rank (step.Write name at content) ≡ None → (at_spot : IsSpot c rank file spot) → file ≡ place_of (rows_at c rank) name → IsRows (rows_at c rank)
    → bytes ≡ bytes_for content rank → end ≡ at + length (bytes_for content rank) → OnlyAt spot.place (Written (part_name spot.which spot.node spot.part) at bytes) states after → Tells states
    → events' ≡ events ++ event.Local rank (next.seat.number + 1) (step.Write name at content) reply.Done ∷ [] → Leads first c programs states events
    → Leads first (with_open c (with_rows at_spot.set rank (extended (rows_of at_spot.set.files rank) file end)) (slice_set c.ranks rank (stepped next.seat))) programs after events'
write_told first c programs states after events events' rank file name at content bytes end spot serving next clear spot_is number fit bytes_are end_is done tells more leads =
    let m = spot_is.set in
    let k = clear_write c rank name at content clear in
    let rows = hand_rows c m rank spot_is.hand in
    let j = place_of (rows_of m.files rank) name in
    let number_is : file ≡ j = number ∙ ap (λ (rs : List FileRow). place_of rs name) rows in
    let there : is_routed (rows_of m.files rank) name ≡ true = ap (λ (rs : List FileRow). is_routed rs name) (sym rows) ∙ k.there in
    let fits : IsRows (rows_of m.files rank) = subst (λ (rs : List FileRow). IsRows rs) rows fit in
    let put = moved spot.place (place_of_rank c.places c.shape.ranks rank) (part_name spot.which spot.node spot.part) (file_name m.desc.which c.shape.ranks rank j) at bytes (bytes_for content rank) states after
    (spot_place c rank file spot spot_is) (spot_file c rank file spot spot_is ∙ ap (λ (i : ℕ). file_name m.desc.which c.shape.ranks rank i) number_is) bytes_are done in
    let l = wrote first c programs states after events events' rank next.seat name at content m serving (next_step programs c rank (step.Write name at content) next clear) (hand_opened c m k.output spot_is.hand) there
    (place_there (rows_of m.files rank) name there) fits (extended_rows (rows_of m.files rank) j (at + length (bytes_for content rank)) k.short fits) put tells more leads in
    subst (λ (i : ℕ). Leads first (with_open c (with_rows m rank (extended (rows_of m.files rank) i end)) (slice_set c.ranks rank (stepped next.seat))) programs after events') (sym number_is)
    (subst (λ (n : ℕ). Leads first (with_open c (with_rows m rank (extended (rows_of m.files rank) j n)) (slice_set c.ranks rank (stepped next.seat))) programs after events') (sym end_is) l)

pub route_told : (first : Machine) (c : RunState) (programs : List (List Step)) (states after : ℕ → DeviceState) (events events' : List Event) (rank file : ℕ) (name : List ℕ) (part : List ℕ) (spot : Spot)
    → c.stage ≡ stage.Serving → (next : IsNextLocal programs c rank (step.Route name)) → local_verdict_of c rank (step.Route name) ≡ None → is_routed (rows_at c rank) name ≡ false → (at_spot : IsSpot c rank file spot) → file ≡ place_of (rows_at c rank) name
    → file ≤ length (rows_at c rank) → IsRows (rows_at c rank) → part ≡ part_name spot.which spot.node spot.part → OnlyAt spot.place (Written (part_name spot.which spot.node spot.part) 0 []) states after → Tells states
    → events' ≡ events ++ event.Local rank (next.seat.number + 1) (step.Route name) (reply.Routed part) ∷ [] → Leads first c programs states events
    → Leads first (with_open c (with_rows at_spot.set rank (routed (rows_of at_spot.set.files rank) name)) (slice_set c.ranks rank (stepped next.seat))) programs after events'
route_told first c programs states after events events' rank file name part spot serving next clear new spot_is number within fit is done tells more leads =
    let m = spot_is.set in
    let k = clear_new c rank name clear new in
    let rows = hand_rows c m rank spot_is.hand in
    let old = rows_of m.files rank in
    let new_there : is_routed old name ≡ false = ap (λ (rs : List FileRow). is_routed rs name) (sym rows) ∙ new in
    let last : file ≡ length old = place_new (rows_at c rank) name file new number within ∙ ap (λ (rs : List FileRow). length rs) rows in
    let put = moved spot.place (place_of_rank c.places c.shape.ranks rank) (part_name spot.which spot.node spot.part) (file_name m.desc.which c.shape.ranks rank (length old)) 0 [] [] states after
    (spot_place c rank file spot spot_is) (spot_file c rank file spot spot_is ∙ ap (λ (i : ℕ). file_name m.desc.which c.shape.ranks rank i) last) refl done in
    let fits : IsRows (routed old name) = subst (λ (rs : List FileRow). IsRows (routed rs name)) rows (routed_rows (rows_at c rank) name new k.room k.named fit) in
    routed_new first c programs states after events events' rank next.seat name m part serving k.output (next_step programs c rank (step.Route name) next clear) (hand_opened c m k.output spot_is.hand) new_there fits put tells
    (spot_name c rank file spot part name spot_is is (number ∙ ap (λ (rs : List FileRow). place_of rs name) rows)) more leads

-- ## What a call left

pub lead_on : (first : Machine) (c d : RunState) (programs programs' : List (List Step)) (states states' : ℕ → DeviceState) (events : List Event) → d ≡ c → programs' ≡ programs → states' ≡ states → Leads first c programs states events → Leads first d programs' states' events
lead_on first c d programs programs' states states' events core prog bay l =
    subst (λ (x : RunState). Leads first x programs' states' events) (sym core)
    (subst (λ (ps : List (List Step)). Leads first c ps states' events) (sym prog)
    (subst (λ (st : ℕ → DeviceState). Leads first c programs st events) (sym bay) l))

-- a call that changes nothing leaves every device as it was
pub same_states : (place : ℕ) (old new : ℕ → DeviceState) → OnlyAt place Same old new → new ≡ old
same_states place old new done = fun_ext (λ p. pick p (cases_eq p place)) where
  pick : (p : ℕ) → (p ≡ place) ⊎ (p ≢ place) → new p ≡ old p
  pick p (inl same) = subst (λ (q : ℕ). new q ≡ old q) (sym same) done.here
  pick p (inr other) = done.others p other
