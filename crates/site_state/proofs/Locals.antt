-- A rank's own steps as steps of the machine.
use Rattle.std.proofs.Common.{◌≡◌, ◌≢◌, ℕ, ◌+◌, ◌/◌, ◌%◌, Bool, true, false, List, [], ◌∷◌, map, length, take, drop, Option, Some, None, refl, sym, ap, ◌∙◌, subst, slice_get, arith}
use Rattle.std.specs.Prelude.{IsTrue, not, ◌&&◌, option_map, is_none, unwrap_or, slice_set, if◌then◌else◌, AllPairs}
use Rattle.std.specs.List.{list_any}
use Rattle.scr_base.specs.Bytes.{bytes_for}
use Rattle.scr_base.specs.Calls.{is_local}
use Rattle.scr_base.specs.declared.shape.DataId.{DataId}
use Rattle.scr_base.specs.declared.answers.Phase.TheVariants as phase
use Rattle.scr_base.specs.declared.answers.Refusal.{Refusal}
use Rattle.scr_base.specs.declared.answers.Reply.{Reply}
use Rattle.scr_base.specs.declared.answers.Reply.TheVariants as reply
use Rattle.scr_base.specs.declared.content.Content.{Content}
use Rattle.scr_base.specs.declared.content.Step.{Step}
use Rattle.scr_base.specs.declared.content.Step.TheVariants as step
use Rattle.filemap.specs.Rows.{is_routed, routed, extended, place_of, Differ}
use Rattle.filemap.specs.Maps.{rows_of}
use Rattle.ckpt_model.specs.declared.event.Event.TheVariants as event
use Rattle.ckpt_model.specs.Dataset.{Dataset, File, files_of, place_from, with_files, written_at, files_written, routed as file_routed}
use Rattle.ckpt_model.specs.Machine.{Machine, Setup, Kept, RankState}
use Rattle.ckpt_model.specs.Questions.{local_verdict, file_at_hand}
use Rattle.ckpt_model.specs.Steps.{may_take, change_rank, numbered}
use Rattle.ckpt_model.specs.Answers.{is_fault, is_refused, is_answer, may_answer_local, local_answer, local_done, local_effect, dataset_after, part_name, route_answer, may_fault_local}
use Rattle.ckpt_model.specs.Runs.{StepsTo}
use Rattle.ckpt_model.proofs.SameLemmas.{number-same, reply-same}
use Rattle.round_core.specs.declared.seat.Doing.{Doing}
use Rattle.round_core.specs.declared.seat.Doing.TheVariants as doing
use Rattle.round_core.specs.declared.seat.Seat.{Seat}
use Rattle.round_core.specs.Seats.{is_free, stepped}
use Rattle.site_state.specs.declared.cache.Cached.{Cached}
use Rattle.site_state.specs.declared.cache.Manifest.{Manifest}
use Rattle.site_state.specs.declared.run_state.RunState.{RunState}
use Rattle.site_state.specs.Shown.{Contents, running, setup_of, set_of, kept_of, rank_of, rank_files, all_files, mends}
use Rattle.site_state.specs.Choosing.{at_hand, rows_at, local_verdict_of}
use Rattle.site_state.proofs.Ranks.{change_is, rank_is}
use Rattle.site_state.proofs.Gates.{recovering_is, both, unrefused}
use Rattle.site_state.proofs.Files.{routed_is, written_is, place_is, bytes_are}
use Rattle.site_state.proofs.Hands.{rank_files_are, rank-set, same_all, hand_is, files_are, bytes_in, local_verdict_is}

-- the seat may take this step next
takes : (n : ℕ) (d : Doing) (call : Step) → is_free d ≡ true → let seat : Seat = record { number = n; ended = false; doing = d } in IsTrue (may_take (n + 1) call (rank_of seat))
takes n doing.Free call free = number-same (n + 1)
takes n (doing.Waits step) call free = absurd (cc free)
takes n (doing.Owed a) call free = absurd (cc free)

takes-it : (seat : Seat) (call : Step) → seat.ended ≡ false → is_free seat.doing ≡ true → may_take (seat.number + 1) call (rank_of seat) ≡ true
takes-it seat call goes free = subst (λ (e : Bool). may_take (seat.number + 1) call (let s : Seat = record seat { ended = e } in rank_of s) ≡ true) (sym goes) (takes seat.number seat.doing call free)

-- a step with an answer that the machine may give, and what it leaves
steps : (c : RunState) (bytes : Contents) (rank : ℕ) (seat : Seat) (call : Step) (a : Reply) (after : Machine) → slice_get c.ranks rank ≡ Some seat → is_free seat.doing ≡ true → seat.ended ≡ false → list_any mends c.kept ≡ false → is_local call ≡ true
    → may_answer_local (setup_of c) (running bytes c) rank call a ≡ true → local_effect (running bytes c) rank call a ≡ after
    → StepsTo (setup_of c) (running bytes c) (event.Local rank (seat.number + 1) call a) (record after { ranks = map rank_of (slice_set c.ranks rank (stepped seat)) })
steps c bytes rank seat call a after at free goes up local may effect = (
  both _ _ (both _ _ (both _ _ (ap not (recovering_is c bytes ∙ up)) local) (rank_is (may_take (seat.number + 1) call) c.ranks rank seat at ∙ takes-it seat call goes free)) may,
  ap (λ (rs : List RankState). record after { ranks = rs }) (sym (change_is (numbered (seat.number + 1)) seat (stepped seat) refl c.ranks rank at))
      ∙ ap (λ (m : Machine). record m { ranks = change_rank (numbered (seat.number + 1)) rank (map rank_of c.ranks) }) (sym effect),
)

pub refuses_local : (c : RunState) (bytes : Contents) (rank : ℕ) (seat : Seat) (call : Step) (r : Refusal) → slice_get c.ranks rank ≡ Some seat → is_free seat.doing ≡ true → seat.ended ≡ false → list_any mends c.kept ≡ false → is_local call ≡ true
    → local_verdict_of c rank call ≡ Some r → is_fault (reply.Refused r) ≡ false
    → StepsTo (setup_of c) (running bytes c) (event.Local rank (seat.number + 1) call (reply.Refused r)) (running bytes (record c { ranks = slice_set c.ranks rank (stepped seat) }))
refuses_local c bytes rank seat call r at free goes up local is no_fault =
    let s = setup_of c in
    let m = running bytes c in
    let a = reply.Refused r in
    steps c bytes rank seat call a m at free goes up local
    (ap (λ (b : Bool). if b then is_none (local_verdict m rank call) && may_fault_local call a else is_answer (local_answer s m rank call) a) no_fault
    ∙ ap (λ (v : Option Refusal). is_answer (unwrap_or (option_map (λ x. Some (reply.Refused x)) v) (local_done s m rank call)) a) (local_verdict_is c bytes rank call ∙ is) ∙ reply-same a)
    refl

-- nothing speaks against the step, and a device refuses it
pub faults_local : (c : RunState) (bytes : Contents) (rank : ℕ) (seat : Seat) (call : Step) (r : Refusal) → slice_get c.ranks rank ≡ Some seat → is_free seat.doing ≡ true → seat.ended ≡ false → list_any mends c.kept ≡ false → is_local call ≡ true
    → local_verdict_of c rank call ≡ None → is_fault (reply.Refused r) ≡ true → may_fault_local call (reply.Refused r) ≡ true
    → StepsTo (setup_of c) (running bytes c) (event.Local rank (seat.number + 1) call (reply.Refused r)) (running bytes (record c { ranks = slice_set c.ranks rank (stepped seat) }))
faults_local c bytes rank seat call r at free goes up local clear fault may =
    let s = setup_of c in
    let m = running bytes c in
    let a = reply.Refused r in
    steps c bytes rank seat call a m at free goes up local
    (ap (λ (b : Bool). if b then is_none (local_verdict m rank call) && may_fault_local call a else is_answer (local_answer s m rank call) a) fault
    ∙ both _ _ (ap is_none (local_verdict_is c bytes rank call ∙ clear)) may)
    refl

-- nothing speaks against the step, and this is its answer
done : (c : RunState) (bytes : Contents) (rank : ℕ) (seat : Seat) (call : Step) (a : Reply) (o : Option Dataset) → slice_get c.ranks rank ≡ Some seat → is_free seat.doing ≡ true → seat.ended ≡ false → list_any mends c.kept ≡ false → is_local call ≡ true
    → local_verdict_of c rank call ≡ None → is_refused a ≡ false → local_done (setup_of c) (running bytes c) rank call ≡ Some a → option_map (dataset_after rank call) (option_map (set_of (setup_of c) bytes) c.opened) ≡ o
    → StepsTo (setup_of c) (running bytes c) (event.Local rank (seat.number + 1) call a) (let m : Machine = running bytes (record c { ranks = slice_set c.ranks rank (stepped seat) }) in record m { open_dataset = o })
done c bytes rank seat call a o at free goes up local clear no_refusal is changes =
    let s = setup_of c in
    let m = running bytes c in
    steps c bytes rank seat call a (record m { open_dataset = o }) at free goes up local
    (ap (λ (b : Bool). if b then is_none (local_verdict m rank call) && may_fault_local call a else is_answer (local_answer s m rank call) a) (unrefused a no_refusal)
    ∙ ap (λ (v : Option Refusal). is_answer (unwrap_or (option_map (λ x. Some (reply.Refused x)) v) (local_done s m rank call)) a) (local_verdict_is c bytes rank call ∙ clear) ∙ ap (λ (x : Option Reply). is_answer x a) is ∙ reply-same a)
    (ap (λ (b : Bool). if b then m else record m { open_dataset = option_map (dataset_after rank call) m.open_dataset }) no_refusal ∙ ap (λ (d : Option Dataset). record m { open_dataset = d }) changes)

-- ## Read

pub reads : (c : RunState) (bytes : Contents) (rank : ℕ) (seat : Seat) (name : List ℕ) (at len : ℕ) (m : Manifest) (text : List ℕ) → slice_get c.ranks rank ≡ Some seat → is_free seat.doing ≡ true → seat.ended ≡ false → list_any mends c.kept ≡ false
    → local_verdict_of c rank (step.Read name at len) ≡ None → at_hand c ≡ Some m → is_routed (rows_of m.files rank) name ≡ true → text ≡ take len (drop at (bytes m.desc.which rank (place_of (rows_of m.files rank) name)))
    → StepsTo (setup_of c) (running bytes c) (event.Local rank (seat.number + 1) (step.Read name at len) (reply.Bytes text)) (running bytes (record c { ranks = slice_set c.ranks rank (stepped seat) }))
reads c bytes rank seat name at len m text here free goes up clear hand there is =
    let o = option_map (set_of (setup_of c) bytes) c.opened in
    let rows = rows_of m.files rank in
    let b = bytes m.desc.which rank in
    let found : option_map (λ (f : File). f.bytes) (file_at_hand (running bytes c) rank name) ≡ Some (b (place_of rows name)) =
    ap (λ (fs : List File). option_map (λ (f : File). f.bytes) (Rattle.ckpt_model.specs.Dataset.file_named fs name))
    (files_are c bytes rank ∙ ap (λ (x : Option Manifest). rank_files (bytes_in bytes x rank) 0 (Rattle.site_state.specs.Choosing.rows_in x rank)) hand)
    ∙ bytes_are b 0 rows name there ∙ ap (λ (k : ℕ). Some (b k)) (let e : 0 + place_of rows name ≡ place_of rows name = omega arith in e) in
    done c bytes rank seat (step.Read name at len) (reply.Bytes text) o here free goes up refl clear refl
    (mapped (file_at_hand (running bytes c) rank name) ∙ ap (λ (x : Option (List ℕ)). option_map (λ bs. reply.Bytes (take len (drop at bs))) x) found ∙ ap (λ (t : List ℕ). Some (reply.Bytes t)) (sym is))
    (unchanged o) where
      mapped : (x : Option File) → option_map (λ (f : File). reply.Bytes (take len (drop at f.bytes))) x ≡ option_map (λ bs. reply.Bytes (take len (drop at bs))) (option_map (λ (f : File). f.bytes) x)
      mapped None = refl
      mapped (Some f) = refl

      unchanged : (x : Option Dataset) → option_map (dataset_after rank (step.Read name at len)) x ≡ x
      unchanged None = refl
      unchanged (Some d) = refl

-- ## Route

pub routes : (c : RunState) (bytes : Contents) (rank : ℕ) (seat : Seat) (name : List ℕ) (m : Manifest) (part : List ℕ) → slice_get c.ranks rank ≡ Some seat → is_free seat.doing ≡ true → seat.ended ≡ false → list_any mends c.kept ≡ false
    → local_verdict_of c rank (step.Route name) ≡ None → c.phase ≡ phase.Output → c.opened ≡ Some m → (is_routed (rows_of m.files rank) name ≡ false → bytes m.desc.which rank (length (rows_of m.files rank)) ≡ [])
    → part ≡ part_name m.desc.which (rank / c.shape.ranks) (rank % c.shape.ranks) (place_of (rows_of m.files rank) name)
    → StepsTo (setup_of c) (running bytes c) (event.Local rank (seat.number + 1) (step.Route name) (reply.Routed part))
    (running bytes (record c { opened = Some (record m { files = slice_set m.files rank (routed (rows_of m.files rank) name) }); ranks = slice_set c.ranks rank (stepped seat) }))
routes c bytes rank seat name m part at free goes up clear output opened empty is =
    let s = setup_of c in
    let rows = rows_of m.files rank in
    let b = bytes m.desc.which rank in
    let new : Manifest = record m { files = slice_set m.files rank (routed rows name) } in
    let hand : at_hand c ≡ Some m = ap (λ p. Rattle.site_state.specs.Choosing.hand_in p c) output ∙ opened in
    let zero_more : 0 + rank ≡ rank = omega arith in
    let files : with_files (set_of s bytes m) rank (file_routed (files_of (set_of s bytes m) rank) name) ≡ set_of s bytes new =
    ap (λ (fs : List File). with_files (set_of s bytes m) rank fs) (ap (λ (fs : List File). file_routed fs name) (rank_files_are s bytes m rank) ∙ sym (routed_is b rows name empty))
    ∙ ap (λ (fs : List (List File)). let d : Dataset = set_of s bytes m in record d { files = fs })
    (sym (rank-set (bytes m.desc.which) (bytes m.desc.which) 0 m.files rank (routed rows name) (λ k other j. refl) ∙ ap (λ (k : ℕ). slice_set (all_files (bytes m.desc.which) 0 m.files) rank (rank_files (bytes m.desc.which k) 0 (routed rows name))) zero_more)) in
    done c bytes rank seat (step.Route name) (reply.Routed part) (Some (set_of s bytes new)) at free goes up refl clear refl
    (ap (λ (o : Option Dataset). option_map (route_answer s (running bytes c) rank name) o) (hand_is c bytes ∙ ap (λ (o : Option Manifest). option_map (set_of s bytes) o) hand)
    ∙ ap (λ (k : ℕ). Some (reply.Routed (part_name m.desc.which (rank / c.shape.ranks) (rank % c.shape.ranks) k)))
    (ap (λ (fs : List File). place_from 0 fs name) (rank_files_are s bytes m rank) ∙ place_is b 0 0 rows name ∙ (let e : 0 + place_of rows name ≡ place_of rows name = omega arith in e))
    ∙ ap (λ (t : List ℕ). Some (reply.Routed t)) (sym is))
    (ap (λ (o : Option Manifest). option_map (dataset_after rank (step.Route name)) (option_map (set_of s bytes) o)) opened ∙ ap (λ (d : Dataset). Some d) files)

-- the file is there, and no dataset is open
pub routes_kept : (c : RunState) (bytes : Contents) (rank : ℕ) (seat : Seat) (name : List ℕ) (m : Manifest) (part : List ℕ) → slice_get c.ranks rank ≡ Some seat → is_free seat.doing ≡ true → seat.ended ≡ false → list_any mends c.kept ≡ false
    → local_verdict_of c rank (step.Route name) ≡ None → at_hand c ≡ Some m → c.opened ≡ None
    → part ≡ part_name m.desc.which (rank / c.shape.ranks) (rank % c.shape.ranks) (place_of (rows_of m.files rank) name)
    → StepsTo (setup_of c) (running bytes c) (event.Local rank (seat.number + 1) (step.Route name) (reply.Routed part)) (running bytes (record c { ranks = slice_set c.ranks rank (stepped seat) }))
routes_kept c bytes rank seat name m part at free goes up clear hand none is =
    let s = setup_of c in
    let rows = rows_of m.files rank in
    let b = bytes m.desc.which rank in
    done c bytes rank seat (step.Route name) (reply.Routed part) (option_map (set_of s bytes) c.opened) at free goes up refl clear refl
    (ap (λ (o : Option Dataset). option_map (route_answer s (running bytes c) rank name) o) (hand_is c bytes ∙ ap (λ (o : Option Manifest). option_map (set_of s bytes) o) hand)
    ∙ ap (λ (k : ℕ). Some (reply.Routed (part_name m.desc.which (rank / c.shape.ranks) (rank % c.shape.ranks) k)))
    (ap (λ (fs : List File). place_from 0 fs name) (rank_files_are s bytes m rank) ∙ place_is b 0 0 rows name ∙ (let e : 0 + place_of rows name ≡ place_of rows name = omega arith in e))
    ∙ ap (λ (t : List ℕ). Some (reply.Routed t)) (sym is))
    (ap (λ (o : Option Manifest). option_map (dataset_after rank (step.Route name)) (option_map (set_of s bytes) o)) none ∙ ap (λ (o : Option Manifest). option_map (set_of s bytes) o) (sym none))

-- ## Write

kept-same : (s : Setup) (b d : Contents) (places : List ℕ) (which : DataId) → ((w : DataId) → w ≢ which → (r j : ℕ) → d w r j ≡ b w r j) → (x : Cached) → x.manifest.desc.which ≢ which → kept_of s b places x ≡ kept_of s d places x
kept-same s b d places which others x other = ap (λ (fs : List (List File)). let k : Kept = kept_of s b places x in let e : Dataset = k.dataset in record k { dataset = record e { files = fs } })
    (same_all (b x.manifest.desc.which) (d x.manifest.desc.which) 0 x.manifest.files (λ r le j. sym (others x.manifest.desc.which other r j)))

-- none of these has the identity
pub data AreOther (which : DataId) : List Cached → Type 0 where
  NoneMore : AreOther which []
  Other : (x : Cached) (xs : List Cached) → x.manifest.desc.which ≢ which → AreOther which xs → AreOther which (x ∷ xs)

all-kept-same : (s : Setup) (b d : Contents) (places : List ℕ) (which : DataId) → ((w : DataId) → w ≢ which → (r j : ℕ) → d w r j ≡ b w r j) → (xs : List Cached) → AreOther which xs → map (kept_of s b places) xs ≡ map (kept_of s d places) xs
all-kept-same s b d places which others [] NoneMore = refl
all-kept-same s b d places which others (x ∷ xs) (Other _ _ other more) = rw (kept-same s b d places which others x other, all-kept-same s b d places which others xs more) refl

pub writes : (c : RunState) (b d : Contents) (rank : ℕ) (seat : Seat) (name : List ℕ) (at : ℕ) (content : Content) (m : Manifest) (len : ℕ) → slice_get c.ranks rank ≡ Some seat → is_free seat.doing ≡ true → seat.ended ≡ false → list_any mends c.kept ≡ false
    → local_verdict_of c rank (step.Write name at content) ≡ None → c.opened ≡ Some m → AreOther m.desc.which c.kept → AllPairs Differ (rows_of m.files rank) → is_routed (rows_of m.files rank) name ≡ true
    → ((w : DataId) → w ≢ m.desc.which → (r j : ℕ) → d w r j ≡ b w r j) → ((r : ℕ) → r ≢ rank → (j : ℕ) → d m.desc.which r j ≡ b m.desc.which r j)
    → ((j : ℕ) → j ≢ place_of (rows_of m.files rank) name → d m.desc.which rank j ≡ b m.desc.which rank j)
    → d m.desc.which rank (place_of (rows_of m.files rank) name) ≡ written_at (b m.desc.which rank (place_of (rows_of m.files rank) name)) at (bytes_for content rank)
    → StepsTo (setup_of c) (running b c) (event.Local rank (seat.number + 1) (step.Write name at content) reply.Done)
    (running d (record c { opened = Some (record m { files = slice_set m.files rank (extended (rows_of m.files rank) (place_of (rows_of m.files rank) name) len) }); ranks = slice_set c.ranks rank (stepped seat) }))
writes c b d rank seat name at content m len here free goes up clear opened others apart there sets ranks numbers put =
    let s = setup_of c in
    let rows = rows_of m.files rank in
    let which = m.desc.which in
    let new = bytes_for content rank in
    let more = extended rows (place_of rows name) len in
    let after : Manifest = record m { files = slice_set m.files rank more } in
    let zero_more : 0 + rank ≡ rank = omega arith in
    let zero_place : 0 + place_of rows name ≡ place_of rows name = omega arith in
    let file : rank_files (d which rank) 0 more ≡ files_written (rank_files (b which rank) 0 rows) name at new =
    written_is (b which rank) (d which rank) 0 rows name at new len apart there (λ k other. numbers k (λ is. other (is ∙ sym zero_place)))
    (subst (λ (k : ℕ). d which rank k ≡ written_at (b which rank k) at new) (sym zero_place) put) in
    let files : with_files (set_of s b m) rank (files_written (files_of (set_of s b m) rank) name at new) ≡ set_of s d after =
    ap (λ (fs : List File). with_files (set_of s b m) rank fs) (ap (λ (fs : List File). files_written fs name at new) (rank_files_are s b m rank) ∙ sym file)
    ∙ ap (λ (fs : List (List File)). let e : Dataset = set_of s b m in record e { files = fs })
    (sym (rank-set (b which) (d which) 0 m.files rank more (λ k other j. ranks k (λ is. other (is ∙ sym zero_more)) j) ∙ ap (λ (k : ℕ). slice_set (all_files (b which) 0 m.files) rank (rank_files (d which k) 0 more)) zero_more)) in
    let e : RunState = record c { opened = Some after; ranks = slice_set c.ranks rank (stepped seat) } in
    subst (λ (ks : List Kept). StepsTo s (running b c) (event.Local rank (seat.number + 1) (step.Write name at content) reply.Done) (let x : Machine = running d e in record x { kept = ks }))
    (all-kept-same s b d c.places which sets c.kept others)
    (done c b rank seat (step.Write name at content) reply.Done (Some (set_of s d after)) here free goes up refl clear refl refl
    (ap (λ (o : Option Manifest). option_map (dataset_after rank (step.Write name at content)) (option_map (set_of s b) o)) opened ∙ ap (λ (x : Dataset). Some x) files))
