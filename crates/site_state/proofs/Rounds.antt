-- What a clear round is answered, kind by kind, and the end of a run.
use Rattle.std.proofs.Common.{◌≡◌, ℕ, zero, suc, ◌+◌, ◌*◌, Bool, true, false, List, [], ◌∷◌, ◌++◌, map, replicate, Option, Some, None, refl, sym, ap, ◌∙◌}
use Rattle.std.specs.Prelude.{not, ◌&&◌, find, bytes_eq, option_map, option_and_then, is_none, unwrap_or, nat_lt, nat_le, if◌then◌else◌}
use Rattle.std.specs.List.{list_all, list_any}
use Rattle.std.proofs.lemmas.List.{length-map}
use Rattle.scr_base.specs.declared.shape.Flags.{Flags}
use Rattle.scr_base.specs.declared.shape.DataId.{DataId}
use Rattle.scr_base.specs.declared.answers.Phase.TheVariants as phase
use Rattle.scr_base.specs.declared.answers.Refusal.{Refusal}
use Rattle.scr_base.specs.declared.answers.Refusal.TheVariants as refusal
use Rattle.scr_base.specs.declared.answers.Reply.TheVariants as reply
use Rattle.scr_base.specs.declared.content.Step.{Step}
use Rattle.scr_base.specs.declared.content.Step.TheVariants as step
use Rattle.scr_base.specs.Calls.{or_else, refuse_if, has_bad_name, judged}
use Rattle.ckpt_model.specs.declared.event.Event.TheVariants as event
use Rattle.ckpt_model.specs.declared.event.Kind.TheVariants as kind
use Rattle.ckpt_model.specs.declared.event.StopCause.TheVariants as cause
use Rattle.ckpt_model.specs.Dataset.{Dataset, File}
use Rattle.ckpt_model.specs.Machine.{Machine, Kept, RankState, Stage as Place, is_sealing, is_settled}
use Rattle.scr_base.specs.declared.answers.Reason.{Reason}
use Rattle.scr_base.specs.Halt.{halt_reason}
use Rattle.halt_file.specs.Conditions.{conditions}
use Rattle.ckpt_model.specs.Questions.{is_due, verdict, verdict_on, all_valid, is_full, start_refusal, is_kept_and, is_id_of}
use Rattle.ckpt_model.specs.Answers.{answer_if, answer_to, effect, have_answer, is_saved, is_offer_settled, empty_dataset, yes_if, need_answer, exit_answer, is_refused}
use Rattle.ckpt_model.specs.Runs.{StepsTo}
use Rattle.ckpt_model.specs.Stops.{may_stop}
use Rattle.round_core.specs.declared.seat.Seat.{Seat}
use Rattle.round_core.specs.Seats.{is_complete, first_call, judged_of, seat_is_valid, owed}
use Rattle.site_state.specs.declared.cache.Cached.{Cached}
use Rattle.site_state.specs.declared.cache.Manifest.{Manifest}
use Rattle.site_state.specs.Cores.{IsOpened}
use Rattle.site_state.specs.declared.cache.Mark.{Mark}
use Rattle.site_state.specs.declared.cache.Mark.TheVariants as mark
use Rattle.site_state.specs.declared.run_state.RunState.{RunState}
use Rattle.site_state.specs.Shown.{Contents, running, setup_of, set_of, kept_of, rank_of, all_files}
use Rattle.site_state.specs.Choosing.{verdict_of, start_verdict, named_in, newest_of, seals, is_settled_one, is_crowded, is_needed, due_in, is_due as is_due_one}
use Rattle.site_state.proofs.Ranks.{any-map, all-map, valid_is, first_is, calls_are}
use Rattle.site_state.proofs.Gates.{answers, round_is, both}
use Rattle.site_state.proofs.Best.{best_is}

-- ## The verdict

found-map : (s : Rattle.ckpt_model.specs.Machine.Setup) (bytes : Contents) (places name : List ℕ) (xs : List Cached)
    → option_map (λ (d : Dataset). d.which) (find (λ d. bytes_eq d.name name) (map (λ (k : Kept). k.dataset) (map (kept_of s bytes places) xs) ++ [])) ≡ named_in xs name
found-map s bytes places name [] = refl
found-map s bytes places name (x ∷ xs) = pick (bytes_eq x.manifest.desc.name name) (found-map s bytes places name xs) where
  pick : (b : Bool) → option_map (λ (d : Dataset). d.which) (find (λ d. bytes_eq d.name name) (map (λ (k : Kept). k.dataset) (map (kept_of s bytes places) xs) ++ [])) ≡ named_in xs name
      → option_map (λ (d : Dataset). d.which) (if b then Some (set_of s bytes x.manifest) else find (λ d. bytes_eq d.name name) (map (λ (k : Kept). k.dataset) (map (kept_of s bytes places) xs) ++ []))
      ≡ option_map (λ (y : Cached). y.manifest.desc.which) (if b then Some x else find (λ y. bytes_eq y.manifest.desc.name name) xs)
  pick true more = refl
  pick false more = more

start_is : (c : RunState) (bytes : Contents) (call : Step) → start_refusal (running bytes c) call ≡ start_verdict c call
start_is c bytes (step.Start name flags) = ap (λ (o : Option DataId). or_else (refuse_if (nat_lt 4294967295 c.next) refusal.Limit) (option_map (λ which. refusal.NameTaken which) o)) (found-map (setup_of c) bytes c.places name c.kept)
start_is c bytes step.Need = refl
start_is c bytes (step.Route name) = refl
start_is c bytes (step.Write name at content) = refl
start_is c bytes (step.Complete valid) = refl
start_is c bytes step.Have = refl
start_is c bytes step.Restart = refl
start_is c bytes (step.Read name at len) = refl
start_is c bytes (step.Restarted valid) = refl
start_is c bytes step.Exit = refl
start_is c bytes step.Finalize = refl
start_is c bytes step.End = refl

pub verdict_is : (c : RunState) (bytes : Contents) (call : Step) → first_call c.ranks ≡ Some call → verdict (running bytes c) ≡ verdict_of c call
verdict_is c bytes call first =
    ap (λ (o : Option Step). option_and_then (verdict_on (running bytes c)) o) (first_is c.ranks ∙ first)
    ∙ ap (λ (cs : List Step). or_else (judged c.phase call cs) (or_else (refuse_if (has_bad_name call) refusal.BadName) (start_refusal (running bytes c) call))) (calls_are c.ranks)
    ∙ ap (λ (r : Option Refusal). or_else (judged c.phase call (Rattle.round_core.specs.Seats.calls_of c.ranks)) (or_else (refuse_if (has_bad_name call) refusal.BadName) r)) (start_is c bytes call)
    ∙ ap (λ (o : Option Step). or_else (option_and_then (λ first. judged c.phase first (Rattle.round_core.specs.Seats.calls_of c.ranks)) o) (or_else (refuse_if (has_bad_name call) refusal.BadName) (start_verdict c call))) (sym first)

-- ## Answers

crowded_is : (c : RunState) (bytes : Contents) → is_full (setup_of c) (running bytes c) ≡ is_crowded c
crowded_is c bytes = ap (nat_le c.config.cache) (length-map c.kept (kept_of (setup_of c) bytes c.places))

no_files : (bytes : ℕ → ℕ → List ℕ) (n rank : ℕ) → all_files bytes rank (replicate n []) ≡ replicate n []
no_files bytes zero rank = refl
no_files bytes (suc n) rank = ap (λ (fs : List (List File)). [] ∷ fs) (no_files bytes n (rank + 1))

opened_is : (c : RunState) (bytes : Contents) (name : List ℕ) (flags : Flags) (m : Manifest) → IsOpened c name flags m → empty_dataset (setup_of c) (running bytes c) name flags ≡ set_of (setup_of c) bytes m
opened_is c bytes name flags m is = rw (is.which, is.name_is, is.flags_are, is.scheme, is.size, is.files, no_files (bytes (record { id = c.next; run = c.run })) (c.shape.nodes * c.shape.ranks) 0) refl

pub started : (c : RunState) (bytes : Contents) (name : List ℕ) (flags : Flags) (m : Manifest) → is_complete c.ranks ≡ true → first_call c.ranks ≡ Some (step.Start name flags) → verdict_of c (step.Start name flags) ≡ None
    → is_crowded c ≡ false → IsOpened c name flags m → (which : DataId) → which ≡ record { id = c.next; run = c.run }
    → StepsTo (setup_of c) (running bytes c) (event.Decided kind.Start (reply.Started which)) (running bytes (record c { opened = Some m; next = c.next + 1; phase = phase.Output; ranks = map (owed (reply.Started which)) c.ranks; reading = None }))
started c bytes name flags m complete first clear room opened which is =
    answers c (record c { opened = Some m; next = c.next + 1; phase = phase.Output }) bytes kind.Start (reply.Started which) (step.Start name flags) complete first refl
    (verdict_is c bytes (step.Start name flags) first ∙ clear) refl
    (ap (λ (b : Bool). answer_if (not b) (reply.Started (record { id = c.next; run = c.run }))) (crowded_is c bytes ∙ room) ∙ ap (λ (w : DataId). Some (reply.Started w)) (sym is))
    (ap (λ (d : Dataset). record (running bytes c) { open_dataset = Some d; next = c.next + 1; phase = phase.Output }) (opened_is c bytes name flags m opened)) refl

pub all_valid_is : (c : RunState) (bytes : Contents) → all_valid (running bytes c) ≡ list_all seat_is_valid c.ranks
all_valid_is c bytes = valid_is c.ranks

sealing_is : (c : RunState) (bytes : Contents) (m : Mark) (x : Cached) → m ≡ x.mark → (λ (k : Kept). is_sealing k.mark) (kept_of (setup_of c) bytes c.places x) ≡ seals x
sealing_is c bytes mark.Mending x is = rw (sym is) refl
sealing_is c bytes mark.Sealing x is = rw (sym is) refl
sealing_is c bytes mark.Settled x is = rw (sym is) refl

saved_is : (c : RunState) (bytes : Contents) → c.opened ≡ None → list_any seals c.kept ≡ false → is_saved (running bytes c) ≡ true
saved_is c bytes none rest =
    both _ _ (ap (λ (o : Option Manifest). is_none (option_map (set_of (setup_of c) bytes) o)) none)
    (ap not (any-map (λ (k : Kept). is_sealing k.mark) (kept_of (setup_of c) bytes c.places) seals (λ x. sealing_is c bytes x.mark x refl) c.kept ∙ rest))

pub kept_it : (c : RunState) (bytes : Contents) (valid : Bool) → is_complete c.ranks ≡ true → first_call c.ranks ≡ Some (step.Complete valid) → verdict_of c (step.Complete valid) ≡ None
    → list_all seat_is_valid c.ranks ≡ true → c.opened ≡ None → list_any seals c.kept ≡ false
    → StepsTo (setup_of c) (running bytes c) (event.Decided kind.Complete reply.Kept) (running bytes (record c { phase = phase.Idle; ranks = map (owed reply.Kept) c.ranks; reading = None }))
kept_it c bytes valid complete first clear all none rest =
    answers c (record c { phase = phase.Idle }) bytes kind.Complete reply.Kept (step.Complete valid) complete first refl
    (verdict_is c bytes (step.Complete valid) first ∙ clear) refl
    (ap (λ (b : Bool). if b then answer_if (is_saved (running bytes c)) reply.Kept else Some reply.NotKept) (all_valid_is c bytes ∙ all) ∙ ap (λ (b : Bool). answer_if b reply.Kept) (saved_is c bytes none rest))
    (ap (λ (o : Option Dataset). record (running bytes c) { open_dataset = o; phase = phase.Idle }) (sym (ap (λ (o : Option Manifest). option_map (set_of (setup_of c) bytes) o) none))) refl

pub offered : (c : RunState) (bytes : Contents) (m : Manifest) → is_complete c.ranks ≡ true → first_call c.ranks ≡ Some step.Have → verdict_of c step.Have ≡ None → newest_of c.kept ≡ Some m
    → StepsTo (setup_of c) (running bytes c) (event.Decided kind.Have (reply.Offer m.desc.which m.desc.name)) (running bytes (record c { offer = Some m.desc.which; phase = phase.Offered; ranks = map (owed (reply.Offer m.desc.which m.desc.name)) c.ranks; reading = None }))
offered c bytes m complete first clear newest =
    answers c (record c { offer = Some m.desc.which; phase = phase.Offered }) bytes kind.Have (reply.Offer m.desc.which m.desc.name) step.Have complete first refl
    (verdict_is c bytes step.Have first ∙ clear) refl
    (ap (λ (o : Option Dataset). Some (have_answer o)) (best_is c bytes ∙ ap (λ (o : Option Manifest). option_map (set_of (setup_of c) bytes) o) newest)) refl refl

pub offered_none : (c : RunState) (bytes : Contents) → is_complete c.ranks ≡ true → first_call c.ranks ≡ Some step.Have → verdict_of c step.Have ≡ None → newest_of c.kept ≡ None
    → StepsTo (setup_of c) (running bytes c) (event.Decided kind.Have reply.NoneLeft) (running bytes (record c { offer = None; phase = phase.Idle; ranks = map (owed reply.NoneLeft) c.ranks; reading = None }))
offered_none c bytes complete first clear newest =
    answers c (record c { offer = None; phase = phase.Idle }) bytes kind.Have reply.NoneLeft step.Have complete first refl
    (verdict_is c bytes step.Have first ∙ clear) refl
    (ap (λ (o : Option Dataset). Some (have_answer o)) (best_is c bytes ∙ ap (λ (o : Option Manifest). option_map (set_of (setup_of c) bytes) o) newest)) refl refl

settled_one_is : (c : RunState) (bytes : Contents) (which : DataId) (m : Mark) (x : Cached) → m ≡ x.mark → (λ (k : Kept). is_id_of which k && is_settled k.mark) (kept_of (setup_of c) bytes c.places x) ≡ is_settled_one which x
settled_one_is c bytes which mark.Mending x is = rw (sym is) refl
settled_one_is c bytes which mark.Sealing x is = rw (sym is) refl
settled_one_is c bytes which mark.Settled x is = rw (sym is) refl

pub restarts : (c : RunState) (bytes : Contents) (which : DataId) → is_complete c.ranks ≡ true → first_call c.ranks ≡ Some step.Restart → verdict_of c step.Restart ≡ None → c.offer ≡ Some which → list_any (is_settled_one which) c.kept ≡ true
    → StepsTo (setup_of c) (running bytes c) (event.Decided kind.Restart reply.Done) (running bytes (record c { phase = phase.Restart; ranks = map (owed reply.Done) c.ranks; reading = None }))
restarts c bytes which complete first clear offer there =
    answers c (record c { phase = phase.Restart }) bytes kind.Restart reply.Done step.Restart complete first refl
    (verdict_is c bytes step.Restart first ∙ clear) refl
    (ap (λ (b : Bool). answer_if b reply.Done) (ap (λ (o : Option DataId). unwrap_or (option_map (is_kept_and (λ k. is_settled k.mark) (running bytes c)) o) false) offer
    ∙ any-map (λ (k : Kept). is_id_of which k && is_settled k.mark) (kept_of (setup_of c) bytes c.places) (is_settled_one which) (λ x. settled_one_is c bytes which x.mark x refl) c.kept ∙ there)) refl refl

pub restarted : (c : RunState) (bytes : Contents) (valid : Bool) → is_complete c.ranks ≡ true → first_call c.ranks ≡ Some (step.Restarted valid) → verdict_of c (step.Restarted valid) ≡ None → list_all seat_is_valid c.ranks ≡ true
    → StepsTo (setup_of c) (running bytes c) (event.Decided kind.Restarted reply.Done) (running bytes (record c { phase = phase.Idle; ranks = map (owed reply.Done) c.ranks; reading = None }))
restarted c bytes valid complete first clear all =
    answers c (record c { phase = phase.Idle }) bytes kind.Restarted reply.Done (step.Restarted valid) complete first refl
    (verdict_is c bytes (step.Restarted valid) first ∙ clear) refl
    (ap (λ (b : Bool). if b then Some reply.Done else answer_if (not (Rattle.ckpt_model.specs.Answers.is_offer_kept (running bytes c))) reply.Failed) (all_valid_is c bytes ∙ all)) refl refl

-- ## The clock

pub needed : (c : RunState) (bytes : Contents) (now : ℕ) (b : Bool) → is_complete c.ranks ≡ true → first_call c.ranks ≡ Some step.Need → verdict_of c step.Need ≡ None → c.reading ≡ Some now → b ≡ is_needed c (c.needs + 1) now
    → StepsTo (setup_of c) (running bytes c) (event.Decided kind.Need (yes_if b)) (running bytes (record c { needs = c.needs + 1; ranks = map (owed (yes_if b)) c.ranks; reading = None }))
needed c bytes now b complete first clear told is =
    answers c (record c { needs = c.needs + 1 }) bytes kind.Need (yes_if b) step.Need complete first refl
    (verdict_is c bytes step.Need first ∙ clear) (calm b)
    (ap (λ (o : Option ℕ). option_map (need_answer (setup_of c) (running bytes c)) o) told ∙ ap (λ (x : Bool). Some (yes_if x)) (sym is)) refl refl where
      calm : (b : Bool) → is_refused (yes_if b) ≡ false
      calm true = refl
      calm false = refl

pub exits : (c : RunState) (bytes : Contents) (now : ℕ) (o : Option Reason) → is_complete c.ranks ≡ true → first_call c.ranks ≡ Some step.Exit → verdict_of c step.Exit ≡ None → c.reading ≡ Some now → o ≡ halt_reason (conditions c.halt) now c.settled
    → StepsTo (setup_of c) (running bytes c) (event.Decided kind.Exit (exit_answer o)) (running bytes (record c { ranks = map (owed (exit_answer o)) c.ranks; reading = None }))
exits c bytes now o complete first clear told is =
    answers c c bytes kind.Exit (exit_answer o) step.Exit complete first refl
    (verdict_is c bytes step.Exit first ∙ clear) (calm o)
    (ap (λ (x : Option ℕ). option_map (λ t. exit_answer (halt_reason (conditions c.halt) t c.settled)) x) told ∙ ap (λ (x : Option Reason). Some (exit_answer x)) (sym is)) (same o) refl where
      calm : (o : Option Reason) → is_refused (exit_answer o) ≡ false
      calm None = refl
      calm (Some why) = refl

      same : (o : Option Reason) → effect (setup_of c) (running bytes c) step.Exit (exit_answer o) ≡ running bytes c
      same None = refl
      same (Some why) = refl

due_is : (c : RunState) (bytes : Contents) (m : Mark) (x : Cached) → m ≡ x.mark → is_due (setup_of c) (running bytes c) (kept_of (setup_of c) bytes c.places x) ≡ is_due_one c.config x
due_is c bytes mark.Mending x is = rw (sym is) refl
due_is c bytes mark.Sealing x is = rw (sym is) refl
due_is c bytes mark.Settled x is = rw (sym is) refl

due_among : (c : RunState) (bytes : Contents) (xs : List Cached)
    → option_map (λ (k : Kept). k.dataset.which) (find (is_due (setup_of c) (running bytes c)) (map (kept_of (setup_of c) bytes c.places) xs)) ≡ option_map (λ (x : Cached). x.manifest.desc.which) (find (is_due_one c.config) xs)
due_among c bytes [] = refl
due_among c bytes (x ∷ xs) =
    ap (λ (b : Bool). option_map (λ (k : Kept). k.dataset.which) (if b then Some (kept_of (setup_of c) bytes c.places x) else find (is_due (setup_of c) (running bytes c)) (map (kept_of (setup_of c) bytes c.places) xs))) (due_is c bytes x.mark x refl)
    ∙ pick (is_due_one c.config x) (due_among c bytes xs) where
      pick : (b : Bool) → option_map (λ (k : Kept). k.dataset.which) (find (is_due (setup_of c) (running bytes c)) (map (kept_of (setup_of c) bytes c.places) xs)) ≡ option_map (λ (y : Cached). y.manifest.desc.which) (find (is_due_one c.config) xs)
          → option_map (λ (k : Kept). k.dataset.which) (if b then Some (kept_of (setup_of c) bytes c.places x) else find (is_due (setup_of c) (running bytes c)) (map (kept_of (setup_of c) bytes c.places) xs))
          ≡ option_map (λ (y : Cached). y.manifest.desc.which) (if b then Some x else find (is_due_one c.config) xs)
      pick true more = refl
      pick false more = more

pub finalized : (c : RunState) (bytes : Contents) → is_complete c.ranks ≡ true → first_call c.ranks ≡ Some step.Finalize → verdict_of c step.Finalize ≡ None → due_in c ≡ None
    → StepsTo (setup_of c) (running bytes c) (event.Decided kind.Finalize reply.Done) (running bytes (record c { phase = phase.Final; ranks = map (owed reply.Done) c.ranks; reading = None }))
finalized c bytes complete first clear none =
    answers c (record c { phase = phase.Final }) bytes kind.Finalize reply.Done step.Finalize complete first refl
    (verdict_is c bytes step.Finalize first ∙ clear) refl
    (ap (λ (o : Option DataId). answer_if (is_none o && true) reply.Done) (due_among c bytes c.kept ∙ none)) refl refl

-- ## The end

ended_is : (seats : List Seat) → list_all (λ (r : RankState). r.ended) (map rank_of seats) ≡ list_all (λ (seat : Seat). seat.ended) seats
ended_is seats = all-map (λ (r : RankState). r.ended) rank_of (λ (seat : Seat). seat.ended) (λ seat. refl) seats

pub may_end : (c : RunState) (bytes : Contents) → is_complete c.ranks ≡ true → list_all (λ (seat : Seat). seat.ended) c.ranks ≡ true → may_stop (running bytes c) cause.Ended ≡ true
may_end c bytes complete ended = both _ _ (round_is c bytes ∙ complete) (ended_is c.ranks ∙ ended)
