-- The events of a run that is up, as steps of the machine: calls, decisions and replies.
use Rattle.std.proofs.Common.{◌≡◌, ℕ, ◌+◌, Bool, true, false, List, map, Option, Some, None, refl, sym, ap, ◌∙◌, slice_get}
use Rattle.std.specs.Prelude.{IsTrue, ◌&&◌, slice_set, option_map, is_none, unwrap_or, if◌then◌else◌}
use Rattle.std.specs.List.{list_any}
use Rattle.scr_base.specs.Calls.{is_local, is_end}
use Rattle.scr_base.specs.declared.answers.Reply.{Reply}
use Rattle.scr_base.specs.declared.content.Step.{Step}
use Rattle.ckpt_model.specs.declared.event.Event.TheVariants as event
use Rattle.ckpt_model.specs.declared.event.Kind.{Kind}
use Rattle.ckpt_model.specs.Machine.{Kept, RankState, Doing as Does}
use Rattle.ckpt_model.specs.Questions.{is_recovering, is_complete as is_round}
use Rattle.ckpt_model.specs.Steps.{may_take, may_call, after_call, may_reply, after_reply, is_rank_and, change_rank, owes_reply, freed as reply_taken}
use Rattle.scr_base.specs.declared.answers.Refusal.{Refusal}
use Rattle.scr_base.specs.declared.answers.Reply.TheVariants as reply
use Rattle.ckpt_model.specs.Questions.{verdict}
use Rattle.ckpt_model.specs.Answers.{is_of_kind, may_answer, may_decide, after_decision, effect_of, effect, owes, is_fault, is_refused, is_answer, answer_to, round_answer, have_answer, is_saved, is_offer_settled}
use Rattle.ckpt_model.specs.Runs.{StepsTo}
use Rattle.ckpt_model.proofs.SameLemmas.{number-same, reply-same}
use Rattle.round_core.specs.declared.seat.Doing.{Doing}
use Rattle.round_core.specs.declared.seat.Doing.TheVariants as doing
use Rattle.round_core.specs.declared.seat.Seat.{Seat}
use Rattle.round_core.specs.Seats.{is_free, is_complete, first_call, next_number, called, freed, owed}
use Rattle.site_state.specs.declared.cache.Cached.{Cached}
use Rattle.site_state.specs.declared.cache.Mark.{Mark}
use Rattle.site_state.specs.declared.cache.Mark.TheVariants as mark
use Rattle.site_state.specs.declared.run_state.RunState.{RunState}
use Rattle.site_state.specs.Shown.{Contents, running, setup_of, kept_of, rank_of, mends}
use Rattle.site_state.proofs.Ranks.{any-map, complete_is, first_is, change_is, rank_is, owed_is}

-- ## Recovery is over

untreated_is : (c : RunState) (bytes : Contents) (m : Mark) (x : Cached) → m ≡ x.mark → (λ (k : Kept). Rattle.ckpt_model.specs.Steps.is_untreated k.mark) (kept_of (setup_of c) bytes c.places x) ≡ mends x
untreated_is c bytes mark.Mending x is = rw (sym is) refl
untreated_is c bytes mark.Sealing x is = rw (sym is) refl
untreated_is c bytes mark.Settled x is = rw (sym is) refl

pub recovering_is : (c : RunState) (bytes : Contents) → is_recovering (running bytes c) ≡ list_any mends c.kept
recovering_is c bytes = any-map (λ (k : Kept). Rattle.ckpt_model.specs.Steps.is_untreated k.mark) (kept_of (setup_of c) bytes c.places) mends (λ x. untreated_is c bytes x.mark x refl) c.kept

-- ## Calls

-- the seat may take this step next
takes : (n : ℕ) (ended : Bool) (d : Doing) (step : Step) → is_free d ≡ true → (ended ≡ true → is_end step ≡ true) → let seat : Seat = record { number = n; ended = ended; doing = d } in IsTrue (may_take (next_number seat) step (rank_of seat))
takes n true doing.Free step free again = rw (again refl) (number-same n)
takes n false doing.Free step free again = number-same (n + 1)
takes n ended (doing.Waits call) step free again = absurd (cc free)
takes n ended (doing.Owed a) step free again = absurd (cc free)

pub calls : (c : RunState) (bytes : Contents) (rank : ℕ) (seat : Seat) (step : Step) → slice_get c.ranks rank ≡ Some seat → is_free seat.doing ≡ true → list_any mends c.kept ≡ false → is_local step ≡ false → (seat.ended ≡ true → is_end step ≡ true)
    → StepsTo (setup_of c) (running bytes c) (event.Call rank (next_number seat) step) (running bytes (record c { ranks = slice_set c.ranks rank (called step seat) }))
calls c bytes rank seat step at free up collective again = (
  rw (recovering_is c bytes ∙ up, collective, rank_is (may_take (next_number seat) step) c.ranks rank seat at) (takes seat.number seat.ended seat.doing step free again),
  ap (λ (rs : List RankState). record (running bytes c) { ranks = rs }) (sym (change_is (λ r. record { number = next_number seat; ended = is_end step; doing = Does.Waits step }) seat (called step seat) refl c.ranks rank at)),
)

owes_it : (n : ℕ) (ended : Bool) (d : Doing) (a : Reply) → d ≡ doing.Owed a → let seat : Seat = record { number = n; ended = ended; doing = d } in IsTrue (owes_reply n a (rank_of seat))
owes_it n ended d a is = rw (is, number-same n) (reply-same a)

pub replies : (c : RunState) (bytes : Contents) (rank : ℕ) (seat : Seat) (a : Reply) → slice_get c.ranks rank ≡ Some seat → seat.doing ≡ doing.Owed a
    → StepsTo (setup_of c) (running bytes c) (event.Reply rank seat.number a) (running bytes (record c { ranks = slice_set c.ranks rank (freed seat) }))
replies c bytes rank seat a at owes_a = (
  rw (rank_is (owes_reply seat.number a) c.ranks rank seat at) (owes_it seat.number seat.ended seat.doing a owes_a),
  ap (λ (rs : List RankState). record (running bytes c) { ranks = rs }) (sym (change_is reply_taken seat (freed seat) refl c.ranks rank at)),
)

-- ## Decisions

pub round_is : (c : RunState) (bytes : Contents) → is_round (running bytes c) ≡ is_complete c.ranks
round_is c bytes = complete_is c.ranks

pub both : (a b : Bool) → a ≡ true → b ≡ true → a && b ≡ true
both true b p q = q
both false b p q = absurd (cc p)

-- the round is decided by what the answer changes, and by every rank's reply
pub decides : (c d : RunState) (bytes : Contents) (k : Kind) (a : Reply) (call : Step) → is_complete c.ranks ≡ true → first_call c.ranks ≡ Some call → is_of_kind k call ≡ true
    → may_answer (setup_of c) (running bytes c) a call ≡ true → effect_of (setup_of c) (running bytes c) a call ≡ running bytes d → d.ranks ≡ c.ranks
    → StepsTo (setup_of c) (running bytes c) (event.Decided k a) (running bytes (record d { ranks = map (owed a) c.ranks; reading = None }))
decides c d bytes k a call complete first of may effect same = (
  both (is_round (running bytes c)) _ (round_is c bytes ∙ complete)
      (ap (λ (o : Option Step). unwrap_or (option_map (λ x. is_of_kind k x && may_answer (setup_of c) (running bytes c) a x) o) false) (first_is c.ranks ∙ first) ∙ both (is_of_kind k call) _ of may),
  rw (first_is c.ranks ∙ first, effect, owed_is a c.ranks) refl,
)

-- what is no refusal is no fault
pub unrefused : (a : Reply) → is_refused a ≡ false → is_fault a ≡ false
unrefused (reply.Refused r) is = absurd (cc is)
unrefused _ is = refl

-- the verdict on the round refuses it
pub refuses : (c : RunState) (bytes : Contents) (k : Kind) (r : Refusal) (call : Step) → is_complete c.ranks ≡ true → first_call c.ranks ≡ Some call → is_of_kind k call ≡ true
    → verdict (running bytes c) ≡ Some r → is_fault (reply.Refused r) ≡ false
    → StepsTo (setup_of c) (running bytes c) (event.Decided k (reply.Refused r)) (running bytes (record c { ranks = map (owed (reply.Refused r)) c.ranks; reading = None }))
refuses c bytes k r call complete first of is no_fault =
    let s = setup_of c in
    let m = running bytes c in
    let a = reply.Refused r in
    decides c c bytes k a call complete first of
    (ap (λ (b : Bool). if b then is_none (verdict m) && Rattle.ckpt_model.specs.Answers.may_fault m call else is_answer (round_answer s m call) a) no_fault
    ∙ ap (λ (v : Option Refusal). is_answer (unwrap_or (option_map (λ x. Some (reply.Refused x)) v) (answer_to s m call)) a) is ∙ reply-same a)
    (ap (λ (b : Bool). if b then Rattle.ckpt_model.specs.Answers.fault_effect m call else m) no_fault) refl

-- nothing speaks against the round, and this is its answer
pub answers : (c d : RunState) (bytes : Contents) (k : Kind) (a : Reply) (call : Step) → is_complete c.ranks ≡ true → first_call c.ranks ≡ Some call → is_of_kind k call ≡ true
    → verdict (running bytes c) ≡ None → is_refused a ≡ false → answer_to (setup_of c) (running bytes c) call ≡ Some a → effect (setup_of c) (running bytes c) call a ≡ running bytes d → d.ranks ≡ c.ranks
    → StepsTo (setup_of c) (running bytes c) (event.Decided k a) (running bytes (record d { ranks = map (owed a) c.ranks; reading = None }))
answers c d bytes k a call complete first of clear no_refusal is changes same =
    let s = setup_of c in
    let m = running bytes c in
    let no_fault = unrefused a no_refusal in
    decides c d bytes k a call complete first of
    (ap (λ (b : Bool). if b then is_none (verdict m) && Rattle.ckpt_model.specs.Answers.may_fault m call else is_answer (round_answer s m call) a) no_fault
    ∙ ap (λ (v : Option Refusal). is_answer (unwrap_or (option_map (λ x. Some (reply.Refused x)) v) (answer_to s m call)) a) clear ∙ ap (λ (o : Option Reply). is_answer o a) is ∙ reply-same a)
    (ap (λ (b : Bool). if b then Rattle.ckpt_model.specs.Answers.fault_effect m call else if is_refused a then m else effect s m call a) no_fault
    ∙ ap (λ (b : Bool). if b then m else effect s m call a) no_refusal ∙ changes) same
