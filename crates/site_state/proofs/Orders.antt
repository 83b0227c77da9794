-- A run that isn't over goes on.
use Rattle.std.proofs.Common.{◌≡◌, ◌⊎◌, inl, inr, ℕ, suc, ◌-◌, ◌<◌, ◌≤◌, Bool, true, false, List, [], ◌∷◌, length, Option, Some, None, refl, sym, ap, ◌∙◌, slice_get, get_or, arith}
use Rattle.std.specs.Prelude.{position, is_some, is_none, not, option_map, option_and_then, unwrap_or, ◌&&◌, if◌then◌else◌}
use Rattle.std.specs.List.{list_all}
use Rattle.std.proofs.lemmas.Option.{slice_get_within, slice_get-get_or}
use Rattle.scr_base.specs.Calls.{is_end}
use Rattle.scr_base.specs.declared.actor.Actor.TheVariants as actor
use Rattle.scr_base.specs.declared.answers.Refusal.{Refusal}
use Rattle.scr_base.specs.declared.content.Step.{Step}
use Rattle.scr_base.specs.declared.content.Step.TheVariants as step
use Rattle.round_core.specs.declared.seat.Doing.{Doing}
use Rattle.round_core.specs.declared.seat.Doing.TheVariants as doing
use Rattle.round_core.specs.declared.seat.Seat.{Seat}
use Rattle.round_core.specs.Seats.{call_in, call_at, has_called, is_missing, is_complete, first_call, seat_is_valid}
use Rattle.site_state.specs.declared.cache.Manifest.{Manifest}
use Rattle.site_state.specs.declared.run_state.RunState.{RunState}
use Rattle.site_state.specs.declared.run_state.RunStage.{RunStage}
use Rattle.site_state.specs.declared.run_state.RunStage.TheVariants as stage
use Rattle.site_state.specs.declared.turn.Turn.TheVariants.{Moved, NotYet}
use Rattle.site_state.specs.declared.turn.Why.TheVariants as why
use Rattle.site_state.specs.Asking.{program_of, last_step, takes_steps}
use Rattle.scr_base.specs.Calls.{asks_time}
use Rattle.site_state.specs.Choosing.{verdict_of, wants_reading, due_in}
use Rattle.site_state.specs.Order.{SeatInOrder, IsInOrder, HasEnds, GoesOn}
use Rattle.site_state.specs.Waiting.{is_over, round_turn, clear_turn, complete_turn, clock_turn, flush_turn, free_turn, seat_turn, serving_turn, rank_turn, recoverer_turn, encoder_turn, evictor_turn, turn_of}
use Rattle.site_state.proofs.Asked.{one_missing, asks_save, asks_drop}
use Rattle.site_state.proofs.Gates.{both}
use Rattle.site_state.proofs.Serving.{some_same}
use Rattle.site_state.proofs.Times.{asks_now, judged_alone}

below_or_not : (k n : ℕ) → (k < n) ⊎ (n ≤ k)
below_or_not k n = grind arith

-- ## The step that comes next

ends_with : (o : Option Step) → not (unwrap_or (option_map is_end o) false) ≡ false → (s : Step) × (o ≡ Some s) × (is_end s ≡ true)
ends_with None e = absurd (cc e)
ends_with (Some s) e = (s, refl, pick (is_end s) e) where
  pick : (b : Bool) → not b ≡ false → b ≡ true
  pick true e = refl
  pick false e = absurd (cc e)

-- a rank that hasn't ended has a step more
next_step : (steps : List Step) (seat : Seat) → not (unwrap_or (option_map is_end (last_step steps)) false) ≡ false → SeatInOrder steps seat → seat.ended ≡ false → (s : Step) × (slice_get steps seat.number ≡ Some s)
next_step steps seat ends order goes = pick order where
  last : (s : Step) × (last_step steps ≡ Some s) × (is_end s ≡ true)
  last = ends_with (last_step steps) ends

  some : length steps - 1 < length steps
  some = slice_get_within steps (length steps - 1) last.0 last.1

  there : (n : ℕ) → n < length steps → (s : Step) × (slice_get steps n ≡ Some s)
  there n lt = (get_or steps n step.End, slice_get-get_or steps n step.End lt)

  before : (n : ℕ) → n - 1 < length steps → (n < length steps) ⊎ (n - 1 ≡ length steps - 1)
  before n lt = either n (length steps) lt where
    either : (n k : ℕ) → n - 1 < k → (n < k) ⊎ (n - 1 ≡ k - 1)
    either n k lt = cases (below_or_not n k) where
      cases : (n < k) ⊎ (k ≤ n) → (n < k) ⊎ (n - 1 ≡ k - 1)
      cases (inl less) = inl less
      cases (inr le) = inr (omega (arith, le, lt))

  pick : SeatInOrder steps seat → (s : Step) × (slice_get steps seat.number ≡ Some s)
  pick (inl new) = there seat.number (omega (arith, new.0, some))
  pick (inr taken) = at_end (before seat.number (slice_get_within steps (seat.number - 1) taken.1.0 taken.1.1)) where
    at_end : (seat.number < length steps) ⊎ (seat.number - 1 ≡ length steps - 1) → (s : Step) × (slice_get steps seat.number ≡ Some s)
    at_end (inl lt) = there seat.number lt
    at_end (inr same) =
        let one : taken.1.0 ≡ last.0 = some_same taken.1.0 last.0 (sym taken.1.1 ∙ ap (λ (n : ℕ). slice_get steps n) same ∙ last.1) in
        absurd (cc (taken.1.2, goes, ap is_end one, last.2))

-- ## Where the run serves

-- a rank that doesn't wait, or a complete round
one_or_all : (seats : List Seat) → ((rank : ℕ) × (seat : Seat) × (slice_get seats rank ≡ Some seat) × (is_missing seat ≡ true)) ⊎ (is_complete seats ≡ true)
one_or_all [] = inr refl
one_or_all (seat ∷ seats) = pick (is_missing seat) refl (one_or_all seats) where
  called : (o : Option Step) → is_none o ≡ false → is_some o ≡ true
  called None e = absurd (cc e)
  called (Some s) e = refl

  pick : (b : Bool) → is_missing seat ≡ b → ((rank : ℕ) × (x : Seat) × (slice_get seats rank ≡ Some x) × (is_missing x ≡ true)) ⊎ (is_complete seats ≡ true)
      → ((rank : ℕ) × (x : Seat) × (slice_get (seat ∷ seats) rank ≡ Some x) × (is_missing x ≡ true)) ⊎ (is_complete (seat ∷ seats) ≡ true)
  pick true is rest = inl (0, seat, refl, is)
  pick false is (inl one) = inl (suc one.0, one.1, one.2, one.3)
  pick false is (inr all) = inr (both (has_called seat) (is_complete seats) (called (call_at seat) is) all)

-- in a complete round nobody is missing
none_missing : (seats : List Seat) → is_complete seats ≡ true → position is_missing seats ≡ None
none_missing seats all = pick (position is_missing seats) refl where
  pick : (o : Option ℕ) → position is_missing seats ≡ o → position is_missing seats ≡ None
  pick None e = e
  pick (Some rank) e = absurd (cc (all, one_missing seats rank e))

-- and rank 0 waits with its call
first_waits : (seats : List Seat) → 1 ≤ length seats → is_complete seats ≡ true → (seat : Seat) × (call : Step) × (slice_get seats 0 ≡ Some seat) × (call_in seat.doing ≡ Some call)
first_waits [] many all = absurd (omega (arith, many))
first_waits (seat ∷ seats) many all = pick (call_in seat.doing) refl all where
  pick : (o : Option Step) → call_in seat.doing ≡ o → is_some o && is_complete seats ≡ true → (x : Seat) × (call : Step) × (slice_get (seat ∷ seats) 0 ≡ Some x) × (call_in x.doing ≡ Some call)
  pick None e all = absurd (cc all)
  pick (Some call) e all = (seat, call, refl, e)

module _ (c : RunState) (programs : List (List Step)) (at : c.stage ≡ stage.Serving) where
  rank_goes : (rank : ℕ) (seat : Seat) → slice_get c.ranks rank ≡ Some seat → seat_turn c programs rank seat seat.doing ≡ Moved → GoesOn c programs
  rank_goes rank seat is moves = record {
    who = actor.Rank rank;
    one = slice_get_within c.ranks rank seat is;
    moves = ap (λ (s : RunStage). rank_turn s c programs rank) at ∙ ap (λ (o : Option Seat). serving_turn c programs rank o) is ∙ moves;
  }

  -- one that doesn't wait takes its reply or its next step
  one_goes : (rank : ℕ) (seat : Seat) → slice_get c.ranks rank ≡ Some seat → is_missing seat ≡ true → takes_steps programs rank ≡ false → SeatInOrder (program_of programs rank) seat → GoesOn c programs
  one_goes rank seat is missing ends order = rank_goes rank seat is (pick seat.doing missing) where
    next : (b : Bool) → seat.ended ≡ b → free_turn b (slice_get (program_of programs rank) seat.number) ≡ Moved
    next true e = refl
    next false e = ap (λ (o : Option Step). free_turn false o) (next_step (program_of programs rank) seat ends order e).1

    pick : (d : Doing) → is_none (call_in d) ≡ true → seat_turn c programs rank seat d ≡ Moved
    pick doing.Free e = next seat.ended refl
    pick (doing.Owed reply) e = refl
    pick (doing.Waits s) e = absurd (cc e)

  module _ (many : 1 ≤ length c.ranks) (all : is_complete c.ranks ≡ true) (told : wants_reading c ≡ false) (flushed : due_in c ≡ None) where
    -- the turn of rank 0 decides the round
    round_goes : (call : Step) → first_call c.ranks ≡ Some call → round_turn c None ≡ Moved → GoesOn c programs
    round_goes call first moves =
        let f = first_waits c.ranks many all in
        rank_goes 0 f.0 f.2 (waits f.0 f.0.doing f.1 f.3 ∙ ap (λ (o : Option ℕ). round_turn c o) (none_missing c.ranks all) ∙ moves) where
          waits : (seat : Seat) (d : Doing) (s : Step) → call_in d ≡ Some s → seat_turn c programs 0 seat d ≡ round_turn c (position is_missing c.ranks)
          waits seat doing.Free s e = absurd (cc e)
          waits seat (doing.Owed reply) s e = absurd (cc e)
          waits seat (doing.Waits x) s e = refl

    -- a dataset that a clear round completes is saved or removed, and then the round is decided
    completes_goes : (valid : Bool) → first_call c.ranks ≡ Some (step.Complete valid) → verdict_of c (step.Complete valid) ≡ None → GoesOn c programs
    completes_goes valid first clear = open_or_not c.opened refl where
      moves : c.opened ≡ None → round_turn c None ≡ Moved
      moves none =
          ap (λ (o : Option Step). if Rattle.site_state.specs.Waiting.is_refused_round c o then Moved else clear_turn c o) first
          ∙ ap (λ (v : Option Refusal). if is_some v then Moved else complete_turn c c.opened) clear
          ∙ ap (λ (o : Option Manifest). complete_turn c o) none

      work : (m : Manifest) → c.opened ≡ Some m → (b : Bool) → list_all seat_is_valid c.ranks ≡ b → GoesOn c programs
      work m opened true valid_all = record {
        who = actor.Encoder;
        one = tt;
        moves = ap (λ (s : RunStage). encoder_turn s c) at ∙ ap (λ (b : Bool). if b then Moved else NotYet why.Idle) (sym (asks_save c m opened (record { complete = all; valid = valid; first = first; clear = clear; all = valid_all })));
      }
      work m opened false some = record {
        who = actor.Evictor;
        one = tt;
        moves = ap (λ (s : RunStage). evictor_turn s c) at ∙ ap (λ (b : Bool). if b then Moved else NotYet why.Idle) (sym (asks_drop c m.desc.which (record { set = m; opened = opened; which_is = refl; complete = all; valid = valid; first = first; clear = clear; some = some })));
      }

      open_or_not : (o : Option Manifest) → c.opened ≡ o → GoesOn c programs
      open_or_not None e = round_goes (step.Complete valid) first (moves e)
      open_or_not (Some m) e = work m e (list_all seat_is_valid c.ranks) refl

    -- any other round is decided at once
    others_go : (call : Step) → first_call c.ranks ≡ Some call → clear_turn c (Some call) ≡ Moved → GoesOn c programs
    others_go call first moves = round_goes call first (ap (λ (o : Option Step). if Rattle.site_state.specs.Waiting.is_refused_round c o then Moved else clear_turn c o) first ∙ pick (is_some (verdict_of c call))) where
      pick : (b : Bool) → (if b then Moved else clear_turn c (Some call)) ≡ Moved
      pick true = refl
      pick false = moves

    refused_goes : (call : Step) (r : Refusal) → first_call c.ranks ≡ Some call → verdict_of c call ≡ Some r → GoesOn c programs
    refused_goes call r first v = round_goes call first (ap (λ (o : Option Step). if Rattle.site_state.specs.Waiting.is_refused_round c o then Moved else clear_turn c o) first ∙ ap (λ (o : Option Refusal). if is_some o then Moved else clear_turn c (Some call)) v)

    -- a round that asks for the time has been told it, and one that ends the job's use has nothing to wait for
    told_goes : (call : Step) → first_call c.ranks ≡ Some call → asks_time call ≡ true → (clear_turn c (Some call) ≡ clock_turn c.reading) → GoesOn c programs
    told_goes call first asks waits = judged (verdict_of c call) refl c.reading refl where
      judged : (v : Option Refusal) → verdict_of c call ≡ v → (o : Option ℕ) → c.reading ≡ o → GoesOn c programs
      judged (Some r) is o e = refused_goes call r first is
      judged None is (Some now) e = others_go call first (waits ∙ ap clock_turn e)
      judged None is None e = absurd (cc (told, sym (asks_now c call at all e first asks) ∙ sym (judged_alone c call asks) ∙ ap (λ (v : Option Refusal). is_none v) is))

    all_go : (call : Step) → first_call c.ranks ≡ Some call → GoesOn c programs
    all_go (step.Complete valid) first = judged (verdict_of c (step.Complete valid)) refl where
      judged : (v : Option Refusal) → verdict_of c (step.Complete valid) ≡ v → GoesOn c programs
      judged None clear = completes_goes valid first clear
      judged (Some r) v = refused_goes (step.Complete valid) r first v
    all_go step.Need first = told_goes step.Need first refl refl
    all_go (step.Start name flags) first = others_go (step.Start name flags) first refl
    all_go (step.Route name) first = others_go (step.Route name) first refl
    all_go (step.Write name at content) first = others_go (step.Write name at content) first refl
    all_go step.Have first = others_go step.Have first refl
    all_go step.Restart first = others_go step.Restart first refl
    all_go (step.Read name at len) first = others_go (step.Read name at len) first refl
    all_go (step.Restarted valid) first = others_go (step.Restarted valid) first refl
    all_go step.Exit first = told_goes step.Exit first refl refl
    all_go step.Finalize first = others_go step.Finalize first (ap flush_turn flushed)
    all_go step.End first = others_go step.End first refl

  serving_goes : 1 ≤ length c.ranks → wants_reading c ≡ false → due_in c ≡ None → HasEnds (length c.ranks) programs → IsInOrder programs c.ranks → GoesOn c programs
  serving_goes many told flushed ends order = pick (one_or_all c.ranks) where
    pick : ((rank : ℕ) × (seat : Seat) × (slice_get c.ranks rank ≡ Some seat) × (is_missing seat ≡ true)) ⊎ (is_complete c.ranks ≡ true) → GoesOn c programs
    pick (inl one) = one_goes one.0 one.1 one.2 one.3 (ends one.0 (slice_get_within c.ranks one.0 one.1 one.2)) (order one.0 one.1 one.2)
    pick (inr all) =
        let f = first_waits c.ranks many all in
        all_go many all told flushed f.1 (ap (λ (o : Option Seat). option_and_then call_at o) f.2 ∙ f.3)

-- ## At each stage

pub goes_on : (c : RunState) (programs : List (List Step)) → 1 ≤ length c.ranks → is_over c.stage ≡ false → wants_reading c ≡ false → due_in c ≡ None → HasEnds (length c.ranks) programs → IsInOrder programs c.ranks → GoesOn c programs
goes_on c programs many on told flushed ends order = pick c.stage refl on where
  recovers : (s : RunStage) → c.stage ≡ s → recoverer_turn s ≡ Moved → GoesOn c programs
  recovers s at moves = record { who = actor.Recoverer; one = tt; moves = ap recoverer_turn at ∙ moves }

  pick : (s : RunStage) → c.stage ≡ s → is_over s ≡ false → GoesOn c programs
  pick stage.Begun at on = recovers stage.Begun at refl
  pick stage.Storing at on = recovers stage.Storing at refl
  pick stage.Looking at on = recovers stage.Looking at refl
  pick stage.Mending at on = recovers stage.Mending at refl
  pick stage.Serving at on = serving_goes c programs at many told flushed ends order
  pick (stage.Saving work node) at on = record { who = actor.Encoder; one = tt; moves = ap (λ (s : RunStage). encoder_turn s c) at }
  pick (stage.Dropping drop node) at on = record { who = actor.Evictor; one = tt; moves = ap (λ (s : RunStage). evictor_turn s c) at }
  pick stage.Dropped at on = record { who = actor.Rank 0; one = omega (arith, many); moves = ap (λ (s : RunStage). rank_turn s c programs 0) at }
  pick stage.Over at on = absurd (cc on)
