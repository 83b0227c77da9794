-- What each change of a rank does to what is ahead of the ranks.
use Rattle.std.proofs.Common.{◌≡◌, ℕ, zero, suc, ◌+◌, ◌-◌, ◌*◌, ◌<◌, ◌≤◌, Bool, true, false, ◌||◌, List, [], ◌∷◌, length, map, Some, None, refl, sym, ap, ◌∙◌, subst, slice_get, arith}
use Rattle.std.specs.Prelude.{slice_set, not, nat_lt, position, if◌then◌else◌}
use Rattle.std.specs.List.{position_or_len, cons_option}
use Rattle.std.proofs.lemmas.Bool.Decides.{nat_tests}
use Rattle.scr_base.specs.Calls.{is_end, same_call}
use Rattle.scr_base.specs.declared.answers.Reply.{Reply}
use Rattle.scr_base.specs.declared.content.Step.{Step}
use Rattle.scr_base.specs.declared.content.Step.TheVariants as step
use Rattle.round_core.specs.declared.seat.Doing.{Doing}
use Rattle.round_core.specs.declared.seat.Doing.TheVariants as doing
use Rattle.round_core.specs.declared.seat.Seat.{Seat}
use Rattle.round_core.specs.Seats.{is_free, call_in, calls_of, first_call, next_number, called, owed, freed, stepped}
use Rattle.site_state.specs.Asking.{program_of}
use Rattle.site_state.specs.Ahead.{doing_ahead, seat_ahead, seats_ahead, calls_in, some_calls}
use Rattle.site_state.proofs.Serving.{some_same}

-- ## Numbers

swapped : (a b rest : ℕ) → (a + rest) + b ≡ (b + rest) + a
swapped a b rest = omega arith

past : (h more rest a b : ℕ) → more + b ≡ rest + a → (h + more) + b ≡ (h + rest) + a
past h more rest a b e = omega (arith, e)

-- a step less
lowered : (call n k : ℕ) → k < n → (call + 1) * (n - (k + 1)) + (call + 1) ≤ (call + 1) * (n - k)
lowered call n k lt =
    let e : n - k ≡ n - (k + 1) + 1 = omega (arith, lt) in
    let m : (call + 1) * (n - k) ≡ (call + 1) * (n - (k + 1) + 1) = ap (λ (x : ℕ). (call + 1) * x) e in
    omega (arith, m)

-- ## One rank

module _ (call n : ℕ) where
  calls_at : (number : ℕ) (ended : Bool) (d : Doing) (s : Step) → is_free d ≡ true → (ended ≡ true → is_end s ≡ true) → (if ended then number else number + 1) - 1 < n
      → seat_ahead call n (called s (record { number = number; ended = ended; doing = d })) < seat_ahead call n (record { number = number; ended = ended; doing = d })
  calls_at number ended (doing.Waits step) s free again small = absurd (cc free)
  calls_at number ended (doing.Owed reply) s free again small = absurd (cc free)
  calls_at number true doing.Free s free again small = pick (is_end s) (again refl) where
    pick : (b : Bool) → b ≡ true → (call + 1) * (n - number) + (if b then 0 else call) < (call + 1) * (n - number) + 1
    pick true e = omega arith
    pick false e = absurd (cc e)
  calls_at number false doing.Free s free again small = pick (is_end s) (lowered call n number (omega (arith, small))) where
    pick : (b : Bool) → (call + 1) * (n - (number + 1)) + (call + 1) ≤ (call + 1) * (n - number) → (call + 1) * (n - (number + 1)) + (if b then 0 else call) < (call + 1) * (n - number) + 0
    pick true le = omega (arith, le)
    pick false le = omega (arith, le)

  -- a rank calls
  pub called_lower : (seat : Seat) (s : Step) → is_free seat.doing ≡ true → (seat.ended ≡ true → is_end s ≡ true) → next_number seat - 1 < n → seat_ahead call n (called s seat) < seat_ahead call n seat
  called_lower seat s free again small = calls_at seat.number seat.ended seat.doing s free again small

  -- a rank takes its reply
  pub freed_lower : (seat : Seat) (a : Reply) → seat.doing ≡ doing.Owed a → seat_ahead call n (freed seat) < seat_ahead call n seat
  freed_lower seat a owes = subst (λ (d : Doing). seat_ahead call n (freed seat) < (call + 1) * (n - seat.number) + doing_ahead call seat.ended d) (sym owes) (pick seat.ended ((call + 1) * (n - seat.number))) where
    pick : (ended : Bool) (k : ℕ) → k + doing_ahead call ended doing.Free < k + doing_ahead call ended (doing.Owed a)
    pick true k = omega arith
    pick false k = omega arith

  -- a rank takes a step of its own
  pub stepped_lower : (seat : Seat) → seat.number < n → seat_ahead call n (stepped seat) + (call + 1) ≤ seat_ahead call n seat
  stepped_lower seat lt = add (lowered call n seat.number lt) where
    add : (call + 1) * (n - (seat.number + 1)) + (call + 1) ≤ (call + 1) * (n - seat.number) → ((call + 1) * (n - (seat.number + 1)) + doing_ahead call seat.ended seat.doing) + (call + 1) ≤ (call + 1) * (n - seat.number) + doing_ahead call seat.ended seat.doing
    add le = more ((call + 1) * (n - (seat.number + 1))) ((call + 1) * (n - seat.number)) (doing_ahead call seat.ended seat.doing) le where
      more : (a b d : ℕ) → a + (call + 1) ≤ b → (a + d) + (call + 1) ≤ b + d
      more a b d le = omega (arith, le)

  owed_two : (ended : Bool) (a : Reply) → doing_ahead call ended (doing.Owed a) ≤ 2
  owed_two true a = omega arith
  owed_two false a = omega arith

  -- a reply that is due costs two turns at most
  pub owed_most : (seat : Seat) (a : Reply) → seat_ahead call n (owed a seat) ≤ seat_ahead call n seat + 2
  owed_most seat a = add ((call + 1) * (n - seat.number)) (doing_ahead call seat.ended (doing.Owed a)) (doing_ahead call seat.ended seat.doing) (owed_two seat.ended a) where
    add : (k x y : ℕ) → x ≤ 2 → k + x ≤ k + y + 2
    add k x y le = omega (arith, le)

  -- and a call that is answered is no more ahead
  pub owed_call : (seat : Seat) (a : Reply) → calls_in seat.doing ≡ true → seat_ahead call n (owed a seat) + call ≤ seat_ahead call n seat + 2
  owed_call seat a calls = add ((call + 1) * (n - seat.number)) (doing_ahead call seat.ended (doing.Owed a)) (doing_ahead call seat.ended seat.doing) (owed_two seat.ended a) (whole seat.ended seat.doing calls) where
    add : (k x y : ℕ) → x ≤ 2 → y ≡ call → (k + x) + call ≤ k + y + 2
    add k x y le is = omega (arith, le, is)

    whole : (ended : Bool) (d : Doing) → calls_in d ≡ true → doing_ahead call ended d ≡ call
    whole ended doing.Free e = absurd (cc e)
    whole ended (doing.Owed reply) e = absurd (cc e)
    whole ended (doing.Waits step) e = pick (is_end step) e where
      pick : (b : Bool) → not b ≡ true → (if b then 0 else call) ≡ call
      pick true e = absurd (cc e)
      pick false e = refl

-- ## All ranks

module _ (call : ℕ) (programs : List (List Step)) where
  steps_of : ℕ → ℕ
  steps_of rank = length (program_of programs rank)

  -- one of them is changed
  changed : (r : ℕ) (seats : List Seat) (k i : ℕ) (old new : Seat) → i ≡ r + k → slice_get seats k ≡ Some old
      → seats_ahead call programs r (slice_set seats k new) + seat_ahead call (length (program_of programs i)) old ≡ seats_ahead call programs r seats + seat_ahead call (length (program_of programs i)) new
  changed r [] k i old new is at = absurd (cc at)
  changed r (s ∷ seats) zero i old new is at =
      let here : i ≡ r = omega (arith, is) in
      subst (λ (x : ℕ). seats_ahead call programs r (new ∷ seats) + seat_ahead call (length (program_of programs x)) old ≡ seats_ahead call programs r (s ∷ seats) + seat_ahead call (length (program_of programs x)) new) (sym here)
      (subst (λ (x : Seat). seats_ahead call programs r (new ∷ seats) + seat_ahead call (length (program_of programs r)) old ≡ seats_ahead call programs r (x ∷ seats) + seat_ahead call (length (program_of programs r)) new) (sym (some_same s old at))
      (swapped (seat_ahead call (length (program_of programs r)) new) (seat_ahead call (length (program_of programs r)) old) (seats_ahead call programs (r + 1) seats)))
  changed r (s ∷ seats) (suc k) i old new is at =
      past (seat_ahead call (length (program_of programs r)) s) (seats_ahead call programs (r + 1) (slice_set seats k new)) (seats_ahead call programs (r + 1) seats) (seat_ahead call (length (program_of programs i)) new) (seat_ahead call (length (program_of programs i)) old)
      (changed (r + 1) seats k i old new (omega (arith, is)) at)

  -- where it has less ahead, all have
  pub one_lower : (seats : List Seat) (rank : ℕ) (old new : Seat) (by : ℕ) → slice_get seats rank ≡ Some old → seat_ahead call (length (program_of programs rank)) new + by ≤ seat_ahead call (length (program_of programs rank)) old
      → seats_ahead call programs 0 (slice_set seats rank new) + by ≤ seats_ahead call programs 0 seats
  one_lower seats rank old new by at le =
      less (seats_ahead call programs 0 (slice_set seats rank new)) (seats_ahead call programs 0 seats) (seat_ahead call (length (program_of programs rank)) new) (seat_ahead call (length (program_of programs rank)) old) (changed 0 seats rank rank old new (omega arith) at) le where
        less : (x y a b : ℕ) → x + b ≡ y + a → a + by ≤ b → x + by ≤ y
        less x y a b e le = omega (arith, e, le)

  -- a round is decided: two turns a rank at most
  owed_all : (r : ℕ) (seats : List Seat) (a : Reply) → seats_ahead call programs r (map (owed a) seats) ≤ seats_ahead call programs r seats + 2 * length seats
  owed_all r [] a = omega arith
  owed_all r (s ∷ seats) a =
      add (seat_ahead call (length (program_of programs r)) (owed a s)) (seat_ahead call (length (program_of programs r)) s) (seats_ahead call programs (r + 1) (map (owed a) seats)) (seats_ahead call programs (r + 1) seats) (length seats)
      (owed_most call (length (program_of programs r)) s a) (owed_all (r + 1) seats a) where
        add : (x y u v n : ℕ) → x ≤ y + 2 → u ≤ v + 2 * n → x + u ≤ y + v + 2 * suc n
        add x y u v n p q = omega (arith, p, q)

  pub owed_any : (seats : List Seat) (a : Reply) → seats_ahead call programs 0 (map (owed a) seats) ≤ seats_ahead call programs 0 seats + 2 * length seats
  owed_any seats a = owed_all 0 seats a

  answered : (r : ℕ) (seats : List Seat) (a : Reply) → some_calls seats ≡ true → seats_ahead call programs r (map (owed a) seats) + call ≤ seats_ahead call programs r seats + 2 * length seats
  answered r [] a calls = absurd (cc calls)
  answered r (s ∷ seats) a calls = pick (calls_in s.doing) refl calls (λ e. answered (r + 1) seats a e) where
    pick : (b : Bool) → calls_in s.doing ≡ b → (b || some_calls seats) ≡ true → (some_calls seats ≡ true → seats_ahead call programs (r + 1) (map (owed a) seats) + call ≤ seats_ahead call programs (r + 1) seats + 2 * length seats) → seats_ahead call programs r (map (owed a) (s ∷ seats)) + call ≤ seats_ahead call programs r (s ∷ seats) + 2 * length (s ∷ seats)
    pick true is e more =
        add (seat_ahead call (length (program_of programs r)) (owed a s)) (seat_ahead call (length (program_of programs r)) s) (seats_ahead call programs (r + 1) (map (owed a) seats)) (seats_ahead call programs (r + 1) seats) (length seats)
        (owed_call call (length (program_of programs r)) s a is) (owed_all (r + 1) seats a) where
          add : (x y u v n : ℕ) → x + call ≤ y + 2 → u ≤ v + 2 * n → (x + u) + call ≤ (y + v) + 2 * suc n
          add x y u v n p q = omega (arith, p, q)
    pick false is e more =
        add (seat_ahead call (length (program_of programs r)) (owed a s)) (seat_ahead call (length (program_of programs r)) s) (seats_ahead call programs (r + 1) (map (owed a) seats)) (seats_ahead call programs (r + 1) seats) (length seats)
        (owed_most call (length (program_of programs r)) s a) (more e) where
          add : (x y u v n : ℕ) → x ≤ y + 2 → u + call ≤ v + 2 * n → (x + u) + call ≤ (y + v) + 2 * suc n
          add x y u v n p q = omega (arith, p, q)

  -- where one of them calls, its call is no more ahead
  pub owed_calls : (seats : List Seat) (a : Reply) → some_calls seats ≡ true → seats_ahead call programs 0 (map (owed a) seats) + call ≤ seats_ahead call programs 0 seats + 2 * length seats
  owed_calls seats a calls = answered 0 seats a calls

-- ## Rounds

-- a round that begins with another call than an End
pub first_calls : (seats : List Seat) (s : Step) → first_call seats ≡ Some s → is_end s ≡ false → some_calls seats ≡ true
first_calls [] s e is = absurd (cc e)
first_calls (seat ∷ seats) s e is = ap (λ (b : Bool). b || some_calls seats) (pick seat.doing e) where
  pick : (d : Doing) → call_in d ≡ Some s → calls_in d ≡ true
  pick doing.Free e = absurd (cc e)
  pick (doing.Owed reply) e = absurd (cc e)
  pick (doing.Waits step) e = ap (λ (x : Step). not (is_end x)) (some_same step s e) ∙ ap not is

same_end : (s : Step) → is_end s ≡ true → same_call step.End s ≡ true
same_end step.End e = refl
same_end _ e = absurd (cc e)

-- one of Ends alone has no call that differs
ends_alone : (seats : List Seat) → some_calls seats ≡ false → position_or_len (λ s. not (same_call step.End s)) (calls_of seats) ≡ length (calls_of seats)
ends_alone [] none = refl
ends_alone (seat ∷ seats) none = pick seat.doing none (λ e. ends_alone seats e) where
  pick : (d : Doing) → (calls_in d || some_calls seats) ≡ false → (some_calls seats ≡ false → position_or_len (λ s. not (same_call step.End s)) (calls_of seats) ≡ length (calls_of seats))
      → position_or_len (λ s. not (same_call step.End s)) (cons_option (call_in d) (calls_of seats)) ≡ length (cons_option (call_in d) (calls_of seats))
  pick doing.Free e more = more e
  pick (doing.Owed reply) e more = more e
  pick (doing.Waits s) e more = one (is_end s) refl e where
    one : (b : Bool) → is_end s ≡ b → (not b || some_calls seats) ≡ false → (if not (not (same_call step.End s)) then 1 + position_or_len (λ x. not (same_call step.End x)) (calls_of seats) else 0) ≡ suc (length (calls_of seats))
    one true is e = ap (λ (b : Bool). if not (not b) then 1 + position_or_len (λ x. not (same_call step.End x)) (calls_of seats) else 0) (same_end s is) ∙ (let h : 1 + position_or_len (λ x. not (same_call step.End x)) (calls_of seats) ≡ suc (length (calls_of seats)) = omega (arith, more e) in h)
    one false is e = absurd (cc e)

-- so a round with a call that differs from an End has another call
pub differs_calls : (seats : List Seat) (k : ℕ) → position (λ s. not (same_call step.End s)) (calls_of seats) ≡ Some k → some_calls seats ≡ true
differs_calls seats k at = pick (some_calls seats) refl where
  no_place : (i n : ℕ) (b : Bool) → nat_lt i n ≡ b → i ≡ n → (if b then Some i else None) ≡ Some k → true ≡ false
  no_place i n true is same e = absurd (let lt : i < n = grind (arith, nat_tests, is) in omega (arith, lt, same))
  no_place i n false is same e = absurd (cc e)

  pick : (b : Bool) → some_calls seats ≡ b → some_calls seats ≡ true
  pick true is = is
  pick false is = is ∙ sym (no_place (position_or_len (λ s. not (same_call step.End s)) (calls_of seats)) (length (calls_of seats)) (nat_lt (position_or_len (λ s. not (same_call step.End s)) (calls_of seats)) (length (calls_of seats))) refl (ends_alone seats is) at)
