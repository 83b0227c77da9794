-- One change on the way of a pair, made or refused.
use Rattle.std.proofs.Common.{◌≡◌, ◌≢◌, inr, ◌<◌, ◌≤◌, ◌+◌, ◌-◌, ◌^◌, ℕ, zero, suc, Bool, true, false, List, [], ◌∷◌, length, set, drop, Option, None, Some, refl, sym, ◌∙◌, ap, subst, arith}
use Rattle.std.specs.Prelude.{All, IsSomeAnd, Result, Ok, Err, OnOk}
use Rattle.std.proofs.lemmas.List.{drop_at, get_or-set_same}
use Rattle.std.proofs.lemmas.Bool.{eq-eqb}
use Rattle.std.proofs.lemmas.List.Elements.{All-cons, All-tail}
use Rattle.std.proofs.lemmas.Result.{on_ok_weaker}
use Rattle.scr_base.specs.declared.change.Change.{Change}
use Rattle.scr_base.specs.declared.change.Change.TheVariants.{Open, Close, Write, Sync}
use Rattle.node_device.specs.File.{File, MayLeave, IsAtRest, bytes_of, byte_at}
use Rattle.node_device.specs.DeviceState.{DeviceState, IsSound, ChangesOnly}
use Rattle.node_device.specs.Calls.{Syncs}
use Rattle.node_device.specs.Outcomes.{rest_leaves, told_longer}
use Rattle.node_device.specs.declared.device.DevError.{DevError}
use Rattle.gated_record.specs.Record.{IsOpen, HasBody, is_open, open_gate_byte}
use Rattle.gated_record.specs.Calls.{WritesBody, TurnsGate}
use Rattle.gated_record.specs.Changes.{Makes}
use Rattle.gated_record.specs.Pair.{value_in, copy_name, pair_body, copy_of}
use Rattle.gated_record.specs.PairStages.{PairLeaves, IsOldOrWanted, HasGate, HasGates, Phase, Closing, Filling, Filled, Ready, Opened, Standing, Closed, Over, PhaseHolds, IsOnWay, changes_at, ending, value_by, IsBelow, OtherStands, ClosingHolds, FillingHolds, FilledHolds, ReadyHolds, OpenedHolds, StandingHolds}
use Rattle.gated_record.specs.declared.pair.PairValue.{PairValue}
use Rattle.gated_record.proofs.Records.{body-set, gate_keeps_body}
use Rattle.gated_record.proofs.Copies.{open_is, closed_value, newer_none}
use Rattle.gated_record.proofs.PairWay.{Synced, other_kept, rest_is_shut, shut_kept, first_is_open, gates_left, body_value, below_either, shut_either, body_either, standing_either, leaves_by_copies}

both_ok : {T : Type 0} (A B X : Type 0) (r : Result T DevError) → OnOk r A → (X → OnOk r B) → OnOk r (A × (X → B))
both_ok A B X (Ok x) a b = (a, b)
both_ok A B X (Err x) a b = tt

told_ok : {T : Type 0} (A X : Type 0) (r : Result T DevError) → (X → OnOk r A) → OnOk r (X → A)
told_ok A X (Ok x) a = a
told_ok A X (Err x) a = tt

All-head : {X : Type 0} (P : X → Type 0) (x : X) (xs : List X) → All P (x ∷ xs) → P x
All-head P x xs all = all 0 x (omega arith)

-- the names of two copies differ
pub names_differ : (stem : List ℕ) (copy : ℕ) → copy < 2 → copy_name stem copy ≢ copy_name stem (1 - copy)
names_differ stem copy lt same =
    let ends : 46 ∷ (48 + copy) ∷ [] ≡ 46 ∷ (48 + (1 - copy)) ∷ [] = sym (drop_at stem (46 ∷ (48 + copy) ∷ []) (length stem) refl) ∙ ap (λ (l : List ℕ). drop (length stem) l) same ∙ drop_at stem (46 ∷ (48 + (1 - copy)) ∷ []) (length stem) refl in
    let last : 48 + copy ≡ 48 + (1 - copy) = cc ends in
    absurd (omega (arith, last, lt))

-- what is known on the way, whatever the phase
module _ {T : Type 0} (stem : List ℕ) (copy : ℕ) (old : Option PairValue) (want : PairValue) (d e : DeviceState) (result : Result T DevError)
    (below : copy < 2) (copy_is : copy ≡ copy_of want) (above : 1 ≤ want.version) (fits : want.version < 2 ^ 32) (sound : IsSound d) where
  abbrev f : File
  f = d.file (copy_name stem copy)

  abbrev g : File
  g = d.file (copy_name stem (1 - copy))

  abbrev f' : File
  f' = e.file (copy_name stem copy)

  abbrev g' : File
  g' = e.file (copy_name stem (1 - copy))

  abbrev Safe : Type 0
  Safe = e.tells ≡ true → PairLeaves stem e (IsOldOrWanted old want)

  abbrev On : List Change → Type 0
  On later = Safe × OnOk result (IsOnWay stem copy old want e later)

  safe : (e.tells ≡ true → (o p : Option (List ℕ)) → MayLeave f' o → MayLeave g' p → IsOldOrWanted old want (value_by copy (value_in copy o) (value_in (1 - copy) p))) → Safe
  safe each = λ tells. leaves_by_copies stem copy e (IsOldOrWanted old want) below (each tells)

  synced : (name : List ℕ) → Syncs result d e → Synced (d.file name) (e.file name)
  synced name syncs = record { now = (syncs.alike.files name).now; len = (syncs.alike.files name).len; outcomes = (syncs.partly name).outcomes }

  has_gate : (h k : File) (gate : ℕ) → k.len ≡ h.len → HasGate h gate → HasGate k gate
  has_gate h k gate same has = (has.0, subst (λ (l : Option ℕ). IsSomeAnd l (λ len. gate < len)) (sym same) has.1)

  syncs_to : (phase : Phase) (gate : Bool) → Syncs result d e → HasGates phase gate f' g' → (e.tells ≡ true → IsAtRest f' → IsAtRest g' → PhaseHolds phase copy old want gate f' g') → OnOk result (IsOnWay stem copy old want e (changes_at (copy_name stem copy) (copy_name stem (1 - copy)) gate phase))
  syncs_to phase gate syncs gates holds = on_ok_weaker result (λ rest. record { phase = phase; gate = gate; changes_are = refl; gates = gates; holds = λ tells. holds tells (rest (copy_name stem copy)) (rest (copy_name stem (1 - copy))) }) syncs.at_rest

  -- the last gate of the wanted value's copy was closed, or none was open
  pub first_sync : (gate : Bool) → Syncs result d e → HasGates (Closing []) gate f g → (d.tells ≡ true → ClosingHolds copy old gate [] f g)
      → On (changes_at (copy_name stem copy) (copy_name stem (1 - copy)) gate Filling)
  first_sync gate syncs gates holds =
      let sf = synced (copy_name stem copy) syncs in
      let sg = synced (copy_name stem (1 - copy)) syncs in
      let told = λ (tells : e.tells ≡ true). holds (sym syncs.alike.tells ∙ tells) in (
        safe (λ tells. below_either copy old want f' g' (λ o may. (told tells).below o (sf.outcomes o may)) (λ p may. (told tells).other.before p (sg.outcomes p may))),
        syncs_to Filling gate syncs (λ is. has_gate g g' 0 sg.len (gates.1 is)) (λ tells rest _. record {
          shut = rest_is_shut f f' sf rest (told tells).gates_are;
          other = other_kept copy old gate g g' sg (told tells).other;
        }),
      )

  -- a change of the wanted value's copy alone
  module _ (only : ChangesOnly (copy_name stem copy) d e) where
    other_is : g' ≡ g
    other_is = only.others (copy_name stem (1 - copy)) (λ same. names_differ stem copy below (sym same))

    same_other : (gate : Bool) → OtherStands copy old gate g → OtherStands copy old gate g'
    same_other gate other = subst (λ (h : File). OtherStands copy old gate h) (sym other_is) other

    same_gate : HasGate g 0 → HasGate g' 0
    same_gate has = subst (λ (h : File). HasGate h 0) (sym other_is) has

    told_before : e.tells ≡ true → d.tells ≡ true
    told_before tells = sym only.tells ∙ tells

  pub close_one : (gate : Bool) (k : ℕ) (gates : List ℕ) → TurnsGate (copy_name stem copy) k 0 result d e → HasGates (Closing (k ∷ gates)) gate f g → (d.tells ≡ true → ClosingHolds copy old gate (k ∷ gates) f g)
      → On (changes_at (copy_name stem copy) (copy_name stem (1 - copy)) gate (Closing gates))
  close_one gate k gates turns has holds =
      let first : HasGate f k = All-head (HasGate f) k gates has.0 in
      let there = λ (tells : d.tells ≡ true). told_longer f k (sound.lengths tells (copy_name stem copy)) first.1 in
      let less = λ (tells : d.tells ≡ true). closed_value copy k f f' (λ (v : Option PairValue). IsBelow v old) first.0 (there tells).0 (there tells).1 (sound.now_allowed (copy_name stem copy)) (first_is_open f k gates first.0 (holds tells).gates_are) turns.torn tt (holds tells).below in (
        safe (λ tells. below_either copy old want f' g' (less (told_before turns.only tells)) (same_other turns.only gate (holds (told_before turns.only tells)).other).before),
        on_ok_weaker result (λ done. record {
          phase = Closing gates;
          gate = gate;
          changes_are = refl;
          gates = (all_kept gates (All-tail (HasGate f) k gates has.0), λ is. same_gate turns.only (has.1 is));
          holds = λ tells. let before = told_before turns.only tells in record {
            below = less before;
            gates_are = gates_left f f' k gates first.0 (holds before).gates_are (done before);
            other = same_other turns.only gate (holds before).other;
          };
        }) (told_ok (f'.now ≡ Some (set (bytes_of f.now) k 0)) (d.tells ≡ true) result (turns.now first.1)),
      )
    where
      all_kept : (ks : List ℕ) → All (HasGate f) ks → All (HasGate f') ks
      all_kept [] all = λ i d lt. absurd (omega arith)
      all_kept (j ∷ ks) all = All-cons (HasGate f') j ks (has_gate f f' j (turns.len (All-head (HasGate f) k gates has.0).1) (All-head (HasGate f) j ks all)) (all_kept ks (All-tail (HasGate f) j ks all))

  -- the body is written
  pub fill : (gate : Bool) → WritesBody (copy_name stem copy) (pair_body want) result d e → HasGates Filling gate f g → (d.tells ≡ true → FillingHolds copy old gate f g)
      → On (changes_at (copy_name stem copy) (copy_name stem (1 - copy)) gate Filled)
  fill gate writes has holds = (
    safe (λ tells. let before = told_before writes.only tells in shut_either copy old want f' g' (writes.shut (holds before).shut) (same_other writes.only gate (holds before).other).before),
    on_ok_weaker result (λ done. record {
      phase = Filled;
      gate = gate;
      changes_are = refl;
      gates = ((omega arith, longer f'.len done.0), λ is. same_gate writes.only (has is));
      holds = λ tells. let before = told_before writes.only tells in record { shut = writes.shut (holds before).shut; body = done.1 before; other = same_other writes.only gate (holds before).other };
    }) (both_ok (IsSomeAnd f'.len (λ len. 16 + length (pair_body want) ≤ len)) (HasBody f'.now (pair_body want)) (d.tells ≡ true) result writes.len writes.whole),
  )
    where
      longer : (l : Option ℕ) → IsSomeAnd l (λ len. 16 + length (pair_body want) ≤ len) → IsSomeAnd l (λ len. 0 < len)
      longer None long = long
      longer (Some len) long = omega (arith, long)

  -- the body is made stable
  pub body_sync : (gate : Bool) → Syncs result d e → HasGates Filled gate f g → (d.tells ≡ true → FilledHolds copy old want gate f g)
      → On (changes_at (copy_name stem copy) (copy_name stem (1 - copy)) gate Ready)
  body_sync gate syncs has holds =
      let sf = synced (copy_name stem copy) syncs in
      let sg = synced (copy_name stem (1 - copy)) syncs in
      let told = λ (tells : e.tells ≡ true). holds (sym syncs.alike.tells ∙ tells) in
      let shut = λ (tells : e.tells ≡ true). shut_kept f f' sf (syncs.partly (copy_name stem copy)).touched (told tells).shut in (
        safe (λ tells. shut_either copy old want f' g' (shut tells) (λ p may. (told tells).other.before p (sg.outcomes p may))),
        syncs_to Ready gate syncs (has_gate f f' 0 sf.len has.0, λ is. has_gate g g' 0 sg.len (has.1 is)) (λ tells rest _. record {
          shut = shut tells;
          body = subst (λ (o : Option (List ℕ)). HasBody o (pair_body want)) (sym sf.now) (told tells).body;
          at_rest = rest;
          other = other_kept copy old gate g g' sg (told tells).other;
        }),
      )

  -- the gate is opened
  pub turn : (gate : Bool) → TurnsGate (copy_name stem copy) 0 open_gate_byte result d e → HasGates Ready gate f g → (d.tells ≡ true → ReadyHolds copy old want gate f g)
      → On (changes_at (copy_name stem copy) (copy_name stem (1 - copy)) gate Opened)
  turn gate turns has holds =
      let there = λ (tells : d.tells ≡ true). told_longer f 0 (sound.lengths tells (copy_name stem copy)) has.0.1 in
      let keeps = λ (tells : d.tells ≡ true). gate_keeps_body 0 f f' (pair_body want) (omega arith) (holds tells).at_rest turns.torn (holds tells).body in
      let either = λ (tells : d.tells ≡ true). body_either copy old want f' g' above fits copy_is (keeps tells) (same_other turns.only gate (holds tells).other).before in (
        safe (λ tells. either (told_before turns.only tells)),
        on_ok_weaker result (λ done. record {
          phase = Opened;
          gate = gate;
          changes_are = refl;
          gates = λ is. same_gate turns.only (has.1 is);
          holds = λ tells. let before = told_before turns.only tells in record {
            either = either before;
            now = subst (λ (o : Option (List ℕ)). value_in copy o ≡ Some want) (sym (done before)) (subst (λ (c : ℕ). value_in c (Some (set (bytes_of f.now) 0 open_gate_byte)) ≡ Some want) (sym copy_is)
                (body_value want above fits (Some (set (bytes_of f.now) 0 open_gate_byte)) (body-set (bytes_of f.now) (pair_body want) 0 open_gate_byte (omega arith) (subst (λ (o : Option (List ℕ)). HasBody o (pair_body want)) (there before).0 (holds before).body)) (get_or-set_same (bytes_of f.now) 0 open_gate_byte 0 (there before).1)));
            found = (same_other turns.only gate (holds before).other).found;
          };
        }) (told_ok (f'.now ≡ Some (set (bytes_of f.now) 0 open_gate_byte)) (d.tells ≡ true) result (turns.now has.0.1)),
      )

  shut_found : (o : Option (List ℕ)) → false ≡ is_open o 0 → ¬ IsOpen o 0
  shut_found o found opens = absurd (let t : is_open o 0 ≡ true = eq-eqb (byte_at o 0) open_gate_byte opens in cc (t, found))

  -- the opened gate is made stable
  pub turn_sync : (gate : Bool) → Syncs result d e → HasGates Opened gate f g → (d.tells ≡ true → OpenedHolds copy old want gate f g) → On (ending (copy_name stem (1 - copy)) gate)
  turn_sync gate syncs has holds = (safe (λ tells o p left right. (told tells).either o p (sf.outcomes o left) (sg.outcomes p right)), by_gate gate refl)
    where
      sf : Synced f f'
      sf = synced (copy_name stem copy) syncs

      sg : Synced g g'
      sg = synced (copy_name stem (1 - copy)) syncs

      told : e.tells ≡ true → OpenedHolds copy old want gate f g
      told tells = holds (sym syncs.alike.tells ∙ tells)

      wanted : e.tells ≡ true → value_in copy f'.now ≡ Some want
      wanted tells = ap (λ (o : Option (List ℕ)). value_in copy o) sf.now ∙ (told tells).now

      stands : e.tells ≡ true → IsAtRest f' → StandingHolds copy old want f' g'
      stands tells rest = record {
        stands = λ o may. ap (λ (x : Option (List ℕ)). value_in copy x) (rest_leaves f' o rest may) ∙ wanted tells;
        either = λ p may. subst (λ (a : Option PairValue). IsOldOrWanted old want (value_by copy a (value_in (1 - copy) p))) (told tells).now ((told tells).either f.now p (sound.now_allowed (copy_name stem copy)) (sg.outcomes p may));
      }

      found : (b : Bool) → gate ≡ b → e.tells ≡ true → b ≡ is_open g'.now 0
      found b is tells = sym is ∙ (told tells).found ∙ ap (λ (o : Option (List ℕ)). is_open o 0) (sym sg.now)

      by_gate : (b : Bool) → gate ≡ b → OnOk result (IsOnWay stem copy old want e (ending (copy_name stem (1 - copy)) b))
      by_gate true is = syncs_to Standing true syncs (has_gate g g' 0 sg.len (has is)) (λ tells rest _. (stands tells rest, open_is g'.now 0 (sym (found true is tells))))
      by_gate false is = syncs_to Over false syncs tt (λ tells rest other_rest. record { stands = wanted tells; stable = rest; shut = shut_found g'.now (found false is tells); other_stable = other_rest })

  none_behind : (c : ℕ) (a : Option PairValue) → value_by c a None ≡ a
  none_behind zero a = newer_none a
  none_behind (suc c) a = refl

  -- the other copy is closed
  pub close_other : TurnsGate (copy_name stem (1 - copy)) 0 0 result d e → HasGates Standing true f g → (d.tells ≡ true → StandingHolds copy old want f g × IsOpen g.now 0) → On (Sync ∷ [])
  close_other turns has holds = (
    safe (λ tells. standing_either copy old want f' g' (stands tells)),
    on_ok_weaker result (λ done. record {
      phase = Closed;
      gate = true;
      changes_are = refl;
      gates = tt;
      holds = λ tells. (stands tells, λ opens. absurd (let at : byte_at g'.now 0 ≡ 0 = ap (λ (o : Option (List ℕ)). byte_at o 0) (done (before tells)) ∙ get_or-set_same (bytes_of g.now) 0 0 0 (there (before tells)).1 in cc (at, opens)));
    }) (told_ok (g'.now ≡ Some (set (bytes_of g.now) 0 0)) (d.tells ≡ true) result (turns.now has.1)),
  )
    where
      f_is : f' ≡ f
      f_is = turns.only.others (copy_name stem copy) (names_differ stem copy below)

      before : e.tells ≡ true → d.tells ≡ true
      before tells = sym turns.only.tells ∙ tells

      there : d.tells ≡ true → (g.now ≡ Some (bytes_of g.now)) × (0 < length (bytes_of g.now))
      there tells = told_longer g 0 (sound.lengths tells (copy_name stem (1 - copy))) has.1

      stands : e.tells ≡ true → StandingHolds copy old want f' g'
      stands tells = record {
        stands = subst (λ (h : File). (o : Option (List ℕ)) → MayLeave h o → value_in copy o ≡ Some want) (sym f_is) (holds (before tells)).0.stands;
        either = closed_value (1 - copy) 0 g g' (λ (v : Option PairValue). IsOldOrWanted old want (value_by copy (Some want) v)) (omega arith) (there (before tells)).0 (there (before tells)).1 (sound.now_allowed (copy_name stem (1 - copy))) (holds (before tells)).1 turns.torn
            (inr (none_behind copy (Some want))) (holds (before tells)).0.either;
      }

  -- the closed gate is made stable
  pub last_sync : Syncs result d e → (d.tells ≡ true → StandingHolds copy old want f g × ¬ IsOpen g.now 0) → On []
  last_sync syncs holds =
      let sf = synced (copy_name stem copy) syncs in
      let sg = synced (copy_name stem (1 - copy)) syncs in
      let told = λ (tells : e.tells ≡ true). holds (sym syncs.alike.tells ∙ tells) in (
        safe (λ tells. standing_either copy old want f' g' (record { stands = λ o may. (told tells).0.stands o (sf.outcomes o may); either = λ p may. (told tells).0.either p (sg.outcomes p may) })),
        syncs_to Over true syncs tt (λ tells rest other_rest. record {
          stands = (told tells).0.stands f'.now (subst (λ (o : Option (List ℕ)). MayLeave f o) (sym sf.now) (sound.now_allowed (copy_name stem copy)));
          stable = rest;
          shut = λ opens. (told tells).1 (ap (λ (o : Option (List ℕ)). byte_at o 0) (sym sg.now) ∙ opens);
          other_stable = other_rest;
        }),
      )

  -- one change on the way
  pub goes : (change : Change) (later : List Change) → IsOnWay stem copy old want d (change ∷ later) → Makes change (pair_body want) result d e → On later
  goes change later way makes = by way.phase way.gate way.changes_are way.gates way.holds
    where
      here : (c : Change) → change ≡ c → Makes c (pair_body want) result d e
      here c is = subst (λ (x : Change). Makes x (pair_body want) result d e) is makes

      by : (phase : Phase) (gate : Bool) → change ∷ later ≡ changes_at (copy_name stem copy) (copy_name stem (1 - copy)) gate phase → HasGates phase gate f g → (d.tells ≡ true → PhaseHolds phase copy old want gate f g) → On later
      by (Closing []) gate are has holds = subst On (sym (let t : later ≡ changes_at (copy_name stem copy) (copy_name stem (1 - copy)) gate Filling = cc are in t)) (first_sync gate (here Sync (cc are)) has holds)
      by (Closing (k ∷ gates)) gate are has holds = subst On (sym (let t : later ≡ changes_at (copy_name stem copy) (copy_name stem (1 - copy)) gate (Closing gates) = cc are in t)) (close_one gate k gates (here (Close (copy_name stem copy) k) (cc are)) has holds)
      by Filling gate are has holds = subst On (sym (let t : later ≡ changes_at (copy_name stem copy) (copy_name stem (1 - copy)) gate Filled = cc are in t)) (fill gate (here (Write (copy_name stem copy)) (cc are)) has holds)
      by Filled gate are has holds = subst On (sym (let t : later ≡ changes_at (copy_name stem copy) (copy_name stem (1 - copy)) gate Ready = cc are in t)) (body_sync gate (here Sync (cc are)) has holds)
      by Ready gate are has holds = subst On (sym (let t : later ≡ changes_at (copy_name stem copy) (copy_name stem (1 - copy)) gate Opened = cc are in t)) (turn gate (here (Open (copy_name stem copy) 0) (cc are)) has holds)
      by Opened gate are has holds = subst On (sym (let t : later ≡ ending (copy_name stem (1 - copy)) gate = cc are in t)) (turn_sync gate (here Sync (cc are)) has holds)
      by Standing gate are has holds = subst On (sym (let t : later ≡ Sync ∷ [] = cc are in t)) (close_other (here (Close (copy_name stem (1 - copy)) 0) (cc are)) has holds)
      by Closed gate are has holds = subst On (sym (let t : later ≡ [] = cc are in t)) (last_sync (here Sync (cc are)) holds)
      by Over gate are has holds = absurd (cc are)
