-- The steps of a pair, from what each change does.
use Rattle.std.proofs.Common.{◌≡◌, ◌≢◌, inl, inr, ◌<◌, ◌≤◌, ◌+◌, ◌-◌, ◌^◌, ℕ, zero, suc, Bool, true, false, List, [], ◌∷◌, length, Option, None, Some, refl, sym, ◌∙◌, ap, subst, arith, length-append}
use Rattle.std.specs.Prelude.{All, Result, Ok, Err, OnOk, IsOk}
use Rattle.std.proofs.lemmas.List.Elements.{All-tail}
use Rattle.scr_base.specs.declared.change.Change.{Change}
use Rattle.scr_base.specs.declared.change.Change.TheVariants.{Open, Close, Write, Sync, Remove}
use Rattle.scr_base.specs.Stages.{left, next_of, passed, is_over}
use Rattle.node_device.specs.File.{File, MayLeave, IsAtRest, IsKept}
use Rattle.node_device.specs.DeviceState.{DeviceState, used_of, IsUnchanged, IsSound, IsDeviceName, ChangesOnly, ReadsAlike}
use Rattle.node_device.specs.Calls.{Syncs}
use Rattle.node_device.specs.Outcomes.{rest_leaves}
use Rattle.node_device.specs.Answers.{HasDeviceCause, IsSpared, SyncAnswers, WriteAnswers, Passes}
use Rattle.node_device.specs.declared.device.DevError.{DevError}
use Rattle.node_device.specs.declared.device.DevError.TheVariants.{Failed, Full, NoFile, Range, Memory}
use Rattle.gated_record.specs.Record.{BodyAnswers, open_gate_byte}
use Rattle.gated_record.specs.Calls.{WritesBody, TurnsGate}
use Rattle.gated_record.specs.Changes.{MayMake, Makes}
use Rattle.gated_record.specs.Frames.{ChangesPair, IsNoWorse}
use Rattle.gated_record.specs.Pair.{value_in, copy_name, pair_body, copy_of}
use Rattle.gated_record.specs.PairStages.{PairLeaves, IsOldOrWanted, IsCopyName, IsChangeOf, HasGate, HasGates, Phase, Closing, Filling, Filled, Ready, Opened, Standing, Closed, Over, PhaseHolds, IsOnWay, IsPairStage, IsStageOf, changes_at, ending, value_by, HasCome}
use Rattle.gated_record.specs.PairSteps.{MayStep, StepMade, PairAnswers, StepAnswers, Goes, PairStands, KeepsRoom, StepsPair}
use Rattle.gated_record.specs.declared.pair.PairValue.{PairValue}
use Rattle.gated_record.proofs.Copies.{newer_none}
use Rattle.gated_record.proofs.PairWay.{leaves_by_copies, shut_no_value}
use Rattle.gated_record.proofs.PairGoes.{goes}
use Rattle.gated_record.proofs.PairRooms.{keeps_room}

-- ## the change that comes next

pub may_make_next : (stage : Option (List Change)) (body : List ℕ) (change : Change) → next_of stage ≡ Some change → MayStep stage body → MayMake change body
may_make_next None body change is may = absurd (cc is)
may_make_next (Some []) body change is may = absurd (cc is)
may_make_next (Some (c ∷ later)) body change is may = subst (λ (x : Change). MayMake x body) (let e : c ≡ change = cc is in e) may

pub made_next : {T : Type 0} (stage : Option (List Change)) (body : List ℕ) (d e : DeviceState) (result : Result T DevError) (change : Change) → next_of stage ≡ Some change → Makes change body result d e → StepMade stage body result d e
made_next None body d e result change is made = absurd (cc is)
made_next (Some []) body d e result change is made = absurd (cc is)
made_next (Some (c ∷ later)) body d e result change is made = subst (λ (x : Change). Makes x body result d e) (let same : change ≡ c = cc is in same) made

pub made_none : (stage : Option (List Change)) (body : List ℕ) (d : DeviceState) → next_of stage ≡ None → StepMade {T = Unit {0}} stage body (Ok (tt {0})) d d
made_none None body d is = (refl, refl, refl)
made_none (Some []) body d is = (refl, refl, refl)
made_none (Some (c ∷ later)) body d is = absurd (cc is)

-- ## on the way

on_any : {T : Type 0} (A : Type 0) (r : Result T DevError) → A → OnOk r A
on_any A (Ok x) a = a
on_any A (Err x) a = tt

none_behind : (c : ℕ) (a : Option PairValue) → value_by c a None ≡ a
none_behind zero a = newer_none a
none_behind (suc c) a = refl

pub name_length : (stem : List ℕ) (copy : ℕ) → length stem ≤ 158 → IsDeviceName (copy_name stem copy)
name_length stem copy short = (omega (arith, length-append stem (46 ∷ (48 + copy) ∷ [])), omega (arith, short, length-append stem (46 ∷ (48 + copy) ∷ [])))

same_worse : (f : File) → IsNoWorse f f
same_worse f = record { len = refl; now = refl; outcomes = λ o may. may; touched = λ k is. is }

-- what a call that changes nothing leaves
pub unchanged_pair : (stem : List ℕ) (d e : DeviceState) → IsUnchanged d e → ChangesPair stem d e
unchanged_pair stem d e same = record {
  tells = ap (λ (s : DeviceState). s.tells) same;
  capacity = ap (λ (s : DeviceState). s.capacity) same;
  others = λ q n0 n1. subst (λ (f : File). IsNoWorse (d.file q) f) (sym (ap (λ (s : DeviceState). s.file q) same)) (same_worse (d.file q));
}

same_kept : (f : File) → IsKept f f
same_kept f = record { len = refl; now = refl; fluid = λ is. is; greatest = omega arith }

pub unchanged_alike : (d e : DeviceState) → IsUnchanged d e → ReadsAlike d e
unchanged_alike d e same = record {
  tells = ap (λ (s : DeviceState). s.tells) same;
  capacity = ap (λ (s : DeviceState). s.capacity) same;
  names = ap (λ (s : DeviceState). s.names) same;
  files = λ q. subst (λ (f : File). IsKept (d.file q) f) (sym (ap (λ (s : DeviceState). s.file q) same)) (same_kept (d.file q));
}

synced_pair : {T : Type 0} (stem : List ℕ) (d e : DeviceState) (result : Result T DevError) → Syncs result d e → ChangesPair stem d e
synced_pair stem d e result syncs = record {
  tells = syncs.alike.tells;
  capacity = syncs.alike.capacity;
  others = λ q n0 n1. record { len = (syncs.alike.files q).len; now = (syncs.alike.files q).now; outcomes = (syncs.partly q).outcomes; touched = (syncs.partly q).touched };
}

only_pair : (stem name : List ℕ) (d e : DeviceState) → IsCopyName stem name → ChangesOnly name d e → ChangesPair stem d e
only_pair stem name d e copy only = record {
  tells = only.tells;
  capacity = only.capacity;
  others = λ q n0 n1. subst (λ (f : File). IsNoWorse (d.file q) f) (sym (only.others q (λ same. differs q n0 n1 same copy))) (same_worse (d.file q));
}
  where
    differs : (q : List ℕ) → q ≢ copy_name stem 0 → q ≢ copy_name stem 1 → q ≡ name → IsCopyName stem name → ⊥
    differs q n0 n1 is (inl zero_copy) = n0 (is ∙ zero_copy)
    differs q n0 n1 is (inr one_copy) = n1 (is ∙ one_copy)

-- the names of the two copies, by the number
pub is_copy_name : (stem : List ℕ) (copy : ℕ) → copy < 2 → IsCopyName stem (copy_name stem copy)
is_copy_name stem zero lt = inl refl
is_copy_name stem (suc zero) lt = inr refl
is_copy_name stem (suc (suc copy)) lt = absurd (omega (arith, lt))

-- ## what is said of every stage of a pair and a value

module _ (stem : List ℕ) (want : PairValue) (short_stem : length stem ≤ 158) (short : length want.body ≤ 1048572) where
  copy_device_name : (name : List ℕ) → IsCopyName stem name → IsDeviceName name
  copy_device_name name (inl is) = subst IsDeviceName (sym is) (name_length stem 0 short_stem)
  copy_device_name name (inr is) = subst IsDeviceName (sym is) (name_length stem 1 short_stem)

  -- the next change may be made
  pub may_step : (changes : List Change) → All (IsChangeOf stem) changes → MayStep (Some changes) (pair_body want)
  may_step [] all = tt
  may_step (change ∷ later) all = by change (all 0 Sync (omega arith))
    where
      by : (c : Change) → IsChangeOf stem c → MayMake c (pair_body want)
      by (Open name gate) is = record { is_name = copy_device_name name is.0; below = is.1 }
      by (Close name gate) is = record { is_name = copy_device_name name is.0; below = is.1 }
      by (Write name) is = record { is_name = copy_device_name name is; short = omega (arith, short) }
      by Sync is = tt
      by (Remove name) is = absurd is

module _ (stem : List ℕ) (want : PairValue) where
  module _ {T : Type 0} (d e : DeviceState) (result : Result T DevError) where
    abbrev Known : List Change → Type 0
    Known changes = PairAnswers stem want (Some changes) d result × ChangesPair stem d e × HasDeviceCause d e result

    turned : (change : Change) (name : List ℕ) (gate byte : ℕ) (later : List Change) → ((n : List ℕ) → change ≢ Write n) → IsCopyName stem name × (gate < 8) → TurnsGate name gate byte result d e → Known (change ∷ later)
    turned change name gate byte later other is turns = (by_result result turns.answer, only_pair stem name d e is.0 turns.only, turns.cause)
      where
        by_result : (r : Result T DevError) → WriteAnswers (d.file name) (used_of d) d.capacity gate 1 r → PairAnswers stem want (Some (change ∷ later)) d r
        by_result (Ok x) a = λ n next. absurd (other n (cc next))
        by_result (Err Failed) a = tt
        by_result (Err Full) a = (name, is.0, gate, 1, a.1, inr (is.1, refl))
        by_result (Err NoFile) a = absurd a
        by_result (Err Range) a = let lt : gate < 8 = is.1 in absurd (omega (arith, lt, a))
        by_result (Err Memory) a = tt

    filled : (name : List ℕ) (later : List Change) → IsCopyName stem name → WritesBody name (pair_body want) result d e → Known (Write name ∷ later)
    filled name later copy writes = (by_result result writes.answer, only_pair stem name d e copy writes.only, writes.cause)
      where
        by_result : (r : Result T DevError) → BodyAnswers d name (length (pair_body want)) r → PairAnswers stem want (Some (Write name ∷ later)) d r
        by_result (Ok x) a = λ n next passes. a (subst (λ (m : List ℕ). Passes (d.file m) (used_of d) d.capacity 8 (8 + length (pair_body want))) (let same : n ≡ name = cc next in same) passes)
        by_result (Err Failed) a = tt
        by_result (Err Full) a = (name, copy, 8, 8 + length (pair_body want), a, inl (refl, refl))
        by_result (Err NoFile) a = absurd a
        by_result (Err Range) a = absurd a
        by_result (Err Memory) a = tt

    synced : (later : List Change) → Syncs result d e → Known (Sync ∷ later)
    synced later syncs = (by_result result syncs.answer, synced_pair stem d e result syncs, syncs.cause)
      where
        by_result : (r : Result T DevError) → SyncAnswers r → PairAnswers stem want (Some (Sync ∷ later)) d r
        by_result (Ok x) a = λ n next. absurd (cc next)
        by_result (Err Failed) a = tt
        by_result (Err Full) a = absurd a
        by_result (Err NoFile) a = absurd a
        by_result (Err Range) a = absurd a
        by_result (Err Memory) a = absurd a

    -- its answer, what it changes and its cause
    pub facts : (changes : List Change) → All (IsChangeOf stem) changes → StepMade (Some changes) (pair_body want) result d e → Known changes
    facts [] all made = (by_none result made.1, unchanged_pair stem d e made.0, made.2)
      where
        by_none : (r : Result T DevError) → IsOk r → PairAnswers stem want (Some []) d r
        by_none (Ok x) is = λ n next. absurd (cc next)
        by_none (Err x) is = absurd (cc is)
    facts (change ∷ later) all made = by change (all 0 Sync (omega arith)) made
      where
        by : (c : Change) → IsChangeOf stem c → StepMade (Some (c ∷ later)) (pair_body want) result d e → Known (c ∷ later)
        by (Open name gate) is turns = turned (Open name gate) name gate open_gate_byte later (λ n same. absurd (cc same)) is turns
        by (Close name gate) is turns = turned (Close name gate) name gate 0 later (λ n same. absurd (cc same)) is turns
        by (Write name) is writes = filled name later is writes
        by Sync is syncs = synced later syncs
        by (Remove name) is removes = absurd is

-- other files that were at rest are so after a step that was made
module _ (stem : List ℕ) (want : PairValue) (d e : DeviceState) (q : List ℕ) (n0 : q ≢ copy_name stem 0) (n1 : q ≢ copy_name stem 1) (at_rest : IsAtRest (d.file q)) where
  rest_beside : (name : List ℕ) → IsCopyName stem name → ChangesOnly name d e → IsAtRest (e.file q)
  rest_beside name copy only = subst (λ (f : File). IsAtRest f) (sym (only.others q (λ is. differs name copy is))) at_rest
    where
      differs : (n : List ℕ) → IsCopyName stem n → q ≡ n → ⊥
      differs n (inl zero_copy) is = n0 (is ∙ zero_copy)
      differs n (inr one_copy) is = n1 (is ∙ one_copy)

  pub rests : (changes : List Change) → All (IsChangeOf stem) changes → StepMade {T = Unit {0}} (Some changes) (pair_body want) (Ok (tt {0})) d e → IsAtRest (e.file q)
  rests [] all made = subst (λ (s : DeviceState). IsAtRest (s.file q)) (sym made.0) at_rest
  rests (change ∷ later) all made = by change (all 0 Sync (omega arith)) made
    where
      by : (c : Change) → IsChangeOf stem c → StepMade {T = Unit {0}} (Some (c ∷ later)) (pair_body want) (Ok (tt {0})) d e → IsAtRest (e.file q)
      by (Open name gate) is turns = rest_beside name is.0 turns.only
      by (Close name gate) is turns = rest_beside name is.0 turns.only
      by (Write name) is writes = rest_beside name is writes.only
      by Sync is syncs = syncs.at_rest q
      by (Remove name) is removes = absurd is

-- what reads give is the same after a step that was refused
module _ (stem : List ℕ) (want : PairValue) (d e : DeviceState) (fault : DevError) where
  pub refused_alike : (changes : List Change) → All (IsChangeOf stem) changes → StepMade {T = Unit {0}} (Some changes) (pair_body want) (Err fault) d e → ReadsAlike d e
  refused_alike [] all made = let is = made.1 in absurd (cc is)
  refused_alike (change ∷ later) all made = by change (all 0 Sync (omega arith)) made
    where
      by : (c : Change) → IsChangeOf stem c → StepMade {T = Unit {0}} (Some (c ∷ later)) (pair_body want) (Err fault) d e → ReadsAlike d e
      by (Open name gate) is turns = turns.refused
      by (Close name gate) is turns = turns.refused
      by (Write name) is writes = writes.refused
      by Sync is syncs = syncs.alike
      by (Remove name) is removes = absurd is

-- refused without a fault it leaves the device as it was
module _ (stem : List ℕ) (want : PairValue) (d e : DeviceState) where
  pub refused_spared : (fault : DevError) (changes : List Change) → All (IsChangeOf stem) changes → StepMade {T = Unit {0}} (Some changes) (pair_body want) (Err fault) d e → IsSpared {T = Bool} d e (Err fault)
  refused_spared fault [] all made = let is = made.1 in absurd (cc is)
  refused_spared fault (change ∷ later) all made = bare_spared fault (by change (all 0 Sync (omega arith)) made)
    where
      bare_spared : (x : DevError) → IsSpared {T = Unit {0}} d e (Err x) → IsSpared {T = Bool} d e (Err x)
      bare_spared Failed s = s
      bare_spared Full s = s
      bare_spared NoFile s = s
      bare_spared Range s = s
      bare_spared Memory s = s

      synced : (x : DevError) → SyncAnswers {T = Unit {0}} (Err x) → IsSpared {T = Unit {0}} d e (Err x)
      synced Failed a = tt
      synced Full a = absurd a
      synced NoFile a = absurd a
      synced Range a = absurd a
      synced Memory a = absurd a

      by : (c : Change) → IsChangeOf stem c → StepMade {T = Unit {0}} (Some (c ∷ later)) (pair_body want) (Err fault) d e → IsSpared {T = Unit {0}} d e (Err fault)
      by (Open name gate) is turns = turns.spared
      by (Close name gate) is turns = turns.spared
      by (Write name) is writes = writes.spared
      by Sync is syncs = synced fault syncs.answer
      by (Remove name) is removes = absurd is

module _ (stem : List ℕ) (old : Option PairValue) (want : PairValue) (d : DeviceState) where
  abbrev t : List ℕ
  t = copy_name stem (copy_of want)

  abbrev s : List ℕ
  s = copy_name stem (1 - copy_of want)

  below_two : copy_of want < 2
  below_two = omega arith

  -- when each answer comes of a step of these changes, by the phase
  module _ {T : Type 0} (e : DeviceState) (result : Result T DevError) where
    turn_answer : (change : Change) (name : List ℕ) (gate byte : ℕ) (later : List Change) → ((n : List ℕ) → change ≢ Write n) → HasGate (d.file name) gate → TurnsGate name gate byte result d e → StepAnswers stem want (Some (change ∷ later)) d result
    turn_answer change name gate byte later other has turns = by_result result (turns.failed_alone has.1)
      where
        by_result : (r : Result T DevError) → SyncAnswers r → StepAnswers stem want (Some (change ∷ later)) d r
        by_result (Ok x) a = λ n is. absurd (other n (cc is))
        by_result (Err Failed) a = tt
        by_result (Err Full) a = absurd a
        by_result (Err NoFile) a = absurd a
        by_result (Err Range) a = absurd a
        by_result (Err Memory) a = absurd a

    sync_answer : (later : List Change) → Syncs result d e → StepAnswers stem want (Some (Sync ∷ later)) d result
    sync_answer later syncs = by_result result syncs.answer
      where
        by_result : (r : Result T DevError) → SyncAnswers r → StepAnswers stem want (Some (Sync ∷ later)) d r
        by_result (Ok x) a = λ n is. absurd (cc is)
        by_result (Err Failed) a = tt
        by_result (Err Full) a = absurd a
        by_result (Err NoFile) a = absurd a
        by_result (Err Range) a = absurd a
        by_result (Err Memory) a = absurd a

    write_answer : (later : List Change) → WritesBody t (pair_body want) result d e → StepAnswers stem want (Some (Write t ∷ later)) d result
    write_answer later writes = by_result result writes.answer
      where
        by_result : (r : Result T DevError) → BodyAnswers d t (length (pair_body want)) r → StepAnswers stem want (Some (Write t ∷ later)) d r
        by_result (Ok x) a = λ n is passes. a (subst (λ (m : List ℕ). Passes (d.file m) (used_of d) d.capacity 8 (8 + length (pair_body want))) (let same : n ≡ t = cc is in same) passes)
        by_result (Err Failed) a = tt
        by_result (Err Full) a = (t, refl, a)
        by_result (Err NoFile) a = absurd a
        by_result (Err Range) a = absurd a
        by_result (Err Memory) a = tt

    pub answers : (changes : List Change) → IsOnWay stem (copy_of want) old want d changes → StepMade (Some changes) (pair_body want) result d e → StepAnswers stem want (Some changes) d result
    answers changes way made = subst (λ (cs : List Change). StepAnswers stem want (Some cs) d result) (sym way.changes_are)
        (by way.phase way.gate way.gates (subst (λ (cs : List Change). StepMade (Some cs) (pair_body want) result d e) way.changes_are made))
      where
        by_none : (r : Result T DevError) → IsOk r → StepAnswers stem want (Some []) d r
        by_none (Ok x) is = λ n e. absurd (cc e)
        by_none (Err x) is = absurd (cc is)

        by : (phase : Phase) (gate : Bool) → HasGates phase gate (d.file t) (d.file s) → StepMade (Some (changes_at t s gate phase)) (pair_body want) result d e → StepAnswers stem want (Some (changes_at t s gate phase)) d result
        by (Closing []) gate has syncs = sync_answer (changes_at t s gate Filling) syncs
        by (Closing (k ∷ gates)) gate has turns = turn_answer (Close t k) t k 0 (changes_at t s gate (Closing gates)) (λ n is. absurd (cc is)) (has.0 0 k (omega arith)) turns
        by Filling gate has writes = write_answer (changes_at t s gate Filled) writes
        by Filled gate has syncs = sync_answer (changes_at t s gate Ready) syncs
        by Ready gate has turns = turn_answer (Open t 0) t 0 open_gate_byte (changes_at t s gate Opened) (λ n is. absurd (cc is)) has.0 turns
        by Opened gate has syncs = sync_answer (ending s gate) syncs
        by Standing gate has turns = turn_answer (Close s 0) s 0 0 (Sync ∷ []) (λ n is. absurd (cc is)) has turns
        by Closed gate has syncs = sync_answer [] syncs
        by Over gate has made = by_none result made.1

  -- nothing is left exactly at the end
  over_phase : (phase : Phase) (gate : Bool) → [] ≡ changes_at t s gate phase → phase ≡ Over
  over_phase (Closing []) gate is = absurd (cc is)
  over_phase (Closing (k ∷ gates)) gate is = absurd (cc is)
  over_phase Filling gate is = absurd (cc is)
  over_phase Filled gate is = absurd (cc is)
  over_phase Ready gate is = absurd (cc is)
  over_phase Opened gate is = absurd (cc is)
  over_phase Standing gate is = absurd (cc is)
  over_phase Closed gate is = absurd (cc is)
  over_phase Over gate is = refl

  pub over_stands : (e : DeviceState) → IsOnWay stem (copy_of want) old want e [] → e.tells ≡ true → PairStands stem want e
  over_stands e way tells = subst (λ (p : Phase). PhaseHolds p (copy_of want) old want way.gate (e.file t) (e.file s)) (over_phase way.phase way.gate way.changes_are) (way.holds tells)

  come_is : (f g : File) → HasCome (copy_of want) want f g → (o p : Option (List ℕ)) → MayLeave f o → MayLeave g p → value_by (copy_of want) (value_in (copy_of want) o) (value_in (1 - copy_of want) p) ≡ Some want
  come_is f g come o p left right =
      let wanted : value_in (copy_of want) o ≡ Some want = ap (λ (x : Option (List ℕ)). value_in (copy_of want) x) (rest_leaves f o come.stable left) ∙ come.stands in
      let none : value_in (1 - copy_of want) p ≡ None = ap (λ (x : Option (List ℕ)). value_in (1 - copy_of want) x) (rest_leaves g p come.other_stable right) ∙ shut_no_value (1 - copy_of want) g.now come.shut in
      ap (λ (a : Option PairValue). value_by (copy_of want) a (value_in (1 - copy_of want) p)) wanted ∙ ap (λ (b : Option PairValue). value_by (copy_of want) (Some want) b) none ∙ none_behind (copy_of want) (Some want)

  pub come_either : (f g : File) → HasCome (copy_of want) want f g → (o p : Option (List ℕ)) → MayLeave f o → MayLeave g p → IsOldOrWanted old want (value_by (copy_of want) (value_in (copy_of want) o) (value_in (1 - copy_of want) p))
  come_either f g come o p left right = inr (come_is f g come o p left right)

  -- where the wanted value stands, it is what every stop leaves
  pub stands_leaves : PairStands stem want d → PairLeaves stem d (λ value. value ≡ Some want)
  stands_leaves stands = leaves_by_copies stem (copy_of want) d (λ value. value ≡ Some want) below_two (come_is (d.file t) (d.file s) stands)

  -- whatever a stop leaves, the old value stands or the wanted one
  pub step_goes : {T : Type 0} (e : DeviceState) (result : Result T DevError) → IsSound d → 1 ≤ want.version → want.version < 2 ^ 32 → (changes : List Change) → IsOnWay stem (copy_of want) old want d changes → StepMade (Some changes) (pair_body want) result d e
      → Goes stem old want result (passed (Some changes)) e
  step_goes e result sound above fits (change ∷ later) way made = let both = goes stem (copy_of want) old want d e result below_two refl above fits sound change later way made in record { leaves = both.0; stage = both.1 }
  step_goes e result sound above fits [] way made = record {
    leaves = λ tells. leaves_by_copies stem (copy_of want) e (IsOldOrWanted old want) below_two (come_either (e.file t) (e.file s) (subst (λ (x : DeviceState). HasCome (copy_of want) want (x.file t) (x.file s)) (sym made.0) (over_stands d way (ap (λ (x : DeviceState). x.tells) (sym made.0) ∙ tells))));
    stage = on_any (IsOnWay stem (copy_of want) old want e []) result (record {
      phase = Over;
      gate = true;
      changes_are = refl;
      gates = tt;
      holds = λ tells. subst (λ (x : DeviceState). HasCome (copy_of want) want (x.file t) (x.file s)) (sym made.0) (over_stands d way (ap (λ (x : DeviceState). x.tells) (sym made.0) ∙ tells));
    });
  }

-- ## a call, whole

module _ (stem : List ℕ) (want : PairValue) (above : 1 ≤ want.version) (fits : want.version < 2 ^ 32) where
  fewer_left : (changes : List Change) → is_over (passed (Some changes)) ≡ false → left (passed (Some changes)) < left (Some changes)
  fewer_left [] over = absurd (cc over)
  fewer_left (change ∷ later) over = omega arith

  on_way_goes : {T : Type 0} (d e : DeviceState) (result : Result T DevError) → IsSound d → (changes : List Change) → StepMade (Some changes) (pair_body want) result d e
      → (value : Option PairValue) → IsPairStage stem value want d (Some changes) → Goes stem value want result (passed (Some changes)) e
  on_way_goes d e result sound changes made value way = step_goes stem value want d e result sound above fits changes way made

  pub stands_after : (old : Option PairValue) (e : DeviceState) (changes : List Change) → IsPairStage stem old want e (passed (Some changes)) → is_over (passed (Some changes)) ≡ true → e.tells ≡ true → PairStands stem want e
  stands_after old e [] way over tells = over_stands stem old want e e way tells
  stands_after old e (change ∷ []) way over tells = over_stands stem old want e e way tells
  stands_after old e (change ∷ next ∷ later) way over tells = absurd (cc over)

  all_passed : (changes : List Change) → All (IsChangeOf stem) changes → IsStageOf stem (passed (Some changes))
  all_passed [] all = all
  all_passed (change ∷ later) all = All-tail (IsChangeOf stem) change later all

  same_changes : (xs ys : List Change) → Some xs ≡ Some ys → xs ≡ ys
  same_changes xs ys is = cc

  made_of : (d e : DeviceState) (result : Result (Unit {0}) DevError) (xs ys : List Change) → Some xs ≡ Some ys → StepMade (Some xs) (pair_body want) result d e → StepMade (Some ys) (pair_body want) result d e
  made_of d e result xs ys is made = subst (λ (cs : List Change). StepMade (Some cs) (pair_body want) result d e) (same_changes xs ys is) made

  -- a step of a stage that has begun was made
  pub steps_ok : (d e : DeviceState) → IsSound d → (changes : List Change) (after : Option (List Change)) (over : Bool) → after ≡ passed (Some changes) → over ≡ is_over after → All (IsChangeOf stem) changes
      → StepMade {T = Unit {0}} (Some changes) (pair_body want) (Ok (tt {0})) d e → StepsPair stem want (Ok over) (Some changes) after d e
  steps_ok d e sound changes after over after_is over_is all made =
      let known = facts stem want d e (Ok (tt {0})) changes all made in
      let went = on_way_goes d e (Ok (tt {0})) sound changes made in record {
        answer = known.0;
        exact = λ value way. answers stem value want d e (Ok (tt {0})) changes way made;
        goes = λ value way. let gone = went value way in record { leaves = gone.leaves; stage = subst (λ (x : Option (List Change)). IsPairStage stem value want e x) (sym after_is) gone.stage };
        room = λ value way tells. subst (λ (x : Option (List Change)). KeepsRoom stem want (Some changes) x d e) (sym after_is) (keeps_room stem value want d e changes way made);
        made = λ cs is. made_of d e (Ok (tt {0})) changes cs is made;
        passed = λ cs is. after_is;
        stage = subst (IsStageOf stem) (sym after_is) (all_passed changes all);
        over = over_is;
        stands = λ value way is tells. stands_after value e changes (went value way).stage (ap is_over (sym after_is) ∙ sym over_is ∙ is) (known.1.tells ∙ tells);
        fewer = λ is. subst (λ (x : Option (List Change)). left x < left (Some changes)) (sym after_is) (fewer_left changes (ap is_over (sym after_is) ∙ sym over_is ∙ is));
        refused = tt;
        alike = tt;
        spared = tt;
        only = known.1;
        rest = λ q n0 n1 at_rest. rests stem want d e q n0 n1 at_rest changes all made;
        cause = known.2;
      }

  -- it was refused
  pub steps_err : (d e : DeviceState) → IsSound d → (changes : List Change) (after : Option (List Change)) (fault : DevError) → after ≡ Some changes → All (IsChangeOf stem) changes
      → StepMade {T = Unit {0}} (Some changes) (pair_body want) (Err fault) d e → StepsPair stem want (Err fault) (Some changes) after d e
  steps_err d e sound changes after fault same all made =
      let known = facts stem want d e (Err fault) changes all made in
      let went = on_way_goes d e (Err fault) sound changes made in record {
        answer = pair_err fault known.0;
        exact = λ value way. step_err fault (answers stem value want d e (Err fault) changes way made);
        goes = λ value way. record { leaves = (went value way).leaves; stage = tt };
        room = λ value way tells. tt;
        made = λ cs is. made_of d e (Err fault) changes cs is made;
        passed = λ cs is. tt;
        stage = subst (IsStageOf stem) (sym same) all;
        over = tt;
        stands = λ value way. tt;
        fewer = tt;
        refused = same;
        alike = refused_alike stem want d e fault changes all made;
        spared = refused_spared stem want d e fault changes all made;
        only = known.1;
        rest = tt;
        cause = cause_err fault known.2;
      }
    where
      pair_err : (x : DevError) → PairAnswers {T = Unit {0}} stem want (Some changes) d (Err x) → PairAnswers {T = Bool} stem want (Some changes) d (Err x)
      pair_err Failed a = a
      pair_err Full a = a
      pair_err NoFile a = a
      pair_err Range a = a
      pair_err Memory a = a

      step_err : (x : DevError) → StepAnswers {T = Unit {0}} stem want (Some changes) d (Err x) → StepAnswers {T = Bool} stem want (Some changes) d (Err x)
      step_err Failed a = a
      step_err Full a = a
      step_err NoFile a = a
      step_err Range a = a
      step_err Memory a = a

      cause_err : (x : DevError) → HasDeviceCause {T = Unit {0}} d e (Err x) → HasDeviceCause {T = Bool} d e (Err x)
      cause_err Failed a = a
      cause_err Full a = a
      cause_err NoFile a = a
      cause_err Range a = a
      cause_err Memory a = a
