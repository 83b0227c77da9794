-- The beginning of a pair's way, from what was found.
use Rattle.std.proofs.Common.{◌≡◌, ◌≢◌, inl, inr, ◌<◌, ◌≤◌, ◌+◌, ◌-◌, ◌%◌, ◌^◌, ℕ, zero, suc, Bool, true, false, List, [], ◌∷◌, ◌++◌, length, Option, None, Some, refl, sym, ◌∙◌, ap, subst, arith, append_assoc}
use Rattle.std.specs.Prelude.{All, Contains, if◌then◌else◌, nat_lt, Result, Ok, Err, IsSomeAnd, unwrap_or, OnOk, OnErr, is_none}
use Rattle.std.proofs.lemmas.Bool.{ltb-true, ltb-false}
use Rattle.std.proofs.lemmas.Bool.Decides.{eqb_tells}
use Rattle.std.proofs.lemmas.List.Elements.{All-append, All-cons, All-nil, All-tail}
use Rattle.scr_base.specs.declared.change.Change.{Change}
use Rattle.scr_base.specs.declared.change.Change.TheVariants.{Open, Close, Write, Sync}
use Rattle.scr_base.specs.Stages.{left, next_of, passed, is_over}
use Rattle.node_device.specs.File.{File, MayLeave}
use Rattle.node_device.specs.DeviceState.{DeviceState, IsUnchanged, IsSound}
use Rattle.node_device.specs.Answers.{HasDeviceCause, NamesAnswers}
use Rattle.node_device.specs.declared.device.DevError.{DevError}
use Rattle.node_device.specs.declared.device.DevError.TheVariants.{Failed, Full, NoFile, Range, Memory}
use Rattle.gated_record.specs.Pair.{value_in, copy_name, pair_body, copy_of, next_version, MayFollow, newer}
use Rattle.gated_record.specs.PairStages.{PairLeaves, IsOldOrWanted, HasGate, Opened, Closing, IsOnWay, IsPairStage, IsCopyName, IsChangeOf, IsStageOf, IsToWrite, MayBegin, closings, ending, value_by, IsBelow, open_from}
use Rattle.gated_record.specs.PairSteps.{Finds, MayStep, StepMade, PairAnswers, StepAnswers, KeepsRoom, StepsPair}
use Rattle.gated_record.specs.declared.pair.PairValue.{PairValue}
use Rattle.gated_record.proofs.Plans.{open_within}
use Rattle.gated_record.proofs.Copies.{in_its_copy, by_one}
use Rattle.gated_record.proofs.PairWay.{copies_by_leaves}
use Rattle.gated_record.proofs.PairRooms.{opened_none, closing_has}
use Rattle.node_device.proofs.Sparing.{unchanged_spared}
use Rattle.gated_record.proofs.PairSteps.{unchanged_pair, unchanged_alike, is_copy_name, may_step, steps_ok, steps_err}

-- the version that is next belongs in the other copy
next_differs : (v w : ℕ) → w ≡ next_version v → v % 2 ≢ w % 2
next_differs v w is same = elim (eqb_tells v 4294967295) [
  | inl last ↦ absurd (let two : w ≡ 2 = is ∙ ap (λ (t : Bool). if t then 2 else v + 1) last.0 in omega (arith, two, last.1, same))
  | inr not ↦ absurd (let more : w ≡ v + 1 = is ∙ ap (λ (t : Bool). if t then 2 else v + 1) not.0 in omega (arith, more, same))
]

if_none : (t : Bool) (a b : PairValue) → (if t then Some b else Some a) ≢ None
if_none true a b is = cc is
if_none false a b is = cc is

newer_no : (a b : Option PairValue) → newer a b ≡ None → (a ≡ None) × (b ≡ None)
newer_no None b is = (refl, is)
newer_no (Some a) None is = absurd (cc is)
newer_no (Some a) (Some b) is = absurd (if_none (nat_lt a.version b.version) a b is)

none_both : (c : ℕ) (a b : Option PairValue) → value_by c a b ≡ None → (a ≡ None) × (b ≡ None)
none_both zero a b is = newer_no a b is
none_both (suc c) a b is = let both = newer_no b a is in (both.1, both.0)

less_first : (t : Bool) (a v : PairValue) → nat_lt a.version v.version ≡ t → (if t then Some v else Some a) ≡ Some v → a.version ≢ v.version → a.version < v.version
less_first true a v test is ne = ltb-true a.version v.version test
less_first false a v test is ne = absurd (ne (ap (λ (x : PairValue). x.version) (let same : a ≡ v = cc is in same)))

less_second : (t : Bool) (a v : PairValue) → nat_lt v.version a.version ≡ t → (if t then Some a else Some v) ≡ Some v → a.version ≢ v.version → a.version < v.version
less_second true a v test is ne = absurd (ne (ap (λ (x : PairValue). x.version) (let same : a ≡ v = cc is in same)))
less_second false a v test is ne = let le : a.version ≤ v.version = ltb-false v.version a.version test in omega (arith, le, ne)

less_by : (c : ℕ) (a v : PairValue) → value_by c (Some a) (Some v) ≡ Some v → a.version ≢ v.version → a.version < v.version
less_by zero a v is ne = less_first (nat_lt a.version v.version) a v refl is ne
less_by (suc c) a v is ne = less_second (nat_lt v.version a.version) a v refl is ne

-- where the wanted value doesn't stand, the other copy has the old value, and its own copy none or an older one
module _ (want : PairValue) (f g : File) (now : MayLeave f f.now) (other_now : MayLeave g g.now) (unwanted : value_in (copy_of want) f.now ≢ Some want) where
  abbrev c : ℕ
  c = copy_of want

  no_want : (v : PairValue) → ((o p : Option (List ℕ)) → MayLeave f o → MayLeave g p → value_by c (value_in c o) (value_in (1 - c) p) ≡ Some v) → MayFollow (Some v) want → v.version % 2 ≢ c
  no_want v each (inl same) = elim (by_one c (value_in c f.now) (value_in (1 - c) g.now)) [
    | inl first ↦ absurd (unwanted (sym first ∙ each f.now g.now now other_now ∙ ap Some same))
    | inr second ↦ absurd (let its : v.version % 2 ≡ 1 - c = in_its_copy (1 - c) g.now v (sym second ∙ each f.now g.now now other_now) in omega (arith, its, ap (λ (x : PairValue). x.version) same))
  ]
  no_want v each (inr next) = next_differs v.version want.version next

  pub other_before : (old : Option PairValue) → ((o p : Option (List ℕ)) → MayLeave f o → MayLeave g p → value_by c (value_in c o) (value_in (1 - c) p) ≡ old) → MayFollow old want → (p : Option (List ℕ)) → MayLeave g p → value_in (1 - c) p ≡ old
  other_before None each follows p may = (none_both c (value_in c f.now) (value_in (1 - c) p) (each f.now p now may)).1
  other_before (Some v) each follows p may = elim (by_one c (value_in c f.now) (value_in (1 - c) p)) [
    | inl first ↦ absurd (no_want v each follows (in_its_copy c f.now v (sym first ∙ each f.now p now may)))
    | inr second ↦ sym second ∙ each f.now p now may
  ]

  below_at : (v : PairValue) (o : Option (List ℕ)) (x : Option PairValue) → value_in c o ≡ x → v.version % 2 ≢ c → value_by c x (Some v) ≡ Some v → IsBelow x (Some v)
  below_at v o None is ne by = tt
  below_at v o (Some a) is ne by = less_by c a v by (λ same. ne (ap (λ (n : ℕ). n % 2) (sym same) ∙ in_its_copy c o a is))

  pub own_below : (old : Option PairValue) → ((o p : Option (List ℕ)) → MayLeave f o → MayLeave g p → value_by c (value_in c o) (value_in (1 - c) p) ≡ old) → MayFollow old want → (o : Option (List ℕ)) → MayLeave f o → IsBelow (value_in c o) old
  own_below None each follows o may = subst (λ (x : Option PairValue). IsBelow x None) (sym (none_both c (value_in c o) (value_in (1 - c) g.now) (each o g.now may other_now)).0) tt
  own_below (Some v) each follows o may =
      let before : value_in (1 - c) g.now ≡ Some v = other_before (Some v) each follows g.now other_now in
      below_at v o (value_in c o) refl (no_want v each follows) (ap (λ (b : Option PairValue). value_by c (value_in c o) b) (sym before) ∙ each o g.now may other_now)

longer_len : (len : Option ℕ) (g n : ℕ) → g < n → n ≤ unwrap_or len 0 → IsSomeAnd len (λ l. g < l)
longer_len None g n lt le = absurd (omega (arith, lt, le))
longer_len (Some len) g n lt le = omega (arith, lt, le)

-- what was found is the beginning of the way
pub begun : (stem : List ℕ) (old : Option PairValue) (want : PairValue) (d : DeviceState) (changes : List Change) → IsSound d → Finds stem (copy_of want) want d changes → (d.tells ≡ true → MayBegin stem old want d) → IsOnWay stem (copy_of want) old want d changes
begun stem old want d changes sound finds may = by_stands finds.begins.stands refl
  where
    each : d.tells ≡ true → (o p : Option (List ℕ)) → MayLeave (d.file (copy_name stem (copy_of want))) o → MayLeave (d.file (copy_name stem (1 - copy_of want))) p → value_by (copy_of want) (value_in (copy_of want) o) (value_in (1 - copy_of want) p) ≡ old
    each tells = copies_by_leaves stem (copy_of want) d (λ value. value ≡ old) (omega arith) (may tells).leaves

    by_stands : (b : Bool) → finds.begins.stands ≡ b → IsOnWay stem (copy_of want) old want d changes
    by_stands true is = record {
      phase = Opened;
      gate = finds.gate;
      changes_are = finds.changes_are ∙ ap (λ (l : List Change). l ++ Sync ∷ ending (copy_name stem (1 - copy_of want)) finds.gate) (finds.begins.none is);
      gates = finds.has_gate;
      holds = λ tells. record { either = λ o p left right. inl (each tells o p left right); now = finds.begins.wanted tells is; found = finds.found tells };
    }
    by_stands false is =
        let closes = finds.begins.closes is in record {
          phase = Closing (open_from 0 closes.front);
          gate = finds.gate;
          changes_are = finds.changes_are ∙ ap (λ (l : List Change). l ++ Sync ∷ ending (copy_name stem (1 - copy_of want)) finds.gate) (finds.begins.filling is ∙ ap (λ (l : List Change). l ++ Sync ∷ Write (copy_name stem (copy_of want)) ∷ Sync ∷ Open (copy_name stem (copy_of want)) 0 ∷ []) closes.changes_are)
              ∙ append_assoc (closings (copy_name stem (copy_of want)) (open_from 0 closes.front)) (Sync ∷ Write (copy_name stem (copy_of want)) ∷ Sync ∷ Open (copy_name stem (copy_of want)) 0 ∷ []) (Sync ∷ ending (copy_name stem (1 - copy_of want)) finds.gate);
          gates = (open_within (HasGate (d.file (copy_name stem (copy_of want)))) 0 closes.front (λ g lt. (omega (arith, lt, closes.few), longer_len (d.file (copy_name stem (copy_of want))).len g (length closes.front) (omega (arith, lt)) closes.inside)), finds.has_gate);
          holds = λ tells.
              let now = sound.now_allowed (copy_name stem (copy_of want)) in
              let other_now = sound.now_allowed (copy_name stem (1 - copy_of want)) in
              let unwanted = finds.begins.unwanted tells is in record {
                below = own_below want (d.file (copy_name stem (copy_of want))) (d.file (copy_name stem (1 - copy_of want))) now other_now unwanted old (each tells) (may tells).follows;
                gates_are = ap (λ (l : List ℕ). open_from 0 l) (closes.told tells);
                other = record { before = other_before want (d.file (copy_name stem (copy_of want))) (d.file (copy_name stem (1 - copy_of want))) now other_now unwanted old (each tells) (may tells).follows; found = finds.found tells };
              };
        }

-- what was found are changes to the pair
closings_of : (stem : List ℕ) (name : List ℕ) (gates : List ℕ) → IsCopyName stem name → All (λ gate. gate < 8) gates → All (IsChangeOf stem) (closings name gates)
closings_of stem name [] copy low = All-nil (IsChangeOf stem)
closings_of stem name (k ∷ gates) copy low = All-cons (IsChangeOf stem) (Close name k) (closings name gates) (copy, low 0 0 (omega arith)) (closings_of stem name gates copy (All-tail (λ gate. gate < 8) k gates low))

ending_of : (stem : List ℕ) (name : List ℕ) (gate : Bool) → IsCopyName stem name → All (IsChangeOf stem) (ending name gate)
ending_of stem name true copy = All-cons (IsChangeOf stem) (Close name 0) (Sync ∷ []) (copy, omega arith) (All-cons (IsChangeOf stem) Sync [] tt (All-nil (IsChangeOf stem)))
ending_of stem name false copy = All-nil (IsChangeOf stem)

filling_of : (stem : List ℕ) (name : List ℕ) → IsCopyName stem name → All (IsChangeOf stem) (Sync ∷ Write name ∷ Sync ∷ Open name 0 ∷ [])
filling_of stem name copy =
    let opening : All (IsChangeOf stem) (Open name 0 ∷ []) = All-cons (IsChangeOf stem) (Open name 0) [] (copy, omega arith) (All-nil (IsChangeOf stem)) in
    let synced : All (IsChangeOf stem) (Sync ∷ Open name 0 ∷ []) = All-cons (IsChangeOf stem) Sync (Open name 0 ∷ []) tt opening in
    All-cons (IsChangeOf stem) Sync (Write name ∷ Sync ∷ Open name 0 ∷ []) tt (All-cons (IsChangeOf stem) (Write name) (Sync ∷ Open name 0 ∷ []) copy synced)

pub found_of : (stem : List ℕ) (want : PairValue) (d : DeviceState) (changes : List Change) → Finds stem (copy_of want) want d changes → All (IsChangeOf stem) changes
found_of stem want d changes finds =
    subst (All (IsChangeOf stem)) (sym finds.changes_are)
    (All-append (IsChangeOf stem) finds.front (Sync ∷ ending (copy_name stem (1 - copy_of want)) finds.gate) (by_stands finds.begins.stands refl)
    (All-cons (IsChangeOf stem) Sync (ending (copy_name stem (1 - copy_of want)) finds.gate) tt (ending_of stem (copy_name stem (1 - copy_of want)) finds.gate (is_copy_name stem (1 - copy_of want) (omega arith)))))
  where
    copy : IsCopyName stem (copy_name stem (copy_of want))
    copy = is_copy_name stem (copy_of want) (omega arith)

    by_stands : (b : Bool) → finds.begins.stands ≡ b → All (IsChangeOf stem) finds.front
    by_stands true is = subst (All (IsChangeOf stem)) (sym (finds.begins.none is)) (All-nil (IsChangeOf stem))
    by_stands false is =
        let closes = finds.begins.closes is in
        let few : length closes.front ≤ 8 = closes.few in
        let low = open_within (λ (gate : ℕ). gate < 8) 0 closes.front (λ gate lt. omega (arith, lt, few)) in
        let closing = subst (All (IsChangeOf stem)) (sym closes.changes_are) (closings_of stem (copy_name stem (copy_of want)) (open_from 0 closes.front) copy low) in
        subst (All (IsChangeOf stem)) (sym (finds.begins.filling is)) (All-append (IsChangeOf stem) finds.begins.closing (Sync ∷ Write (copy_name stem (copy_of want)) ∷ Sync ∷ Open (copy_name stem (copy_of want)) 0 ∷ []) closing (filling_of stem (copy_name stem (copy_of want)) copy))

-- the first change is no write of a body
closings_first : (name : List ℕ) (gates : List ℕ) (more : List Change) (n : List ℕ) → next_of (Some (closings name gates ++ Sync ∷ more)) ≢ Some (Write n)
closings_first name [] more n is = cc is
closings_first name (k ∷ gates) more n is = cc is

-- where the wanted value doesn't stand
finds_filling : (stem : List ℕ) (copy : ℕ) (want : PairValue) (d : DeviceState) (changes : List Change) (finds : Finds stem copy want d changes) (is : finds.begins.stands ≡ false)
    → changes ≡ closings (copy_name stem copy) (open_from 0 (finds.begins.closes is).front) ++ Sync ∷ Write (copy_name stem copy) ∷ Sync ∷ Open (copy_name stem copy) 0 ∷ Sync ∷ ending (copy_name stem (1 - copy)) finds.gate
finds_filling stem copy want d changes finds is =
    let closes = finds.begins.closes is in
    finds.changes_are ∙ ap (λ (l : List Change). l ++ Sync ∷ ending (copy_name stem (1 - copy)) finds.gate) (finds.begins.filling is ∙ ap (λ (l : List Change). l ++ Sync ∷ Write (copy_name stem copy) ∷ Sync ∷ Open (copy_name stem copy) 0 ∷ []) closes.changes_are)
    ∙ append_assoc (closings (copy_name stem copy) (open_from 0 closes.front)) (Sync ∷ Write (copy_name stem copy) ∷ Sync ∷ Open (copy_name stem copy) 0 ∷ []) (Sync ∷ ending (copy_name stem (1 - copy)) finds.gate)

pub first_no_write : (stem : List ℕ) (copy : ℕ) (want : PairValue) (d : DeviceState) (changes : List Change) → Finds stem copy want d changes → (n : List ℕ) → next_of (Some changes) ≢ Some (Write n)
first_no_write stem copy want d changes finds n = by_stands finds.begins.stands refl
  where
    by_stands : (b : Bool) → finds.begins.stands ≡ b → next_of (Some changes) ≢ Some (Write n)
    by_stands true is next = absurd (let first : next_of (Some changes) ≡ Some Sync = ap (λ (l : List Change). next_of (Some l)) (finds.changes_are ∙ ap (λ (l : List Change). l ++ Sync ∷ ending (copy_name stem (1 - copy)) finds.gate) (finds.begins.none is)) in cc (first, next))
    by_stands false is next =
        let closes = finds.begins.closes is in
        closings_first (copy_name stem copy) (open_from 0 closes.front) (Write (copy_name stem copy) ∷ Sync ∷ Open (copy_name stem copy) 0 ∷ Sync ∷ ending (copy_name stem (1 - copy)) finds.gate) n (ap (λ (l : List Change). next_of (Some l)) (sym (finds_filling stem copy want d changes finds is)) ∙ next)

-- the body's write is among the changes that were found exactly where the wanted value doesn't stand
module _ (stem : List ℕ) (want : PairValue) (d : DeviceState) (changes : List Change) (finds : Finds stem (copy_of want) want d changes) (tells : d.tells ≡ true) where
  abbrev own : List ℕ
  own = copy_name stem (copy_of want)

  found_left : IsToWrite stem want d (Some changes) → IsToWrite stem want d None
  found_left has = by_stands finds.begins.stands refl
    where
      by_stands : (b : Bool) → finds.begins.stands ≡ b → IsToWrite stem want d None
      by_stands true is = absurd (opened_none own (copy_name stem (1 - copy_of want)) own finds.gate
          (subst (λ (l : List Change). Contains l (Write own)) (finds.changes_are ∙ ap (λ (l : List Change). l ++ Sync ∷ ending (copy_name stem (1 - copy_of want)) finds.gate) (finds.begins.none is)) has))
      by_stands false is = finds.begins.unwanted tells is

  found_has : IsToWrite stem want d None → IsToWrite stem want d (Some changes)
  found_has missing = by_stands finds.begins.stands refl
    where
      by_stands : (b : Bool) → finds.begins.stands ≡ b → IsToWrite stem want d (Some changes)
      by_stands true is = absurd (missing (finds.begins.wanted tells is))
      by_stands false is =
          let closes = finds.begins.closes is in
          subst (λ (l : List Change). Contains l (Write own)) (sym (finds_filling stem (copy_of want) want d changes finds is))
          (closing_has own (open_from 0 closes.front) (Sync ∷ Open own 0 ∷ Sync ∷ ending (copy_name stem (1 - copy_of want)) finds.gate))

  found_room : (e : DeviceState) (after : Option (List Change)) → KeepsRoom stem want (Some changes) after d e → KeepsRoom stem want None after d e
  found_room e after room = record {
    left = λ still. let both = room.left still in (found_left both.0, both.1);
    gone = λ no. elim (room.gone no) [
      | inl none ↦ inl (λ missing. none (found_has missing))
      | inr next ↦ absurd (first_no_write stem (copy_of want) want d changes finds own next)
    ];
  }

-- a first call is a step of the stage that begins with what was found
pub first_call : (stem : List ℕ) (want : PairValue) (d e : DeviceState) (changes : List Change) (result : Result Bool DevError) (after late : Option (List Change)) → IsSound d → Finds stem (copy_of want) want d changes → left (Some changes) < 2 ^ 64
    → StepsPair stem want result (Some changes) after d e → OnOk result (late ≡ after) → OnErr result (late ≡ None) → StepsPair stem want result None late d e
first_call stem want d e changes (Ok over) after late sound finds few steps same none = record {
  answer = λ n is. absurd (cc is);
  exact = λ value may n is. absurd (cc is);
  goes = λ value may. let gone = steps.goes value (begun stem value want d changes sound finds may) in record { leaves = gone.leaves; stage = subst (λ (x : Option (List Change)). IsPairStage stem value want e x) (sym same) gone.stage };
  room = λ value may tells. subst (λ (x : Option (List Change)). KeepsRoom stem want None x d e) (sym same) (found_room stem want d changes finds tells e after (steps.room value (begun stem value want d changes sound finds may) tells));
  made = λ changes is. absurd (cc is);
  passed = λ changes is. absurd (cc is);
  stage = subst (IsStageOf stem) (sym same) steps.stage;
  over = steps.over ∙ ap is_over (sym same);
  stands = λ value may. steps.stands value (begun stem value want d changes sound finds may);
  fewer = λ is. let le = steps.fewer is in subst (λ (x : Option (List Change)). left x < 2 ^ 64) (sym same) (omega (arith, le, few));
  refused = tt;
  alike = tt;
  spared = tt;
  only = steps.only;
  rest = steps.rest;
  cause = steps.cause;
}
first_call stem want d e changes (Err fault) after late sound finds few steps same none = record {
  answer = pair_fault fault steps.answer;
  exact = λ value may. by_fault fault (steps.exact value (begun stem value want d changes sound finds may));
  goes = λ value may. let gone = steps.goes value (begun stem value want d changes sound finds may) in record { leaves = gone.leaves; stage = tt };
  room = λ value may tells. tt;
  made = λ changes is. absurd (cc is);
  passed = λ changes is. absurd (cc is);
  stage = subst (IsStageOf stem) (sym none) tt;
  over = tt;
  stands = λ value may. tt;
  fewer = tt;
  refused = none;
  alike = steps.alike;
  spared = steps.spared;
  only = steps.only;
  rest = tt;
  cause = steps.cause;
}
  where
    pair_fault : (x : DevError) → PairAnswers {T = Bool} stem want (Some changes) d (Err x) → PairAnswers {T = Bool} stem want None d (Err x)
    pair_fault Failed a = tt
    pair_fault Full a = a
    pair_fault NoFile a = absurd a
    pair_fault Range a = absurd a
    pair_fault Memory a = tt

    by_fault : (x : DevError) → StepAnswers {T = Bool} stem want (Some changes) d (Err x) → StepAnswers {T = Bool} stem want None d (Err x)
    by_fault Failed a = tt
    by_fault Full a = absurd (first_no_write stem (copy_of want) want d changes finds a.0 a.1)
    by_fault NoFile a = absurd a
    by_fault Range a = absurd a
    by_fault Memory a = tt

-- the first call, from what its parts say
module _ (stem : List ℕ) (want : PairValue) (short_stem : length stem ≤ 158) (short : length want.body ≤ 1048572) (above : 1 ≤ want.version) (fits : want.version < 2 ^ 32)
    (d : DeviceState) (sound : IsSound d) (changes : List Change) (stage fresh : Option (List Change)) (is_new : stage ≡ None) (is_begun : fresh ≡ Some changes) (few : left fresh < 2 ^ 64)
    (finds : Finds stem (copy_of want) want d changes) where
  pub first_may : MayStep fresh (pair_body want)
  first_may = subst (λ (x : Option (List Change)). MayStep x (pair_body want)) (sym is_begun) (may_step stem want short_stem short changes (found_of stem want d changes finds))

  pub first_ok : (e : DeviceState) (after : Option (List Change)) (over : Bool) → StepMade {T = Unit {0}} fresh (pair_body want) (Ok (tt {0})) d e → after ≡ passed fresh → over ≡ is_over after → StepsPair stem want (Ok over) stage after d e
  first_ok e after over made after_is over_is = subst (λ (x : Option (List Change)). StepsPair stem want (Ok over) x after d e) (sym is_new)
      (first_call stem want d e changes (Ok over) after after sound finds (subst (λ (x : Option (List Change)). left x < 2 ^ 64) is_begun few)
      (steps_ok stem want above fits d e sound changes after over (after_is ∙ ap passed is_begun) over_is (found_of stem want d changes finds) (subst (λ (x : Option (List Change)). StepMade {T = Unit {0}} x (pair_body want) (Ok (tt {0})) d e) is_begun made)) refl tt)

  pub first_err : (e : DeviceState) (fault : DevError) → StepMade {T = Unit {0}} fresh (pair_body want) (Err fault) d e → StepsPair stem want (Err fault) stage stage d e
  first_err e fault made = subst (λ (x : Option (List Change)). StepsPair stem want (Err fault) x x d e) (sym is_new)
      (first_call stem want d e changes (Err fault) (Some changes) None sound finds (subst (λ (x : Option (List Change)). left x < 2 ^ 64) is_begun few)
      (steps_err stem want above fits d e sound changes (Some changes) fault refl (found_of stem want d changes finds) (subst (λ (x : Option (List Change)). StepMade {T = Unit {0}} x (pair_body want) (Err fault) d e) is_begun made)) tt refl)

-- a later call, from what its parts say
module _ (stem : List ℕ) (want : PairValue) (short_stem : length stem ≤ 158) (short : length want.body ≤ 1048572) (above : 1 ≤ want.version) (fits : want.version < 2 ^ 32)
    (d : DeviceState) (sound : IsSound d) where
  pub later_may : (stage : Option (List Change)) → is_none stage ≡ false → IsStageOf stem stage → MayStep stage (pair_body want)
  later_may None some entry = absurd (cc some)
  later_may (Some changes) some entry = may_step stem want short_stem short changes entry

  pub later_ok : (stage : Option (List Change)) → is_none stage ≡ false → IsStageOf stem stage → (e : DeviceState) (after : Option (List Change)) (over : Bool) → StepMade {T = Unit {0}} stage (pair_body want) (Ok (tt {0})) d e → after ≡ passed stage → over ≡ is_over after → StepsPair stem want (Ok over) stage after d e
  later_ok None some entry e after over made after_is over_is = absurd (cc some)
  later_ok (Some changes) some entry e after over made after_is over_is = steps_ok stem want above fits d e sound changes after over after_is over_is entry made

  pub later_err : (stage : Option (List Change)) → is_none stage ≡ false → IsStageOf stem stage → (e : DeviceState) (after : Option (List Change)) (fault : DevError) → StepMade {T = Unit {0}} stage (pair_body want) (Err fault) d e → after ≡ stage → StepsPair stem want (Err fault) stage after d e
  later_err None some entry e after fault made same = absurd (cc some)
  later_err (Some changes) some entry e after fault made same = steps_err stem want above fits d e sound changes after fault same entry made

-- a call that changes nothing but the count of faults, before the way has begun
pub unbegun : (X : Type 0) (stem : List ℕ) (want : PairValue) (d e : DeviceState) (stage : Option (List Change)) (fault : DevError) → is_none stage ≡ true → IsUnchanged d e → NamesAnswers {T = X} (Err fault) → HasDeviceCause {T = X} d e (Err fault) → StepsPair stem want (Err fault) stage stage d e
unbegun X stem want d e (Some changes) fault none same answer cause = absurd (cc none)
unbegun X stem want d e None fault none same answer cause = record {
  answer = pair_fault fault answer;
  exact = λ value may. by_fault fault answer;
  goes = λ value may. record { leaves = λ tells. leaves value may tells; stage = tt };
  room = λ value may tells. tt;
  made = λ changes is. absurd (cc is);
  passed = λ changes is. absurd (cc is);
  stage = tt;
  over = tt;
  stands = λ value may. tt;
  fewer = tt;
  refused = refl;
  alike = unchanged_alike d e same;
  spared = unchanged_spared {T = Bool} d e (Err fault) same (by_cause fault cause);
  only = unchanged_pair stem d e same;
  rest = tt;
  cause = by_cause fault cause;
}
  where
    by_cause : (x : DevError) → HasDeviceCause {T = X} d e (Err x) → HasDeviceCause {T = Bool} d e (Err x)
    by_cause Failed a = a
    by_cause Full a = a
    by_cause NoFile a = a
    by_cause Range a = a
    by_cause Memory a = a

    pair_fault : (x : DevError) → NamesAnswers {T = X} (Err x) → PairAnswers {T = Bool} stem want None d (Err x)
    pair_fault Failed a = tt
    pair_fault Full a = absurd a
    pair_fault NoFile a = absurd a
    pair_fault Range a = absurd a
    pair_fault Memory a = tt

    by_fault : (x : DevError) → NamesAnswers {T = X} (Err x) → StepAnswers {T = Bool} stem want None d (Err x)
    by_fault Failed a = tt
    by_fault Full a = absurd a
    by_fault NoFile a = absurd a
    by_fault Range a = absurd a
    by_fault Memory a = tt

    leaves : (value : Option PairValue) → (d.tells ≡ true → MayBegin stem value want d) → e.tells ≡ true → PairLeaves stem e (IsOldOrWanted value want)
    leaves value may tells = subst (λ (s : DeviceState). PairLeaves stem s (IsOldOrWanted value want)) (sym same) (λ zero one left right. inl ((may (ap (λ (s : DeviceState). s.tells) (sym same) ∙ tells)).leaves zero one left right))

-- a call that begins after calls that changed nothing
pub after_calls : (stem : List ℕ) (want : PairValue) (c d e : DeviceState) (result : Result Bool DevError) (before after : Option (List Change)) → IsUnchanged c d → d.faults ≡ c.faults → StepsPair stem want result before after d e → StepsPair stem want result before after c e
after_calls stem want c d e result before after same faults steps = subst (λ (s : DeviceState). StepsPair stem want result before after s e) (same ∙ ap (λ (n : ℕ). record c { faults = n }) faults) steps
