-- A step to a payload is a step to its value in the next version.
use Rattle.std.proofs.Common.{◌≡◌, ◌<◌, ◌≤◌, ◌+◌, ◌-◌, ◌^◌, ℕ, Bool, true, false, cond, List, [], ◌∷◌, Option, None, Some, refl, sym, ◌∙◌, ap, subst, arith, lit≤, inl}
use Rattle.std.specs.Prelude.{◌==◌, Result, Ok, Err, OnOk, IfOk, IsOk, length}
use Rattle.scr_base.specs.declared.change.Change.{Change}
use Rattle.scr_base.specs.declared.change.Change.TheVariants.{Open, Close, Write, Sync, Remove}
use Rattle.scr_base.specs.Stages.{passed, next_of, is_over}
use Rattle.node_device.specs.File.{File, MayLeave}
use Rattle.node_device.specs.DeviceState.{DeviceState, IsSound, IsUnchanged, used_of}
use Rattle.node_device.specs.Answers.{HasDeviceCause, NamesAnswers, WriteAnswers, SyncAnswers, RemoveAnswers}
use Rattle.node_device.specs.declared.device.DevError.{DevError}
use Rattle.node_device.specs.declared.device.DevError.TheVariants.{Failed, Full, NoFile, Range, Memory}
use Rattle.gated_record.specs.Record.{BodyAnswers}
use Rattle.gated_record.specs.Pair.{value_in, copy_name, pair_body, pair_now, copy_of}
use Rattle.gated_record.specs.PairStages.{PairLeaves, IsOldOrWanted, IsStageOf, Phase, Closing, Filling, Filled, Ready, Opened, Standing, Closed, Over, PhaseHolds, FillingHolds, IsOnWay, IsPairStage, changes_at, value_by}
use Rattle.gated_record.specs.PairSteps.{PairAnswers, NextAnswers, StepAnswers, StepMade, StepsPair, Goes, PairStands, KeepsRoom, bare}
use Rattle.gated_record.specs.PairNext.{version_after, following, IsNextStage, GoesOn, StepsNext}
use Rattle.gated_record.specs.declared.pair.PairValue.{PairValue}
use Rattle.gated_record.proofs.Copies.{by_none}
use Rattle.gated_record.proofs.PairWay.{leaves_by_copies, shut_no_value, below_either, shut_either, standing_either}
use Rattle.gated_record.proofs.PairRooms.{keeps_room}
use Rattle.gated_record.proofs.PairSteps.{answers, step_goes, stands_after, come_either, unchanged_pair, unchanged_alike}
use Rattle.gated_record.proofs.PairBegins.{after_calls}

-- what stands now is what every stop leaves
pub now_is : (stem : List ℕ) (d : DeviceState) (value : Option PairValue) → IsSound d → PairLeaves stem d (λ left. left ≡ value) → pair_now stem d ≡ value
now_is stem d value sound leaves = leaves (d.file (copy_name stem 0)).now (d.file (copy_name stem 1)).now (sound.now_allowed (copy_name stem 0)) (sound.now_allowed (copy_name stem 1))

-- the answer of a step, without its value
step_answer : (stem : List ℕ) (want : PairValue) (stage : Option (List Change)) (d : DeviceState) (result : Result Bool DevError) → StepAnswers stem want stage d (bare result) → StepAnswers stem want stage d result
step_answer stem want stage d (Ok over) a = a
step_answer stem want stage d (Err Failed) a = a
step_answer stem want stage d (Err Full) a = a
step_answer stem want stage d (Err NoFile) a = a
step_answer stem want stage d (Err Range) a = a
step_answer stem want stage d (Err Memory) a = a

module _ (stem payload : List ℕ) (value standing : Option PairValue) (d e : DeviceState) (sound : IsSound d) (tells : d.tells ≡ true) where
  abbrev want : PairValue
  want = following value payload

  abbrev made : PairValue
  made = following standing payload

  -- while the body is to be written, the old value is what every stop leaves
  filling_leaves : (gate : Bool) → FillingHolds (copy_of want) value gate (d.file (copy_name stem (copy_of want))) (d.file (copy_name stem (1 - copy_of want))) → PairLeaves stem d (λ left. left ≡ value)
  filling_leaves gate holds = leaves_by_copies stem (copy_of want) d (λ (left : Option PairValue). left ≡ value) (omega arith) (λ o p left right.
      ap (λ (a : Option PairValue). value_by (copy_of want) a (value_in (1 - copy_of want) p)) (shut_no_value (copy_of want) o (holds.shut.shut o left 0 (omega arith))) ∙ by_none (copy_of want) (value_in (1 - copy_of want) p) ∙ holds.other.before p right)

  -- a change that writes no body is the same whatever is wanted, and one that writes it writes what follows the old value
  module _ (result : Result (Unit {0}) DevError) (is : pair_now stem d ≡ standing) where
    same_made : (phase : Phase) (gate : Bool) → PhaseHolds phase (copy_of want) value want gate (d.file (copy_name stem (copy_of want))) (d.file (copy_name stem (1 - copy_of want)))
        → StepMade (Some (changes_at (copy_name stem (copy_of want)) (copy_name stem (1 - copy_of want)) gate phase)) (pair_body made) result d e → StepMade (Some (changes_at (copy_name stem (copy_of want)) (copy_name stem (1 - copy_of want)) gate phase)) (pair_body want) result d e
    same_made (Closing []) gate holds step = step
    same_made (Closing (k ∷ gates)) gate holds step = step
    same_made Filling gate holds step =
        let same : standing ≡ value = sym is ∙ now_is stem d value sound (filling_leaves gate holds) in
        subst (λ (s : Option PairValue). StepMade (Some (changes_at (copy_name stem (copy_of want)) (copy_name stem (1 - copy_of want)) gate Filling)) (pair_body (following s payload)) result d e) same step
    same_made Filled gate holds step = step
    same_made Ready gate holds step = step
    same_made Opened gate holds step = step
    same_made Standing gate holds step = step
    same_made Closed gate holds step = step
    same_made Over gate holds step = step

    pub made_again : (changes : List Change) → IsOnWay stem (copy_of want) value want d changes → StepMade (Some changes) (pair_body made) result d e → StepMade (Some changes) (pair_body want) result d e
    made_again changes way step =
        subst (λ (cs : List Change). StepMade (Some cs) (pair_body want) result d e) (sym way.changes_are)
        (same_made way.phase way.gate (way.holds tells) (subst (λ (cs : List Change). StepMade (Some cs) (pair_body made) result d e) way.changes_are step))

-- the next version is at least 1
from_one : (value : Option PairValue) → 1 ≤ version_after value
from_one None = lit≤ tt
from_one (Some v) = by_test (v.version == 4294967295)
  where
    by_test : (b : Bool) → 1 ≤ cond b 2 (v.version + 1)
    by_test true = lit≤ tt
    by_test false = omega arith

next_stage : (stem payload : List ℕ) (value : Option PairValue) (e : DeviceState) (result : Result Bool DevError) (after : Option (List Change)) → version_after value < 2 ^ 32 → OnOk result (IsPairStage stem value (following value payload) e after) → OnOk result (IsNextStage stem value payload e after)
next_stage stem payload value e (Ok over) None fits is = is
next_stage stem payload value e (Ok over) (Some changes) fits is = (is, fits)
next_stage stem payload value e (Err fault) after fits is = tt

module _ (stem payload : List ℕ) (value standing : Option PairValue) (d e : DeviceState) (sound : IsSound d) (tells : d.tells ≡ true) (is : pair_now stem d ≡ standing) where
  -- of the first call
  first : (result : Result Bool DevError) (after : Option (List Change)) → version_after standing < 2 ^ 32 → StepsPair stem (following standing payload) result None after d e → IsNextStage stem value payload d None → GoesOn stem value payload result None after d e
  first result after fits steps may =
      let same : standing ≡ value = sym is ∙ now_is stem d value sound (may tells).leaves in
      let step : StepsPair stem (following value payload) result None after d e = subst (λ (s : Option PairValue). StepsPair stem (following s payload) result None after d e) same steps in
      let gone = step.goes value may in record {
        exact = step.exact value may;
        leaves = gone.leaves (step.only.tells ∙ tells);
        stage = next_stage stem payload value e result after (subst (λ (s : Option PairValue). version_after s < 2 ^ 32) same fits) gone.stage;
        room = step.room value may tells;
        stands = told_stands result (step.stands value may);
      }
    where
      told_stands : (r : Result Bool DevError) → IfOk r (λ over. over ≡ true → d.tells ≡ true → PairStands stem (following value payload) e) → IfOk r (λ over. over ≡ true → PairStands stem (following value payload) e)
      told_stands (Ok over) stands = λ is_true. stands is_true tells
      told_stands (Err fault) stands = tt

  -- of a later call
  module _ (changes : List Change) (stage : IsNextStage stem value payload d (Some changes)) where
    gone : (result : Result (Unit {0}) DevError) → StepMade (Some changes) (pair_body (following standing payload)) result d e → Goes stem value (following value payload) result (passed (Some changes)) e
    gone result made = step_goes stem value (following value payload) d e result sound (from_one value) stage.1 changes stage.0 (made_again stem payload value standing d e sound tells result is changes stage.0 made)

    exact : (result : Result (Unit {0}) DevError) → StepMade (Some changes) (pair_body (following standing payload)) result d e → StepAnswers stem (following value payload) (Some changes) d result
    exact result made = answers stem value (following value payload) d e result changes stage.0 (made_again stem payload value standing d e sound tells result is changes stage.0 made)

    later : (result : Result Bool DevError) (after : Option (List Change)) → StepsPair stem (following standing payload) result (Some changes) after d e → GoesOn stem value payload result (Some changes) after d e
    later (Ok over) after steps =
        let went = gone (Ok (tt {0})) (steps.made changes refl) in
        let told : e.tells ≡ true = steps.only.tells ∙ tells in record {
          exact = step_answer stem (following value payload) (Some changes) d (Ok over) (exact (Ok (tt {0})) (steps.made changes refl));
          leaves = went.leaves told;
          stage = next_stage stem payload value e (Ok over) after stage.1 (subst (λ (x : Option (List Change)). IsPairStage stem value (following value payload) e x) (sym (steps.passed changes refl)) went.stage);
          room = subst (λ (x : Option (List Change)). KeepsRoom stem (following value payload) (Some changes) x d e) (sym (steps.passed changes refl))
              (keeps_room stem value (following value payload) d e changes stage.0 (made_again stem payload value standing d e sound tells (Ok (tt {0})) is changes stage.0 (steps.made changes refl)));
          stands = λ is_true. stands_after stem (following value payload) (from_one value) stage.1 value e changes went.stage (ap is_over (sym (steps.passed changes refl)) ∙ sym steps.over ∙ is_true) told;
        }
    later (Err fault) after steps = record {
      exact = step_answer stem (following value payload) (Some changes) d (Err fault) (exact (Err fault) (steps.made changes refl));
      leaves = (gone (Err fault) (steps.made changes refl)).leaves (steps.only.tells ∙ tells);
      stage = tt;
      room = tt;
      stands = tt;
    }

  pub step_goes_on : (result : Result Bool DevError) (before after : Option (List Change)) → version_after standing < 2 ^ 32 → StepsPair stem (following standing payload) result before after d e → IsNextStage stem value payload d before → GoesOn stem value payload result before after d e
  step_goes_on result None after fits steps stage = first result after fits steps stage
  step_goes_on result (Some changes) after fits steps stage = later changes stage result after steps

-- the answer of a change is that of its write
module _ (body : List ℕ) (d e : DeviceState) where
  gate_full : (name : List ℕ) (gate : ℕ) (r : Result Bool DevError) → WriteAnswers (d.file name) (used_of d) d.capacity gate 1 (bare r) → NextAnswers (length body) (Some (Open name gate)) d r
  gate_full name gate (Ok x) a = a.1
  gate_full name gate (Err Failed) a = tt
  gate_full name gate (Err Full) a = a.1
  gate_full name gate (Err NoFile) a = tt
  gate_full name gate (Err Range) a = tt
  gate_full name gate (Err Memory) a = tt

  body_full : (name : List ℕ) (r : Result Bool DevError) → BodyAnswers d name (length body) (bare r) → NextAnswers (length body) (Some (Write name)) d r
  body_full name (Ok x) a = a
  body_full name (Err Failed) a = tt
  body_full name (Err Full) a = a
  body_full name (Err NoFile) a = tt
  body_full name (Err Range) a = tt
  body_full name (Err Memory) a = tt

  sync_full : (r : Result Bool DevError) → SyncAnswers (bare r) → NextAnswers (length body) (Some Sync) d r
  sync_full (Ok x) a = λ passes. passes
  sync_full (Err Failed) a = tt
  sync_full (Err Full) a = a
  sync_full (Err NoFile) a = tt
  sync_full (Err Range) a = tt
  sync_full (Err Memory) a = tt

  remove_full : (name : List ℕ) (r : Result Bool DevError) → RemoveAnswers (d.file name) (bare r) → NextAnswers (length body) (Some (Remove name)) d r
  remove_full name (Ok x) a = λ passes. passes
  remove_full name (Err Failed) a = tt
  remove_full name (Err Full) a = a
  remove_full name (Err NoFile) a = tt
  remove_full name (Err Range) a = tt
  remove_full name (Err Memory) a = tt

  none_full : (r : Result Bool DevError) → IsOk (bare r) → NextAnswers (length body) None d r
  none_full (Ok x) ok = λ passes. passes
  none_full (Err fault) ok = absurd cc

  next_answer : (r : Result Bool DevError) (changes : List Change) → StepMade (Some changes) body (bare r) d e → NextAnswers (length body) (next_of (Some changes)) d r
  next_answer r [] made = none_full r made.1
  next_answer r (Open name gate ∷ later) made = gate_full name gate r made.answer
  next_answer r (Close name gate ∷ later) made = gate_full name gate r made.answer
  next_answer r (Write name ∷ later) made = body_full name r made.answer
  next_answer r (Sync ∷ later) made = sync_full r made.answer
  next_answer r (Remove name ∷ later) made = remove_full name r made.answer

-- a call whose value in the next version was found first
pub stepped : (stem payload : List ℕ) (want : PairValue) (c d e : DeviceState) (result : Result Bool DevError) (before after : Option (List Change)) → IsSound c → IsUnchanged c d → d.faults ≡ c.faults → want.body ≡ payload → want.version < 2 ^ 32
    → (c.tells ≡ true → want ≡ following (pair_now stem c) payload) → StepsPair stem want result before after d e → StepsNext stem payload result before after c e
stepped stem payload want c d e result before after sound same faults body fits found steps =
    let here : StepsPair stem want result before after c e = after_calls stem want c d e result before after same faults steps in record {
      answer = subst (λ (b : List ℕ). PairAnswers stem (record { version = want.version; body = b }) before c result) body here.answer;
      full = λ changes is.
          subst (λ (b : List ℕ). NextAnswers (length (pair_body (record { version = want.version; body = b }))) (next_of before) c result) body
          (subst (λ (s : Option (List Change)). NextAnswers (length (pair_body want)) (next_of s) c result) (sym is) (next_answer (pair_body want) c e result changes (here.made changes is)));
      goes_on = λ tells value stage.
          let is = found tells in
          step_goes_on stem payload value (pair_now stem c) c e sound tells refl result before after (subst (λ (w : PairValue). w.version < 2 ^ 32) is fits) (subst (λ (w : PairValue). StepsPair stem w result before after c e) is here) stage;
      stage = here.stage;
      over = here.over;
      fewer = here.fewer;
      refused = here.refused;
      alike = here.alike;
      only = here.only;
      rest = here.rest;
      cause = here.cause;
    }

-- ## a call that found none

-- what a stop leaves on the way
way_leaves : (stem : List ℕ) (old : Option PairValue) (want : PairValue) (d : DeviceState) (changes : List Change) → d.tells ≡ true → IsOnWay stem (copy_of want) old want d changes → PairLeaves stem d (IsOldOrWanted old want)
way_leaves stem old want d changes tells way = leaves_by_copies stem (copy_of want) d (IsOldOrWanted old want) (omega arith) (by way.phase (way.holds tells))
  where
    f : File
    f = d.file (copy_name stem (copy_of want))

    g : File
    g = d.file (copy_name stem (1 - copy_of want))

    by : (phase : Phase) → PhaseHolds phase (copy_of want) old want way.gate f g → (o p : Option (List ℕ)) → MayLeave f o → MayLeave g p → IsOldOrWanted old want (value_by (copy_of want) (value_in (copy_of want) o) (value_in (1 - copy_of want) p))
    by (Closing gates) holds = below_either (copy_of want) old want f g holds.below holds.other.before
    by Filling holds = shut_either (copy_of want) old want f g holds.shut holds.other.before
    by Filled holds = shut_either (copy_of want) old want f g holds.shut holds.other.before
    by Ready holds = shut_either (copy_of want) old want f g holds.shut holds.other.before
    by Opened holds = holds.either
    by Standing holds = standing_either (copy_of want) old want f g holds.0
    by Closed holds = standing_either (copy_of want) old want f g holds.0
    by Over holds = come_either stem old want d f g holds

stage_leaves : (stem payload : List ℕ) (value : Option PairValue) (d : DeviceState) (stage : Option (List Change)) → d.tells ≡ true → IsNextStage stem value payload d stage → PairLeaves stem d (IsOldOrWanted value (following value payload))
stage_leaves stem payload value d None tells is = λ zero one left right. inl ((is tells).leaves zero one left right)
stage_leaves stem payload value d (Some changes) tells is = way_leaves stem value (following value payload) d changes tells is.0

pub unstepped : (X : Type 0) (stem payload : List ℕ) (c d : DeviceState) (stage : Option (List Change)) (fault : DevError) → IsSound c → IsStageOf stem stage → IsUnchanged c d → NamesAnswers {T = X} (Err fault) → HasDeviceCause {T = X} c d (Err fault) → StepsNext stem payload (Err fault) stage stage c d
unstepped X stem payload c d stage fault sound of_pair same answer cause = record {
  answer = pair_fault fault answer;
  full = λ changes is. next_fault fault answer;
  goes_on = λ tells value is. record { exact = step_fault value fault answer; leaves = subst (λ (s : DeviceState). PairLeaves stem s (IsOldOrWanted value (following value payload))) (sym same) (stage_leaves stem payload value c stage tells is); stage = tt; room = tt; stands = tt };
  stage = of_pair;
  over = tt;
  fewer = tt;
  refused = refl;
  alike = unchanged_alike c d same;
  only = unchanged_pair stem c d same;
  rest = tt;
  cause = by_cause fault cause;
}
  where
    by_cause : (x : DevError) → HasDeviceCause {T = X} c d (Err x) → HasDeviceCause {T = Bool} c d (Err x)
    by_cause Failed a = a
    by_cause Full a = a
    by_cause NoFile a = a
    by_cause Range a = a
    by_cause Memory a = a

    pair_fault : (x : DevError) → NamesAnswers {T = X} (Err x) → PairAnswers {T = Bool} stem (following None payload) stage c (Err x)
    pair_fault Failed a = tt
    pair_fault Full a = absurd a
    pair_fault NoFile a = absurd a
    pair_fault Range a = absurd a
    pair_fault Memory a = tt

    next_fault : (x : DevError) → NamesAnswers {T = X} (Err x) → NextAnswers {T = Bool} (length (pair_body (following None payload))) (next_of stage) c (Err x)
    next_fault Failed a = tt
    next_fault Full a = absurd a
    next_fault NoFile a = tt
    next_fault Range a = tt
    next_fault Memory a = tt

    step_fault : (value : Option PairValue) (x : DevError) → NamesAnswers {T = X} (Err x) → StepAnswers {T = Bool} stem (following value payload) stage c (Err x)
    step_fault value Failed a = tt
    step_fault value Full a = absurd a
    step_fault value NoFile a = absurd a
    step_fault value Range a = absurd a
    step_fault value Memory a = tt
