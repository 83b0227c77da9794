-- A command on its way: the conditions are stored step by step.
use Rattle.std.proofs.Common.{◌≡◌, inl, inr, ◌<◌, ◌+◌, ◌-◌, ℕ, zero, suc, Bool, true, false, List, [], ◌∷◌, Option, None, Some, refl, sym, ap, subst, ◌∙◌, arith}
use Rattle.std.specs.Prelude.{◌⊎◌, Result, Ok, Err, IsErr, codes, length}
use Rattle.scr_base.specs.Causes.{Rose}
use Rattle.scr_base.specs.Halt.{Halt}
use Rattle.scr_base.specs.Stages.{next_of, is_over}
use Rattle.scr_base.specs.declared.change.Change.{Change}
use Rattle.scr_base.specs.declared.change.Change.TheVariants.{Write}
use Rattle.scr_base.specs.declared.content.HaltWord.{HaltWord}
use Rattle.scr_base.specs.declared.memory.Memory.{Memory as WantOfMemory}
use Rattle.node_device.specs.File.{IsAtRest}
use Rattle.node_device.specs.DeviceState.{DeviceState, IsSound, IsUnchanged, used_of}
use Rattle.node_device.specs.Answers.{HasDeviceCause, NamesAnswers, Passes}
use Rattle.node_device.specs.declared.device.DevError.{DevError}
use Rattle.node_device.specs.declared.device.DevError.TheVariants.{Failed, Full, NoFile, Range, Memory}
use Rattle.gated_record.specs.Frames.{ChangesPair, KeepsLengths}
use Rattle.gated_record.specs.Pair.{copy_name, copy_of, pair_now, pair_body}
use Rattle.gated_record.specs.PairStages.{IsStageOf, IsToWrite}
use Rattle.gated_record.specs.PairSteps.{PairStands}
use Rattle.gated_record.specs.PairNext.{following}
use Rattle.gated_record.specs.declared.pair.PairValue.{PairValue}
use Rattle.gated_record.proofs.PairRooms.{next_copy}
use Rattle.gated_record.proofs.PairSteps.{unchanged_pair}
use Rattle.halt_file.specs.Payloads.{halt_payload}
use Rattle.halt_file.specs.Stores.{halt_in, halt_now, HaltLeaves, IsStoring, StoresHalt}
use Rattle.halt_file.proofs.Stored.{begins_at_rest}
use Rattle.admin.specs.Causes.{wanted, next_value, IsReady, BodyPasses, HaltCause, IsRefusal}
use Rattle.admin.specs.Halting.{IsOldOrWanted, Keeps, RestsBeside, SetsHalt}
use Rattle.admin.specs.declared.answer.Answer.{Answer}
use Rattle.admin.specs.declared.answer.Answer.TheVariants as answer
use Rattle.admin.proofs.Frames.{pair_then, used_alike, used_kept, passes_kept, passes_alike}

-- The room that the body has: while it is still to be written, it is that of before; and else it did not pass the capacity.
pub record HasRoom (want : Halt) (stage : Option (List Change)) (old now : DeviceState) : Type 0 where
  pub left : IsToWrite (codes "halt") (next_value want old) now stage → IsToWrite (codes "halt") (next_value want old) old None × KeepsLengths old now
  pub gone : ¬ IsToWrite (codes "halt") (next_value want old) now stage → ¬ BodyPasses want old

-- of a device that was ready: the stage is one of storing where the old value stood, and what stands after the last step
pub record Goes (want : Halt) (stage : Option (List Change)) (over : Bool) (old now : DeviceState) : Type 0 where
  pub storing : IsStoring (pair_now (codes "halt") old) want now stage
  pub leaves : HaltLeaves now (λ halt. (halt ≡ halt_now old) ⊎ (halt ≡ want))
  pub done : over ≡ true → Keeps want now
  pub room : HasRoom want stage old now
  pub fits : over ≡ true → ¬ BodyPasses want old

-- the conditions are on their way to the device
pub record IsOnWay (word : Option HaltWord) (want : Halt) (stage : Option (List Change)) (over : Bool) (old now : DeviceState) : Type 0 where
  pub want_is : old.tells ≡ true → want ≡ wanted word old
  pub only : ChangesPair (codes "halt") old now
  pub calm : now.faults ≡ old.faults
  pub stage_is : IsStageOf (codes "halt") stage
  pub rest : RestsBeside old now
  pub goes : IsReady old → Goes want stage over old now

-- ## the beginning

begins_leaving : (d : DeviceState) (want : Halt) → IsReady d → HaltLeaves d (λ halt. (halt ≡ halt_now d) ⊎ (halt ≡ want))
begins_leaving d want ready = λ zero one left right. inl (ap halt_in ((begins_at_rest d want ready.zero ready.one ready.tells).leaves zero one left right))

begins_on : (word : Option HaltWord) (want : Halt) (d : DeviceState) → (d.tells ≡ true → want ≡ wanted word d) → IsOnWay word want None false d d
begins_on word want d is = record {
  want_is = is;
  only = unchanged_pair (codes "halt") d d refl;
  calm = refl;
  stage_is = tt;
  rest = λ q n0 n1 at_rest. at_rest;
  goes = λ ready. record { storing = begins_at_rest d want ready.zero ready.one; leaves = begins_leaving d want ready; done = λ is. absurd (cc is); room = record { left = λ missing. (missing, λ q. refl); gone = λ no passes. no passes.missing }; fits = λ is. absurd (cc is) };
}

-- a call that found what is wanted left the device as it was
pub begins : (word : Option HaltWord) (want : Halt) (old d : DeviceState) → IsUnchanged old d → d.faults ≡ old.faults → (old.tells ≡ true → want ≡ wanted word old) → IsOnWay word want None false old d
begins word want old d same faults is = subst (λ (s : DeviceState). IsOnWay word want None false old s) (sym (same ∙ ap (λ (n : ℕ). record old { faults = n }) faults)) (begins_on word want old is)

-- ## a step

-- a body that comes next is still to be written, and nothing is where no change is left
comes_next : (value : PairValue) (d : DeviceState) (stage : Option (List Change)) → next_of stage ≡ Some (Write (copy_name (codes "halt") (copy_of value))) → IsToWrite (codes "halt") value d stage
comes_next value d None is = absurd (cc is)
comes_next value d (Some []) is = absurd (cc is)
comes_next value d (Some (change ∷ later)) is = (0, omega arith, let same : change ≡ Write (copy_name (codes "halt") (copy_of value)) = cc is in same)

over_written : (value : PairValue) (d : DeviceState) (stage : Option (List Change)) → is_over stage ≡ true → IsToWrite (codes "halt") value d stage → ⊥
over_written value d None over has = absurd (cc over)
over_written value d (Some []) over has = absurd (omega (arith, has.1))
over_written value d (Some (change ∷ later)) over has = absurd (cc over)

-- both copies are at rest at the end of a way
both_rest : (value : PairValue) (d : DeviceState) → PairStands (codes "halt") value d → IsAtRest (d.file (copy_name (codes "halt") 0)) × IsAtRest (d.file (copy_name (codes "halt") 1))
both_rest value d stands = by_copy (copy_of value) (omega arith) stands.stable stands.other_stable
  where
    by_copy : (copy : ℕ) → copy < 2 → IsAtRest (d.file (copy_name (codes "halt") copy)) → IsAtRest (d.file (copy_name (codes "halt") (1 - copy))) → IsAtRest (d.file (copy_name (codes "halt") 0)) × IsAtRest (d.file (copy_name (codes "halt") 1))
    by_copy zero lt this other = (this, other)
    by_copy (suc zero) lt this other = (other, this)
    by_copy (suc (suc copy)) lt this other = absurd (omega (arith, lt))

module _ (word : Option HaltWord) (want : Halt) (before after : Option (List Change)) (old d e : DeviceState) (way : IsOnWay word want before false old d) where
  -- the body that was to be written is, or its write comes next and passes no capacity
  room_then : (over : Bool) → IsSound old → IsSound d → IsReady old → StoresHalt want (Ok over) before after d e → HasRoom want after old e
  room_then over sound_old sound ready step =
      let on = step.stores (way.only.tells ∙ ready.tells) (pair_now (codes "halt") old) (way.goes ready).storing in
      let was = (way.goes ready).room in
      let own = copy_name (codes "halt") (copy_of (next_value want old)) in record {
        left = λ still.
            let both = on.pair.room.left still in
            let before = was.left both.0 in
            (before.0, λ q. both.1 q ∙ before.1 q);
        gone = λ no passes. elim (on.pair.room.gone no) [
          | inl none ↦ was.gone none passes
          | inr next ↦
              let lengths = (was.left (comes_next (next_value want old) d before next)).1 in
              on.pair.exact own next (passes_kept old d lengths (used_kept old d sound_old sound lengths) way.only.capacity own 8 (8 + length (pair_body (next_value want old))) passes.passes)
        ];
      }

  pub stepped : (over : Bool) → IsSound old → IsSound d → StoresHalt want (Ok over) before after d e → IsOnWay word want after over old e
  stepped over sound_old sound step = record {
    want_is = way.want_is;
    only = pair_then (codes "halt") old d e way.only step.only;
    calm = step.cause ∙ way.calm;
    stage_is = step.stage;
    rest = λ q n0 n1 at_rest. step.rest q n0 n1 (way.rest q n0 n1 at_rest);
    goes = λ ready.
        let on = step.stores (way.only.tells ∙ ready.tells) (pair_now (codes "halt") old) (way.goes ready).storing in record {
          storing = on.pair.stage;
          leaves = on.leaves;
          done = λ is. let rests = both_rest (following (pair_now (codes "halt") old) (halt_payload want)) e (on.pair.stands is) in record { tells = on.tells is; stays = on.stays is; zero = rests.0; one = rests.1 };
          room = room_then over sound_old sound ready step;
          fits = λ is. (room_then over sound_old sound ready step).gone (over_written (next_value want old) e after (sym step.over ∙ is));
        };
  }

-- ## the ends

-- what a stop may leave, in terms of what was wanted
wanted_leaves : (word : Option HaltWord) (want : Halt) (old e : DeviceState) → want ≡ wanted word old → HaltLeaves e (λ halt. (halt ≡ halt_now old) ⊎ (halt ≡ want)) → HaltLeaves e (IsOldOrWanted word old)
wanted_leaves word want old e is leaves = subst (λ (w : Halt). HaltLeaves e (λ halt. (halt ≡ halt_now old) ⊎ (halt ≡ w))) is leaves

-- nothing is left to do
pub finished : (word : Option HaltWord) (want : Halt) (stage : Option (List Change)) (old e : DeviceState) → IsOnWay word want stage true old e → SetsHalt word (Ok answer.Done) old e
finished word want stage old e way = record {
  done = λ ready is. subst (λ (w : Halt). Keeps w e) (way.want_is ready.tells) ((way.goes ready).done refl);
  fits = λ ready is. subst (λ (w : Halt). ¬ BodyPasses w old) (way.want_is ready.tells) ((way.goes ready).fits refl);
  leaves = λ ready. wanted_leaves word want old e (way.want_is ready.tells) (way.goes ready).leaves;
  cause = way.calm;
  only = way.only;
  rest = λ is. way.rest;
}

-- a refusal is another answer than that it was done
not_done : {X : Type 0} (d : DeviceState) (fault : DevError) (result : Result Answer WantOfMemory) → IsRefusal d fault result → result ≡ Ok answer.Done → X
not_done d Failed result is done = absurd (cc (is, done))
not_done d Full result is done = absurd (cc (is, done))
not_done d NoFile result is done = absurd (cc (is, done))
not_done d Range result is done = absurd (cc (is, done))
not_done d Memory result is done = absurd (cc (is, done))

-- want of memory, with the count as it was
memory_cause : (word : Option HaltWord) (old e : DeviceState) (result : Result Answer WantOfMemory) → IsErr result → e.faults ≡ old.faults → HaltCause word old e result
memory_cause word old e (Ok x) is calm = absurd (cc is)
memory_cause word old e (Err x) is calm = calm

fault_cause : (word : Option HaltWord) (old e : DeviceState) (result : Result Answer WantOfMemory) → result ≡ Ok (answer.Device e.faults) → Rose old.faults e.faults → HaltCause word old e result
fault_cause word old e result is rose = subst (HaltCause word old e) (sym is) (record { now = refl; rose = rose })

module _ (word : Option HaltWord) (want : Halt) (before after : Option (List Change)) (old d e : DeviceState) (way : IsOnWay word want before false old d) where
  -- the body that passes the capacity is that of the next version, in its copy
  own_next : (stage : Option (List Change)) (name : List ℕ) → IsStoring (pair_now (codes "halt") old) want d stage → next_of stage ≡ Some (Write name) → name ≡ copy_name (codes "halt") (copy_of (next_value want old))
  own_next None name storing is = absurd (cc is)
  own_next (Some changes) name storing is = next_copy (codes "halt") (pair_now (codes "halt") old) (next_value want old) d d changes storing.0 name is

  -- and it passed it before
  body_passed : IsSound old → IsSound d → IsReady old → StoresHalt want (Err Full) before after d e → BodyPasses want old × KeepsLengths old d
  body_passed sound_old sound ready step =
      let goes = way.goes ready in
      let exact = (step.stores (way.only.tells ∙ ready.tells) (pair_now (codes "halt") old) goes.storing).pair.exact in
      let own = copy_name (codes "halt") (copy_of (next_value want old)) in
      let same : exact.0 ≡ own = own_next before exact.0 goes.storing exact.1 in
      let was = goes.room.left (comes_next (next_value want old) d before (exact.1 ∙ ap (λ (n : List ℕ). Some (Write n)) same)) in
      let body = 8 + length (pair_body (next_value want old)) in (
        record {
          missing = was.0;
          passes = passes_kept d old (λ q. sym (was.1 q)) (sym (used_kept old d sound_old sound was.1)) (sym way.only.capacity) own 8 body
              (subst (λ (n : List ℕ). Passes (d.file n) (used_of d) d.capacity 8 body) same exact.2);
        },
        was.1,
      )

  full_cause : IsSound old → IsSound d → (result : Result Answer WantOfMemory) → result ≡ Ok (answer.Full (used_of e) e.capacity) → StoresHalt want (Err Full) before after d e → HaltCause word old e result
  full_cause sound_old sound result is step = subst (HaltCause word old e) (sym is) (record {
    used_is = refl;
    capacity_is = refl;
    want = want;
    want_is = way.want_is;
    passes = record {
      name = step.answer.0;
      copy = step.answer.1;
      at = step.answer.2;
      count = step.answer.3;
      own = step.answer.5;
      passes = passes_alike d e step.alike step.answer.0 step.answer.2 step.answer.3 step.answer.4;
    };
    body = λ ready. (body_passed sound_old sound ready step).0;
    lengths = λ ready q. (step.alike.files q).len ∙ (body_passed sound_old sound ready step).1 q;
    used_before = λ ready. used_alike d e step.alike ∙ used_kept old d sound_old sound (body_passed sound_old sound ready step).1;
    calm = step.cause ∙ way.calm;
  })

  step_cause : IsSound old → IsSound d → (fault : DevError) (result : Result Answer WantOfMemory) → IsRefusal e fault result → StoresHalt want (Err fault) before after d e → HaltCause word old e result
  step_cause sound_old sound Failed result is step = fault_cause word old e result is (subst (λ (n : ℕ). Rose n e.faults) way.calm step.cause)
  step_cause sound_old sound Full result is step = full_cause sound_old sound result is step
  step_cause sound_old sound NoFile result is step = absurd step.answer
  step_cause sound_old sound Range result is step = absurd step.answer
  step_cause sound_old sound Memory result is step = memory_cause word old e result is (step.cause ∙ way.calm)

  -- the device refused a step
  pub refused : IsSound old → IsSound d → (fault : DevError) (result : Result Answer WantOfMemory) → IsRefusal e fault result → StoresHalt want (Err fault) before after d e → SetsHalt word result old e
  refused sound_old sound fault result is step = record {
    done = λ ready done. not_done e fault result is done;
    fits = λ ready done. not_done e fault result is done;
    leaves = λ ready. wanted_leaves word want old e (way.want_is ready.tells) (step.stores (way.only.tells ∙ ready.tells) (pair_now (codes "halt") old) (way.goes ready).storing).leaves;
    cause = step_cause sound_old sound fault result is step;
    only = pair_then (codes "halt") old d e way.only step.only;
    rest = λ done. not_done e fault result is done;
  }

-- the device refused to tell what stands
module _ (word : Option HaltWord) (old e : DeviceState) (same : IsUnchanged old e) where
  unfound_cause : (T : Type 0) (fault : DevError) (result : Result Answer WantOfMemory) → IsRefusal e fault result → NamesAnswers {T = T} (Err fault) → HasDeviceCause {T = T} old e (Err fault) → HaltCause word old e result
  unfound_cause T Failed result is answer cause = fault_cause word old e result is cause
  unfound_cause T Full result is answer cause = absurd answer
  unfound_cause T NoFile result is answer cause = absurd answer
  unfound_cause T Range result is answer cause = absurd answer
  unfound_cause T Memory result is answer cause = memory_cause word old e result is cause

  pub unfound : (T : Type 0) (fault : DevError) (result : Result Answer WantOfMemory) → IsRefusal e fault result → NamesAnswers {T = T} (Err fault) → HasDeviceCause {T = T} old e (Err fault) → SetsHalt word result old e
  unfound T fault result is answer cause = record {
    done = λ ready done. not_done e fault result is done;
    fits = λ ready done. not_done e fault result is done;
    leaves = λ ready. subst (λ (s : DeviceState). HaltLeaves s (IsOldOrWanted word old)) (sym same) (begins_leaving old (wanted word old) ready);
    cause = unfound_cause T fault result is answer cause;
    only = unchanged_pair (codes "halt") old e same;
    rest = λ done. not_done e fault result is done;
  }
