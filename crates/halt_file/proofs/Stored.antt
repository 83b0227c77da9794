-- A step of a pair, as a step of storing conditions.
use Rattle.std.proofs.Common.{◌≡◌, Bool, List, ℕ, Option, None, Some, Result, Ok, Err, refl, sym, ap, subst, ◌∙◌, inl, inr}
use Rattle.std.specs.Prelude.{◌⊎◌, codes}
use Rattle.scr_base.specs.Halt.{Halt}
use Rattle.scr_base.specs.declared.change.Change.{Change}
use Rattle.node_device.specs.File.{IsAtRest}
use Rattle.node_device.specs.Outcomes.{rest_leaves}
use Rattle.node_device.specs.DeviceState.{DeviceState, IsSound}
use Rattle.node_device.specs.declared.device.DevError.{DevError}
use Rattle.node_device.specs.declared.device.DevError.TheVariants.{Memory}
use Rattle.gated_record.specs.Pair.{copy_name, newer, pair_now, value_in, MayFollow}
use Rattle.gated_record.specs.PairStages.{IsOldOrWanted, IsStageOf}
use Rattle.gated_record.specs.PairSteps.{PairStands}
use Rattle.gated_record.specs.PairNext.{following, GoesOn, StepsNext}
use Rattle.gated_record.specs.declared.pair.PairValue.{PairValue}
use Rattle.gated_record.proofs.PairSteps.{stands_leaves}
use Rattle.gated_record.proofs.PairNext.{now_is, unstepped}
use Rattle.halt_file.specs.Payloads.{IsHalt, halt_payload}
use Rattle.halt_file.specs.Stores.{halt_in, halt_now, HaltLeaves, IsStoring, StoresOn, StoresHalt}
use Rattle.halt_file.proofs.Told.{halt_again}

-- what the wanted value tells
wanted_tells : (value : Option PairValue) (want : Halt) → IsHalt want → halt_in (Some (following value (halt_payload want))) ≡ want
wanted_tells value want fits = halt_again want fits

either_tells : (value : Option PairValue) (want : Halt) → IsHalt want → (left : Option PairValue) → IsOldOrWanted value (following value (halt_payload want)) left → (halt_in left ≡ halt_in value) ⊎ (halt_in left ≡ want)
either_tells value want fits left (inl is) = inl (ap halt_in is)
either_tells value want fits left (inr is) = inr (ap halt_in is ∙ wanted_tells value want fits)

module _ (value : Option PairValue) (want : Halt) (fits : IsHalt want) (e : DeviceState) where
  stands_stays : PairStands (codes "halt") (following value (halt_payload want)) e → HaltLeaves e (λ h. h ≡ want)
  stands_stays stands = λ zero one left right. ap halt_in (stands_leaves (codes "halt") value (following value (halt_payload want)) e stands zero one left right) ∙ wanted_tells value want fits

  stands_tells : IsSound e → PairStands (codes "halt") (following value (halt_payload want)) e → halt_now e ≡ want
  stands_tells sound stands = ap halt_in (now_is (codes "halt") e (Some (following value (halt_payload want))) sound (stands_leaves (codes "halt") value (following value (halt_payload want)) e stands)) ∙ wanted_tells value want fits

  stores_on : (result : Result Bool DevError) (before after : Option (List Change)) (d : DeviceState) → IsSound e → GoesOn (codes "halt") value (halt_payload want) result before after d e → StoresOn value want result before after d e
  stores_on (Ok over) before after d sound goes = record {
    pair = goes;
    leaves = λ zero one left right. either_tells value want fits _ (goes.leaves zero one left right);
    tells = λ is. stands_tells sound (goes.stands is);
    stays = λ is. stands_stays (goes.stands is);
  }
  stores_on (Err fault) before after d sound goes = record {
    pair = goes;
    leaves = λ zero one left right. either_tells value want fits _ (goes.leaves zero one left right);
    tells = tt;
    stays = tt;
  }

pub stores : (want : Halt) (payload : List ℕ) (result : Result Bool DevError) (before after : Option (List Change)) (d e : DeviceState) → IsHalt want → payload ≡ halt_payload want → IsSound e → StepsNext (codes "halt") payload result before after d e → StoresHalt want result before after d e
stores want payload result before after d e fits is sound steps =
    let step : StepsNext (codes "halt") (halt_payload want) result before after d e = subst (λ (p : List ℕ). StepsNext (codes "halt") p result before after d e) is steps in record {
      answer = step.answer;
      full = step.full;
      stores = λ tells value stage. stores_on value want fits e result before after d sound (step.goes_on tells value stage);
      stage = step.stage;
      over = step.over;
      fewer = step.fewer;
      refused = step.refused;
      alike = step.alike;
      only = step.only;
      rest = step.rest;
      cause = step.cause;
    }

-- a call that found no memory for the payload
pub unstored : (want : Halt) (d : DeviceState) (stage : Option (List Change)) (fault : DevError) → IsHalt want → IsSound d → fault ≡ Memory → IsStageOf (codes "halt") stage → StoresHalt want (Err fault) stage stage d d
unstored want d stage fault fits sound is of_pair =
    let found : StepsNext (codes "halt") (halt_payload want) (Err Memory) stage stage d d = unstepped Bool (codes "halt") (halt_payload want) d d stage Memory sound of_pair refl tt refl in
    subst (λ (x : DevError). StoresHalt want (Err x) stage stage d d) (sym is) (stores want (halt_payload want) (Err Memory) stage stage d d fits refl sound found)

-- ## the beginning

follows_any : (value : Option PairValue) (payload : List ℕ) → MayFollow value (following value payload)
follows_any None payload = tt
follows_any (Some old) payload = inr refl

pub begins_at_rest : (d : DeviceState) (want : Halt) → IsAtRest (d.file (copy_name (codes "halt") 0)) → IsAtRest (d.file (copy_name (codes "halt") 1)) → IsStoring (pair_now (codes "halt") d) want d None
begins_at_rest d want zero_rests one_rests = λ tells. record {
  leaves = λ zero one left right.
      ap (λ (o : Option (List ℕ)). newer (value_in 0 o) (value_in 1 one)) (rest_leaves (d.file (copy_name (codes "halt") 0)) zero zero_rests left)
      ∙ ap (λ (o : Option (List ℕ)). newer (value_in 0 (d.file (copy_name (codes "halt") 0)).now) (value_in 1 o)) (rest_leaves (d.file (copy_name (codes "halt") 1)) one one_rests right);
  follows = follows_any (pair_now (codes "halt") d) (halt_payload want);
}
