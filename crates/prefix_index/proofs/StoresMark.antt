-- One call of storing the mark.
use Rattle.std.proofs.Common.{◌≡◌, ◌≢◌, ◌⊎◌, inl, inr, ◌<◌, ◌+◌, ℕ, Bool, true, false, List, Option, Some, None, refl, sym, ◌∙◌, ap, subst, codes, slice_get, arith}
use Rattle.std.specs.Prelude.{Result, Ok, Err}
use Rattle.std.proofs.lemmas.Option.{slice_get_within, slice_get-get_or, get_or_from_slice_get}
use Rattle.scr_base.specs.declared.shape.DataId.{DataId}
use Rattle.scr_base.specs.declared.change.Change.{Change}
use Rattle.node_device.specs.DeviceState.{DeviceState, IsSound, IsUnchanged}
use Rattle.node_device.specs.Answers.{HasDeviceCause, NamesAnswers}
use Rattle.node_device.specs.declared.device.DevError.{DevError}
use Rattle.node_device.specs.declared.device.DevError.TheVariants.{Failed, Full, NoFile, Range, Memory}
use Rattle.gated_record.specs.PairStages.{IsStageOf}
use Rattle.gated_record.specs.PairNext.{StepsNext}
use Rattle.gated_record.proofs.PairNext.{unstepped}
use Rattle.prefix_index.specs.Entries.{AreEntries, HasEntry, IsBefore}
use Rattle.prefix_index.specs.Names.{entry_name}
use Rattle.prefix_index.specs.Marks.{mark_payload, IsSmall}
use Rattle.prefix_index.specs.Answers.{index_fault, index_result, HasIndexCause}
use Rattle.prefix_index.specs.Storing.{NoneIsFlushed, FirstIsFlushed, FindsFlushed, NoneFlushed, IsFlushedAs, StepsMark, UnmarkedAnswers, Unmarked, StepsEntry, MarksEntry}
use Rattle.prefix_index.specs.declared.entry.Entry.{Entry}
use Rattle.prefix_index.specs.declared.error.IndexError.{IndexError}
use Rattle.prefix_index.specs.declared.error.IndexError.TheVariants as index
use Rattle.prefix_index.proofs.Told.{fault_cause, result_cause}
use Rattle.prefix_index.proofs.DropBegins.{never_before, one_way, same_some}

pub none_flushed : (d : DeviceState) (entries : List Entry) (id : ℕ) → AreEntries d entries → NoneIsFlushed entries id → NoneFlushed d id
none_flushed d entries id all none e has is =
    let known = all.every (entry_name e.desc.which) e has in
    none known.0 e (slice_get-get_or entries known.0 e known.1 ∙ ap Some known.2) is

pub first_flushed : (d : DeviceState) (entries : List Entry) (id : ℕ) (which : DataId) → AreEntries d entries → FirstIsFlushed entries id which → IsFlushedAs d id which
first_flushed d entries id which all first = record {
  entry = first.entry;
  there = subst (HasEntry d) (get_or_from_slice_get entries first.place first.entry first.entry first.at) (all.read first.place first.entry (slice_get_within entries first.place first.entry first.at));
  is = first.is;
  has = first.has;
  flushed = first.flushed;
  first = λ other has same flushed.
      let known = all.every (entry_name other.desc.which) other has in
      let at = slice_get-get_or entries known.0 other known.1 ∙ ap Some known.2 in
      pick known.0 other at same flushed (split known.0 first.place);
} where
  split : (u v : ℕ) → (u < v) ⊎ (u ≡ v) ⊎ (v < u)
  split u v = grind arith

  pick : (k : ℕ) (other : Entry) → slice_get entries k ≡ Some other → other.desc.which.id ≡ id → other.failed ≡ false → (k < first.place) ⊎ (k ≡ first.place) ⊎ (first.place < k) → ¬ IsBefore other first.entry
  pick k other at same flushed (inl below) = absurd (let failed = first.before k other below at same in cc (failed, flushed))
  pick k other at same flushed (inr (inl here)) = λ before. never_before first.entry (subst (λ (x : Entry). IsBefore x first.entry) (same_some other first.entry (sym at ∙ ap (slice_get entries) here ∙ first.at)) before)
  pick k other at same flushed (inr (inr above)) = one_way first.entry other (all.ascending first.place k first.entry other above first.at at)

pub found_flushed : (d : DeviceState) (entries : List Entry) (id : ℕ) (found : Option DataId) → AreEntries d entries → Rattle.std.specs.Prelude.MatchOption found (NoneIsFlushed entries id) (FirstIsFlushed entries id) → FindsFlushed id d found
found_flushed d entries id None all is = none_flushed d entries id all is
found_flushed d entries id (Some which) all is = first_flushed d entries id which all is

-- what was found is sought in the pair `cur`
pub marks : (id : ℕ) (which : DataId) (result : Result Bool IndexError) (before after : Option (List Change)) (old d new : DeviceState) → d ≡ old → (old.tells ≡ true → IsFlushedAs old id which) → StepsMark which result before after d new → MarksEntry id result before after old new
marks id which result before after old d new back flushed step = inl (record {
  which = which;
  flushed = flushed;
  step = subst (λ (s : DeviceState). StepsMark which result before after s new) back step;
  cause = subst (λ (s : DeviceState). HasIndexCause {T = Bool} s new result) back (subst (λ (r : Result Bool IndexError). HasIndexCause d new r) (sym step.is) (result_cause d new step.told step.steps.cause));
})

at_reading : (id : ℕ) (d : DeviceState) (e : DeviceState) (T : Type 0) (fault : DevError) → NamesAnswers {T = T} (Err fault) → UnmarkedAnswers id d (Err (index_fault e fault))
at_reading id d e T Failed answer = tt
at_reading id d e T Full answer = absurd answer
at_reading id d e T NoFile answer = absurd answer
at_reading id d e T Range answer = absurd answer
at_reading id d e T Memory answer = tt

pub unread : (id : ℕ) (stage : Option (List Change)) (d e : DeviceState) (T : Type 0) (fault : DevError) → NamesAnswers {T = T} (Err fault) → HasDeviceCause {T = T} d e (Err fault) → IsUnchanged d e → MarksEntry id (Err (index_fault e fault)) stage stage d e
unread id stage d e T fault answer cause same = inr (record { answer = at_reading id d e T fault answer; stage = refl; same = same; cause = fault_cause T Bool d e fault cause })

pub no_entry : (id : ℕ) (stage : Option (List Change)) (d e : DeviceState) → (d.tells ≡ true → NoneFlushed d id) → e.faults ≡ d.faults → IsUnchanged d e → MarksEntry id (Err index.NoEntry) stage stage d e
no_entry id stage d e none calm same = inr (record { answer = none; stage = refl; same = same; cause = calm })

pub told_step : (which : DataId) (told : Result Bool DevError) (result : Result Bool IndexError) (before after : Option (List Change)) (old new : DeviceState) → IsSmall which → result ≡ index_result new told → StepsNext (codes "cur") (mark_payload which) told before after old new → StepsMark which result before after old new
told_step which told result before after old new small is steps = record { small = small; told = told; is = is; steps = steps }

pub spelled_step : (which : DataId) (payload : List ℕ) (told : Result Bool DevError) (before after : Option (List Change)) (old new : DeviceState) → payload ≡ mark_payload which → StepsNext (codes "cur") payload told before after old new → StepsNext (codes "cur") (mark_payload which) told before after old new
spelled_step which payload told before after old new is steps = subst (λ (p : List ℕ). StepsNext (codes "cur") p told before after old new) is steps

-- a call that found no memory for the payload
pub unspelled : (which : DataId) (d : DeviceState) (stage : Option (List Change)) (fault : DevError) → IsSound d → fault ≡ Memory → IsStageOf (codes "cur") stage → StepsNext (codes "cur") (mark_payload which) (Err fault) stage stage d d
unspelled which d stage fault sound is of_pair =
    subst (λ (x : DevError). StepsNext (codes "cur") (mark_payload which) (Err x) stage stage d d) (sym is) (unstepped Bool (codes "cur") (mark_payload which) d d stage Memory sound of_pair refl tt refl)
