-- A body that is added, or refused.
use Rattle.std.proofs.Common.{◌≡◌, ◌+◌, ℕ, List, Some, length, refl, sym, ap, ◌∙◌, subst}
use Rattle.std.specs.Prelude.{true, Result, Ok, Err, OnOk, OnErr}
use Rattle.std.proofs.lemmas.Option.{slice_get_within, slice_get-get_or, get_or_from_slice_get}
use Rattle.scr_base.specs.declared.shape.DataId.{DataId}
use Rattle.node_device.specs.DeviceState.{DeviceState, IsUnchanged}
use Rattle.node_device.specs.Answers.{HasDeviceCause, NamesAnswers}
use Rattle.node_device.specs.declared.device.DevError.{DevError}
use Rattle.node_device.specs.declared.device.DevError.TheVariants.{Failed, Full, NoFile, Range, Memory}
use Rattle.gated_record.specs.Record.{HasShutGates}
use Rattle.gated_record.specs.Calls.{WritesBody}
use Rattle.dataset_desc.specs.declared.desc.Desc.{Desc}
use Rattle.filemap.specs.declared.rows.FileRow.{FileRow}
use Rattle.prefix_index.specs.Names.{entry_name}
use Rattle.prefix_index.specs.Entries.{AreEntries, HasEntry, entry_body}
use Rattle.prefix_index.specs.Listing.{NoneHasName, OneHasName}
use Rattle.prefix_index.specs.Answers.{index_fault, index_result, HasIndexCause}
use Rattle.prefix_index.specs.Calls.{TakesName, IsNameFree, AddAnswers, AddsBody}
use Rattle.prefix_index.specs.declared.entry.Entry.{Entry}
use Rattle.prefix_index.specs.declared.error.IndexError.{IndexError}
use Rattle.prefix_index.specs.declared.error.IndexError.TheVariants as index
use Rattle.prefix_index.proofs.Told.{fault_cause, result_cause, unchanged_reads, unchanged_only, unchanged_file, unchanged_torn}

pub name_free : (d : DeviceState) (entries : List Entry) (name : List ℕ) → AreEntries d entries → NoneHasName entries name → IsNameFree d name
name_free d entries name all none e has =
    let known = all.every (entry_name e.desc.which) e has in
    none known.0 e (slice_get-get_or entries known.0 e known.1 ∙ ap Some known.2)

pub name_taken : (d : DeviceState) (entries : List Entry) (name : List ℕ) (which : DataId) → AreEntries d entries → OneHasName entries name which → TakesName d name which
name_taken d entries name which all one = record {
  entry = one.1;
  there = subst (HasEntry d) (get_or_from_slice_get entries one.0 one.1 one.1 one.2) (all.read one.0 one.1 (slice_get_within entries one.0 one.1 one.2));
  named = one.3;
  is = one.4;
}

module _ (T : Type 0) (desc : Desc) (files : List (List FileRow)) (old new : DeviceState) where
  -- nothing was changed, and this is why
  stays : (fault : IndexError) → AddAnswers {T = T} desc files old new (Err fault) → HasIndexCause {T = T} old new (Err fault) → IsUnchanged old new → AddsBody {T = T} desc files (Err fault) old new
  stays fault answer cause same = record {
    answer = answer;
    whole = λ tells. tt;
    len = tt;
    shut = λ shut. subst HasShutGates (sym (unchanged_file (entry_name desc.which) old new same)) shut;
    torn = unchanged_torn 8 (8 + length (entry_body desc files)) (entry_name desc.which) old new same;
    refused = unchanged_reads old new same;
    only = unchanged_only (entry_name desc.which) old new same;
    cause = cause;
  }

  at_reading : (S : Type 0) (fault : DevError) → NamesAnswers {T = S} (Err fault) → AddAnswers {T = T} desc files old new (Err (index_fault new fault))
  at_reading S Failed answer = tt
  at_reading S Full answer = absurd answer
  at_reading S NoFile answer = absurd answer
  at_reading S Range answer = absurd answer
  at_reading S Memory answer = tt

  pub unread : (S : Type 0) (fault : DevError) → NamesAnswers {T = S} (Err fault) → HasDeviceCause {T = S} old new (Err fault) → IsUnchanged old new → AddsBody {T = T} desc files (Err (index_fault new fault)) old new
  unread S fault answer cause same = stays (index_fault new fault) (at_reading S fault answer) (fault_cause S T old new fault cause) same

  pub taken : (which : DataId) → (old.tells ≡ true → TakesName old desc.name which) → new ≡ old → AddsBody {T = T} desc files (Err (index.NameTaken which)) old new
  taken which takes same = stays (index.NameTaken which) takes (ap (λ (d : DeviceState). d.faults) same) (subst (λ (d : DeviceState). IsUnchanged old d) (sym same) refl)

  at_writing : (told : Result T DevError) → (old.tells ≡ true → IsNameFree old desc.name) → WritesBody (entry_name desc.which) (entry_body desc files) told old new → AddAnswers desc files old new (index_result new told)
  at_writing (Ok x) free writes = (free, writes.answer)
  at_writing (Err Failed) free writes = tt
  at_writing (Err Full) free writes = (free, writes.answer, refl, refl)
  at_writing (Err NoFile) free writes = absurd writes.answer
  at_writing (Err Range) free writes = absurd writes.answer
  at_writing (Err Memory) free writes = tt

  on_ok : (P : Type 0) (told : Result T DevError) → OnOk told P → OnOk (index_result new told) P
  on_ok P (Ok x) p = p
  on_ok P (Err fault) p = tt

  on_err : (P : Type 0) (told : Result T DevError) → OnErr told P → OnErr (index_result new told) P
  on_err P (Ok x) p = tt
  on_err P (Err fault) p = p

  pub wrote : (told : Result T DevError) (result : Result T IndexError) → result ≡ index_result new told → (old.tells ≡ true → IsNameFree old desc.name) → WritesBody (entry_name desc.which) (entry_body desc files) told old new → AddsBody desc files result old new
  wrote told result is free writes = subst (λ (r : Result T IndexError). AddsBody desc files r old new) (sym is) (record {
    answer = at_writing told free writes;
    whole = λ tells. on_ok _ told (writes.whole tells);
    len = on_ok _ told writes.len;
    shut = writes.shut;
    torn = writes.torn;
    refused = on_err _ told writes.refused;
    only = writes.only;
    cause = result_cause old new told writes.cause;
  })
