-- The mark, of what was stored and the entries.
use Rattle.std.proofs.Common.{◌≡◌, ◌∙◌, true, sym, ap, subst, Option, List}
use Rattle.std.specs.Prelude.{Err}
use Rattle.scr_base.specs.Index.{marked}
use Rattle.scr_base.specs.declared.shape.DataId.{DataId}
use Rattle.node_device.specs.DeviceState.{DeviceState, IsUnchanged}
use Rattle.node_device.specs.Answers.{HasDeviceCause, NamesAnswers}
use Rattle.node_device.specs.declared.device.DevError.{DevError}
use Rattle.prefix_index.specs.Entries.{AreEntries}
use Rattle.prefix_index.specs.Marks.{stored_mark, flushed_ids}
use Rattle.prefix_index.specs.Answers.{index_fault}
use Rattle.prefix_index.specs.Calls.{TellsMark, IsMark}
use Rattle.prefix_index.specs.declared.entry.Entry.{Entry}
use Rattle.prefix_index.specs.declared.error.IndexError.{IndexError}
use Rattle.prefix_index.proofs.Told.{fault_cause, reading_fault}

pub mark_refused : (T : Type 0) (old new : DeviceState) (fault : DevError) (told : IndexError) → NamesAnswers {T = T} (Err fault) → IsUnchanged old new → HasDeviceCause {T = T} old new (Err fault) → told ≡ index_fault new fault → TellsMark (Err told) old new
mark_refused T old new fault told answer same cause is = subst (λ (e : IndexError). TellsMark (Err e) old new) (sym is) (record {
  answer = reading_fault T (Option DataId) new fault answer;
  mark = λ tells. tt;
  same = same;
  cause = fault_cause T (Option DataId) old new fault cause;
})

pub is_mark : (old mid : DeviceState) (stored which : Option DataId) (entries slice : List Entry) → mid ≡ old → old.tells ≡ true → stored ≡ stored_mark old → (mid.tells ≡ true → AreEntries mid entries) → slice ≡ entries → which ≡ marked stored (flushed_ids slice) → IsMark old which
is_mark old mid stored which entries slice same tells is_stored all is marks = record {
  entries = entries;
  all = subst (λ (d : DeviceState). AreEntries d entries) same (all (ap (λ (d : DeviceState). d.tells) same ∙ tells));
  mark = marks ∙ ap (λ (l : List Entry). marked stored (flushed_ids l)) is ∙ ap (λ (o : Option DataId). marked o (flushed_ids entries)) is_stored;
}
