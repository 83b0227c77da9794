-- What was printed is read again: events, and the lines of a history.
use Rattle.std.proofs.Common.{◌≡◌, ℕ, ◌<◌, ◌^◌, ◌==◌, not, true, List, [], ◌∷◌, ◌++◌, map, Option, Some, None, refl, sym, ap, ◌∙◌, append_assoc, arith, length, decimal, codes}
use Rattle.std.specs.List.{AllByRecursion, join_with_byte}
use Rattle.scr_base.specs.declared.shape.DataId.{DataId}
use Rattle.scr_base.specs.declared.answers.Reply.{Reply}
use Rattle.scr_base.specs.declared.content.HaltWord.{HaltWord}
use Rattle.scr_base.specs.declared.content.HaltWord.TheVariants as halt
use Rattle.scr_base.specs.declared.content.ListRow.{ListRow}
use Rattle.scr_base.specs.declared.content.Step.{Step}
use Rattle.ckpt_model.specs.declared.event.FoundRow.{FoundRow}
use Rattle.ckpt_model.specs.declared.event.EntryRow.{EntryRow}
use Rattle.ckpt_model.specs.declared.event.GivenUpCause.{GivenUpCause}
use Rattle.ckpt_model.specs.declared.event.GivenUpCause.TheVariants as given_up
use Rattle.ckpt_model.specs.declared.event.CommandAnswer.{CommandAnswer}
use Rattle.ckpt_model.specs.declared.event.CommandAnswer.TheVariants as answer
use Rattle.ckpt_model.specs.declared.event.Kind.{Kind}
use Rattle.ckpt_model.specs.declared.event.IndexNote.{IndexNote}
use Rattle.ckpt_model.specs.declared.event.IndexNote.TheVariants as note
use Rattle.ckpt_model.specs.declared.event.ScavAnswer.{ScavAnswer}
use Rattle.ckpt_model.specs.declared.event.ScavAnswer.TheVariants as scavenged
use Rattle.ckpt_model.specs.declared.event.Event.{Event}
use Rattle.ckpt_model.specs.declared.event.Event.TheVariants as event
use Rattle.ckpt_model.specs.Text.{text_of, answer_text, cause_text, device_text, entry_word, found_word, full_text, given_up_text, halt_text, id_text, kind_text, list_text, note_text, reply_text, scavenged_text, step_text}
use Rattle.history_reader.specs.Pieces.{each_after, each_before}
use Rattle.history_reader.specs.Reading.{◌>>=◌, cut_at, around_equals, read_id, read_given_up, read_list_fault, read_list_note, read_changing_note, read_note, read_counted_halt, read_halt_word, read_halt, read_scavenged, read_scavenge, read_run, read_found, read_call, read_taken_reply, read_local, read_decided, read_giving_up, dataset_event, read_short, read_worded, read_event, read_line}
use Rattle.history_reader.specs.Spelled.{IsSpelled, IsSpelledReply, IsSpelledStep, Fits, FitsId, FitsBytes, FitsPlace, FitsStep, FitsReply, FitsAnswer, FitsGivenUp, FitsFoundRow, FitsEntryRow, FitsListRow, FitsHalt, FitsNote, FitsScavenged}
use Rattle.history_reader.proofs.Joins.{found_is}
use Rattle.history_reader.proofs.CutLaws.{cut_here, cut_last_here, lacks}
use Rattle.history_reader.proofs.NumberLaws.{number_again}
use Rattle.history_reader.proofs.Classes.{decimal_lacks, id_lacks}
use Rattle.history_reader.proofs.Again.{answer_again, byte_again, cause_again, device_again, full_again, id_again, kind_again, kind_lacks, medium_again, name_again, numbers_again, place_again, prefix_device_again, prefix_full_again, reply_again}
use Rattle.history_reader.proofs.AgainSteps.{found_row_lacks, index_again, kept_again, list_again, list_is_no_fault, step_again}
use Rattle.history_reader.proofs.Quiet.{each_before_passes, event_in_line, quiet_answer, quiet_lacks, quiet_list, quiet_reply}

-- an equals sign behind which there is no other
around_again : (step answer : List ℕ) → lacks 61 answer ≡ true → around_equals (step ++ 32 ∷ 61 ∷ 32 ∷ answer) ≡ Some (step, answer)
unfolding around_equals
around_again step answer h =
    ap around_equals (sym (append_assoc step (32 ∷ []) (61 ∷ 32 ∷ answer)))
    ∙ rw (
      cut_last_here 61 (step ++ 32 ∷ []) (32 ∷ answer) h,
      cut_last_here 32 step [] refl,
      cut_here 32 [] answer refl,
    ) refl

-- ---- the lines that are more than a word and a number

run_again : (run : ℕ) (places : List ℕ) → 0 < length places → run < 2 ^ 32 → FitsBytes places → read_run (decimal run ++ 32 ∷ (codes "at" ++ 32 ∷ join_with_byte 44 (map decimal places))) ≡ Some (event.Run run places)
unfolding read_run
run_again run [] some p fits = absurd (omega arith)
run_again run (n ∷ ns) some p fits =
    rw (
      cut_here 32 (decimal run) (codes "at" ++ 32 ∷ join_with_byte 44 (map decimal (n ∷ ns))) (decimal_lacks 32 run refl (omega arith)),
      medium_again run p,
      cut_here 32 (codes "at") (join_with_byte 44 (map decimal (n ∷ ns))) refl,
      numbers_again 44 n ns (λ m lt. decimal_lacks 44 m refl (omega arith)) fits,
    ) refl

found_again : (kept : List FoundRow) (index : List EntryRow) → AllByRecursion FitsFoundRow kept → AllByRecursion FitsEntryRow index → read_found (each_before 32 found_word kept ++ 124 ∷ each_after 32 entry_word index) ≡ Some (event.Found kept index)
unfolding read_found
found_again kept index all every =
    let none : lacks 124 (each_before 32 found_word kept) ≡ true = each_before_passes (λ b. not (b == 124)) 32 found_word FitsFoundRow refl (λ row fits. found_row_lacks 124 row refl refl refl fits) kept all in
    rw (cut_here 124 (each_before 32 found_word kept) (each_after 32 entry_word index) none, kept_again kept all, index_again index every) refl

call_again : (rank number : ℕ) (s : Step) → FitsPlace rank number → IsSpelledStep s → FitsStep s → read_call (decimal rank ++ 32 ∷ (decimal number ++ 32 ∷ step_text s)) ≡ Some (event.Call rank number s)
unfolding read_call
call_again rank number s place spelled fits = rw (place_again rank number (step_text s) place, step_again s spelled fits) refl

taken_reply_again : (rank number : ℕ) (a : Reply) → FitsPlace rank number → IsSpelledReply a → FitsReply a → read_taken_reply (decimal rank ++ 32 ∷ (decimal number ++ 32 ∷ reply_text a)) ≡ Some (event.Reply rank number a)
unfolding read_taken_reply
taken_reply_again rank number a place spelled fits = rw (place_again rank number (reply_text a) place, reply_again a spelled fits) refl

local_again : (rank number : ℕ) (s : Step) (a : Reply) → FitsPlace rank number → IsSpelledStep s → FitsStep s → IsSpelledReply a → FitsReply a → read_local (decimal rank ++ 32 ∷ (decimal number ++ 32 ∷ (step_text s ++ 32 ∷ 61 ∷ 32 ∷ reply_text a))) ≡ Some (event.Local rank number s a)
unfolding read_local
local_again rank number s a place spelled fits named held =
    rw (
      place_again rank number (step_text s ++ 32 ∷ 61 ∷ 32 ∷ reply_text a) place,
      around_again (step_text s) (reply_text a) (quiet_lacks (reply_text a) (quiet_reply a named held)),
      reply_again a named held,
      step_again s spelled fits,
    ) refl

giving_up_again : (which : DataId) (why : GivenUpCause) → FitsId which → FitsGivenUp why → read_giving_up (id_text which ++ 32 ∷ given_up_text why) ≡ Some (event.GivenUp which why)
unfolding read_giving_up read_given_up
giving_up_again which (given_up.Device node count) fits held =
    rw (
      cut_here 32 (id_text which) (device_text node count) (id_lacks 32 which refl fits),
      cut_here 32 (codes "device") (decimal node ++ 32 ∷ decimal count) refl,
      id_again which fits,
      device_again node count held,
    ) refl
giving_up_again which (given_up.Full node used capacity) fits held =
    rw (
      cut_here 32 (id_text which) (full_text node used capacity) (id_lacks 32 which refl fits),
      cut_here 32 (codes "full") (decimal node ++ 32 ∷ (decimal used ++ 32 ∷ decimal capacity)) refl,
      id_again which fits,
      full_again node used capacity held,
    ) refl

none_is_no_id : read_id (codes "none") ≡ None
unfolding read_id cut_at
none_is_no_id = refl

-- ---- commands

drop_again : (id : ℕ) (a : CommandAnswer) → id < 2 ^ 32 → FitsAnswer a → read_note ((codes "drop " ++ decimal id) ++ 32 ∷ 61 ∷ 32 ∷ answer_text a) ≡ Some (note.Drop id a)
unfolding read_note read_changing_note
drop_again id a p fits =
    rw (
      around_again (codes "drop " ++ decimal id) (answer_text a) (quiet_lacks (answer_text a) (quiet_answer a fits)),
      cut_here 32 (codes "drop") (decimal id) refl,
      medium_again id p,
      answer_again a fits,
    ) refl

current_again : (id : ℕ) (a : CommandAnswer) → id < 2 ^ 32 → FitsAnswer a → read_note ((codes "current " ++ decimal id) ++ 32 ∷ 61 ∷ 32 ∷ answer_text a) ≡ Some (note.Current id a)
unfolding read_note read_changing_note
current_again id a p fits =
    rw (
      around_again (codes "current " ++ decimal id) (answer_text a) (quiet_lacks (answer_text a) (quiet_answer a fits)),
      cut_here 32 (codes "current") (decimal id) refl,
      medium_again id p,
      answer_again a fits,
    ) refl

list_fault_again : (count : ℕ) → count < 2 ^ 64 → read_list_fault (device_text 32 count) ≡ Some count
unfolding read_list_fault
list_fault_again count fits = rw (cut_here 32 (codes "device") (decimal 32 ++ 32 ∷ decimal count) refl, prefix_device_again count fits) refl

fault_is_quiet : (count : ℕ) → count < 2 ^ 64 → lacks 61 (device_text 32 count) ≡ true
fault_is_quiet count fits = quiet_lacks (device_text 32 count) (quiet_answer (answer.Device count) fits)

list_note_again : (rows : List ListRow) → AllByRecursion FitsListRow rows → read_note (codes "list = " ++ list_text rows) ≡ Some (note.List rows)
unfolding read_note read_list_note
list_note_again rows fits =
    rw (
      around_again (codes "list") (list_text rows) (quiet_lacks (list_text rows) (quiet_list rows fits)),
      list_is_no_fault rows fits,
      list_again rows fits,
    ) refl

fault_note_again : (count : ℕ) → count < 2 ^ 64 → read_note (codes "list = " ++ device_text 32 count) ≡ Some (note.ListFault count)
unfolding read_note read_list_note
fault_note_again count fits = rw (around_again (codes "list") (device_text 32 count) (fault_is_quiet count fits), list_fault_again count fits) refl

halt_word_again : (word : Option HaltWord) → FitsHalt word → read_halt_word (halt_text word) ≡ Some word
unfolding read_halt_word read_counted_halt
halt_word_again None fits = refl
halt_word_again (Some (halt.Checkpoints left)) fits = rw (cut_here 32 (codes "checkpoints") (decimal left) refl, medium_again left fits) refl
halt_word_again (Some (halt.Before at)) fits = rw (cut_here 32 (codes "before") (decimal at) refl, number_again at fits) refl
halt_word_again (Some (halt.After at)) fits = rw (cut_here 32 (codes "after") (decimal at) refl, number_again at fits) refl
halt_word_again (Some (halt.Seconds seconds)) fits = rw (cut_here 32 (codes "seconds") (decimal seconds) refl, number_again seconds fits) refl
halt_word_again (Some (halt.Reason name)) fits = rw (cut_here 32 (codes "reason") name refl, name_again name fits) refl

halt_again : (word : Option HaltWord) (a : CommandAnswer) → FitsHalt word → FitsAnswer a → read_halt (halt_text word ++ 32 ∷ 61 ∷ 32 ∷ answer_text a) ≡ Some (event.HaltSet word a)
unfolding read_halt
halt_again word a fits held =
    rw (
      around_again (halt_text word) (answer_text a) (quiet_lacks (answer_text a) (quiet_answer a held)),
      answer_again a held,
      halt_word_again word fits,
    ) refl

-- ---- lines

of_word : (w rest : List ℕ) → lacks 32 w ≡ true → read_event (w ++ 32 ∷ rest) ≡ read_worded w rest
unfolding read_event
of_word w rest without = rw (cut_here 32 w rest without) refl

-- a word and a dataset
of_dataset : (w : List ℕ) (which : DataId) (e : Event) → lacks 32 w ≡ true → read_worded w (id_text which) ≡ (read_id (id_text which) >>= λ d. dataset_event w d) → FitsId which → dataset_event w which ≡ Some e → read_event (w ++ 32 ∷ id_text which) ≡ Some e
of_dataset w which e without is fits h = of_word w (id_text which) without ∙ is ∙ ap (λ (o : Option DataId). o >>= λ d. dataset_event w d) (id_again which fits) ∙ h

-- what follows the word of a command on the index
note_again : (n : IndexNote) → FitsNote n → read_event (note_text n) ≡ Some (event.IndexCommand n)
unfolding read_worded
note_again (note.List rows) fits = of_word (codes "index") (codes "list = " ++ list_text rows) refl ∙ rw (list_note_again rows fits) refl
note_again (note.ListFault count) fits = of_word (codes "index") (codes "list = " ++ device_text 32 count) refl ∙ rw (fault_note_again count fits) refl
note_again (note.Drop id a) fits = of_word (codes "index") ((codes "drop " ++ decimal id) ++ 32 ∷ 61 ∷ 32 ∷ answer_text a) refl ∙ rw (drop_again id a fits.0 fits.1) refl
note_again (note.Current id a) fits = of_word (codes "index") ((codes "current " ++ decimal id) ++ 32 ∷ 61 ∷ 32 ∷ answer_text a) refl ∙ rw (current_again id a fits.0 fits.1) refl

scavenged_again : (a : ScavAnswer) → FitsScavenged a → read_event (scavenged_text a) ≡ Some (event.Scavenged a)
unfolding read_worded read_short read_scavenged read_scavenge
scavenged_again (scavenged.Done which) fits = of_word (codes "scavenged") (id_text which) refl ∙ rw (id_again which fits) refl
scavenged_again scavenged.NoneLeft fits = of_word (codes "scavenged") (codes "none") refl ∙ rw none_is_no_id refl
scavenged_again (scavenged.Device node count) fits = of_word (codes "scavenge") (device_text node count) refl ∙ rw (cut_here 32 (codes "device") (decimal node ++ 32 ∷ decimal count) refl, device_again node count fits) refl
scavenged_again (scavenged.Full used capacity) fits = of_word (codes "scavenge") (full_text 32 used capacity) refl ∙ rw (cut_here 32 (codes "full") (decimal 32 ++ 32 ∷ (decimal used ++ 32 ∷ decimal capacity)) refl, prefix_full_again used capacity fits.0 fits.1) refl
scavenged_again scavenged.Cut fits = of_word (codes "scavenge") (codes "cut") refl

decided_again : (k : Kind) (a : Reply) → IsSpelledReply a → FitsReply a → read_decided (kind_text k ++ 32 ∷ reply_text a) ≡ Some (event.Decided k a)
unfolding read_decided
decided_again k a spelled fits = rw (cut_here 32 (kind_text k) (reply_text a) (kind_lacks k), kind_again k, reply_again a spelled fits) refl

pub event_again : (e : Event) → IsSpelled e → Fits e → read_event (text_of e) ≡ Some e
unfolding read_worded read_short dataset_event
event_again (event.Run run places) spelled fits = of_word (codes "run") (decimal run ++ 32 ∷ (codes "at" ++ 32 ∷ join_with_byte 44 (map decimal places))) refl ∙ run_again run places spelled fits.0 fits.1
event_again (event.Emptied node) spelled fits = of_word (codes "emptied") (decimal node) refl ∙ rw (byte_again node fits) refl
event_again (event.Found kept index) spelled fits = ap read_event (found_is kept index) ∙ of_word (codes "found") (each_before 32 found_word kept ++ 124 ∷ each_after 32 entry_word index) refl ∙ found_again kept index fits.0 fits.1
event_again (event.Discarding which) spelled fits = of_dataset (codes "discarding") which (event.Discarding which) refl refl fits refl
event_again (event.Discarded which) spelled fits = of_dataset (codes "discarded") which (event.Discarded which) refl refl fits refl
event_again (event.Mended which) spelled fits = of_dataset (codes "mended") which (event.Mended which) refl refl fits refl
event_again (event.Call rank number s) spelled fits = of_word (codes "call") (decimal rank ++ 32 ∷ (decimal number ++ 32 ∷ step_text s)) refl ∙ call_again rank number s fits.0 spelled fits.1
event_again (event.Time now) spelled fits = of_word (codes "time") (decimal now) refl ∙ rw (number_again now fits) refl
event_again (event.Decided k a) spelled fits = of_word (codes "decided") (kind_text k ++ 32 ∷ reply_text a) refl ∙ decided_again k a spelled fits
event_again (event.Reply rank number a) spelled fits = of_word (codes "reply") (decimal rank ++ 32 ∷ (decimal number ++ 32 ∷ reply_text a)) refl ∙ taken_reply_again rank number a fits.0 spelled fits.1
event_again (event.Local rank number s a) spelled fits = of_word (codes "local") (decimal rank ++ 32 ∷ (decimal number ++ 32 ∷ (step_text s ++ 32 ∷ 61 ∷ 32 ∷ reply_text a))) refl ∙ local_again rank number s a fits.0 spelled.0 fits.1.0 spelled.1 fits.1.1
event_again (event.Sealing which) spelled fits = of_dataset (codes "sealing") which (event.Sealing which) refl refl fits refl
event_again (event.Settled which) spelled fits = of_dataset (codes "settled") which (event.Settled which) refl refl fits refl
event_again (event.Evicting which) spelled fits = of_dataset (codes "evicting") which (event.Evicting which) refl refl fits refl
event_again (event.Evicted which) spelled fits = of_dataset (codes "evicted") which (event.Evicted which) refl refl fits refl
event_again (event.Flushing which) spelled fits = of_dataset (codes "flushing") which (event.Flushing which) refl refl fits refl
event_again (event.Indexing which) spelled fits = of_dataset (codes "indexing") which (event.Indexing which) refl refl fits refl
event_again (event.Flushed which) spelled fits = of_dataset (codes "flushed") which (event.Flushed which) refl refl fits refl
event_again (event.GivenUp which why) spelled fits = of_word (codes "givenup") (id_text which ++ 32 ∷ given_up_text why) refl ∙ giving_up_again which why fits.0 fits.1
event_again (event.Fetching which) spelled fits = of_dataset (codes "fetching") which (event.Fetching which) refl refl fits refl
event_again (event.Fetched which) spelled fits = of_dataset (codes "fetched") which (event.Fetched which) refl refl fits refl
event_again (event.Failing which) spelled fits = of_dataset (codes "failing") which (event.Failing which) refl refl fits refl
event_again (event.Failed which) spelled fits = of_dataset (codes "failed") which (event.Failed which) refl refl fits refl
event_again (event.Stop why) spelled fits = of_word (codes "stop") (cause_text why) refl ∙ rw (cause_again why fits) refl
event_again (event.Lost node) spelled fits = of_word (codes "lost") (decimal node) refl ∙ rw (byte_again node fits) refl
event_again (event.Scavenging which) spelled fits = of_dataset (codes "scavenging") which (event.Scavenging which) refl refl fits refl
event_again (event.Scavenged a) spelled fits = scavenged_again a fits
event_again (event.IndexCommand n) spelled fits = note_again n fits
event_again (event.HaltSet word a) spelled fits = of_word (codes "halt") (halt_text word ++ 32 ∷ 61 ∷ 32 ∷ answer_text a) refl ∙ halt_again word a fits.0 fits.1

pub line_again : (e : Event) (rest : List ℕ) → IsSpelled e → Fits e → read_line (text_of e ++ 10 ∷ rest) ≡ Some (e, rest)
unfolding read_line
line_again e rest spelled fits = rw (cut_here 10 (text_of e) rest (event_in_line e spelled fits), event_again e spelled fits) refl
