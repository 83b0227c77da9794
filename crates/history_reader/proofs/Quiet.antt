-- No text of an answer has an equals sign, and no text of an event has a line feed.
use Rattle.std.proofs.Common.{◌≡◌, ℕ, ◌<◌, ◌^◌, ◌&&◌, ◌==◌, not, Bool, true, false, List, [], ◌∷◌, ◌++◌, map, Option, Some, None, refl, ap, ◌∙◌, arith, decimal}
use Rattle.std.specs.Prelude.{IsTrue}
use Rattle.std.specs.List.{AllByRecursion, join_with_byte, list_all}
use Rattle.scr_base.specs.Words.{is_name, is_name_byte, is_word, is_word_byte}
use Rattle.scr_base.specs.declared.shape.DataId.{DataId}
use Rattle.scr_base.specs.declared.shape.Flags.{Flags}
use Rattle.scr_base.specs.declared.shape.Flags.TheVariants.{Ckpt, Output, Both}
use Rattle.scr_base.specs.declared.answers.Phase.{Phase}
use Rattle.scr_base.specs.declared.answers.Phase.TheVariants as phase
use Rattle.scr_base.specs.declared.answers.Reason.{Reason}
use Rattle.scr_base.specs.declared.answers.Reason.TheVariants as reason
use Rattle.scr_base.specs.declared.answers.Refusal.{Refusal}
use Rattle.scr_base.specs.declared.answers.Refusal.TheVariants as refusal
use Rattle.scr_base.specs.declared.answers.Reply.{Reply}
use Rattle.scr_base.specs.declared.answers.Reply.TheVariants as reply
use Rattle.scr_base.specs.declared.content.Content.{Content}
use Rattle.scr_base.specs.declared.content.Content.TheVariants as content
use Rattle.scr_base.specs.declared.content.HaltWord.{HaltWord}
use Rattle.scr_base.specs.declared.content.HaltWord.TheVariants as halt
use Rattle.scr_base.specs.declared.content.ListRow.{ListRow}
use Rattle.scr_base.specs.declared.content.Step.{Step}
use Rattle.scr_base.specs.declared.content.Step.TheVariants as step
use Rattle.ckpt_model.specs.declared.event.FoundRow.{FoundRow}
use Rattle.ckpt_model.specs.declared.event.EntryRow.{EntryRow}
use Rattle.ckpt_model.specs.declared.event.Kind.{Kind}
use Rattle.ckpt_model.specs.declared.event.Kind.TheVariants as kind
use Rattle.ckpt_model.specs.declared.event.StopCause.{StopCause}
use Rattle.ckpt_model.specs.declared.event.StopCause.TheVariants as cause
use Rattle.ckpt_model.specs.declared.event.GivenUpCause.{GivenUpCause}
use Rattle.ckpt_model.specs.declared.event.GivenUpCause.TheVariants as given_up
use Rattle.ckpt_model.specs.declared.event.CommandAnswer.{CommandAnswer}
use Rattle.ckpt_model.specs.declared.event.CommandAnswer.TheVariants as answer
use Rattle.ckpt_model.specs.declared.event.IndexNote.{IndexNote}
use Rattle.ckpt_model.specs.declared.event.IndexNote.TheVariants as note
use Rattle.ckpt_model.specs.declared.event.ScavAnswer.{ScavAnswer}
use Rattle.ckpt_model.specs.declared.event.ScavAnswer.TheVariants as scavenged
use Rattle.ckpt_model.specs.declared.event.Event.{Event}
use Rattle.ckpt_model.specs.declared.event.Event.TheVariants as event
use Rattle.ckpt_model.specs.Text.{text_of, answer_text, bytes_text, cause_text, content_text, device_text, entry_word, flags_text, found_word, full_text, given_up_text, halt_text, hex_text, id_text, kind_text, list_text, list_word, lost_text, note_text, phase_text, reason_text, refusal_text, reply_text, scavenged_text, state_text, step_text, valid_text}
use Rattle.history_reader.specs.Part.{IsPart, IsPartOf}
use Rattle.history_reader.specs.Pieces.{each_after, each_before, mark_text}
use Rattle.history_reader.specs.Spelled.{IsSpelled, IsSpelledReply, Fits, FitsId, FitsBytes, FitsPlace, FitsDevice, FitsFull, FitsContent, FitsStep, FitsRefusal, FitsReply, FitsAnswer, FitsCause, FitsGivenUp, FitsFoundRow, FitsEntryRow, FitsListRow, FitsHalt, FitsNote, FitsScavenged}
use Rattle.history_reader.proofs.Joins.{found_is}
use Rattle.history_reader.proofs.CutLaws.{both_are, lacks}
use Rattle.history_reader.proofs.Classes.{all_both, all_weaker, digits_are, hex_bytes, id_bytes, is_digit, is_hex_byte, is_id_byte, is_lost_byte, joined_passes, lost_bytes, misses, name_bytes, word_bytes}
use Rattle.history_reader.proofs.AgainSteps.{entry_word_is, found_word_is, row_is}
use Rattle.history_reader.proofs.Wholes.{after_is_joined, before_is_joined}

-- neither a line feed nor an equals sign
abbrev pub is_quiet : ℕ → Bool
is_quiet b = not (b == 10) && not (b == 61)

quiet_both : (bs : List ℕ) → lacks 10 bs ≡ true → lacks 61 bs ≡ true → list_all is_quiet bs ≡ true
quiet_both [] p q = refl
quiet_both (b ∷ bs) p q =
    let r = both_are (not (b == 10)) (lacks 10 bs) p in
    let s = both_are (not (b == 61)) (lacks 61 bs) q in
    rw (r.0, s.0) (quiet_both bs r.1 s.1)

quiet_from : (p : ℕ → Bool) (bs : List ℕ) → p 10 ≡ false → p 61 ≡ false → list_all p bs ≡ true → list_all is_quiet bs ≡ true
quiet_from p bs h k all = quiet_both bs (misses p 10 bs h all) (misses p 61 bs k all)

pub quiet_lacks : (bs : List ℕ) → list_all is_quiet bs ≡ true → lacks 61 bs ≡ true
quiet_lacks bs h = all_weaker is_quiet (λ b. not (b == 61)) (λ b k. (both_are (not (b == 10)) (not (b == 61)) k).1) bs h

quiet_line : (bs : List ℕ) → list_all is_quiet bs ≡ true → lacks 10 bs ≡ true
quiet_line bs h = all_weaker is_quiet (λ b. not (b == 10)) (λ b k. (both_are (not (b == 10)) (not (b == 61)) k).0) bs h

quiet_number : (n : ℕ) → n < 2 ^ 64 → list_all is_quiet (decimal n) ≡ true
quiet_number n lt = quiet_from is_digit (decimal n) refl refl (digits_are n lt)

quiet_id : (which : DataId) → FitsId which → list_all is_quiet (id_text which) ≡ true
quiet_id which fits = quiet_from is_id_byte (id_text which) refl refl (id_bytes which fits)

quiet_name : (name : List ℕ) → IsTrue (is_name name) → list_all is_quiet name ≡ true
quiet_name name h = quiet_from is_name_byte name refl refl (name_bytes name h)

quiet_device : (node count : ℕ) → FitsDevice node count → list_all is_quiet (device_text node count) ≡ true
quiet_device node count fits = all_both is_quiet (decimal node) (32 ∷ decimal count) (quiet_number node (omega (arith, fits.0))) (quiet_number count fits.1)

quiet_full : (node used capacity : ℕ) → FitsFull node used capacity → list_all is_quiet (full_text node used capacity) ≡ true
quiet_full node used capacity fits =
    all_both is_quiet (decimal node) (32 ∷ (decimal used ++ 32 ∷ decimal capacity)) (quiet_number node (omega (arith, fits.0))) (
    all_both is_quiet (decimal used) (32 ∷ decimal capacity) (quiet_number used fits.1.0) (quiet_number capacity fits.1.1))

quiet_reason : (r : Reason) → list_all is_quiet (reason_text r) ≡ true
quiet_reason reason.Reason = refl
quiet_reason reason.Checkpoints = refl
quiet_reason reason.After = refl
quiet_reason reason.Before = refl

quiet_phase : (p : Phase) → list_all is_quiet (phase_text p) ≡ true
quiet_phase phase.Idle = refl
quiet_phase phase.Output = refl
quiet_phase phase.Offered = refl
quiet_phase phase.Restart = refl
quiet_phase phase.Final = refl

quiet_refusal : (r : Refusal) → FitsRefusal r → list_all is_quiet (refusal_text r) ≡ true
quiet_refusal (refusal.Mismatch rank) fits = quiet_number rank (omega arith)
quiet_refusal (refusal.Phase p) fits = quiet_phase p
quiet_refusal refusal.BadName fits = refl
quiet_refusal (refusal.Device node count) fits = quiet_device node count fits
quiet_refusal (refusal.Full node used capacity) fits = quiet_full node used capacity fits
quiet_refusal refusal.NoFile fits = refl
quiet_refusal refusal.Limit fits = refl
quiet_refusal (refusal.NameTaken which) fits = quiet_id which fits

quiet_bytes : (bytes : List ℕ) → FitsBytes bytes → list_all is_quiet (bytes_text bytes) ≡ true
quiet_bytes [] fits = refl
quiet_bytes (b ∷ bs) fits = quiet_from is_hex_byte (hex_text (b ∷ bs)) refl refl (hex_bytes (b ∷ bs) fits)

quiet_part : (part : List ℕ) → IsPart part → list_all is_quiet part ≡ true
quiet_part part is =
    let id = is.0 in
    let run = is.1 in
    let node = is.2 in
    let rank = is.3 in
    let file = is.4 in
    let p : IsPartOf part id run node rank file = is.5 in
    ap (list_all is_quiet) p.spelled ∙
    all_both is_quiet (decimal id) (46 ∷ (decimal run ++ 46 ∷ (decimal node ++ 46 ∷ 102 ∷ 46 ∷ (decimal rank ++ 46 ∷ decimal file)))) (quiet_number id (omega (arith, p.id_below))) (
    all_both is_quiet (decimal run) (46 ∷ (decimal node ++ 46 ∷ 102 ∷ 46 ∷ (decimal rank ++ 46 ∷ decimal file))) (quiet_number run (omega (arith, p.run_below))) (
    all_both is_quiet (decimal node) (46 ∷ 102 ∷ 46 ∷ (decimal rank ++ 46 ∷ decimal file)) (quiet_number node (omega (arith, p.node_up_to))) (
    all_both is_quiet (decimal rank) (46 ∷ decimal file) (quiet_number rank (omega (arith, p.rank_up_to))) (quiet_number file (omega (arith, p.file_up_to))))))

pub quiet_reply : (a : Reply) → IsSpelledReply a → FitsReply a → list_all is_quiet (reply_text a) ≡ true
quiet_reply reply.Done spelled fits = refl
quiet_reply reply.Yes spelled fits = refl
quiet_reply reply.No spelled fits = refl
quiet_reply (reply.Exit r) spelled fits = quiet_reason r
quiet_reply (reply.Started which) spelled fits = quiet_id which fits
quiet_reply reply.Kept spelled fits = refl
quiet_reply reply.NotKept spelled fits = refl
quiet_reply reply.NoneLeft spelled fits = refl
quiet_reply (reply.Offer which name) spelled fits = all_both is_quiet (id_text which) (32 ∷ name) (quiet_id which fits.0) (quiet_name name fits.1)
quiet_reply reply.Failed spelled fits = refl
quiet_reply (reply.Routed part) spelled fits = quiet_part part spelled
quiet_reply (reply.Bytes bytes) spelled fits = quiet_bytes bytes fits
quiet_reply (reply.Refused r) spelled fits = quiet_refusal r fits

pub quiet_answer : (a : CommandAnswer) → FitsAnswer a → list_all is_quiet (answer_text a) ≡ true
quiet_answer answer.Done fits = refl
quiet_answer answer.NoEntry fits = refl
quiet_answer (answer.Device count) fits = quiet_device 32 count (omega arith, fits)
quiet_answer (answer.Full used capacity) fits = quiet_full 32 used capacity (omega arith, fits)

quiet_state : (failed : Bool) → list_all is_quiet (state_text failed) ≡ true
quiet_state true = refl
quiet_state false = refl

quiet_marked : (flags : Flags) (marked : Bool) → list_all is_quiet (flags_text flags ++ mark_text marked) ≡ true
quiet_marked Ckpt true = refl
quiet_marked Ckpt false = refl
quiet_marked Output true = refl
quiet_marked Output false = refl
quiet_marked Both true = refl
quiet_marked Both false = refl

quiet_row : (row : ListRow) → FitsListRow row → list_all is_quiet (list_word row) ≡ true
quiet_row row fits =
    ap (list_all is_quiet) (row_is row) ∙
    all_both is_quiet (id_text row.which) (47 ∷ (row.name ++ 47 ∷ (state_text row.failed ++ 47 ∷ (flags_text row.flags ++ mark_text row.marked)))) (quiet_id row.which fits.0) (
    all_both is_quiet row.name (47 ∷ (state_text row.failed ++ 47 ∷ (flags_text row.flags ++ mark_text row.marked))) (quiet_name row.name fits.1) (
    all_both is_quiet (state_text row.failed) (47 ∷ (flags_text row.flags ++ mark_text row.marked)) (quiet_state row.failed) (quiet_marked row.flags row.marked)))

pub quiet_list : (rows : List ListRow) → AllByRecursion FitsListRow rows → list_all is_quiet (list_text rows) ≡ true
quiet_list [] all = refl
quiet_list (row ∷ rows) all = joined_passes is_quiet 32 list_word FitsListRow refl quiet_row (row ∷ rows) all

-- ---- lines

abbrev is_in_line : ℕ → Bool
is_in_line b = not (b == 10)

line_number : (n : ℕ) → n < 2 ^ 64 → lacks 10 (decimal n) ≡ true
line_number n lt = quiet_line (decimal n) (quiet_number n lt)

line_id : (which : DataId) → FitsId which → lacks 10 (id_text which) ≡ true
line_id which fits = quiet_line (id_text which) (quiet_id which fits)

line_word : (word : List ℕ) → IsTrue (is_word word) → lacks 10 word ≡ true
line_word word h = misses is_word_byte 10 word refl (word_bytes word h)

line_content : (c : Content) → FitsContent c → lacks 10 (content_text c) ≡ true
line_content (content.Text word) fits = line_word word fits
line_content (content.Hex bytes) fits = misses is_hex_byte 10 (hex_text bytes) refl (hex_bytes bytes fits)
line_content (content.Fill seed len) fits = all_both is_in_line (decimal seed) (32 ∷ decimal len) (line_number seed (omega (arith, fits.0))) (line_number len (omega (arith, fits.1)))

line_flags : (flags : Flags) → lacks 10 (flags_text flags) ≡ true
line_flags Ckpt = refl
line_flags Output = refl
line_flags Both = refl

line_valid : (valid : Bool) → lacks 10 (valid_text valid) ≡ true
line_valid true = refl
line_valid false = refl

line_step : (s : Step) → FitsStep s → lacks 10 (step_text s) ≡ true
line_step step.Need fits = refl
line_step (step.Start name flags) fits = all_both is_in_line name (32 ∷ flags_text flags) (line_word name fits) (line_flags flags)
line_step (step.Route name) fits = line_word name fits
line_step (step.Write name at c) fits =
    all_both is_in_line name (32 ∷ (decimal at ++ 32 ∷ content_text c)) (line_word name fits.0) (
    all_both is_in_line (decimal at) (32 ∷ content_text c) (line_number at (omega (arith, fits.1.0))) (line_content c fits.1.1))
line_step (step.Complete valid) fits = line_valid valid
line_step step.Have fits = refl
line_step step.Restart fits = refl
line_step (step.Read name at len) fits =
    all_both is_in_line name (32 ∷ (decimal at ++ 32 ∷ decimal len)) (line_word name fits.0) (
    all_both is_in_line (decimal at) (32 ∷ decimal len) (line_number at (omega (arith, fits.1.0))) (line_number len (omega (arith, fits.1.1))))
line_step (step.Restarted valid) fits = line_valid valid
line_step step.Exit fits = refl
line_step step.Finalize fits = refl
line_step step.End fits = refl

line_reply : (a : Reply) → IsSpelledReply a → FitsReply a → lacks 10 (reply_text a) ≡ true
line_reply a spelled fits = quiet_line (reply_text a) (quiet_reply a spelled fits)

line_answer : (a : CommandAnswer) → FitsAnswer a → lacks 10 (answer_text a) ≡ true
line_answer a fits = quiet_line (answer_text a) (quiet_answer a fits)

line_kind : (k : Kind) → lacks 10 (kind_text k) ≡ true
line_kind kind.Need = refl
line_kind kind.Start = refl
line_kind kind.Complete = refl
line_kind kind.Have = refl
line_kind kind.Restart = refl
line_kind kind.Restarted = refl
line_kind kind.Exit = refl
line_kind kind.Finalize = refl
line_kind kind.End = refl

line_cause : (why : StopCause) → FitsCause why → lacks 10 (cause_text why) ≡ true
line_cause cause.Ended fits = refl
line_cause cause.Script fits = refl
line_cause (cause.Device node count) fits = quiet_line (device_text node count) (quiet_device node count fits)
line_cause (cause.Full node used capacity) fits = quiet_line (full_text node used capacity) (quiet_full node used capacity fits)
line_cause cause.Runs fits = refl
line_cause cause.Command fits = refl

line_given_up : (why : GivenUpCause) → FitsGivenUp why → lacks 10 (given_up_text why) ≡ true
line_given_up (given_up.Device node count) fits = quiet_line (device_text node count) (quiet_device node count fits)
line_given_up (given_up.Full node used capacity) fits = quiet_line (full_text node used capacity) (quiet_full node used capacity fits)

line_halt : (word : Option HaltWord) → FitsHalt word → lacks 10 (halt_text word) ≡ true
line_halt None fits = refl
line_halt (Some (halt.Checkpoints left)) fits = line_number left (omega arith)
line_halt (Some (halt.Before at)) fits = line_number at fits
line_halt (Some (halt.After at)) fits = line_number at fits
line_halt (Some (halt.Seconds seconds)) fits = line_number seconds fits
line_halt (Some (halt.Reason name)) fits = quiet_line name (quiet_name name fits)

line_note : (n : IndexNote) → FitsNote n → lacks 10 (note_text n) ≡ true
line_note (note.List rows) fits = quiet_line (list_text rows) (quiet_list rows fits)
line_note (note.ListFault count) fits = quiet_line (device_text 32 count) (quiet_device 32 count (omega arith, fits))
line_note (note.Drop id a) fits = all_both is_in_line (decimal id) (32 ∷ 61 ∷ 32 ∷ answer_text a) (line_number id (omega (arith, fits.0))) (line_answer a fits.1)
line_note (note.Current id a) fits = all_both is_in_line (decimal id) (32 ∷ 61 ∷ 32 ∷ answer_text a) (line_number id (omega (arith, fits.0))) (line_answer a fits.1)

line_scavenged : (a : ScavAnswer) → FitsScavenged a → lacks 10 (scavenged_text a) ≡ true
line_scavenged (scavenged.Done which) fits = line_id which fits
line_scavenged scavenged.NoneLeft fits = refl
line_scavenged (scavenged.Device node count) fits = quiet_line (device_text node count) (quiet_device node count fits)
line_scavenged (scavenged.Full used capacity) fits = quiet_line (full_text 32 used capacity) (quiet_full 32 used capacity (omega arith, fits))
line_scavenged scavenged.Cut fits = refl

line_place : (rank number : ℕ) (rest : List ℕ) → FitsPlace rank number → lacks 10 rest ≡ true → lacks 10 (decimal rank ++ 32 ∷ (decimal number ++ 32 ∷ rest)) ≡ true
line_place rank number rest fits h =
    all_both is_in_line (decimal rank) (32 ∷ (decimal number ++ 32 ∷ rest)) (line_number rank (omega (arith, fits.0))) (
    all_both is_in_line (decimal number) (32 ∷ rest) (line_number number (omega (arith, fits.1))) h)

line_found_row : (row : FoundRow) → FitsFoundRow row → lacks 10 (found_word row) ≡ true
line_found_row row fits =
    ap (lacks 10) (found_word_is row)
    ∙ all_both is_in_line (id_text row.which) (58 ∷ lost_text row.lost) (line_id row.which fits.0) (misses is_lost_byte 10 (lost_text row.lost) refl (lost_bytes row.lost fits.1))

line_entry_row : (row : EntryRow) → FitsEntryRow row → lacks 10 (entry_word row) ≡ true
line_entry_row row fits =
    ap (lacks 10) (entry_word_is row)
    ∙ all_both is_in_line (id_text row.which) (58 ∷ state_text row.failed) (line_id row.which fits) (quiet_line (state_text row.failed) (quiet_state row.failed))

pub each_before_passes : {X : Type 0} (p : ℕ → Bool) (c : ℕ) (text : X → List ℕ) (P : X → Type 0) → p c ≡ true → ((x : X) → P x → list_all p (text x) ≡ true) → (xs : List X) → AllByRecursion P xs → list_all p (each_before c text xs) ≡ true
each_before_passes p c text P passes each [] all = refl
each_before_passes p c text P passes each (x ∷ xs) all =
    ap (list_all p) (before_is_joined c text x xs)
    ∙ all_both p (join_with_byte c (map text (x ∷ xs))) (c ∷ []) (joined_passes p c text P passes each (x ∷ xs) all) (rw passes refl)

each_after_passes : {X : Type 0} (p : ℕ → Bool) (c : ℕ) (text : X → List ℕ) (P : X → Type 0) → p c ≡ true → ((x : X) → P x → list_all p (text x) ≡ true) → (xs : List X) → AllByRecursion P xs → list_all p (each_after c text xs) ≡ true
each_after_passes p c text P passes each [] all = refl
each_after_passes p c text P passes each (x ∷ xs) all =
    ap (list_all p) (after_is_joined c text x xs)
    ∙ rw passes (joined_passes p c text P passes each (x ∷ xs) all)

line_found : (kept : List FoundRow) (index : List EntryRow) → AllByRecursion FitsFoundRow kept → AllByRecursion FitsEntryRow index → lacks 10 (text_of (event.Found kept index)) ≡ true
line_found kept index all every =
    ap (lacks 10) (found_is kept index)
    ∙ all_both is_in_line (each_before 32 found_word kept) (124 ∷ each_after 32 entry_word index) (each_before_passes is_in_line 32 found_word FitsFoundRow refl line_found_row kept all) (each_after_passes is_in_line 32 entry_word FitsEntryRow refl line_entry_row index every)

line_numbers : (c : ℕ) (ns : List ℕ) → (c == 10) ≡ false → FitsBytes ns → lacks 10 (join_with_byte c (map decimal ns)) ≡ true
line_numbers c ns other fits = joined_passes is_in_line c decimal (λ b. b < 2 ^ 8) (rw other refl) (λ n lt. line_number n (omega arith)) ns fits

pub event_in_line : (e : Event) → IsSpelled e → Fits e → lacks 10 (text_of e) ≡ true
event_in_line (event.Run run places) spelled fits = all_both is_in_line (decimal run) (32 ∷ 97 ∷ 116 ∷ 32 ∷ join_with_byte 44 (map decimal places)) (line_number run (omega (arith, fits.0))) (line_numbers 44 places refl fits.1)
event_in_line (event.Emptied node) spelled fits = line_number node (omega arith)
event_in_line (event.Found kept index) spelled fits = line_found kept index fits.0 fits.1
event_in_line (event.Discarding which) spelled fits = line_id which fits
event_in_line (event.Discarded which) spelled fits = line_id which fits
event_in_line (event.Mended which) spelled fits = line_id which fits
event_in_line (event.Call rank number s) spelled fits = line_place rank number (step_text s) fits.0 (line_step s fits.1)
event_in_line (event.Time now) spelled fits = line_number now fits
event_in_line (event.Decided k a) spelled fits = all_both is_in_line (kind_text k) (32 ∷ reply_text a) (line_kind k) (line_reply a spelled fits)
event_in_line (event.Reply rank number a) spelled fits = line_place rank number (reply_text a) fits.0 (line_reply a spelled fits.1)
event_in_line (event.Local rank number s a) spelled fits =
    line_place rank number (step_text s ++ 32 ∷ 61 ∷ 32 ∷ reply_text a) fits.0 (all_both is_in_line (step_text s) (32 ∷ 61 ∷ 32 ∷ reply_text a) (line_step s fits.1.0) (line_reply a spelled.1 fits.1.1))
event_in_line (event.Sealing which) spelled fits = line_id which fits
event_in_line (event.Settled which) spelled fits = line_id which fits
event_in_line (event.Evicting which) spelled fits = line_id which fits
event_in_line (event.Evicted which) spelled fits = line_id which fits
event_in_line (event.Flushing which) spelled fits = line_id which fits
event_in_line (event.Indexing which) spelled fits = line_id which fits
event_in_line (event.Flushed which) spelled fits = line_id which fits
event_in_line (event.GivenUp which why) spelled fits = all_both is_in_line (id_text which) (32 ∷ given_up_text why) (line_id which fits.0) (line_given_up why fits.1)
event_in_line (event.Fetching which) spelled fits = line_id which fits
event_in_line (event.Fetched which) spelled fits = line_id which fits
event_in_line (event.Failing which) spelled fits = line_id which fits
event_in_line (event.Failed which) spelled fits = line_id which fits
event_in_line (event.Stop why) spelled fits = line_cause why fits
event_in_line (event.Lost node) spelled fits = line_number node (omega arith)
event_in_line (event.Scavenging which) spelled fits = line_id which fits
event_in_line (event.Scavenged a) spelled fits = line_scavenged a fits
event_in_line (event.IndexCommand n) spelled fits = line_note n fits
event_in_line (event.HaltSet word a) spelled fits = all_both is_in_line (halt_text word) (32 ∷ 61 ∷ 32 ∷ answer_text a) (line_halt word fits.0) (line_answer a fits.1)
