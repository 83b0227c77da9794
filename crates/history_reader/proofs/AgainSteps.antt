-- What was printed is read again: steps and rows.
use Rattle.std.proofs.Common.{◌≡◌, ℕ, ◌<◌, ◌^◌, ◌==◌, not, Bool, true, false, List, [], ◌∷◌, ◌++◌, map, Some, None, refl, ap, ◌∙◌, arith, decimal, codes, append_assoc}
use Rattle.std.specs.Prelude.{IsTrue}
use Rattle.std.specs.List.{AllByRecursion, join_with_byte}
use Rattle.scr_base.specs.Words.{is_word}
use Rattle.scr_base.specs.declared.shape.Flags.{Flags}
use Rattle.scr_base.specs.declared.shape.Flags.TheVariants.{Ckpt, Output, Both}
use Rattle.scr_base.specs.declared.content.Content.{Content}
use Rattle.scr_base.specs.declared.content.Content.TheVariants as content
use Rattle.scr_base.specs.declared.content.ListRow.{ListRow}
use Rattle.scr_base.specs.declared.content.Step.{Step}
use Rattle.scr_base.specs.declared.content.Step.TheVariants as step
use Rattle.ckpt_model.specs.declared.event.FoundRow.{FoundRow}
use Rattle.ckpt_model.specs.declared.event.EntryRow.{EntryRow}
use Rattle.ckpt_model.specs.Text.{content_text, entry_word, flags_text, found_word, hex_text, id_text, list_text, list_word, lost_text, state_text, step_text, valid_text}
use Rattle.history_reader.specs.Pieces.{each_after, each_before, mark_text}
use Rattle.history_reader.specs.Reading.{cut_at, is_nothing, parts, each_read, read_flags, read_fill, read_content, read_start, read_write, read_read, read_bare_step, read_closing_step, read_full_step, read_step, read_found_row, read_entry_row, read_marked, read_list_row, read_kept, read_index, read_list, read_list_fault}
use Rattle.history_reader.specs.Spelled.{IsSpelledContent, IsSpelledStep, FitsContent, FitsStep, FitsFoundRow, FitsEntryRow, FitsListRow}
use Rattle.history_reader.proofs.Wholes.{after_is_joined, before_is_joined}
use Rattle.history_reader.proofs.CutLaws.{cut_here, cut_last_here, cut_nowhere, lacks}
use Rattle.history_reader.proofs.Classes.{all_both, decimal_lacks, id_lacks, is_id_byte, is_lost_byte, lost_bytes, misses, name_lacks, word_lacks}
use Rattle.history_reader.proofs.Again.{byte_again, flags_again, hex_again, id_again, joined_again, lost_again, medium_again, name_again, not_literal, state_again, valid_again, word_again}

-- ---- steps

fill_again : (seed len : ℕ) → seed < 2 ^ 8 → len < 2 ^ 32 → read_fill (decimal seed ++ 32 ∷ decimal len) ≡ Some (content.Fill seed len)
unfolding read_fill
fill_again seed len p q = rw (cut_here 32 (decimal seed) (decimal len) (decimal_lacks 32 seed refl (omega arith)), byte_again seed p, medium_again len q) refl

pub content_again : (c : Content) → IsSpelledContent c → FitsContent c → read_content (content_text c) ≡ Some c
unfolding read_content
content_again (content.Text word) spelled fits = rw (cut_here 32 (codes "text") word refl, word_again word fits) refl
content_again (content.Hex bytes) spelled fits = rw (cut_here 32 (codes "hex") (hex_text bytes) refl, hex_again bytes spelled fits) refl
content_again (content.Fill seed len) spelled fits = rw (cut_here 32 (codes "fill") (decimal seed ++ 32 ∷ decimal len) refl, fill_again seed len fits.0 fits.1) refl

start_again : (name : List ℕ) (flags : Flags) → IsTrue (is_word name) → read_start (name ++ 32 ∷ flags_text flags) ≡ Some (step.Start name flags)
unfolding read_start
start_again name flags h = rw (cut_here 32 name (flags_text flags) (word_lacks 32 name refl h), flags_again flags, word_again name h) refl

write_again : (name : List ℕ) (at : ℕ) (c : Content) → IsTrue (is_word name) → at < 2 ^ 32 → IsSpelledContent c → FitsContent c → read_write (name ++ 32 ∷ (decimal at ++ 32 ∷ content_text c)) ≡ Some (step.Write name at c)
unfolding read_write
write_again name at c h p spelled fits =
    rw (
      cut_here 32 name (decimal at ++ 32 ∷ content_text c) (word_lacks 32 name refl h),
      cut_here 32 (decimal at) (content_text c) (decimal_lacks 32 at refl (omega arith)),
      medium_again at p,
      content_again c spelled fits,
      word_again name h,
    ) refl

read_again : (name : List ℕ) (at len : ℕ) → IsTrue (is_word name) → at < 2 ^ 32 → len < 2 ^ 32 → read_read (name ++ 32 ∷ (decimal at ++ 32 ∷ decimal len)) ≡ Some (step.Read name at len)
unfolding read_read
read_again name at len h p q =
    rw (
      cut_here 32 name (decimal at ++ 32 ∷ decimal len) (word_lacks 32 name refl h),
      cut_here 32 (decimal at) (decimal len) (decimal_lacks 32 at refl (omega arith)),
      medium_again at p,
      medium_again len q,
      word_again name h,
    ) refl

bare_step : (w : List ℕ) → lacks 32 w ≡ true → read_step w ≡ read_bare_step w
unfolding read_step
bare_step w without = rw (cut_nowhere 32 w without) refl

full_step : (w rest : List ℕ) → lacks 32 w ≡ true → read_step (w ++ 32 ∷ rest) ≡ read_full_step w rest
unfolding read_step
full_step w rest without = rw (cut_here 32 w rest without) refl

pub step_again : (s : Step) → IsSpelledStep s → FitsStep s → read_step (step_text s) ≡ Some s
unfolding read_bare_step read_full_step read_closing_step
step_again step.Need spelled fits = bare_step (codes "need") refl
step_again (step.Start name flags) spelled fits = full_step (codes "start") (name ++ 32 ∷ flags_text flags) refl ∙ start_again name flags fits
step_again (step.Route name) spelled fits = full_step (codes "route") name refl ∙ rw (word_again name fits) refl
step_again (step.Write name at c) spelled fits = full_step (codes "write") (name ++ 32 ∷ (decimal at ++ 32 ∷ content_text c)) refl ∙ write_again name at c fits.0 fits.1.0 spelled fits.1.1
step_again (step.Complete valid) spelled fits = full_step (codes "complete") (valid_text valid) refl ∙ rw (valid_again valid) refl
step_again step.Have spelled fits = bare_step (codes "have") refl
step_again step.Restart spelled fits = bare_step (codes "restart") refl
step_again (step.Read name at len) spelled fits = full_step (codes "read") (name ++ 32 ∷ (decimal at ++ 32 ∷ decimal len)) refl ∙ read_again name at len fits.0 fits.1.0 fits.1.1
step_again (step.Restarted valid) spelled fits = full_step (codes "restarted") (valid_text valid) refl ∙ rw (valid_again valid) refl
step_again step.Exit spelled fits = bare_step (codes "exit") refl
step_again step.Finalize spelled fits = bare_step (codes "finalize") refl
step_again step.End spelled fits = bare_step (codes "end") refl

-- ---- rows

pub found_word_is : (row : FoundRow) → found_word row ≡ id_text row.which ++ 58 ∷ lost_text row.lost
found_word_is row = append_assoc (id_text row.which) (58 ∷ []) (lost_text row.lost)

pub entry_word_is : (row : EntryRow) → entry_word row ≡ id_text row.which ++ 58 ∷ state_text row.failed
entry_word_is row = append_assoc (id_text row.which) (58 ∷ []) (state_text row.failed)

found_row_again : (row : FoundRow) → FitsFoundRow row → read_found_row (found_word row) ≡ Some row
unfolding read_found_row
found_row_again row fits = ap read_found_row (found_word_is row) ∙ rw (cut_here 58 (id_text row.which) (lost_text row.lost) (id_lacks 58 row.which refl fits.0), id_again row.which fits.0, lost_again row.lost fits.1) refl

pub found_row_lacks : (c : ℕ) (row : FoundRow) → is_id_byte c ≡ false → is_lost_byte c ≡ false → (58 == c) ≡ false → FitsFoundRow row → lacks c (found_word row) ≡ true
found_row_lacks c row out_id out_lost other fits =
    ap (lacks c) (found_word_is row)
    ∙ all_both (λ b. not (b == c)) (id_text row.which) (58 ∷ lost_text row.lost) (id_lacks c row.which out_id fits.0) (rw other (misses is_lost_byte c (lost_text row.lost) out_lost (lost_bytes row.lost fits.1)))

state_lacks : (failed : Bool) → lacks 32 (state_text failed) ≡ true
state_lacks true = refl
state_lacks false = refl

entry_row_again : (row : EntryRow) → FitsEntryRow row → read_entry_row (entry_word row) ≡ Some row
unfolding read_entry_row
entry_row_again row fits = ap read_entry_row (entry_word_is row) ∙ rw (cut_here 58 (id_text row.which) (state_text row.failed) (id_lacks 58 row.which refl fits), id_again row.which fits, state_again row.failed) refl

entry_row_lacks : (row : EntryRow) → FitsEntryRow row → lacks 32 (entry_word row) ≡ true
entry_row_lacks row fits = ap (lacks 32) (entry_word_is row) ∙ all_both (λ b. not (b == 32)) (id_text row.which) (58 ∷ state_text row.failed) (id_lacks 32 row.which refl fits) (state_lacks row.failed)

marked_again : (flags : Flags) (marked : Bool) → read_marked (flags_text flags ++ mark_text marked) ≡ Some (flags, marked)
unfolding read_marked cut_at read_flags
marked_again Ckpt true = refl
marked_again Ckpt false = refl
marked_again Output true = refl
marked_again Output false = refl
marked_again Both true = refl
marked_again Both false = refl

marked_lacks : (flags : Flags) (marked : Bool) → lacks 32 (flags_text flags ++ mark_text marked) ≡ true
marked_lacks Ckpt true = refl
marked_lacks Ckpt false = refl
marked_lacks Output true = refl
marked_lacks Output false = refl
marked_lacks Both true = refl
marked_lacks Both false = refl

-- a row, as it is read
abbrev row_bytes : ListRow → List ℕ
row_bytes row = id_text row.which ++ 47 ∷ (row.name ++ 47 ∷ (state_text row.failed ++ 47 ∷ (flags_text row.flags ++ mark_text row.marked)))

pub row_is : (row : ListRow) → list_word row ≡ row_bytes row
row_is row =
    append_assoc (id_text row.which) (47 ∷ (row.name ++ 47 ∷ (state_text row.failed ++ 47 ∷ flags_text row.flags))) (mark_text row.marked)
    ∙ ap (λ (tail : List ℕ). id_text row.which ++ 47 ∷ tail) (append_assoc row.name (47 ∷ (state_text row.failed ++ 47 ∷ flags_text row.flags)) (mark_text row.marked)
    ∙ ap (λ (tail : List ℕ). row.name ++ 47 ∷ tail) (append_assoc (state_text row.failed) (47 ∷ flags_text row.flags) (mark_text row.marked)))

no_slash : (failed : Bool) → lacks 47 (state_text failed) ≡ true
no_slash true = refl
no_slash false = refl

list_row_again : (row : ListRow) → FitsListRow row → read_list_row (list_word row) ≡ Some row
unfolding read_list_row
list_row_again row fits =
    ap read_list_row (row_is row)
    ∙ rw (
      cut_here 47 (id_text row.which) (row.name ++ 47 ∷ (state_text row.failed ++ 47 ∷ (flags_text row.flags ++ mark_text row.marked))) (id_lacks 47 row.which refl fits.0),
      cut_here 47 row.name (state_text row.failed ++ 47 ∷ (flags_text row.flags ++ mark_text row.marked)) (name_lacks 47 row.name refl fits.1),
      cut_here 47 (state_text row.failed) (flags_text row.flags ++ mark_text row.marked) (no_slash row.failed),
      id_again row.which fits.0,
      state_again row.failed,
      marked_again row.flags row.marked,
      name_again row.name fits.1,
    ) refl

list_row_lacks : (row : ListRow) → FitsListRow row → lacks 32 (list_word row) ≡ true
list_row_lacks row fits =
    ap (lacks 32) (row_is row)
    ∙ all_both (λ b. not (b == 32)) (id_text row.which) (47 ∷ (row.name ++ 47 ∷ (state_text row.failed ++ 47 ∷ (flags_text row.flags ++ mark_text row.marked)))) (id_lacks 32 row.which refl fits.0) (
    all_both (λ b. not (b == 32)) row.name (47 ∷ (state_text row.failed ++ 47 ∷ (flags_text row.flags ++ mark_text row.marked))) (name_lacks 32 row.name refl fits.1) (
    all_both (λ b. not (b == 32)) (state_text row.failed) (47 ∷ (flags_text row.flags ++ mark_text row.marked)) (state_lacks row.failed) (marked_lacks row.flags row.marked)))

-- ---- lists of rows

-- what ends with a byte isn't nothing
some_last : (w : List ℕ) (c : ℕ) → is_nothing (w ++ c ∷ []) ≡ false
some_last [] c = refl
some_last (b ∷ w) c = refl

pub kept_again : (rows : List FoundRow) → AllByRecursion FitsFoundRow rows → read_kept (each_before 32 found_word rows) ≡ Some rows
unfolding read_kept
kept_again [] all = refl
kept_again (row ∷ rows) all =
    let words = join_with_byte 32 (map found_word (row ∷ rows)) in
    ap read_kept (before_is_joined 32 found_word row rows)
    ∙ rw (
      some_last words 32,
      cut_last_here 32 words [] refl,
      joined_again 32 read_found_row found_word FitsFoundRow (λ r fits. found_row_lacks 32 r refl refl refl fits) found_row_again row rows all,
    ) refl

pub index_again : (rows : List EntryRow) → AllByRecursion FitsEntryRow rows → read_index (each_after 32 entry_word rows) ≡ Some rows
unfolding read_index
index_again [] all = refl
index_again (row ∷ rows) all =
    let words = join_with_byte 32 (map entry_word (row ∷ rows)) in
    ap read_index (after_is_joined 32 entry_word row rows)
    ∙ rw (
      cut_here 32 [] words refl,
      joined_again 32 read_entry_row entry_word FitsEntryRow entry_row_lacks entry_row_again row rows all,
    ) refl

no_row : each_read read_list_row (parts 32 (codes "none")) ≡ None
unfolding read_list_row cut_at
no_row = refl

pub list_again : (rows : List ListRow) → AllByRecursion FitsListRow rows → read_list (list_text rows) ≡ Some rows
unfolding read_list
list_again [] all = refl
list_again (row ∷ rows) all =
    let h = joined_again 32 read_list_row list_word FitsListRow list_row_lacks list_row_again row rows all in
    rw (not_literal (λ bs. each_read read_list_row (parts 32 bs)) (codes "none") (list_text (row ∷ rows)) (row ∷ rows) no_row h) h

-- the first word of a list of rows is no word of a fault
no_device : read_list_row (codes "device") ≡ None
unfolding read_list_row cut_at
no_device = refl

pub list_is_no_fault : (rows : List ListRow) → AllByRecursion FitsListRow rows → read_list_fault (list_text rows) ≡ None
unfolding read_list_fault
list_is_no_fault [] all = rw (cut_nowhere 32 (codes "none") refl) refl
list_is_no_fault (row ∷ []) all = rw (cut_nowhere 32 (list_word row) (list_row_lacks row all.0)) refl
list_is_no_fault (row ∷ next ∷ rows) all =
    rw (
      cut_here 32 (list_word row) (join_with_byte 32 (map list_word (next ∷ rows))) (list_row_lacks row all.0),
      not_literal read_list_row (codes "device") (list_word row) row no_device (list_row_again row all.0),
    ) refl
