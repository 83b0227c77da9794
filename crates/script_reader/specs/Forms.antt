-- The forms of a line: which words are fixed, and how many words there are.
use Rattle.std.specs.Prelude.{ℕ, ◌==◌, ◌&&◌, nat_le, Bool, true, false, List, length, codes, Option, Some, None, option_map, option_and_then, if◌then◌else◌}
use Rattle.scr_base.specs.declared.shape.Flags.{Flags}
use Rattle.scr_base.specs.declared.shape.Flags.TheVariants as flags
use Rattle.scr_base.specs.declared.actor.Actor.TheVariants as actor
use Rattle.script_reader.specs.declared.step_form.StepForm.{StepForm}
use Rattle.script_reader.specs.declared.step_form.StepForm.TheVariants as step
use Rattle.script_reader.specs.declared.form.SchemeWord.TheVariants as scheme
use Rattle.script_reader.specs.declared.form.Key.{Key}
use Rattle.script_reader.specs.declared.form.Key.TheVariants as key
use Rattle.script_reader.specs.declared.form.PlaceForm.TheVariants as place
use Rattle.script_reader.specs.declared.form.HaltForm.{HaltForm}
use Rattle.script_reader.specs.declared.form.HaltForm.TheVariants as halt
use Rattle.script_reader.specs.declared.form.BodyForm.{BodyForm}
use Rattle.script_reader.specs.declared.form.BodyForm.TheVariants as body
use Rattle.script_reader.specs.declared.form.Form.{Form}
use Rattle.script_reader.specs.declared.form.Form.TheVariants as form
use Rattle.script_reader.specs.Words.{has, has_empty, behind_word}

-- ## Steps: the words from the third on

unfoldable pub flags_word : List (List ℕ) → ℕ → Option Flags
flags_word words at =
    if has words at (codes "ckpt") then Some flags.Ckpt
    else if has words at (codes "output") then Some flags.Output
    else if has words at (codes "both") then Some flags.Both
    else None

unfoldable pub valid_word : List (List ℕ) → ℕ → Option Bool
valid_word words at =
    if has words at (codes "valid") then Some true else if has words at (codes "invalid") then Some false else None

-- start W FLAGS
unfoldable pub start_form : List (List ℕ) → Option StepForm
start_form words = if length words == 5 then option_map step.Start (flags_word words 4) else None

-- write W AT text W, write W AT hex H, write W AT fill SEED LEN
unfoldable pub write_form : List (List ℕ) → Option StepForm
write_form words =
    if length words == 7 && has words 5 (codes "text") then Some step.WriteText
    else if length words == 7 && has words 5 (codes "hex") then Some step.WriteHex
    else if length words == 8 && has words 5 (codes "fill") then Some step.WriteFill
    else None

-- need, have, restart, exit, finalize
unfoldable pub bare_form : List (List ℕ) → Option StepForm
bare_form words =
    if has words 2 (codes "need") then Some step.Need
    else if has words 2 (codes "have") then Some step.Have
    else if has words 2 (codes "restart") then Some step.Restart
    else if has words 2 (codes "exit") then Some step.Exit
    else if has words 2 (codes "finalize") then Some step.Finalize
    else None

-- complete valid, complete invalid, restarted valid, restarted invalid
unfoldable pub validity_form : List (List ℕ) → Option StepForm
validity_form words =
    option_and_then
    (λ valid.
    if has words 2 (codes "complete") then Some (step.Complete valid)
    else if has words 2 (codes "restarted") then Some (step.Restarted valid)
    else None)
    (valid_word words 3)

-- also read W AT LEN, and route W
unfoldable pub step_form : List (List ℕ) → Option StepForm
step_form words =
    if has words 2 (codes "start") then start_form words
    else if has words 2 (codes "write") then write_form words
    else if has words 2 (codes "read") then (if length words == 6 then Some step.Read else None)
    else if has words 2 (codes "route") then (if length words == 4 then Some step.Route else None)
    else if length words == 4 then validity_form words
    else if length words == 3 then bare_form words
    else None

-- ## Lines

-- the form, where there are so many words
unfoldable pub sized : List (List ℕ) → ℕ → BodyForm → Option BodyForm
sized words count f = if length words == count then Some f else None

unfoldable pub scheme_word : List (List ℕ) → Option Key
scheme_word words =
    if has words 2 (codes "single") then Some (key.Scheme scheme.Single)
    else if has words 2 (codes "partner") then Some (key.Scheme scheme.Partner)
    else if has words 2 (codes "xor") then Some (key.Scheme scheme.Xor)
    else if has words 2 (codes "rs") then Some (key.Scheme scheme.Rs)
    else None

unfoldable pub key_of : List (List ℕ) → Option Key
key_of words =
    if has words 1 (codes "scheme") then scheme_word words
    else if has words 1 (codes "shares") then Some key.Shares
    else if has words 1 (codes "size") then Some key.Size
    else if has words 1 (codes "cache") then Some key.Cache
    else if has words 1 (codes "flush") then Some key.Flush
    else if has words 1 (codes "interval") then Some key.Interval
    else None

-- set KEY VALUE
unfoldable pub set_form : List (List ℕ) → Option Form
set_form words = if length words == 3 then option_map form.Set (key_of words) else None

-- rank WHO STEP
unfoldable pub rank_form : List (List ℕ) → Option BodyForm
rank_form words = option_map body.Rank (step_form words)

-- turn rank A T, turn ACTOR T
unfoldable pub turn_form : List (List ℕ) → Option BodyForm
turn_form words =
    if has words 1 (codes "rank") then sized words 4 body.TurnRank
    else if has words 1 (codes "recoverer") then sized words 3 (body.Turn actor.Recoverer)
    else if has words 1 (codes "encoder") then sized words 3 (body.Turn actor.Encoder)
    else if has words 1 (codes "flusher") then sized words 3 (body.Turn actor.Flusher)
    else if has words 1 (codes "evictor") then sized words 3 (body.Turn actor.Evictor)
    else None

-- the TEXT of `stop Q on TEXT`: the rest of the line
unfoldable pub stop_text : List ℕ → List ℕ
stop_text line = behind_word (behind_word (behind_word line))

-- stop Q end, stop Q after K, stop Q on TEXT
unfoldable pub stop_form : List ℕ → List (List ℕ) → Option BodyForm
stop_form line words =
    if has words 2 (codes "end") then sized words 3 (body.Stop place.End)
    else if has words 2 (codes "after") then sized words 4 (body.Stop place.After)
    else if has words 2 (codes "on") && nat_le 4 (length words) && nat_le (length (stop_text line)) 200 then Some (body.Stop place.On)
    else None

-- scavenge, scavenge cut Q K
unfoldable pub scavenge_form : List (List ℕ) → Option BodyForm
scavenge_form words =
    if has words 1 (codes "cut") then sized words 4 body.ScavengeCut else sized words 1 body.Scavenge

-- index list, index drop ID, index current ID
unfoldable pub index_form : List (List ℕ) → Option BodyForm
index_form words =
    if has words 1 (codes "list") then sized words 2 body.IndexList
    else if has words 1 (codes "drop") then sized words 3 body.IndexDrop
    else if has words 1 (codes "current") then sized words 3 body.IndexCurrent
    else None

unfoldable pub halt_word : List (List ℕ) → Option HaltForm
halt_word words =
    if has words 1 (codes "checkpoints") then Some halt.Checkpoints
    else if has words 1 (codes "before") then Some halt.Before
    else if has words 1 (codes "after") then Some halt.After
    else if has words 1 (codes "seconds") then Some halt.Seconds
    else if has words 1 (codes "reason") then Some halt.Reason
    else None

-- halt clear, halt WORD VALUE
unfoldable pub halt_form : List (List ℕ) → Option BodyForm
halt_form words =
    if has words 1 (codes "clear") then sized words 2 body.HaltClear
    else option_and_then (λ word. sized words 3 (body.Halt word)) (halt_word words)

-- lose P, and what the lines before say
unfoldable pub between_form : List (List ℕ) → Option BodyForm
between_form words =
    if has words 0 (codes "lose") then sized words 2 body.Lose
    else if has words 0 (codes "scavenge") then scavenge_form words
    else if has words 0 (codes "index") then index_form words
    else if has words 0 (codes "halt") then halt_form words
    else None

-- run PLACES, and what the lines before say
unfoldable pub body_form : List ℕ → List (List ℕ) → Option BodyForm
body_form line words =
    if has words 0 (codes "run") then sized words 2 body.Run
    else if has words 0 (codes "rank") then rank_form words
    else if has words 0 (codes "turn") then turn_form words
    else if has words 0 (codes "stop") then stop_form line words
    else between_form words

-- site N R S, and what the lines before say; no word is empty
unfoldable pub form_of : List ℕ → List (List ℕ) → Option Form
form_of line words =
    if has_empty words then None
    else if has words 0 (codes "site") then (if length words == 4 then Some form.Site else None)
    else if has words 0 (codes "set") then set_form words
    else option_map form.Body (body_form line words)
