-- The values of a line behind the settings: numbers first, then words, then ranks, then nodes.
use Rattle.std.specs.Prelude.{ℕ, ◌+◌, ◌*◌, ◌-◌, ◌==◌, nat_le, List, [], ◌∷◌, ◌++◌, length, codes, bytes_eq, Option, Some, None, Result, Ok, Err, option_and_then, if◌then◌else◌}
use Rattle.scr_base.specs.Words.{is_word, is_name}
use Rattle.scr_base.specs.Sets.{is_among}
use Rattle.scr_base.specs.declared.shape.Shape.{Shape}
use Rattle.scr_base.specs.declared.actor.Actor.{Actor}
use Rattle.scr_base.specs.declared.actor.Actor.TheVariants as actor
use Rattle.scr_base.specs.declared.content.Content.{Content}
use Rattle.scr_base.specs.declared.content.Content.TheVariants as content
use Rattle.scr_base.specs.declared.content.HaltWord.{HaltWord}
use Rattle.scr_base.specs.declared.content.HaltWord.TheVariants as halt
use Rattle.scr_base.specs.declared.content.Step.{Step}
use Rattle.scr_base.specs.declared.content.Step.TheVariants as step
use Rattle.ckpt_model.specs.declared.stop_line.StopPlace.{StopPlace}
use Rattle.ckpt_model.specs.declared.stop_line.StopPlace.TheVariants as stop
use Rattle.admin.specs.declared.command.Command.{Command}
use Rattle.admin.specs.declared.command.Command.TheVariants as command
use Rattle.script_reader.specs.declared.reason.Reason.{Reason}
use Rattle.script_reader.specs.declared.reason.Reason.TheVariants as reason
use Rattle.script_reader.specs.declared.step_form.StepForm.{StepForm}
use Rattle.script_reader.specs.declared.step_form.StepForm.TheVariants as step_form
use Rattle.script_reader.specs.declared.form.PlaceForm.{PlaceForm}
use Rattle.script_reader.specs.declared.form.PlaceForm.TheVariants as place_form
use Rattle.script_reader.specs.declared.form.HaltForm.{HaltForm}
use Rattle.script_reader.specs.declared.form.HaltForm.TheVariants as halt_form
use Rattle.script_reader.specs.declared.form.BodyForm.{BodyForm}
use Rattle.script_reader.specs.declared.form.BodyForm.TheVariants as body
use Rattle.script_reader.specs.declared.script.Item.TheVariants as item
use Rattle.script_reader.specs.declared.line.Line.{Line}
use Rattle.script_reader.specs.declared.line.Line.TheVariants as line
use Rattle.script_reader.specs.Reasons.{◌>>=◌, or_reason}
use Rattle.script_reader.specs.Numbers.{number_in, bytes_in_hex}
use Rattle.script_reader.specs.Words.{word_at, cut_at, pieces_of}
use Rattle.script_reader.specs.Forms.{stop_text}

-- how many logical nodes a site has, how many ranks each, and how many spares
pub record Size : Type 0 where
  pub nodes : ℕ
  pub ranks : ℕ
  pub spares : ℕ

abbrev pub size_of : Shape → Size
size_of shape = record { nodes = shape.nodes; ranks = shape.ranks; spares = shape.spares }

abbrev pub ranks_of : Size → ℕ
ranks_of z = z.nodes * z.ranks

-- the physical nodes
abbrev pub devices_of : Size → ℕ
devices_of z = z.nodes + z.spares

-- ## Words and numbers

unfoldable pub word_in : List (List ℕ) → ℕ → Result (List ℕ) Reason
word_in words at = if is_word (word_at words at) then Ok (word_at words at) else Err reason.Word

unfoldable pub name_in : List (List ℕ) → ℕ → Result (List ℕ) Reason
name_in words at = if is_name (word_at words at) then Ok (word_at words at) else Err reason.Word

-- a number between two others
unfoldable pub number_at : ℕ → ℕ → List (List ℕ) → ℕ → Result ℕ Reason
number_at low high words at = or_reason reason.Number (number_in low high (word_at words at))

-- the place or the length of a read or a write
unfoldable pub length_in : List (List ℕ) → ℕ → Result ℕ Reason
length_in words at = number_at 0 1048576 words at

-- an outcome of a stop
unfoldable pub pick_in : List (List ℕ) → ℕ → Result ℕ Reason
pick_in words at = number_at 0 3 words at

-- a count of turns
unfoldable pub times_in : List (List ℕ) → ℕ → Result ℕ Reason
times_in words at = number_at 1 1000000 words at

-- the number of a dataset
unfoldable pub id_in : List (List ℕ) → ℕ → Result ℕ Reason
id_in words at = number_at 1 4294967295 words at

-- a time, a count of moves or of changes: any number
unfoldable pub great_in : List (List ℕ) → ℕ → Result ℕ Reason
great_in words at = number_at 0 9999999999 words at

-- ## Steps

-- fill SEED LEN
unfoldable pub fill_in : List (List ℕ) → Result Content Reason
fill_in words = do
  seed ← number_at 0 255 words 6
  len ← length_in words 7
  Ok (content.Fill seed len)

unfoldable pub write_text : List (List ℕ) → Result Step Reason
write_text words = do
  at ← length_in words 4
  name ← word_in words 3
  text ← word_in words 6
  Ok (step.Write name at (content.Text text))

unfoldable pub write_hex : List (List ℕ) → Result Step Reason
write_hex words = do
  at ← length_in words 4
  bytes ← bytes_in_hex (word_at words 6)
  name ← word_in words 3
  Ok (step.Write name at (content.Hex bytes))

unfoldable pub write_fill : List (List ℕ) → Result Step Reason
write_fill words = do
  at ← length_in words 4
  fill ← fill_in words
  name ← word_in words 3
  Ok (step.Write name at fill)

unfoldable pub read_of : List (List ℕ) → Result Step Reason
read_of words = do
  at ← length_in words 4
  len ← length_in words 5
  name ← word_in words 3
  Ok (step.Read name at len)

unfoldable pub step_of : StepForm → List (List ℕ) → Result Step Reason
step_of step_form.Need words = Ok step.Need
step_of (step_form.Start flags) words = do
  name ← word_in words 3
  Ok (step.Start name flags)
step_of step_form.Route words = do
  name ← word_in words 3
  Ok (step.Route name)
step_of step_form.WriteText words = write_text words
step_of step_form.WriteHex words = write_hex words
step_of step_form.WriteFill words = write_fill words
step_of (step_form.Complete valid) words = Ok (step.Complete valid)
step_of step_form.Have words = Ok step.Have
step_of step_form.Restart words = Ok step.Restart
step_of step_form.Read words = read_of words
step_of (step_form.Restarted valid) words = Ok (step.Restarted valid)
step_of step_form.Exit words = Ok step.Exit
step_of step_form.Finalize words = Ok step.Finalize

-- ## Ranks and nodes

-- a number below a count
unfoldable pub below : ℕ → List ℕ → Option ℕ
below count w = if count == 0 then None else number_in 0 (count - 1) w

-- the ranks from A to B, with A at most B
unfoldable pub range_of : ℕ → List ℕ → List ℕ → Option (ℕ × ℕ)
range_of ranks first last =
    option_and_then (λ a. option_and_then (λ b. if nat_le a b then Some (a, b) else None) (below ranks last)) (below ranks first)

-- A alone, or A-B
abbrev pub range_or_one : ℕ → List ℕ → Option (List ℕ × List ℕ) → Option (ℕ × ℕ)
range_or_one ranks w None = range_of ranks w w
range_or_one ranks w (Some parts) = range_of ranks parts.0 parts.1

-- the first and the last of the ranks meant: all, A, or A-B
unfoldable pub who_of : ℕ → List ℕ → Option (ℕ × ℕ)
who_of ranks w = if bytes_eq w (codes "all") then Some (0, ranks - 1) else range_or_one ranks w (cut_at 45 w)

-- the node of a word: below a count, and none of those before
unfoldable pub next_place : ℕ → List ℕ → List ℕ → Option ℕ
next_place devices before w = option_and_then (λ n. if is_among n before then None else Some n) (below devices w)

-- the nodes of the words behind those before
unfoldable pub place_list : ℕ → List ℕ → List (List ℕ) → Option (List ℕ)
place_list devices before [] = Some before
place_list devices before (w ∷ ws) = option_and_then (λ n. place_list devices (before ++ n ∷ []) ws) (next_place devices before w)

-- ## Lines

-- the nodes between the commas: as many as logical nodes
unfoldable pub run_line : Size → List (List ℕ) → Result Line Reason
run_line z words =
    if length (pieces_of 44 (word_at words 1)) == z.nodes
    then (or_reason reason.Node (place_list (devices_of z) [] (pieces_of 44 (word_at words 1))) >>= λ places. Ok (line.Run places))
    else Err reason.Node

unfoldable pub rank_line : ℕ → StepForm → List (List ℕ) → Result Line Reason
rank_line ranks form words = do
  s ← step_of form words
  who ← or_reason reason.Rank (who_of ranks (word_at words 1))
  Ok (line.Rank (record { first = who.0; last = who.1; step = s }))

unfoldable pub turn_rank_line : ℕ → List (List ℕ) → Result Line Reason
turn_rank_line ranks words = do
  times ← times_in words 3
  rank ← or_reason reason.Rank (below ranks (word_at words 2))
  Ok (line.Turn (record { actor = actor.Rank rank; times = times }))

unfoldable pub turn_line : Actor → List (List ℕ) → Result Line Reason
turn_line who words = do
  times ← times_in words 2
  Ok (line.Turn (record { actor = who; times = times }))

unfoldable pub place_of : PlaceForm → List ℕ → List (List ℕ) → Result StopPlace Reason
place_of place_form.End text words = Ok stop.End
place_of place_form.After text words = do
  moves ← great_in words 3
  Ok (stop.After moves)
place_of place_form.On text words = Ok (stop.On (stop_text text))

unfoldable pub stop_line : PlaceForm → List ℕ → List (List ℕ) → Result Line Reason
stop_line form text words = do
  pick ← pick_in words 1
  place ← place_of form text words
  Ok (line.Stop (record { pick = pick; place = place }))

unfoldable pub lose_line : ℕ → List (List ℕ) → Result Line Reason
lose_line devices words = do
  node ← or_reason reason.Node (below devices (word_at words 1))
  Ok (line.Item (item.Lose node))

unfoldable pub cut_line : List (List ℕ) → Result Line Reason
cut_line words = do
  pick ← pick_in words 2
  budget ← great_in words 3
  Ok (line.Item (item.Scavenge pick budget))

abbrev pub admin_line : Command → Line
admin_line c = line.Item (item.Admin c)

unfoldable pub drop_line : List (List ℕ) → Result Line Reason
drop_line words = do
  id ← id_in words 2
  Ok (admin_line (command.IndexDrop id))

unfoldable pub current_line : List (List ℕ) → Result Line Reason
current_line words = do
  id ← id_in words 2
  Ok (admin_line (command.IndexCurrent id))

unfoldable pub checkpoints_in : List (List ℕ) → Result HaltWord Reason
checkpoints_in words = do
  left ← number_at 0 4294967295 words 2
  Ok (halt.Checkpoints left)

unfoldable pub halt_of : HaltForm → List (List ℕ) → Result HaltWord Reason
halt_of halt_form.Checkpoints words = checkpoints_in words
halt_of halt_form.Before words = do
  at ← great_in words 2
  Ok (halt.Before at)
halt_of halt_form.After words = do
  at ← great_in words 2
  Ok (halt.After at)
halt_of halt_form.Seconds words = do
  seconds ← great_in words 2
  Ok (halt.Seconds seconds)
halt_of halt_form.Reason words = do
  name ← name_in words 2
  Ok (halt.Reason name)

unfoldable pub halt_line : HaltForm → List (List ℕ) → Result Line Reason
halt_line form words = do
  word ← halt_of form words
  Ok (admin_line (command.HaltSet word))

-- a scavenge without a cut has the greatest u64 as its budget
abbrev pub scavenge_line : Line
scavenge_line = line.Item (item.Scavenge 0 18446744073709551615)

-- the line of a form, with its values
unfoldable pub line_of : Size → BodyForm → List ℕ → List (List ℕ) → Result Line Reason
line_of z body.Run text words = run_line z words
line_of z (body.Rank form) text words = rank_line (ranks_of z) form words
line_of z body.TurnRank text words = turn_rank_line (ranks_of z) words
line_of z (body.Turn who) text words = turn_line who words
line_of z (body.Stop form) text words = stop_line form text words
line_of z body.Lose text words = lose_line (devices_of z) words
line_of z body.Scavenge text words = Ok scavenge_line
line_of z body.ScavengeCut text words = cut_line words
line_of z body.IndexList text words = Ok (admin_line command.IndexList)
line_of z body.IndexDrop text words = drop_line words
line_of z body.IndexCurrent text words = current_line words
line_of z (body.Halt form) text words = halt_line form words
line_of z body.HaltClear text words = Ok (admin_line command.HaltClear)
