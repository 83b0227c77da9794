-- The spelling of each line behind the settings, and what a line of that spelling is read as.
use Rattle.std.specs.Prelude.{ℕ, ◌≡◌, ◌<◌, ◌≤◌, ◌==◌, ◌⊎◌, ◌||◌, Bool, false, true, List, [], ◌∷◌, ◌++◌, length, codes, decimal, IsTrue, Some, Ok, if◌then◌else◌}
use Rattle.std.specs.List.{list_all}
use Rattle.scr_base.specs.Words.{is_name}
use Rattle.scr_base.specs.Limits.{is_site}
use Rattle.scr_base.specs.Sets.{is_among}
use Rattle.scr_base.specs.declared.actor.Actor.{Actor}
use Rattle.scr_base.specs.declared.actor.Actor.TheVariants as actor
use Rattle.scr_base.specs.declared.content.HaltWord.{HaltWord}
use Rattle.scr_base.specs.declared.content.HaltWord.TheVariants as halt
use Rattle.ckpt_model.specs.Text.{words, numbers_joined}
use Rattle.ckpt_model.specs.declared.stop_line.StopPlace.{StopPlace}
use Rattle.ckpt_model.specs.declared.stop_line.StopPlace.TheVariants as place
use Rattle.admin.specs.declared.command.Command.{Command}
use Rattle.admin.specs.declared.command.Command.TheVariants as command
use Rattle.script_reader.specs.declared.form.BodyForm.{BodyForm}
use Rattle.script_reader.specs.declared.form.Form.TheVariants as form
use Rattle.script_reader.specs.declared.script.Item.{Item}
use Rattle.script_reader.specs.declared.script.Item.TheVariants as item
use Rattle.script_reader.specs.declared.line.Line.{Line}
use Rattle.script_reader.specs.declared.line.Line.TheVariants as line
use Rattle.script_reader.specs.Words.{words_of, has_empty}
use Rattle.script_reader.specs.Forms.{form_of}
use Rattle.script_reader.specs.Values.{Size, ranks_of, devices_of, line_of}
use Rattle.script_reader.specs.declared.stage.Stage.{Stage}
use Rattle.script_reader.specs.Progress.{is_text, is_skipped, is_ranks, is_open, is_settings, is_between, allows_body}
use Rattle.script_reader.specs.Spelled.{IsScriptStep, rank_text}

-- ## How a line is spelled

abbrev pub actor_words : Actor → List (List ℕ)
actor_words (actor.Rank rank) = codes "rank" ∷ decimal rank ∷ []
actor_words actor.Recoverer = codes "recoverer" ∷ []
actor_words actor.Encoder = codes "encoder" ∷ []
actor_words actor.Flusher = codes "flusher" ∷ []
actor_words actor.Evictor = codes "evictor" ∷ []

abbrev pub place_words : StopPlace → List (List ℕ)
place_words place.End = codes "end" ∷ []
place_words (place.After moves) = codes "after" ∷ decimal moves ∷ []
place_words (place.On text) = codes "on" ∷ text ∷ []

abbrev pub halt_words : HaltWord → List (List ℕ)
halt_words (halt.Checkpoints left) = codes "checkpoints" ∷ decimal left ∷ []
halt_words (halt.Before at) = codes "before" ∷ decimal at ∷ []
halt_words (halt.After at) = codes "after" ∷ decimal at ∷ []
halt_words (halt.Seconds seconds) = codes "seconds" ∷ decimal seconds ∷ []
halt_words (halt.Reason name) = codes "reason" ∷ name ∷ []

abbrev pub command_words : Command → List (List ℕ)
command_words command.IndexList = codes "index" ∷ codes "list" ∷ []
command_words (command.IndexDrop id) = codes "index" ∷ codes "drop" ∷ decimal id ∷ []
command_words (command.IndexCurrent id) = codes "index" ∷ codes "current" ∷ decimal id ∷ []
command_words (command.HaltSet word) = codes "halt" ∷ halt_words word
command_words command.HaltClear = codes "halt" ∷ codes "clear" ∷ []

-- the budget of a scavenge without a cut
abbrev pub no_cut : ℕ
no_cut = 18446744073709551615

-- what stands between two runs; a run has lines of its own
abbrev pub item_words : Item → List (List ℕ)
item_words (item.Lose node) = codes "lose" ∷ decimal node ∷ []
item_words (item.Scavenge pick budget) = if budget == no_cut then codes "scavenge" ∷ [] else codes "scavenge" ∷ codes "cut" ∷ decimal pick ∷ decimal budget ∷ []
item_words (item.Admin c) = command_words c
item_words (item.Run run) = []

-- the line without its line feed; a step is that of one rank
abbrev pub line_text : Line → List ℕ
line_text (line.Run places) = words (codes "run" ∷ numbers_joined 44 places ∷ [])
line_text (line.Rank given) = rank_text (decimal given.first) given.step
line_text (line.Turn turn) = words (codes "turn" ∷ actor_words turn.actor ++ decimal turn.times ∷ [])
line_text (line.Stop stop) = words (codes "stop" ∷ decimal stop.pick ∷ place_words stop.place)
line_text (line.Item i) = words (item_words i)

-- ## Which lines there are, at a site

-- each place is below a count, and none stands before
abbrev pub ArePlaces : ℕ → List ℕ → List ℕ → Type 0
ArePlaces devices before [] = Unit {0}
ArePlaces devices before (p ∷ ps) = (p < devices) × (is_among p before ≡ false) × ArePlaces devices (before ++ p ∷ []) ps

abbrev pub IsActorOf : ℕ → Actor → Type 0
IsActorOf ranks (actor.Rank rank) = rank < ranks
IsActorOf ranks _ = Unit {0}

-- words with one blank between two, of at most 200 bytes
pub record IsStopText (text : List ℕ) : Type 0 where
  pub full : has_empty (words_of text) ≡ false
  pub bytes : list_all is_text text ≡ true
  pub short : length text ≤ 200

abbrev pub IsStopPlace : StopPlace → Type 0
IsStopPlace place.End = Unit {0}
IsStopPlace (place.After moves) = moves ≤ 9999999999
IsStopPlace (place.On text) = IsStopText text

abbrev pub IsHaltWord : HaltWord → Type 0
IsHaltWord (halt.Checkpoints left) = left ≤ 4294967295
IsHaltWord (halt.Before at) = at ≤ 9999999999
IsHaltWord (halt.After at) = at ≤ 9999999999
IsHaltWord (halt.Seconds seconds) = seconds ≤ 9999999999
IsHaltWord (halt.Reason name) = IsTrue (is_name name)

abbrev pub IsCommand : Command → Type 0
IsCommand (command.IndexDrop id) = (1 ≤ id) × (id ≤ 4294967295)
IsCommand (command.IndexCurrent id) = (1 ≤ id) × (id ≤ 4294967295)
IsCommand (command.HaltSet word) = IsHaltWord word
IsCommand _ = Unit {0}

abbrev pub IsBetween : ℕ → Item → Type 0
IsBetween devices (item.Lose node) = node < devices
IsBetween devices (item.Scavenge pick budget) = ((pick ≡ 0) × (budget ≡ no_cut)) ⊎ ((pick ≤ 3) × (budget ≤ 9999999999))
IsBetween devices (item.Admin c) = IsCommand c
IsBetween devices (item.Run run) = ⊥

abbrev pub IsLine : Size → Line → Type 0
IsLine z (line.Run places) = (1 ≤ length places) × (length places ≡ z.nodes) × ArePlaces (devices_of z) [] places
IsLine z (line.Rank given) = (given.first ≡ given.last) × (given.first < ranks_of z) × IsScriptStep given.step
IsLine z (line.Turn turn) = IsActorOf (ranks_of z) turn.actor × (1 ≤ turn.times) × (turn.times ≤ 1000000)
IsLine z (line.Stop stop) = (stop.pick ≤ 3) × IsStopPlace stop.place
IsLine z (line.Item i) = IsBetween (devices_of z) i

-- ## What it is read as

-- a line of a run stands in one, and any other behind the settings or between the runs
abbrev pub stands : Stage → Line → Bool
stands s (line.Rank given) = is_ranks s
stands s (line.Turn turn) = is_open s
stands s (line.Stop stop) = is_open s
stands s (line.Run places) = is_settings s || is_between s
stands s (line.Item i) = is_settings s || is_between s

-- the text's words are of a form, which stands where the line does, and its values are this line
pub record IsReadAs (z : Size) (text : List ℕ) (l : Line) : Type 0 where
  pub kind : BodyForm
  pub form : form_of text (words_of text) ≡ Some (form.Body kind)
  pub values : line_of z kind text (words_of text) ≡ Ok l
  pub place : (s : Stage) → allows_body s kind ≡ stands s l
  pub bytes : list_all is_text text ≡ true
  pub begins : is_skipped text ≡ false

-- each line of a site is read back as it is spelled
abbrev pub AreLinesReadBack : Type 0
AreLinesReadBack = (z : Size) (l : Line) → IsTrue (is_site z.nodes z.ranks z.spares) → IsLine z l → IsReadAs z (line_text l) l
