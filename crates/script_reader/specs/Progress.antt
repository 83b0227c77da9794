-- What was read so far, which lines may come, and what each line adds.
use Rattle.std.specs.Prelude.{ℕ, ◌-◌, ◌==◌, ◌&&◌, ◌||◌, not, nat_le, Bool, true, false, List, [], ◌∷◌, ◌++◌, Option, Some, None, Result, Ok, Err, if◌then◌else◌}
use Rattle.std.specs.List.{list_all}
use Rattle.scr_base.specs.Limits.{is_in, is_site}
use Rattle.ckpt_model.specs.declared.stop_line.StopLine.{StopLine}
use Rattle.script_reader.specs.declared.reason.Reason.{Reason}
use Rattle.script_reader.specs.declared.reason.Reason.TheVariants as reason
use Rattle.script_reader.specs.declared.form.Key.{Key}
use Rattle.script_reader.specs.declared.form.BodyForm.{BodyForm}
use Rattle.script_reader.specs.declared.form.BodyForm.TheVariants as body
use Rattle.script_reader.specs.declared.form.Form.{Form}
use Rattle.script_reader.specs.declared.form.Form.TheVariants as form
use Rattle.script_reader.specs.declared.script.Item.{Item}
use Rattle.script_reader.specs.declared.script.Item.TheVariants as item
use Rattle.script_reader.specs.declared.script.TurnLine.{TurnLine}
use Rattle.script_reader.specs.declared.line.Line.{Line}
use Rattle.script_reader.specs.declared.line.Line.TheVariants as line
use Rattle.script_reader.specs.declared.line.RankStep.{RankStep}
use Rattle.script_reader.specs.declared.run.Left.{Left}
use Rattle.script_reader.specs.declared.settings.Settings.{Settings}
use Rattle.script_reader.specs.declared.stage.Stage.{Stage}
use Rattle.script_reader.specs.declared.stage.Stage.TheVariants as stage
use Rattle.script_reader.specs.Reasons.{◌>>=◌, or_reason, unless}
use Rattle.script_reader.specs.Words.{words_of, word_at}
use Rattle.script_reader.specs.Forms.{form_of}
use Rattle.script_reader.specs.Values.{Size, ranks_of, number_at, line_of}
use Rattle.script_reader.specs.Settings.{no_settings, is_set, set_by, fits}
use Rattle.script_reader.specs.Routes.{Files, passes_routes, no_routes, routes_after}
use Rattle.script_reader.specs.Run.{programs_of, cost_of, spent}

-- the site, the settings and the items so far, the open run, and what the script may still have
pub record Progress : Type 0 where
  pub site : Size
  pub settings : Settings
  pub stage : Stage
  pub items : List Item
  pub places : List ℕ
  pub steps : List RankStep
  pub turns : List TurnLine
  pub routes : List Files
  pub left : Left

-- the limits of a script
abbrev pub all_left : Left
all_left = record { runs = 256; steps = 65536; turns = 1000000; written = 67108864; read = 67108864 }

-- before the first line
abbrev pub start : Progress
start = record {
  site = record { nodes = 1; ranks = 1; spares = 0 };
  settings = no_settings;
  stage = stage.Before;
  items = [];
  places = [];
  steps = [];
  turns = [];
  routes = [];
  left = all_left;
}

-- ## Which lines may come

abbrev pub is_before : Stage → Bool
is_before stage.Before = true
is_before _ = false

abbrev pub is_settings : Stage → Bool
is_settings stage.Settings = true
is_settings _ = false

abbrev pub is_between : Stage → Bool
is_between stage.Between = true
is_between _ = false

abbrev pub is_ranks : Stage → Bool
is_ranks stage.Ranks = true
is_ranks _ = false

abbrev pub is_turns : Stage → Bool
is_turns stage.Turns = true
is_turns _ = false

-- a run is open
abbrev pub is_open : Stage → Bool
is_open s = is_ranks s || is_turns s

-- behind the settings, a line of the open run stands in it, and any other between the runs
unfoldable pub allows_body : Stage → BodyForm → Bool
allows_body s (body.Rank form) = is_ranks s
allows_body s body.TurnRank = is_open s
allows_body s (body.Turn who) = is_open s
allows_body s (body.Stop place) = is_open s
allows_body s _ = is_settings s || is_between s

-- behind the site's line come the settings, and then the other lines
unfoldable pub allows : Stage → Form → Bool
allows s form.Site = false
allows s (form.Set key) = is_settings s
allows s (form.Body f) = allows_body s f

abbrev pub is_site_form : Form → Bool
is_site_form form.Site = true
is_site_form _ = false

-- a setting that was set before
abbrev pub repeats : Settings → Form → Bool
repeats settings (form.Set key) = is_set settings key
repeats settings _ = false

abbrev pub is_body : Form → Bool
is_body (form.Body f) = true
is_body _ = false

-- the first line behind the settings, under a scheme that doesn't fit the groups
abbrev pub misfits : Progress → Form → Bool
misfits p f = is_body f && is_settings p.stage && not (fits p.settings p.site.nodes)

-- why a line of this form can't stand here
unfoldable pub order_fault : Progress → Form → Option Reason
order_fault p f =
    if is_before p.stage then (if is_site_form f then None else Some reason.NoSite)
    else if not (allows p.stage f) then Some reason.Order
    else if repeats p.settings f then Some reason.Repeated
    else if misfits p f then Some reason.Scheme
    else None

-- ## What a line adds

-- site N R S
unfoldable pub site_taken : Progress → List (List ℕ) → Result Progress Reason
site_taken p words = do
  n ← number_at 0 255 words 1
  r ← number_at 0 255 words 2
  s ← number_at 0 255 words 3
  if is_site n r s then Ok (record p { site = record { nodes = n; ranks = r; spares = s }; stage = stage.Settings }) else Err reason.Number

-- set KEY VALUE
unfoldable pub setting_taken : Progress → Key → List (List ℕ) → Result Progress Reason
setting_taken p key words = do
  settings ← or_reason reason.Number (set_by p.settings key (word_at words 2))
  Ok (record p { settings = settings })

-- a run begins, if there may be another
unfoldable pub run_taken : Progress → List ℕ → Result Progress Reason
run_taken p places =
    if p.left.runs == 0 then Err reason.Limit
    else Ok (record p { stage = stage.Ranks; places = places; routes = no_routes (ranks_of p.site); left = record p.left { runs = p.left.runs - 1 } })

-- a step of the open run, if the file isn't too long, no rank has too many files, and there is enough left
unfoldable pub step_taken : Progress → RankStep → Result Progress Reason
step_taken p given = do
  cost ← or_reason reason.FileEnd (cost_of given)
  _ ← unless (if passes_routes p.routes given then Some reason.Routes else None)
  left ← or_reason reason.Limit (spent p.left cost)
  Ok (record p { steps = p.steps ++ given ∷ []; routes = routes_after p.routes given; left = left })

-- turns of the open run, if there are enough left
unfoldable pub turn_taken : Progress → TurnLine → Result Progress Reason
turn_taken p turn =
    if nat_le turn.times p.left.turns
    then Ok (record p { stage = stage.Turns; turns = p.turns ++ turn ∷ []; left = record p.left { turns = p.left.turns - turn.times } })
    else Err reason.Limit

-- the open run with its stop
abbrev pub run_of : Progress → StopLine → Item
run_of p stop = item.Run (record { places = p.places; programs = programs_of p.steps (ranks_of p.site); turns = p.turns; stop = stop })

-- the open run is over
abbrev pub stop_taken : Progress → StopLine → Progress
stop_taken p stop = record p { stage = stage.Between; items = p.items ++ run_of p stop ∷ []; places = []; steps = []; turns = []; routes = [] }

abbrev pub item_taken : Progress → Item → Progress
item_taken p i = record p { stage = stage.Between; items = p.items ++ i ∷ [] }

unfoldable pub line_taken : Progress → Line → Result Progress Reason
line_taken p (line.Run places) = run_taken p places
line_taken p (line.Rank given) = step_taken p given
line_taken p (line.Turn turn) = turn_taken p turn
line_taken p (line.Stop stop) = Ok (stop_taken p stop)
line_taken p (line.Item i) = Ok (item_taken p i)

-- a line behind the settings
unfoldable pub body_taken : Progress → BodyForm → List ℕ → List (List ℕ) → Result Progress Reason
body_taken p f text words = do
  l ← line_of p.site f text words
  line_taken p l

unfoldable pub form_taken : Progress → Form → List ℕ → List (List ℕ) → Result Progress Reason
form_taken p form.Site text words = site_taken p words
form_taken p (form.Set key) text words = setting_taken p key words
form_taken p (form.Body f) text words = body_taken p f text words

-- ## A line

-- a blank or a visible byte
abbrev pub is_text : ℕ → Bool
is_text b = is_in 32 126 b

-- an empty line, or a comment
abbrev pub is_skipped : List ℕ → Bool
is_skipped [] = true
is_skipped (b ∷ bs) = b == 35

-- a line of words: its form, its place, and what it adds
unfoldable pub words_taken : Progress → List ℕ → List (List ℕ) → Result Progress Reason
words_taken p text words = do
  f ← or_reason reason.Form (form_of text words)
  _ ← unless (order_fault p f)
  form_taken p f text words

-- what was read behind a line, or the line's first reason
unfoldable pub after_line : Progress → List ℕ → Result Progress Reason
after_line p text =
    if list_all is_text text then (if is_skipped text then Ok p else words_taken p text (words_of text)) else Err reason.Byte
