-- What a reader stands for.
use Rattle.std.specs.Prelude.{◌≡◌, Result, Ok, Err}
use Rattle.script_reader.specs.declared.reason.Reason.{Reason}
use Rattle.script_reader.specs.declared.reason.LineError.{LineError}
use Rattle.script_reader.specs.declared.reader.Reader.{Reader}
use Rattle.script_reader.specs.Reasons.{Fails}
use Rattle.script_reader.specs.Values.{size_of}
use Rattle.script_reader.specs.Progress.{Progress}

abbrev pub progress_of : Reader → Progress
progress_of r = record {
  site = size_of r.shape;
  settings = r.settings;
  stage = r.stage;
  items = r.items.items;
  places = r.places;
  steps = r.steps.items;
  turns = r.turns.items;
  routes = r.routes.items;
  left = r.left;
}

-- what was read is this, or the line was refused for its reason; but for want of memory
abbrev pub Takes : Result Progress Reason → Progress → Result Unit LineError → Type 0
Takes read new (Ok _) = read ≡ Ok new
Takes read new (Err e) = Fails e read

-- the same, where no memory is wanted
abbrev pub TakesAtOnce : Result Progress Reason → Progress → Result Unit Reason → Type 0
TakesAtOnce read new (Ok _) = read ≡ Ok new
TakesAtOnce read new (Err why) = read ≡ Err why

-- what was read is this; but for want of memory
abbrev pub TakesAll : Progress → Progress → Result Unit LineError → Type 0
TakesAll read new result = Takes (Ok read) new result
