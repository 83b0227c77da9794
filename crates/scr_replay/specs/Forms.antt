-- Which scripts are built.
use Rattle.std.specs.Prelude.{ℕ, ◌-◌, ◌==◌, ◌&&◌, ◌||◌, not, nat_lt, Bool, true, false, List, [], ◌∷◌, length, bytes_eq, if◌then◌else◌}
use Rattle.std.specs.List.{list_all, flat_map, count_by}
use Rattle.scr_base.specs.Sets.{numbers_below}
use Rattle.scr_base.specs.declared.actor.Actor.{Actor}
use Rattle.scr_base.specs.declared.actor.Actor.TheVariants.{Rank}
use Rattle.scr_base.specs.declared.content.Step.{Step}
use Rattle.scr_base.specs.declared.content.Step.TheVariants.{Start, Complete, Restarted}
use Rattle.scr_base.specs.declared.shape.Flags.{Flags}
use Rattle.scr_base.specs.declared.shape.Flags.TheVariants.{Ckpt}
use Rattle.scr_base.specs.declared.shape.Scheme.{Scheme}
use Rattle.scr_base.specs.declared.shape.Scheme.TheVariants.{Single}
use Rattle.admin.specs.declared.command.Command.{Command}
use Rattle.admin.specs.declared.command.Command.TheVariants as command
use Rattle.ckpt_model.specs.declared.stop_line.StopLine.{StopLine}
use Rattle.ckpt_model.specs.declared.stop_line.StopPlace.{StopPlace}
use Rattle.ckpt_model.specs.declared.stop_line.StopPlace.TheVariants as stop
use Rattle.script_reader.specs.declared.script.Item.{Item}
use Rattle.script_reader.specs.declared.script.Item.TheVariants.{Run, Admin}
use Rattle.script_reader.specs.declared.script.RunItem.{RunItem}
use Rattle.script_reader.specs.declared.script.TurnLine.{TurnLine}
use Rattle.script_reader.specs.Values.{Size, ranks_of}
use Rattle.script_reader.specs.Grammar.{Job}

-- ## The steps

abbrev pub is_ckpt : Flags → Bool
is_ckpt Ckpt = true
is_ckpt _ = false

-- the step starts a dataset that goes to the prefix
abbrev pub is_for_prefix : Step → Bool
is_for_prefix (Start name flags) = not (is_ckpt flags)
is_for_prefix _ = false

-- the step drops the dataset that its rank restarted from
abbrev pub is_failed_restart : Step → Bool
is_failed_restart (Restarted false) = true
is_failed_restart _ = false

abbrev pub is_built_step : Step → Bool
is_built_step step = not (is_for_prefix step) && not (is_failed_restart step)

-- ## The runs

-- the run ends by itself, and what was written is there then
abbrev pub is_end : StopPlace → Bool
is_end stop.End = true
is_end _ = false

abbrev pub ends_by_itself : StopLine → Bool
ends_by_itself line = line.pick == 0 && is_end line.place

-- each node stands in its place
abbrev pub is_in_order : Size → List ℕ → Bool
is_in_order site places = bytes_eq places (numbers_below site.nodes)

-- the actor is one of a site of so many ranks
abbrev pub has_actor : ℕ → Actor → Bool
has_actor ranks (Rank rank) = nat_lt rank ranks
has_actor ranks _ = true

abbrev pub has_turn : ℕ → TurnLine → Bool
has_turn ranks turn = has_actor ranks turn.actor

-- each rank has its program, and the turns are of the site's actors, as in every script that is read
abbrev pub is_of_site : Size → RunItem → Bool
is_of_site site run = length run.programs == ranks_of site && list_all (has_turn (ranks_of site)) run.turns

abbrev pub are_built_steps : List Step → Bool
are_built_steps steps = list_all is_built_step steps

abbrev pub is_built_run : Size → RunItem → Bool
is_built_run site run =
    is_in_order site run.places && is_of_site site run && ends_by_itself run.stop && list_all are_built_steps run.programs

-- ## The items

-- the command is one on the conditions on which the job is to stop
abbrev pub is_halt_command : Command → Bool
is_halt_command (command.HaltSet word) = true
is_halt_command command.HaltClear = true
is_halt_command _ = false

-- the item is a run that is built, or such a command
abbrev pub is_built_item : Size → Item → Bool
is_built_item site (Run run) = is_built_run site run
is_built_item site (Admin command) = is_halt_command command
is_built_item site _ = false

abbrev pub first_program : List (List Step) → List Step
first_program [] = []
first_program (steps ∷ programs) = steps

-- the steps of rank 0 in this item
abbrev pub first_steps_of : Item → List Step
first_steps_of (Run run) = first_program run.programs
first_steps_of _ = []

-- the steps of rank 0 in the items, one after the other
abbrev pub first_steps : List Item → List Step
first_steps items = flat_map first_steps_of items

abbrev pub is_start : Step → Bool
is_start (Start name flags) = true
is_start _ = false

-- the step completes a dataset, and its rank calls it valid
abbrev pub is_kept : Step → Bool
is_kept (Complete true) = true
is_kept _ = false

-- the room behind a step: a dataset that is kept takes a place of it
abbrev pub room_after : ℕ → Step → ℕ
room_after room step = if is_kept step then room - 1 else room

-- each dataset is started where fewer were kept before than there is room for
abbrev pub has_room : ℕ → List Step → Bool
has_room room [] = true
has_room room (step ∷ steps) = (not (is_start step) || nat_lt 0 room) && has_room (room_after room step) steps

-- too few datasets are started for one whose number the flush divides
abbrev pub is_unflushed : ℕ → List Step → Bool
is_unflushed flush steps = flush == 0 || nat_lt (count_by is_start steps) flush

-- the datasets are kept without copies
abbrev pub is_single : Scheme → Bool
is_single Single = true
is_single _ = false

-- the script is built: its datasets are kept without copies, in cache and nowhere else, and there is room for them; its items are
-- runs that end by themselves, and commands on the conditions on which the job is to stop
abbrev pub is_built : Job → Bool
is_built job =
    is_single job.scheme && list_all (is_built_item job.site) job.items && has_room job.cache (first_steps job.items) && is_unflushed job.flush (first_steps job.items)
