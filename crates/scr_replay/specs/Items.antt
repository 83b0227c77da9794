-- The items of a script, as the machine knows them.
use Rattle.std.specs.Prelude.{ℕ, ◌-◌, ◌^◌, nat_lt, List, map, take, Option, None, Some}
use Rattle.node_device.specs.DeviceState.{DeviceState}
use Rattle.ckpt_model.specs.Legal.{Place, Item as LegalItem}
use Rattle.ckpt_model.specs.Legal.Place.{AtEnd, AfterMoves, OnText}
use Rattle.ckpt_model.specs.Legal.Item.{RunAt, Lose, Scavenge, ListIndex, DropEntry, MarkEntry, SetHalt}
use Rattle.ckpt_model.specs.Machine.{Setup}
use Rattle.ckpt_model.specs.declared.stop_line.StopPlace.{StopPlace}
use Rattle.ckpt_model.specs.declared.stop_line.StopPlace.TheVariants as stop
use Rattle.admin.specs.declared.command.Command.{Command}
use Rattle.admin.specs.declared.command.Command.TheVariants as command
use Rattle.script_reader.specs.declared.script.Item.{Item}
use Rattle.script_reader.specs.declared.script.Item.TheVariants as item
use Rattle.script_reader.specs.declared.script.Script.{Script}
use Rattle.scr_replay.specs.Runs.{IsCutShort}

abbrev pub setup_of : Script → Setup
setup_of script = record { shape = script.shape; config = script.config }

abbrev pub place_of : StopPlace → Place
place_of stop.End = AtEnd
place_of (stop.After moves) = AfterMoves moves
place_of (stop.On text) = OnText text

abbrev pub command_item : Command → LegalItem
command_item command.IndexList = ListIndex
command_item (command.IndexDrop id) = DropEntry id
command_item (command.IndexCurrent id) = MarkEntry id
command_item (command.HaltSet word) = SetHalt (Some word)
command_item command.HaltClear = SetHalt None

-- a scavenge may be cut where it isn't left the greatest number of changes
abbrev pub legal_item : Item → LegalItem
legal_item (item.Run run) = RunAt run.places run.programs (place_of run.stop.place)
legal_item (item.Lose node) = Lose node
legal_item (item.Scavenge pick budget) = Scavenge (nat_lt budget (2 ^ 64 - 1))
legal_item (item.Admin command) = command_item command

abbrev pub legal_items : List Item → List LegalItem
legal_items items = map legal_item items

-- the first of the items were played, and a front of the text of their history went out
pub record CutsShort (s : Setup) (items : List Item) (old : ℕ → DeviceState) (held held' : Option (List ℕ)) : Type 0 where
  pub count : ℕ
  pub at : ℕ → DeviceState
  pub cut : IsCutShort s (legal_items (take count items)) old at held held'
