-- How much a run has ahead of it, at most: a number that each turn that moves lowers, over whatever devices.
use Rattle.std.specs.Prelude.{◌≡◌, ◌⊎◌, ◌+◌, ◌-◌, ◌*◌, ◌^◌, ◌<◌, ℕ, Bool, true, false, not, List, [], ◌∷◌, length, filter, Option, None, Some, if◌then◌else◌}
use Rattle.std.specs.List.{list_any}
use Rattle.scr_base.specs.Calls.{is_end}
use Rattle.scr_base.specs.Stages.{left}
use Rattle.scr_base.specs.declared.content.Step.{Step}
use Rattle.round_core.specs.declared.seat.Seat.{Seat}
use Rattle.round_core.specs.declared.seat.Doing.{Doing}
use Rattle.round_core.specs.declared.seat.Doing.TheVariants as doing
use Rattle.site_state.specs.declared.cache.Manifest.{Manifest}
use Rattle.site_state.specs.declared.run_state.RunState.{RunState}
use Rattle.site_state.specs.declared.run_state.DropStep.{DropStep}
use Rattle.site_state.specs.declared.run_state.DropStep.TheVariants as drop
use Rattle.site_state.specs.declared.run_state.RunStage.{RunStage}
use Rattle.site_state.specs.declared.run_state.RunStage.TheVariants as stage
use Rattle.site_state.specs.declared.run_state.SaveStep.{SaveStep}
use Rattle.site_state.specs.declared.run_state.SaveStep.TheVariants as work
use Rattle.site_state.specs.declared.turn.Turn.{Turn}
use Rattle.site_state.specs.declared.turn.Turn.TheVariants as turn
use Rattle.site_state.specs.Asking.{program_of}
use Rattle.site_state.specs.Shown.{mends}

-- ## Workers

-- the round of a removed dataset is decided, and each rank takes its reply
abbrev pub round_ahead : ℕ → ℕ
round_ahead ranks = 2 * ranks + 3

-- a dataset is removed: on this node so many files are left, on each later one no count of them is known
abbrev pub drop_ahead : DropStep → (files nodes node ranks : ℕ) → ℕ
drop_ahead drop.File files nodes node ranks = (nodes - 1 - node) * (2 ^ 64 + 2) + files + 2 + round_ahead ranks
drop_ahead drop.Sync files nodes node ranks = (nodes - 1 - node) * (2 ^ 64 + 2) + 1 + round_ahead ranks

-- a removal that hasn't begun
abbrev pub removal_ahead : (nodes ranks : ℕ) → ℕ
removal_ahead nodes ranks = drop_ahead drop.File (2 ^ 64) nodes 0 ranks

-- a dataset is saved: two changes a node for its record and for each of its gates
abbrev pub work_ahead : SaveStep → (nodes node : ℕ) → ℕ
work_ahead work.Record nodes node = 2 * (nodes - 1 - node) + 2 + 2 * (2 * nodes + 2)
work_ahead work.RecordSync nodes node = 2 * (nodes - 1 - node) + 1 + 2 * (2 * nodes + 2)
work_ahead work.Whole nodes node = 2 * (nodes - 1 - node) + 2 + (2 * nodes + 2)
work_ahead work.WholeSync nodes node = 2 * (nodes - 1 - node) + 1 + (2 * nodes + 2)
work_ahead work.Sealed nodes node = 2 * (nodes - 1 - node) + 2
work_ahead work.SealedSync nodes node = 2 * (nodes - 1 - node) + 1

-- its saving may still become a removal
abbrev pub save_ahead : SaveStep → (nodes node ranks : ℕ) → ℕ
save_ahead work nodes node ranks = work_ahead work nodes node + removal_ahead nodes ranks

-- an open dataset is still to be saved or removed
abbrev pub open_ahead : Option Manifest → (nodes ranks : ℕ) → ℕ
open_ahead None nodes ranks = 0
open_ahead (Some m) nodes ranks = save_ahead work.Record nodes 0 ranks

-- a round may still be told the time
abbrev pub clock_ahead : Option ℕ → ℕ
clock_ahead None = 2
clock_ahead (Some now) = 1

-- of the workers, at a stage of the run; a look finds fewer than 2 ^ 64 datasets
abbrev pub stage_ahead : RunStage → RunState → ℕ
stage_ahead stage.Begun c = 2 ^ 64 + 2 ^ 64 + 6 + open_ahead c.opened c.shape.nodes (length c.ranks)
stage_ahead stage.Storing c = left c.storing.changes + 2 ^ 64 + 5 + open_ahead c.opened c.shape.nodes (length c.ranks)
stage_ahead stage.Looking c = 2 ^ 64 + 4 + open_ahead c.opened c.shape.nodes (length c.ranks)
stage_ahead stage.Mending c = length (filter mends c.kept) + 3 + open_ahead c.opened c.shape.nodes (length c.ranks)
stage_ahead stage.Serving c = clock_ahead c.reading + open_ahead c.opened c.shape.nodes (length c.ranks)
stage_ahead (stage.Saving work node) c = save_ahead work c.shape.nodes node (length c.ranks)
stage_ahead (stage.Dropping drop node) c = drop_ahead drop (left c.removal.changes) c.shape.nodes node (length c.ranks)
stage_ahead stage.Dropped c = round_ahead (length c.ranks)
stage_ahead stage.Over c = 0

-- a node's record is written next: of a dataset that is being saved, or the first of one that is open
abbrev pub IsToRecord : RunStage → ℕ → Type 0
IsToRecord s node = (s ≡ stage.Saving work.Record node) ⊎ ((s ≡ stage.Serving) × (node ≡ 0))

-- ## Ranks

-- a call other than an End: its round gives each rank a reply, and may open a dataset
abbrev pub call_ahead : (nodes ranks : ℕ) → ℕ
call_ahead nodes ranks = 2 * ranks + 2 + save_ahead work.Record nodes 0 ranks

-- after its End a rank has that call once more ahead
abbrev pub doing_ahead : (call : ℕ) → (ended : Bool) → Doing → ℕ
doing_ahead call true doing.Free = 1
doing_ahead call false doing.Free = 0
doing_ahead call true (doing.Owed reply) = 2
doing_ahead call false (doing.Owed reply) = 1
doing_ahead call ended (doing.Waits step) = if is_end step then 0 else call

-- of a rank whose program has so many steps
abbrev pub seat_ahead : (call steps : ℕ) → Seat → ℕ
seat_ahead call steps seat = (call + 1) * (steps - seat.number) + doing_ahead call seat.ended seat.doing

-- of the ranks from this one on
abbrev pub seats_ahead : (call : ℕ) → List (List Step) → ℕ → List Seat → ℕ
seats_ahead call programs rank [] = 0
seats_ahead call programs rank (seat ∷ seats) = seat_ahead call (length (program_of programs rank)) seat + seats_ahead call programs (rank + 1) seats

abbrev pub ranks_ahead : RunState → List (List Step) → ℕ
ranks_ahead c programs = seats_ahead (call_ahead c.shape.nodes (length c.ranks)) programs 0 c.ranks

-- the rank waits with a call other than an End
abbrev pub calls_in : Doing → Bool
calls_in doing.Free = false
calls_in (doing.Owed reply) = false
calls_in (doing.Waits step) = not (is_end step)

abbrev pub some_calls : List Seat → Bool
some_calls seats = list_any (λ seat. calls_in seat.doing) seats

-- ## The run

unfoldable pub ahead : RunState → List (List Step) → ℕ
ahead c programs = stage_ahead c.stage c + ranks_ahead c programs

-- a turn that moved lowers a number
abbrev pub Falls : Turn → ℕ → ℕ → Type 0
Falls turn.Moved old new = new < old
Falls (turn.NotYet why) old new = Unit {0}
Falls turn.Ended old new = Unit {0}
