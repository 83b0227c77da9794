-- Why a turn comes to nothing, by a run's memory.
use Rattle.std.specs.Prelude.{ℕ, ◌+◌, ◌-◌, ◌*◌, Bool, true, false, List, [], Option, None, Some, slice_get, position, unwrap_or, is_some, if◌then◌else◌}
use Rattle.std.specs.List.{list_all}
use Rattle.scr_base.specs.declared.actor.Actor.{Actor}
use Rattle.scr_base.specs.declared.actor.Actor.TheVariants as actor
use Rattle.scr_base.specs.declared.content.Step.{Step}
use Rattle.scr_base.specs.declared.content.Step.TheVariants.{Complete, Need, Exit, Finalize}
use Rattle.round_core.specs.Seats.{is_missing, first_call, seat_is_valid}
use Rattle.round_core.specs.declared.seat.Seat.{Seat}
use Rattle.round_core.specs.declared.seat.Doing.{Doing}
use Rattle.round_core.specs.declared.seat.Doing.TheVariants as doing
use Rattle.site_state.specs.declared.cache.Manifest.{Manifest}
use Rattle.site_state.specs.declared.run_state.RunState.{RunState}
use Rattle.site_state.specs.declared.run_state.RunStage.{RunStage}
use Rattle.site_state.specs.declared.run_state.RunStage.TheVariants as stage
use Rattle.site_state.specs.declared.run_state.SaveStep.{SaveStep}
use Rattle.site_state.specs.declared.run_state.SaveStep.TheVariants as work
use Rattle.site_state.specs.declared.turn.Turn.{Turn}
use Rattle.site_state.specs.declared.turn.Turn.TheVariants.{Moved, NotYet, Ended}
use Rattle.site_state.specs.declared.turn.Why.TheVariants as why
use Rattle.scr_base.specs.declared.shape.DataId.{DataId}
use Rattle.site_state.specs.Choosing.{verdict_of, is_to_save, is_to_drop, due_in}

-- the run is over
abbrev pub is_over : RunStage → Bool
is_over stage.Over = true
is_over _ = false

-- how many syncs and gate writes are left until the dataset is settled, on so many nodes
abbrev pub changes_left : SaveStep → ℕ → ℕ → ℕ
changes_left work.Record node nodes = (nodes - node) + 2 * (2 * nodes)
changes_left work.RecordSync node nodes = (nodes - node) + 2 * (2 * nodes)
changes_left work.Whole node nodes = 2 * (nodes - node) + 2 * nodes
changes_left work.WholeSync node nodes = (2 * (nodes - node) + 2 * nodes) - 1
changes_left work.Sealed node nodes = 2 * (nodes - node)
changes_left work.SealedSync node nodes = 2 * (nodes - node) - 1

-- ## A rank's turn

-- a clear Complete with a dataset open waits for it to be sealed, or removed
abbrev pub complete_turn : RunState → Option Manifest → Turn
complete_turn c None = Moved
complete_turn c (Some m) = if list_all seat_is_valid c.ranks then NotYet (why.Encode (changes_left work.Record 0 c.shape.nodes)) else NotYet (why.Evict m.desc.which.id)

-- a clear Need or Exit waits for the clock's reading
abbrev pub clock_turn : Option ℕ → Turn
clock_turn None = NotYet why.Clock
clock_turn (Some now) = Moved

-- a clear Finalize waits until nothing is left to be flushed
abbrev pub flush_turn : Option DataId → Turn
flush_turn None = Moved
flush_turn (Some which) = NotYet (why.Flush which.id)

-- a complete round that nothing speaks against
abbrev pub clear_turn : RunState → Option Step → Turn
clear_turn c (Some (Complete valid)) = complete_turn c c.opened
clear_turn c (Some Need) = clock_turn c.reading
clear_turn c (Some Exit) = clock_turn c.reading
clear_turn c (Some Finalize) = flush_turn (due_in c)
clear_turn c _ = Moved

abbrev pub is_refused_round : RunState → Option Step → Bool
is_refused_round c None = false
is_refused_round c (Some call) = is_some (verdict_of c call)

abbrev pub round_turn : RunState → Option ℕ → Turn
round_turn c (Some rank) = NotYet (why.Round rank)
round_turn c None = if is_refused_round c (first_call c.ranks) then Moved else clear_turn c (first_call c.ranks)

abbrev pub free_turn : Bool → Option Step → Turn
free_turn true next = Moved
free_turn false None = NotYet why.NoStep
free_turn false (Some step) = Moved

abbrev pub seat_turn : RunState → List (List Step) → ℕ → Seat → Doing → Turn
seat_turn c programs rank seat doing.Free = free_turn seat.ended (slice_get (unwrap_or (slice_get programs rank) []) seat.number)
seat_turn c programs rank seat (doing.Waits step) = round_turn c (position is_missing c.ranks)
seat_turn c programs rank seat (doing.Owed reply) = Moved

abbrev pub serving_turn : RunState → List (List Step) → ℕ → Option Seat → Turn
serving_turn c programs rank None = Moved
serving_turn c programs rank (Some seat) = seat_turn c programs rank seat seat.doing

abbrev pub rank_turn : RunStage → RunState → List (List Step) → ℕ → Turn
rank_turn stage.Serving c programs rank = serving_turn c programs rank (slice_get c.ranks rank)
rank_turn (stage.Saving work node) c programs rank = NotYet (why.Encode (changes_left work node c.shape.nodes))
rank_turn (stage.Dropping drop node) c programs rank = NotYet (why.Evict c.removal.which.id)
rank_turn stage.Dropped c programs rank = Moved
rank_turn stage.Over c programs rank = Ended
rank_turn _ c programs rank = NotYet why.Recover

-- ## The turns of the others

abbrev pub recoverer_turn : RunStage → Turn
recoverer_turn stage.Begun = Moved
recoverer_turn stage.Storing = Moved
recoverer_turn stage.Looking = Moved
recoverer_turn stage.Mending = Moved
recoverer_turn stage.Over = Ended
recoverer_turn _ = NotYet why.Idle

abbrev pub encoder_turn : RunStage → RunState → Turn
encoder_turn stage.Serving c = if is_to_save c then Moved else NotYet why.Idle
encoder_turn (stage.Saving work node) c = Moved
encoder_turn stage.Over c = Ended
encoder_turn _ c = NotYet why.Idle

abbrev pub evictor_turn : RunStage → RunState → Turn
evictor_turn stage.Serving c = if is_to_drop c then Moved else NotYet why.Idle
evictor_turn (stage.Dropping drop node) c = Moved
evictor_turn stage.Over c = Ended
evictor_turn _ c = NotYet why.Idle

abbrev pub flusher_turn : RunStage → Turn
flusher_turn stage.Over = Ended
flusher_turn _ = NotYet why.Idle

-- what a turn comes to: a move, or the reason why there is none
abbrev pub turn_of : RunState → List (List Step) → Actor → Turn
turn_of c programs (actor.Rank rank) = rank_turn c.stage c programs rank
turn_of c programs actor.Recoverer = recoverer_turn c.stage
turn_of c programs actor.Encoder = encoder_turn c.stage c
turn_of c programs actor.Flusher = flusher_turn c.stage
turn_of c programs actor.Evictor = evictor_turn c.stage c
