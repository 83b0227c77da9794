-- What a run's memory answers of the datasets in cache.
use Rattle.std.specs.Prelude.{ℕ, ◌+◌, ◌%◌, ◌==◌, ◌&&◌, ◌||◌, not, Bool, true, false, nat_lt, nat_le, List, length, fold, find, bytes_eq, Option, None, Some, is_some, is_none, option_map, option_and_then, if◌then◌else◌, [], ◌∷◌, ◌≤◌, ◌<◌}
use Rattle.std.specs.List.{list_all, list_any}
use Rattle.scr_base.specs.Same.{same_id}
use Rattle.scr_base.specs.declared.shape.DataId.{DataId}
use Rattle.scr_base.specs.Bytes.{bytes_for}
use Rattle.scr_base.specs.Calls.{or_else, refuse_if, has_bad_name, allows, is_output, is_restart, asks_time}
use Rattle.scr_base.specs.declared.answers.Phase.{Phase}
use Rattle.scr_base.specs.declared.answers.Phase.TheVariants as phase
use Rattle.scr_base.specs.declared.answers.Refusal.{Refusal}
use Rattle.scr_base.specs.declared.answers.Refusal.TheVariants as refusal
use Rattle.scr_base.specs.declared.content.Step.{Step}
use Rattle.scr_base.specs.declared.content.Step.TheVariants.{Start, Route, Write, Complete, Read}
use Rattle.filemap.specs.Rows.{is_routed}
use Rattle.filemap.specs.Maps.{rows_of}
use Rattle.filemap.specs.declared.rows.FileRow.{FileRow}
use Rattle.round_core.specs.Seats.{judged_of, is_complete, first_call, seat_is_valid}
use Rattle.ckpt_model.specs.Dataset.{is_checkpoint_flag, is_output_flag}
use Rattle.halt_file.specs.Conditions.{conditions}
use Rattle.scr_base.specs.Halt.{halt_reason}
use Rattle.scr_base.specs.declared.shape.Config.{Config}
use Rattle.site_state.specs.declared.run_state.RunStage.{RunStage}
use Rattle.site_state.specs.declared.run_state.RunStage.TheVariants as stage
use Rattle.site_state.specs.declared.cache.Cached.{Cached}
use Rattle.site_state.specs.declared.cache.Manifest.{Manifest}
use Rattle.site_state.specs.declared.cache.Mark.{Mark}
use Rattle.site_state.specs.declared.cache.Mark.TheVariants as mark
use Rattle.site_state.specs.declared.run_state.RunState.{RunState}

abbrev pub is_being_sealed : Mark → Bool
is_being_sealed mark.Mending = false
is_being_sealed mark.Sealing = true
is_being_sealed mark.Settled = false

abbrev pub is_at_rest : Mark → Bool
is_at_rest mark.Mending = false
is_at_rest mark.Sealing = false
is_at_rest mark.Settled = true

-- its members are being sealed
abbrev pub seals : Cached → Bool
seals set = is_being_sealed set.mark

-- it is this dataset, and settled
abbrev pub is_settled_one : DataId → Cached → Bool
is_settled_one which set = same_id set.manifest.desc.which which && is_at_rest set.mark

-- the one with the larger number, the first of these
abbrev pub later : Option Manifest → Manifest → Option Manifest
later None m = Some m
later (Some best) m = if nat_lt best.desc.which.id m.desc.which.id then Some m else Some best

-- the newest checkpoint so far, with one dataset more
abbrev pub newer_with : Option Manifest → Cached → Option Manifest
newer_with best set = if is_checkpoint_flag set.manifest.desc.flags then later best set.manifest else best

-- the newest checkpoint
abbrev pub newest_of : List Cached → Option Manifest
newest_of sets = fold newer_with None sets

-- the cache has no room for one more
abbrev pub is_crowded : RunState → Bool
is_crowded c = nat_le c.config.cache (length c.kept)

-- the identity of the dataset in cache that has the name
abbrev pub named_in : List Cached → List ℕ → Option DataId
named_in sets name = option_map (λ set. set.manifest.desc.which) (find (λ set. bytes_eq set.manifest.desc.name name) sets)

-- what a Start alone may be refused for
abbrev pub start_verdict : RunState → Step → Option Refusal
start_verdict c (Start name flags) = or_else (refuse_if (nat_lt 4294967295 c.next) refusal.Limit) (option_map (λ which. refusal.NameTaken which) (named_in c.kept name))
start_verdict c _ = None

-- the first refusal whose condition holds, of a complete round that begins with this call
abbrev pub verdict_of : RunState → Step → Option Refusal
verdict_of c call = or_else (judged_of c.phase c.ranks) (or_else (refuse_if (has_bad_name call) refusal.BadName) (start_verdict c call))

-- the round completes a dataset, and nothing speaks against it
abbrev pub completes_with : RunState → Option Step → Bool
completes_with c (Some (Complete valid)) = is_none (verdict_of c (Complete valid))
completes_with c _ = false

-- the round completes the open dataset, and nothing speaks against it
abbrev pub completes : RunState → Bool
completes c = is_some c.opened && is_complete c.ranks && completes_with c (first_call c.ranks)

-- every rank says that its part is valid: the dataset is to be saved
abbrev pub is_to_save : RunState → Bool
is_to_save c = completes c && list_all seat_is_valid c.ranks

-- some rank doesn't: it is to be removed
abbrev pub is_to_drop : RunState → Bool
is_to_drop c = completes c && not (list_all seat_is_valid c.ranks)

-- the round is complete, nothing speaks against it, and it needs a reading of the clock that isn't there
abbrev pub asks_with : RunState → Option Step → Bool
asks_with c None = false
asks_with c (Some call) = asks_time call && is_none (verdict_of c call)

abbrev pub is_serving : RunStage → Bool
is_serving stage.Serving = true
is_serving _ = false

abbrev pub wants_reading : RunState → Bool
wants_reading c = is_serving c.stage && is_complete c.ranks && is_none c.reading && asks_with c (first_call c.ranks)

-- a checkpoint is wanted: it is the n-th question of the run, or the job is to stop
abbrev pub is_needed : RunState → ℕ → ℕ → Bool
is_needed c needs now = needs % c.config.interval == 0 || is_some (halt_reason (conditions c.halt) now c.settled)

-- the dataset is settled, and is to be flushed
abbrev pub is_due : Config → Cached → Bool
is_due config set =
    is_at_rest set.mark
    && (is_output_flag set.manifest.desc.flags || is_checkpoint_flag set.manifest.desc.flags && not (config.flush == 0) && set.manifest.desc.which.id % config.flush == 0)

-- the smallest identity that is due
abbrev pub due_in : RunState → Option DataId
due_in c = option_map (λ set. set.manifest.desc.which) (find (is_due c.config) c.kept)

-- ## A rank's own steps

-- the dataset in cache of this identity
abbrev pub set_in : List Cached → DataId → Option Manifest
set_in sets which = option_map (λ set. set.manifest) (find (λ set. same_id set.manifest.desc.which which) sets)

abbrev pub hand_in : Phase → RunState → Option Manifest
hand_in phase.Output c = c.opened
hand_in phase.Restart c = option_and_then (set_in c.kept) c.offer
hand_in _ c = None

-- the dataset that the ranks' own steps work on: the open one, or the offered one
abbrev pub at_hand : RunState → Option Manifest
at_hand c = hand_in c.phase c

abbrev pub rows_in : Option Manifest → ℕ → List FileRow
rows_in None rank = []
rows_in (Some m) rank = rows_of m.files rank

-- a rank's files of it
abbrev pub rows_at : RunState → ℕ → List FileRow
rows_at c rank = rows_in (at_hand c) rank

-- the step names a file that isn't there
abbrev pub lacks_file : RunState → ℕ → Step → Bool
lacks_file c rank (Route name) = is_restart c.phase && not (is_routed (rows_at c rank) name)
lacks_file c rank (Write name at content) = not (is_routed (rows_at c rank) name)
lacks_file c rank (Read name at len) = not (is_routed (rows_at c rank) name)
lacks_file c rank _ = false

-- the step would pass a limit on files
abbrev pub is_over_limit : RunState → ℕ → Step → Bool
is_over_limit c rank (Route name) = is_output c.phase && not (is_routed (rows_at c rank) name) && nat_le 16 (length (rows_at c rank))
is_over_limit c rank (Write name at content) = nat_lt 1048576 (at + length (bytes_for content rank))
is_over_limit c rank _ = false

-- the first refusal whose condition holds, of a rank's own step
abbrev pub local_verdict_of : RunState → ℕ → Step → Option Refusal
local_verdict_of c rank call =
    or_else (refuse_if (not (allows c.phase call)) (refusal.Phase c.phase))
    (or_else (refuse_if (has_bad_name call) refusal.BadName)
    (or_else (refuse_if (lacks_file c rank call) refusal.NoFile)
    (refuse_if (is_over_limit c rank call) refusal.Limit)))

-- ## Numbers

-- the numbers rise, from this one on
abbrev pub AscendFrom : ℕ → List Cached → Type 0
AscendFrom low [] = Unit {0}
AscendFrom low (set ∷ sets) = (low ≤ set.manifest.desc.which.id) × AscendFrom (set.manifest.desc.which.id + 1) sets

-- each number is below this one
abbrev pub AreBelow : ℕ → List Cached → Type 0
AreBelow n [] = Unit {0}
AreBelow n (set ∷ sets) = (set.manifest.desc.which.id < n) × AreBelow n sets

-- it is this dataset, a checkpoint
abbrev pub is_checkpoint_one : DataId → Cached → Bool
is_checkpoint_one which set = same_id set.manifest.desc.which which && is_checkpoint_flag set.manifest.desc.flags

-- how many of these checkpoints have the identity
abbrev pub count_one : DataId → List Cached → ℕ
count_one which sets = if list_any (is_checkpoint_one which) sets then 1 else 0
