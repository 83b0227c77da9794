-- A dataset on its way out of the cache, and what the outcome of its next change makes of it.
use Rattle.std.specs.Prelude.{◌≡◌, ◌+◌, ℕ, zero, Bool, true, false, nat_lt, if◌then◌else◌, Result, Ok, Err, IsErr}
use Rattle.scr_base.specs.declared.memory.Memory.{Memory}
use Rattle.scr_base.specs.declared.shape.DataId.{DataId}
use Rattle.ckpt_model.specs.declared.event.Event.{Event}
use Rattle.ckpt_model.specs.declared.event.Event.TheVariants as event
use Rattle.ckpt_model.specs.declared.progress.Progress.{Progress}
use Rattle.ckpt_model.specs.declared.progress.Progress.TheVariants as progress
use Rattle.site_calls.specs.Removals.{Leaving, leaving}
use Rattle.site_calls.specs.declared.trouble.Trouble.{Trouble}
use Rattle.site_calls.specs.declared.trouble.Trouble.TheVariants as trouble
use Rattle.evict_core.specs.declared.closing.Closing.{Closing}
use Rattle.evict_core.specs.declared.closing.Closing.TheVariants as closing
use Rattle.evict_core.specs.declared.set.EvictSet.{EvictSet}
use Rattle.evict_core.specs.declared.stage.EvictStage.{EvictStage}
use Rattle.evict_core.specs.declared.stage.EvictStage.TheVariants as stage
use Rattle.evict_core.specs.Stages.{IsStage, stage_after}

-- a dataset, how far it has come, and the removal of one node's member
pub record Evicting : Type 0 where
  pub set : EvictSet
  pub stage : EvictStage
  pub removal : Leaving

-- while files of a node's member are removed, the removal is of that member
abbrev pub IsRemovalAt : DataId → EvictStage → Leaving → Type 0
IsRemovalAt which (stage.Remove node) removal = (removal.which ≡ which) × (removal.node ≡ node)
IsRemovalAt which _ removal = Unit {0}

pub record IsEvicting (base : EvictSet) (at : EvictStage) (removal : Leaving) : Type 0 where
  pub within : IsStage base.nodes at
  pub own : IsRemovalAt base.which at removal

-- where one in cache begins, and where one that isn't
abbrev pub closing_from : EvictSet → Closing → Evicting
closing_from base why = record { set = base; stage = stage.Close why 0; removal = leaving base.which 0 }

abbrev pub leaving_from : EvictSet → Evicting
leaving_from base = record { set = base; stage = stage.Remove 0; removal = leaving base.which 0 }

-- the event of the first closing, and that of the last sync
abbrev pub begins : Closing → DataId → Event
begins closing.Evicting which = event.Evicting which
begins closing.Failing which = event.Failing which

abbrev pub ends : Closing → DataId → Event
ends closing.Evicting which = event.Evicted which
ends closing.Failing which = event.Failed which

-- what a change shows once it is whole
abbrev pub shown_at : ℕ → DataId → EvictStage → Progress
shown_at nodes which (stage.Close why zero) = progress.Shown (begins why which)
shown_at nodes which (stage.CloseSync why node) = if nat_lt (node + 1) nodes then progress.Silent else progress.Shown (ends why which)
shown_at nodes which stage.Over = progress.Over
shown_at nodes which _ = progress.Silent

-- the stage after it
abbrev pub stage_when : ℕ → EvictStage → Result Bool Trouble → EvictStage
stage_when nodes at (Ok true) = stage_after nodes at
stage_when nodes at (Ok false) = at
stage_when nodes at (Err trouble.Memory) = at
stage_when nodes at (Err _) = stage.Over

-- the removal with which the stage begins
abbrev pub removal_at : DataId → EvictStage → Leaving → Leaving
removal_at which (stage.Remove node) removal = leaving which node
removal_at which _ removal = removal

abbrev pub removal_when : ℕ → DataId → EvictStage → Result Bool Trouble → Leaving → Leaving
removal_when nodes which at (Ok true) removal = removal_at which (stage_after nodes at) removal
removal_when nodes which at _ removal = removal

-- the answer
abbrev pub IsAnswer : ℕ → DataId → EvictStage → Result Bool Trouble → Result Progress Memory → Type 0
IsAnswer nodes which at (Ok true) result = result ≡ Ok (shown_at nodes which at)
IsAnswer nodes which at (Ok false) result = result ≡ Ok progress.Silent
IsAnswer nodes which at (Err trouble.Memory) result = IsErr result
IsAnswer nodes which at (Err (trouble.Fault node count)) result = result ≡ Ok (progress.Fault node count)
IsAnswer nodes which at (Err (trouble.Full node used capacity)) result = result ≡ Ok (progress.Full node used capacity)
