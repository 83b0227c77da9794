-- In which order the devices of a dataset's nodes are changed while it leaves the cache.
use Rattle.std.specs.Prelude.{◌<◌, ◌+◌, ◌-◌, ◌*◌, ℕ, nat_lt, Option, None, Some, if◌then◌else◌}
use Rattle.evict_core.specs.declared.change.EvictChange.{EvictChange}
use Rattle.evict_core.specs.declared.change.EvictChange.TheVariants as change
use Rattle.evict_core.specs.declared.stage.EvictStage.{EvictStage}
use Rattle.evict_core.specs.declared.stage.EvictStage.TheVariants as stage

-- the stage is one on so many nodes
abbrev pub IsStage : ℕ → EvictStage → Type 0
IsStage nodes (stage.Close closing node) = node < nodes
IsStage nodes (stage.CloseSync closing node) = node < nodes
IsStage nodes (stage.Remove node) = node < nodes
IsStage nodes (stage.RemoveSync node) = node < nodes
IsStage nodes stage.Over = Unit {0}

-- the change that comes next
abbrev pub change_at : EvictStage → Option EvictChange
change_at (stage.Close closing node) = Some (change.Close node)
change_at (stage.CloseSync closing node) = Some (change.Sync node)
change_at (stage.Remove node) = Some (change.Remove node)
change_at (stage.RemoveSync node) = Some (change.Sync node)
change_at stage.Over = None

-- the node that it is of
abbrev pub node_of : EvictChange → ℕ
node_of (change.Close node) = node
node_of (change.Sync node) = node
node_of (change.Remove node) = node

-- with the next node the same again, and after the last one something else
abbrev pub next_or : (nodes node : ℕ) → (ℕ → EvictStage) → EvictStage → EvictStage
next_or nodes node again other = if nat_lt (node + 1) nodes then again (node + 1) else other

-- where it leads once it is whole
abbrev pub stage_after : ℕ → EvictStage → EvictStage
stage_after nodes (stage.Close closing node) = stage.CloseSync closing node
stage_after nodes (stage.CloseSync closing node) = next_or nodes node (stage.Close closing) (stage.Remove 0)
stage_after nodes (stage.Remove node) = stage.RemoveSync node
stage_after nodes (stage.RemoveSync node) = next_or nodes node stage.Remove stage.Over
stage_after nodes stage.Over = stage.Over

-- how many gates, members and syncs are left
abbrev pub steps_left : ℕ → EvictStage → ℕ
steps_left nodes (stage.Close closing node) = 2 * (nodes - node) + 2 * nodes
steps_left nodes (stage.CloseSync closing node) = (2 * (nodes - node) + 2 * nodes) - 1
steps_left nodes (stage.Remove node) = 2 * (nodes - node)
steps_left nodes (stage.RemoveSync node) = 2 * (nodes - node) - 1
steps_left nodes stage.Over = 0
