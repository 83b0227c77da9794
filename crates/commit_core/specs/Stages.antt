-- In which order the commit of a dataset changes the devices of its nodes.
use Rattle.std.specs.Prelude.{◌≡◌, ◌<◌, ◌+◌, ◌-◌, ◌*◌, ℕ, nat_lt, Option, None, Some, if◌then◌else◌}
use Rattle.commit_core.specs.declared.change.NextChange.{NextChange}
use Rattle.commit_core.specs.declared.change.NextChange.TheVariants as change
use Rattle.commit_core.specs.declared.stage.CommitStage.{CommitStage}
use Rattle.commit_core.specs.declared.stage.CommitStage.TheVariants as stage
use Rattle.member_store.specs.declared.gates.MemberGate.TheVariants as gate

-- the stage is one on so many nodes
abbrev pub IsStage : ℕ → CommitStage → Type 0
IsStage nodes stage.Pieces = 0 < nodes
IsStage nodes (stage.Record node) = node < nodes
IsStage nodes (stage.RecordSync node) = node < nodes
IsStage nodes (stage.Whole node) = node < nodes
IsStage nodes (stage.WholeSync node) = node < nodes
IsStage nodes (stage.Sealed node) = node < nodes
IsStage nodes (stage.SealedSync node) = node < nodes
IsStage nodes stage.Over = Unit {0}

-- the change that comes next
abbrev pub change_at : CommitStage → Option NextChange
change_at stage.Pieces = Some (change.Record 0)
change_at (stage.Record node) = Some (change.Record node)
change_at (stage.RecordSync node) = Some (change.Sync node)
change_at (stage.Whole node) = Some (change.Open node gate.Whole)
change_at (stage.WholeSync node) = Some (change.Sync node)
change_at (stage.Sealed node) = Some (change.Open node gate.Sealed)
change_at (stage.SealedSync node) = Some (change.Sync node)
change_at stage.Over = None

-- the node that it is of
abbrev pub node_of : NextChange → ℕ
node_of (change.Record node) = node
node_of (change.Sync node) = node
node_of (change.Open node gate) = node

-- with the next node the same again, and after the last one something else
abbrev pub next_or : (nodes node : ℕ) → (ℕ → CommitStage) → CommitStage → CommitStage
next_or nodes node again other = if nat_lt (node + 1) nodes then again (node + 1) else other

-- where it leads
abbrev pub stage_after : ℕ → CommitStage → CommitStage
stage_after nodes stage.Pieces = stage.RecordSync 0
stage_after nodes (stage.Record node) = stage.RecordSync node
stage_after nodes (stage.RecordSync node) = next_or nodes node stage.Record (stage.Whole 0)
stage_after nodes (stage.Whole node) = stage.WholeSync node
stage_after nodes (stage.WholeSync node) = next_or nodes node stage.Whole (stage.Sealed 0)
stage_after nodes (stage.Sealed node) = stage.SealedSync node
stage_after nodes (stage.SealedSync node) = next_or nodes node stage.Sealed stage.Over
stage_after nodes stage.Over = stage.Over

-- how many syncs and gate writes are left after the pieces
abbrev pub gates_left : ℕ → CommitStage → ℕ
gates_left nodes stage.Pieces = 5 * nodes
gates_left nodes (stage.Record node) = (nodes - node) + 4 * nodes
gates_left nodes (stage.RecordSync node) = (nodes - node) + 4 * nodes
gates_left nodes (stage.Whole node) = 2 * (nodes - node) + 2 * nodes
gates_left nodes (stage.WholeSync node) = (2 * (nodes - node) + 2 * nodes) - 1
gates_left nodes (stage.Sealed node) = 2 * (nodes - node)
gates_left nodes (stage.SealedSync node) = 2 * (nodes - node) - 1
gates_left nodes stage.Over = 0

-- how many records are left to write
abbrev pub records_left : ℕ → CommitStage → ℕ
records_left nodes stage.Pieces = nodes
records_left nodes (stage.Record node) = nodes - node
records_left nodes (stage.RecordSync node) = (nodes - node) - 1
records_left nodes _ = 0

-- how many syncs and gate writes the next change is
abbrev pub gate_steps : CommitStage → ℕ
gate_steps stage.Pieces = 0
gate_steps (stage.Record node) = 0
gate_steps _ = 1

-- and how many records
abbrev pub record_steps : CommitStage → ℕ
record_steps stage.Pieces = 1
record_steps (stage.Record node) = 1
record_steps _ = 0

-- from one stage to another one change less is left
pub record LeavesLess (nodes : ℕ) (before later : CommitStage) : Type 0 where
  pub gates : gates_left nodes later + gate_steps before ≡ gates_left nodes before
  pub records : records_left nodes later + record_steps before ≡ records_left nodes before
