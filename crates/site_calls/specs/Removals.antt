-- A node's member on its way out.
use Rattle.std.specs.Prelude.{ℕ, List, Option, None}
use Rattle.scr_base.specs.declared.change.Change.{Change}
use Rattle.scr_base.specs.declared.shape.DataId.{DataId}
use Rattle.member_store.specs.Calls.{IsDropStageOf}

-- the member, and the changes that are left, where they are known
pub record Leaving : Type 0 where
  pub which : DataId
  pub node : ℕ
  pub changes : Option (List Change)

-- the stage is one of this member's removal
pub record IsLeaving (which : DataId) (node : ℕ) (changes : Option (List Change)) : Type 0 where
  pub stage : IsDropStageOf which node changes

-- the removal of a member that has made no change
abbrev pub leaving : DataId → ℕ → Leaving
leaving which node = record { which = which; node = node; changes = None }
