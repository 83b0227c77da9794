-- The writes that a turn makes.
use Rattle.std.specs.Prelude.{◌≡◌, ◌+◌, ℕ, true, false, List, length, slice_get, None, Some}
use Rattle.scr_base.specs.Bytes.{bytes_for}
use Rattle.scr_base.specs.declared.actor.Actor.{Actor}
use Rattle.scr_base.specs.declared.actor.Actor.TheVariants as actor
use Rattle.scr_base.specs.declared.content.Step.{Step}
use Rattle.scr_base.specs.declared.content.Step.TheVariants as step
use Rattle.scr_base.specs.declared.shape.DataId.{DataId}
use Rattle.filemap.specs.Rows.{place_of, is_routed}
use Rattle.member_store.specs.Names.{record_name, part_name}
use Rattle.member_store.specs.Members.{member_body}
use Rattle.site_state.specs.declared.cache.Manifest.{Manifest}
use Rattle.site_state.specs.declared.run_moves.Spot.{Spot}
use Rattle.site_state.specs.declared.run_state.RunState.{RunState}
use Rattle.site_state.specs.declared.run_state.RunStage.{RunStage}
use Rattle.site_state.specs.declared.run_state.RunStage.TheVariants as stage
use Rattle.site_state.specs.declared.run_state.SaveStep.TheVariants as work
use Rattle.site_state.specs.Choosing.{local_verdict_of, rows_at, is_to_save}
use Rattle.site_state.specs.Cores.{IsSpot, saved_in}
use Rattle.site_state.specs.Steps.{IsNextLocal}
use Rattle.site_calls.specs.Writes.{IsWrite, WayWrites, MayWayWrite}

-- Here a write is told by the place of its device, the file's name, where in the file it begins, and how many bytes it has.

-- ## A rank's own step

-- so many bytes, from this place of a rank's file on
pub record IsFileWrite (c : RunState) (rank file from bytes : ℕ) (p : ℕ) (n : List ℕ) (a k : ℕ) : Type 0 where
  pub spot : Spot
  pub is_spot : IsSpot c rank file spot
  pub write : IsWrite spot.place (part_name spot.which spot.node spot.part) from bytes p n a k

-- a new file is made by a write of no bytes, and a Write writes what it brings
abbrev pub StepWrites : RunState → ℕ → Step → ℕ → List ℕ → ℕ → ℕ → Type 0
StepWrites c rank (step.Route word) p n a k = (is_routed (rows_at c rank) word ≡ false) × IsFileWrite c rank (place_of (rows_at c rank) word) 0 0 p n a k
StepWrites c rank (step.Write word at content) p n a k = IsFileWrite c rank (place_of (rows_at c rank) word) at (length (bytes_for content rank)) p n a k
StepWrites c rank _ p n a k = ⊥

-- what a rank's next step writes, where nothing speaks against it
pub record RankWrites (programs : List (List Step)) (c : RunState) (rank : ℕ) (p : ℕ) (n : List ℕ) (a k : ℕ) : Type 0 where
  pub serving : c.stage ≡ stage.Serving
  pub call : Step
  pub next : IsNextLocal programs c rank call
  pub clear : local_verdict_of c rank call ≡ None
  pub writes : StepWrites c rank call p n a k

-- ## The encoder

-- the body of a node's record of the open dataset
pub record IsRecordWrite (c : RunState) (node : ℕ) (p : ℕ) (n : List ℕ) (a k : ℕ) : Type 0 where
  pub set : Manifest
  pub opened : c.opened ≡ Some set
  pub home : slice_get c.places node ≡ Some p
  pub name : n ≡ record_name set.desc.which node
  pub at : a ≡ 8
  pub count : k ≡ 8 + length (member_body set.desc node set.files)

-- a gate of a node's record of the dataset that is being saved
pub record IsGateWrite (c : RunState) (node gate : ℕ) (p : ℕ) (n : List ℕ) (a k : ℕ) : Type 0 where
  pub which : DataId
  pub saved : saved_in c.opened c.kept ≡ Some which
  pub home : slice_get c.places node ≡ Some p
  pub name : n ≡ record_name which node
  pub at : a ≡ gate
  pub count : k ≡ 1

abbrev pub EncoderWrites : RunStage → RunState → ℕ → List ℕ → ℕ → ℕ → Type 0
EncoderWrites stage.Serving c p n a k = (is_to_save c ≡ true) × IsRecordWrite c 0 p n a k
EncoderWrites (stage.Saving work.Record node) c p n a k = IsRecordWrite c node p n a k
EncoderWrites (stage.Saving work.Whole node) c p n a k = IsGateWrite c node 0 p n a k
EncoderWrites (stage.Saving work.Sealed node) c p n a k = IsGateWrite c node 1 p n a k
EncoderWrites _ c p n a k = ⊥

-- ## Any actor

-- the turn makes this write
abbrev pub MakesWrite : Actor → List (List Step) → RunState → ℕ → List ℕ → ℕ → ℕ → Type 0
MakesWrite (actor.Rank rank) programs c p n a k = RankWrites programs c rank p n a k
MakesWrite actor.Encoder programs c p n a k = EncoderWrites c.stage c p n a k
MakesWrite actor.Recoverer programs c p n a k = (c.stage ≡ stage.Storing) × WayWrites c.storing p n a k
MakesWrite _ programs c p n a k = ⊥

-- the turn may make this write: it makes it, or it is the first one of a number's way
abbrev pub MayWrite : Actor → List (List Step) → RunState → ℕ → List ℕ → ℕ → ℕ → Type 0
MayWrite actor.Recoverer programs c p n a k = (c.stage ≡ stage.Storing) × MayWayWrite c.storing p n a k
MayWrite who programs c p n a k = MakesWrite who programs c p n a k
