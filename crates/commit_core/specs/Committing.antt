-- A commit, and what the outcome of its next change makes of it.
use Rattle.std.specs.Prelude.{◌≡◌, ◌+◌, ℕ, zero, Bool, true, nat_lt, if◌then◌else◌, Result, Ok, Err, IsErr, List, []}
use Rattle.std.specs.List.{list_all}
use Rattle.scr_base.specs.declared.memory.Memory.{Memory}
use Rattle.scr_base.specs.declared.shape.DataId.{DataId}
use Rattle.ckpt_model.specs.declared.event.Event.TheVariants as event
use Rattle.ckpt_model.specs.declared.progress.Progress.{Progress}
use Rattle.ckpt_model.specs.declared.progress.Progress.TheVariants as progress
use Rattle.site_calls.specs.declared.trouble.Trouble.{Trouble}
use Rattle.site_calls.specs.declared.trouble.Trouble.TheVariants as trouble
use Rattle.commit_core.specs.declared.claim.Claim.{Claim}
use Rattle.commit_core.specs.declared.set.CommitSet.{CommitSet}
use Rattle.commit_core.specs.declared.stage.CommitStage.{CommitStage}
use Rattle.commit_core.specs.declared.stage.CommitStage.TheVariants as stage
use Rattle.scr_base.specs.declared.shape.Scheme.{Scheme}
use Rattle.scr_base.specs.declared.shape.Scheme.TheVariants.{Single}
use Rattle.commit_core.specs.LedgerBook.{Book, is_done, fresh_book}
use Rattle.commit_core.specs.Pieces.{pieces_of}
use Rattle.commit_core.specs.Sets.{stream_lengths}
use Rattle.commit_core.specs.Stages.{stage_after}

-- a dataset, how far its commit has come, the book of its pieces, and the claims that are out
pub record Committing : Type 0 where
  pub set : CommitSet
  pub stage : CommitStage
  pub book : Book
  pub outs : List Claim

-- a dataset that is kept without shares begins with its records
abbrev pub first_stage : Scheme → CommitStage
first_stage Single = stage.Record 0
first_stage _ = stage.Pieces

-- the book of its pieces before the first claim
abbrev pub first_book : CommitSet → Book
first_book set = fresh_book (pieces_of set.desc.scheme set.desc.nodes set.desc.ranks set.desc.size (stream_lengths set.files))

-- a commit that begins
abbrev pub begun : CommitSet → Committing
begun set = record { set = set; stage = first_stage set.desc.scheme; book = first_book set; outs = [] }

-- what a change shows that is made
abbrev pub shown_at : ℕ → DataId → CommitStage → Progress
shown_at nodes which (stage.Sealed zero) = progress.Shown (event.Sealing which)
shown_at nodes which (stage.SealedSync node) = if nat_lt (node + 1) nodes then progress.Silent else progress.Shown (event.Settled which)
shown_at nodes which stage.Over = progress.Over
shown_at nodes which _ = progress.Silent

-- the stage after it
abbrev pub stage_when : {T : Type 0} → ℕ → CommitStage → Result T Trouble → CommitStage
stage_when nodes at (Ok _) = stage_after nodes at
stage_when nodes at (Err trouble.Memory) = at
stage_when nodes at (Err _) = stage.Over

-- the answer
abbrev pub IsAnswer : {T : Type 0} → ℕ → DataId → CommitStage → Result T Trouble → Result Progress Memory → Type 0
IsAnswer nodes which at (Ok _) result = result ≡ Ok (shown_at nodes which at)
IsAnswer nodes which at (Err trouble.Memory) result = IsErr result
IsAnswer nodes which at (Err (trouble.Fault node count)) result = result ≡ Ok (progress.Fault node count)
IsAnswer nodes which at (Err (trouble.Full node used capacity)) result = result ≡ Ok (progress.Full node used capacity)

-- no piece is unclaimed or out, so that a step may come
abbrev pub ready_at : Book → CommitStage → Bool
ready_at book stage.Pieces = list_all is_done book.standings
ready_at book _ = true
