-- Which claims of a commit are out, and what claims, deposits and claims that come back make of it.
use Rattle.std.specs.Prelude.{◌≡◌, ◌+◌, ◌<◌, ℕ, Bool, true, false, List, [], ◌∷◌, ◌++◌, All, AllPairs, length, Option, None, Some, IsSome, slice_get, if◌then◌else◌, IsTrue}
use Rattle.scr_base.specs.Sets.{fits_sets}
use Rattle.commit_core.specs.declared.claim.Claim.{Claim}
use Rattle.commit_core.specs.declared.answers.Claimed.{Claimed}
use Rattle.commit_core.specs.declared.answers.Claimed.TheVariants as claimed
use Rattle.commit_core.specs.declared.piece.Piece.{Piece}
use Rattle.commit_core.specs.declared.set.CommitSet.{CommitSet}
use Rattle.commit_core.specs.declared.stage.CommitStage.{CommitStage}
use Rattle.commit_core.specs.declared.stage.CommitStage.TheVariants as stage
use Rattle.commit_core.specs.declared.standing.Standing.TheVariants.{Out}
use Rattle.commit_core.specs.Committing.{Committing}
use Rattle.commit_core.specs.LedgerBook.{Book, next_of, after_taking, after_withdrawing}
use Rattle.commit_core.specs.Pieces.{pieces_of}
use Rattle.commit_core.specs.Sets.{stream_lengths}
use Rattle.commit_core.specs.Stages.{IsStage}

-- ## The claims that are out

-- a claim for the piece
pub record IsClaimFor (set : CommitSet) (piece : Piece) (claim : Claim) : Type 0 where
  pub which : claim.which ≡ set.desc.which
  pub scheme : claim.scheme ≡ set.desc.scheme
  pub local : claim.local ≡ piece.local
  pub group : claim.group ≡ piece.group
  pub stripe : claim.stripe ≡ piece.stripe
  pub target : claim.target ≡ piece.target
  pub at : claim.at ≡ piece.at
  pub sizes : All (λ input. length input ≡ piece.len) claim.inputs

-- a piece of the book is out under the claim's number, and the claim is for it
pub record IsOutFor (set : CommitSet) (book : Book) (claim : Claim) : Type 0 where
  pub place : ℕ
  pub piece : Piece
  pub out : slice_get book.standings place ≡ Some (Out claim.number)
  pub there : slice_get book.pieces place ≡ Some piece
  pub is : IsClaimFor set piece claim

-- each claim of the list is out, by ascending number
pub record AreOut (set : CommitSet) (book : Book) (outs : List Claim) : Type 0 where
  pub each : (k : ℕ) (claim : Claim) → slice_get outs k ≡ Some claim → IsOutFor set book claim
  pub ascend : AllPairs (λ left right. left.number < right.number) outs

-- what a commit keeps
pub record IsCommitting (c : Committing) : Type 0 where
  pub stage : IsStage c.set.desc.nodes c.stage
  pub fits : IsTrue (fits_sets c.set.desc.scheme c.set.desc.size c.set.desc.nodes)
  pub pieces : c.book.pieces ≡ pieces_of c.set.desc.scheme c.set.desc.nodes c.set.desc.ranks c.set.desc.size (stream_lengths c.set.files)
  pub outs : AreOut c.set c.book c.outs

-- pieces are still claimed
abbrev pub is_claiming : CommitStage → Bool
is_claiming stage.Pieces = true
is_claiming _ = false

-- ## What becomes of a commit

-- the first unclaimed piece
abbrev pub next_piece : Committing → Option Piece
next_piece c = if is_claiming c.stage then next_of c.book else None

-- the claim is out
abbrev pub handed_out : Committing → Claim → Committing
handed_out c claim = record { set = c.set; stage = c.stage; book = after_taking c.book; outs = c.outs ++ claim ∷ [] }

-- all shares and claims are withdrawn, and nothing is left to do
abbrev pub withdrawn : Committing → Committing
withdrawn c = record { set = c.set; stage = stage.Over; book = after_withdrawing c.book; outs = [] }

-- ## Claims

-- a claim for the first unclaimed piece, under the next number
pub record HandsOut (before after : Committing) (claim : Claim) : Type 0 where
  pub piece : Piece
  pub next : next_piece before ≡ Some piece
  pub number : claim.number ≡ before.book.given + 1
  pub is : IsClaimFor before.set piece claim
  pub becomes : after ≡ handed_out before claim

abbrev pub IsClaimed : Committing → Committing → Claimed → Type 0
IsClaimed before after (claimed.Out claim) = HandsOut before after claim
IsClaimed before after claimed.NoneLeft = (next_piece before ≡ None) × (after ≡ before)
IsClaimed before after (claimed.Fault node count) = IsSome (next_piece before) × (after ≡ withdrawn before)
