-- Which set a piece is of, and what its claim takes of the members' streams.
use Rattle.std.specs.Prelude.{◌<◌, ◌≤◌, ◌+◌, ℕ, List, [], length, map, slice_index_or}
use Rattle.scr_base.specs.Sets.{group_count, ranks_of_set}
use Rattle.scr_base.specs.declared.shape.Scheme.{Scheme}
use Rattle.scr_base.specs.declared.shape.Scheme.TheVariants.{Single, Partner, Xor, Rs}
use Rattle.partner_copy.specs.Partner.{share_of}
use Rattle.member_shares.specs.Shares.{segment_length}
use Rattle.ckpt_model.specs.Dataset.{Dataset}
use Rattle.site_stands.specs.Described.{stream_of}
use Rattle.commit_core.specs.declared.piece.Piece.{Piece}
use Rattle.commit_core.specs.Deposits.{IsPartAt, AreSegmentParts}
use Rattle.commit_core.specs.Pieces.{length_before, set_lengths}

-- the piece lies within what its target keeps of members whose streams have these lengths
abbrev pub IsWithin : Scheme → List ℕ → Piece → Type 0
IsWithin Single lengths piece = ⊥
IsWithin Partner lengths piece = piece.at + piece.len ≤ length_before lengths piece.target
IsWithin Xor lengths piece = piece.at + piece.len ≤ segment_length Xor lengths
IsWithin (Rs shares) lengths piece = piece.at + piece.len ≤ segment_length (Rs shares) lengths

-- the piece is of one of the sets of a dataset whose ranks' streams have these lengths
pub record IsPieceIn (scheme : Scheme) (nodes ranks size : ℕ) (lengths : List ℕ) (piece : Piece) : Type 0 where
  pub local_in : piece.local < ranks
  pub group_in : piece.group < group_count nodes size
  pub target_in : piece.target < length (set_lengths nodes ranks size piece.group piece.local lengths)
  pub stripe_in : piece.stripe < length (set_lengths nodes ranks size piece.group piece.local lengths)
  pub within : IsWithin scheme (set_lengths nodes ranks size piece.group piece.local lengths) piece

-- the streams of a set's members
abbrev pub group_streams : Dataset → (group local : ℕ) → List (List ℕ)
group_streams d group local = map (stream_of d) (ranks_of_set d.shape.nodes d.shape.ranks d.size group local)

-- the inputs of a claim for the piece: parts of the segments of its stripe, or for PARTNER of the stream that its target keeps
abbrev pub AreInputsFor : Scheme → List (List ℕ) → Piece → List (List ℕ) → Type 0
AreInputsFor Single streams piece inputs = ⊥
AreInputsFor Partner streams piece inputs = IsPartAt piece.at (share_of streams piece.target) (slice_index_or inputs 0 [])
AreInputsFor Xor streams piece inputs = AreSegmentParts (length streams) 1 (segment_length Xor (map (length {A = ℕ}) streams)) piece.stripe piece.at streams inputs
AreInputsFor (Rs shares) streams piece inputs = AreSegmentParts (length streams) shares (segment_length (Rs shares) (map (length {A = ℕ}) streams)) piece.stripe piece.at streams inputs
