-- Which pieces of shares were written.
use Rattle.std.specs.Prelude.{◌≡◌, ◌<◌, ◌≤◌, ◌+◌, ◌/◌, ◌%◌, ◌==◌, ℕ, Bool, true, List, length, map, flat_map, filter, slice_index, Option, Some, IsSome, slice_get, if◌then◌else◌}
use Rattle.scr_base.specs.Sets.{group_count}
use Rattle.scr_base.specs.declared.shape.Shape.{Shape}
use Rattle.node_device.specs.File.{File, bytes_of, byte_at}
use Rattle.node_device.specs.DeviceState.{DeviceState}
use Rattle.member_store.specs.Names.{part_name}
use Rattle.member_store.specs.declared.part.Part.TheVariants.{File as FilePart, Share as SharePart}
use Rattle.ckpt_model.specs.Dataset.{Dataset, File as RankFile}
use Rattle.commit_core.specs.Pieces.{FollowOn, is_kept_by, place_of_piece}
use Rattle.commit_core.specs.declared.piece.Piece.{Piece}
use Rattle.site_stands.specs.Cells.{physical_nodes}
use Rattle.site_stands.specs.Described.{IsFileAt, set_streams, IsShareAt}
use Rattle.commit_core.specs.Fill.{IsUnused}

-- these bytes have the share's, `len` of them from one place on
pub record HasPart (o : Option (List ℕ)) (share : List ℕ) (from len : ℕ) : Type 0 where
  pub there : IsSome o
  pub long : from + len ≤ length (bytes_of o)
  pub bytes : (b : ℕ) → b < len → byte_at o (from + b) ≡ slice_index share (from + b)

-- What a read gives of a share is no longer than the share, and has those of its pieces that are done: each stands at its place in the share.
pub record HasPieces (o : Option (List ℕ)) (share : List ℕ) (place : Piece → ℕ) (mine : Piece → Bool) (pieces : List Piece) (done : ℕ → Bool) : Type 0 where
  pub no_longer : length (bytes_of o) ≤ length share
  pub parts : (i : ℕ) (piece : Piece) → slice_get pieces i ≡ Some piece → mine piece ≡ true → done i ≡ true → HasPart o share (place piece) piece.len

-- the node's rank of that local number keeps the piece
abbrev pub keeps_piece : Dataset → (node local : ℕ) → Piece → Bool
keeps_piece d node local = is_kept_by local (node % group_count d.shape.nodes d.size) (node / group_count d.shape.nodes d.size)

-- where a piece stands in the share that the node's rank keeps
abbrev pub piece_place : Dataset → (node local : ℕ) → Piece → ℕ
piece_place d node local = place_of_piece d.scheme (set_streams d node local)

-- a share that is being written: its pieces tile it, and there is one at least
pub record SharePieces (f : File) (d : Dataset) (node local : ℕ) (pieces : List Piece) (done : ℕ → Bool) : Type 0 where
  pub share : List ℕ
  pub is : IsShareAt d node local share
  pub tiles : FollowOn (piece_place d node local) 0 (length share) (filter (keeps_piece d node local) pieces)
  pub first : Piece
  pub some : slice_get (filter (keeps_piece d node local) pieces) 0 ≡ Some first
  pub has : HasPieces f.now share (piece_place d node local) (keeps_piece d node local) pieces done

-- A dataset whose ranks' files are written, and whose shares are being written piece by piece, in any order: `done` says which.
pub record PiecesHold (shape : Shape) (states : ℕ → DeviceState) (places : List ℕ) (d : Dataset) (pieces : List Piece) (done : ℕ → Bool) : Type 0 where
  pub unused : IsUnused shape states d.which
  pub low : (node p : ℕ) → slice_get places node ≡ Some p → p < physical_nodes shape
  pub files : (node p local j : ℕ) (f : RankFile) → slice_get places node ≡ Some p → IsFileAt shape d node local j f → ((states p).file (part_name d.which node (FilePart local j))).now ≡ Some f.bytes
  pub shares : (node p local : ℕ) → slice_get places node ≡ Some p → local < shape.ranks → SharePieces ((states p).file (part_name d.which node (SharePart local))) d node local pieces done

-- one more piece is done
abbrev pub set_done : (ℕ → Bool) → ℕ → ℕ → Bool
set_done done i = λ j. if j == i then true else done j

-- the lengths of all ranks' streams
abbrev pub lengths_of : Dataset → List ℕ
lengths_of d = map (λ (fs : List RankFile). length (flat_map (λ (f : RankFile). f.bytes) fs)) d.files
