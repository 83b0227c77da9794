-- Where the shares of a dataset begin, and what a deposit is of them.
use Rattle.std.proofs.Common.{◌≡◌, ◌⊎◌, ◌<◌, ◌≤◌, ◌/◌, ◌%◌, ℕ, true, false, List, length, map, sym, subst, arith}
use Rattle.std.proofs.lemmas.List.{length-map}
use Rattle.scr_base.specs.Sets.{group_count}
use Rattle.scr_base.specs.declared.shape.Scheme.TheVariants.{Partner}
use Rattle.node_device.specs.File.{File, bytes_of}
use Rattle.member_shares.specs.Layout.{holds_parity}
use Rattle.member_shares.specs.Shares.{IsSet, IsShare, parity_count}
use Rattle.member_shares.proofs.Places.{held_near}
use Rattle.ckpt_model.specs.Dataset.{Dataset}
use Rattle.site_stands.specs.Described.{is_single, set_streams, IsShareAt}
use Rattle.commit_core.specs.Deposits.{IsPartAt}
use Rattle.commit_core.specs.PieceClaims.{AsksFor}
use Rattle.commit_core.specs.Pieces.{pieces_of}
use Rattle.commit_core.specs.SharePieces.{piece_place, SharePieces, lengths_of}
use Rattle.commit_core.specs.declared.deposit.Deposit.{Deposit}
use Rattle.commit_core.specs.declared.piece.Piece.{Piece}
use Rattle.commit_core.proofs.Joined.{deposit_at}
use Rattle.commit_core.proofs.ShareBegins.{AreTiles, share_begins, member_some}
use Rattle.commit_core.proofs.Tiles.{of_member, pieces_follow}

tiles : AreTiles
tiles = record {
  own = λ scheme nodes ranks size local group i lengths l g low. of_member scheme nodes ranks size local group i lengths l g low;
  tile = λ scheme local group i streams held set low own. pieces_follow scheme local group i streams held.share set low own.share;
}

near : (n p m : ℕ) → m < n → 1 ≤ p → holds_parity n p m m ≡ true
near n p m lt some = held_near n p m m lt (omega arith) (omega (arith, some))

-- a share none of whose pieces is written, where what stands under its name is no longer than it is to be
pub pieces_begin_at : (d : Dataset) (node local : ℕ) (f : File) (share : List ℕ) → local < d.shape.ranks → node % group_count d.shape.nodes d.size < group_count d.shape.nodes d.size → is_single d.scheme ≡ false → (d.scheme ≡ Partner) ⊎ (1 ≤ parity_count d.scheme) → IsSet d.scheme (length (set_streams d node local))
    → node / group_count d.shape.nodes d.size < length (set_streams d node local) → IsShareAt d node local share → length (bytes_of f.now) ≤ length share
    → SharePieces f d node local (pieces_of d.scheme d.shape.nodes d.shape.ranks d.size (lengths_of d)) (λ i. false)
pieces_begin_at d node local f share small low coded some set within is short =
    let first = member_some near d.scheme local (node % group_count d.shape.nodes d.size) (map (length {A = ℕ}) (set_streams d node local)) (node / group_count d.shape.nodes d.size) coded some (subst (λ (n : ℕ). node / group_count d.shape.nodes d.size < n) (sym (length-map (set_streams d node local) (length {A = ℕ}))) within) in
    share_begins tiles d node local f share first.0 small low set within is short first.1

-- what the deposit of a claim for a piece is of the share that the piece's keeper is to hold
pub deposit_fits : (d : Dataset) (node local : ℕ) (piece : Piece) (deposit : Deposit) → AsksFor d.scheme (set_streams d node local) piece deposit.claim → piece.target ≡ node / group_count d.shape.nodes d.size
    → (share : List ℕ) → IsShareAt d node local share → IsPartAt (piece_place d node local piece) share deposit.bytes
deposit_fits d node local piece deposit asks target share is = deposit_at d.scheme (set_streams d node local) piece deposit share asks (subst (λ (n : ℕ). IsShare d.scheme (set_streams d node local) n share) (sym target) is)
