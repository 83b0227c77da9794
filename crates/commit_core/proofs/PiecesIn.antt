-- Each piece of a dataset lies within what its target keeps.
use Rattle.std.proofs.Common.{ℕ, ◌<◌, ◌≤◌, List, [], length, All, arith}
use Rattle.std.proofs.lemmas.List.Elements.{All-nil, All-cons}
use Rattle.scr_base.specs.declared.shape.Scheme.{Scheme}
use Rattle.scr_base.specs.declared.shape.Scheme.TheVariants.{Single, Partner, Xor, Rs}
use Rattle.scr_base.specs.Sets.{group_count}
use Rattle.member_shares.specs.Shares.{segment_length}
use Rattle.commit_core.specs.PieceSets.{IsPieceIn}
use Rattle.commit_core.specs.Pieces.{whole_piece, length_before, pieces_of_member, pieces_of_set, set_lengths, pieces_of_local, pieces_of}
use Rattle.commit_core.proofs.Claimable.{all_flat, all_parity}

module _ (nodes ranks size : ℕ) (lengths : List ℕ) (local group i : ℕ) (l : local < ranks) (g : group < group_count nodes size) where
  abbrev own : List ℕ
  own = set_lengths nodes ranks size group local lengths

  member_in : (scheme : Scheme) → i < length own → 1 ≤ length own → All (IsPieceIn scheme nodes ranks size lengths) (pieces_of_member scheme local group own i)
  member_in Single low some = All-nil (IsPieceIn Single nodes ranks size lengths)
  member_in Partner low some = All-cons (IsPieceIn Partner nodes ranks size lengths) (whole_piece local group i (length_before own i)) []
      (record { local_in = l; group_in = g; target_in = low; stripe_in = some; within = omega arith }) (All-nil (IsPieceIn Partner nodes ranks size lengths))
  member_in Xor low some = all_parity (IsPieceIn Xor nodes ranks size lengths) (length own) 1 (whole_piece local group i (segment_length Xor own))
      (λ s h held. record { local_in = l; group_in = g; target_in = low; stripe_in = h; within = omega arith })
  member_in (Rs shares) low some = all_parity (IsPieceIn (Rs shares) nodes ranks size lengths) (length own) shares (whole_piece local group i (segment_length (Rs shares) own))
      (λ s h held. record { local_in = l; group_in = g; target_in = low; stripe_in = h; within = omega arith })

pub dataset_in : (scheme : Scheme) (nodes ranks size : ℕ) (lengths : List ℕ) → All (IsPieceIn scheme nodes ranks size lengths) (pieces_of scheme nodes ranks size lengths)
dataset_in scheme nodes ranks size lengths =
    all_flat (IsPieceIn scheme nodes ranks size lengths) (pieces_of_local scheme nodes ranks size lengths) ranks
    (λ local l.
    all_flat (IsPieceIn scheme nodes ranks size lengths) (λ group. pieces_of_set scheme local group (set_lengths nodes ranks size group local lengths)) (group_count nodes size)
    (λ group g.
    all_flat (IsPieceIn scheme nodes ranks size lengths) (pieces_of_member scheme local group (set_lengths nodes ranks size group local lengths)) (length (set_lengths nodes ranks size group local lengths))
    (λ i low. member_in nodes ranks size lengths local group i l g scheme low (omega (arith, low)))))
