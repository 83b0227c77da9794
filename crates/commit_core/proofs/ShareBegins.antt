-- Where a share's pieces begin: by commit_core's laws they tile it.
use Rattle.std.proofs.Common.{◌≡◌, ◌⊎◌, inl, inr, ◌<◌, ◌≤◌, ◌+◌, ◌/◌, ◌%◌, ℕ, zero, suc, Bool, true, false, List, [], ◌∷◌, length, map, Some, refl, sym, ◌∙◌, ap, subst, arith}
use Rattle.std.specs.Prelude.{slice_get, slice_index, slice_index_or, filter, flat_map, option_map, if◌then◌else◌}
use Rattle.std.proofs.lemmas.List.{length-map}
use Rattle.std.proofs.lemmas.List.FromFn.{length-range_with_len, get_or-range_with_len}
use Rattle.std.proofs.lemmas.Option.{slice_get-map, slice_get-get_or}
use Rattle.scr_base.specs.Sets.{group_count, ranks_of_set, numbers_below}
use Rattle.scr_base.specs.declared.shape.Scheme.{Scheme}
use Rattle.scr_base.specs.declared.shape.Scheme.TheVariants.{Single, Partner, Xor, Rs}
use Rattle.node_device.specs.File.{File, bytes_of}
use Rattle.partner_copy.specs.declared.Held.{Held}
use Rattle.member_shares.specs.Layout.{holds_parity}
use Rattle.member_shares.specs.Shares.{IsSet, IsMember, parity_count}
use Rattle.ckpt_model.specs.Dataset.{Dataset, File as RankFile}
use Rattle.commit_core.specs.Pieces.{in_stripe, parity_pieces, whole_piece, set_lengths, pieces_of_member, pieces_of, is_kept_by, place_of_piece, FollowOn}
use Rattle.commit_core.specs.declared.piece.Piece.{Piece}
use Rattle.site_stands.specs.Described.{stream_of, set_streams, IsShareAt, is_single}
use Rattle.commit_core.specs.SharePieces.{keeps_piece, piece_place, SharePieces, lengths_of}
use Rattle.commit_core.proofs.SharePieces.{pieces_begin}

pub rank_length : (d : Dataset) (rank : ℕ) → slice_index (lengths_of d) rank ≡ length (stream_of d rank)
rank_length d rank = go d.files rank
  where
    go : (files : List (List RankFile)) (rank : ℕ) → slice_index (map (λ (fs : List RankFile). length (flat_map (λ (f : RankFile). f.bytes) fs)) files) rank ≡ length (flat_map (λ (f : RankFile). f.bytes) (Rattle.std.specs.Prelude.unwrap_or (slice_get files rank) []))
    go [] rank = refl
    go (fs ∷ rest) zero = refl
    go (fs ∷ rest) (suc rank) = go rest rank

-- so those of a set are its streams'
pub set_lengths_are : (d : Dataset) (ranks : List ℕ) → map (slice_index (lengths_of d)) ranks ≡ map (length {A = ℕ}) (map (stream_of d) ranks)
set_lengths_are d [] = refl
set_lengths_are d (r ∷ rs) = ap (λ (n : ℕ). n ∷ map (slice_index (lengths_of d)) rs) (rank_length d r) ∙ ap (λ (ns : List ℕ). length (stream_of d r) ∷ ns) (set_lengths_are d rs)

-- what commit_core's law of kept pieces says
pub record AreTiles : Type 0 where
  pub own : (scheme : Scheme) (nodes ranks size local group i : ℕ) (lengths : List ℕ) → local < ranks → group < group_count nodes size → i < length (set_lengths nodes ranks size group local lengths)
      → filter (is_kept_by local group i) (pieces_of scheme nodes ranks size lengths) ≡ pieces_of_member scheme local group (set_lengths nodes ranks size group local lengths) i
  pub tile : (scheme : Scheme) (local group i : ℕ) (streams : List (List ℕ)) (held : Held) → IsSet scheme (length streams) → i < length streams → IsMember scheme streams i held
      → FollowOn (place_of_piece scheme streams) 0 (length held.share) (pieces_of_member scheme local group (map (length {A = ℕ}) streams) i)

-- A share none of whose pieces is written: what stands under its name is no longer than it is to be.
pub share_begins : AreTiles → (d : Dataset) (node local : ℕ) (f : File) (share : List ℕ) (first : Piece) → local < d.shape.ranks → node % group_count d.shape.nodes d.size < group_count d.shape.nodes d.size → IsSet d.scheme (length (set_streams d node local))
    → node / group_count d.shape.nodes d.size < length (set_streams d node local) → IsShareAt d node local share → length (bytes_of f.now) ≤ length share
    → slice_get (pieces_of_member d.scheme local (node % group_count d.shape.nodes d.size) (map (length {A = ℕ}) (set_streams d node local)) (node / group_count d.shape.nodes d.size)) 0 ≡ Some first
    → SharePieces f d node local (pieces_of d.scheme d.shape.nodes d.shape.ranks d.size (lengths_of d)) (λ i. false)
share_begins laws d node local f share first small low set within is short some = record {
  share = share;
  is = is;
  tiles = subst (λ (ps : List Piece). FollowOn (piece_place d node local) 0 (length share) ps) (sym mine) (laws.tile d.scheme local g i streams held set within (record { stream = refl; share = is }));
  first = first;
  some = ap (λ (ps : List Piece). slice_get ps 0) mine ∙ some;
  has = pieces_begin f.now share (piece_place d node local) (keeps_piece d node local) (pieces_of d.scheme d.shape.nodes d.shape.ranks d.size (lengths_of d)) short;
}
  where
    g : ℕ
    g = node % group_count d.shape.nodes d.size

    i : ℕ
    i = node / group_count d.shape.nodes d.size

    streams : List (List ℕ)
    streams = set_streams d node local

    held : Held
    held = record { stream = slice_index_or streams i []; share = share }

    lens : set_lengths d.shape.nodes d.shape.ranks d.size g local (lengths_of d) ≡ map (length {A = ℕ}) streams
    lens = set_lengths_are d (ranks_of_set d.shape.nodes d.shape.ranks d.size g local)

    mine : filter (keeps_piece d node local) (pieces_of d.scheme d.shape.nodes d.shape.ranks d.size (lengths_of d)) ≡ pieces_of_member d.scheme local g (map (length {A = ℕ}) streams) i
    mine = laws.own d.scheme d.shape.nodes d.shape.ranks d.size local g i (lengths_of d) small low (subst (λ (n : ℕ). i < n) (sym (ap (length {A = ℕ}) lens ∙ length-map streams (length {A = ℕ}))) within)
        ∙ ap (λ (ls : List ℕ). pieces_of_member d.scheme local g ls i) lens

-- ## Each member keeps a piece

filter_some : (t : ℕ → Bool) (xs : List ℕ) (i x : ℕ) → slice_get xs i ≡ Some x → t x ≡ true → (y : ℕ) × (slice_get (filter t xs) 0 ≡ Some y)
filter_some t [] i x at is = absurd (cc at)
filter_some t (z ∷ zs) i x at is = pick (t z) refl i at (λ j there. filter_some t zs j x there is)
  where
    pick : (b : Bool) → t z ≡ b → (i : ℕ) → slice_get (z ∷ zs) i ≡ Some x → ((j : ℕ) → slice_get zs j ≡ Some x → (y : ℕ) × (slice_get (filter t zs) 0 ≡ Some y)) → (y : ℕ) × (slice_get (if b then z ∷ filter t zs else filter t zs) 0 ≡ Some y)
    pick true e i there go = (z, refl)
    pick false e zero there go = absurd (let same : z ≡ x = cc there in not_it (ap t same ∙ is))
      where
        not_it : t z ≡ true → ⊥
        not_it yes_it = cc (yes_it, e)
    pick false e (suc i) there go = go i there

number_at : (n m : ℕ) → m < n → slice_get (numbers_below n) m ≡ Some m
number_at n m lt = slice_get-get_or (numbers_below n) m 0 (omega (arith, lt, length-range_with_len 0 n)) ∙ ap Some (get_or-range_with_len 0 n m 0 lt ∙ (let same : 0 + m ≡ m = omega arith in same))

-- by member_shares' lemma that a member has parity in its own stripe
parity_some : ((n p m : ℕ) → m < n → 1 ≤ p → holds_parity n p m m ≡ true) → (n p : ℕ) (piece : Piece) → piece.target < n → 1 ≤ p → (first : Piece) × (slice_get (parity_pieces n p piece) 0 ≡ Some first)
parity_some near n p piece within some =
    let got = filter_some (λ s. holds_parity n p s piece.target) (numbers_below n) piece.target piece.target (number_at n piece.target within) (near n p piece.target within some) in
    (in_stripe piece got.0, slice_get-map (in_stripe piece) (filter (λ s. holds_parity n p s piece.target) (numbers_below n)) 0 ∙ ap (option_map (in_stripe piece)) got.1)

pub member_some : ((n p m : ℕ) → m < n → 1 ≤ p → holds_parity n p m m ≡ true) → (scheme : Scheme) (local group : ℕ) (lengths : List ℕ) (i : ℕ) → is_single scheme ≡ false → (scheme ≡ Partner) ⊎ (1 ≤ parity_count scheme) → i < length lengths
    → (first : Piece) × (slice_get (pieces_of_member scheme local group lengths i) 0 ≡ Some first)
member_some near Single local group lengths i coded some within = absurd (cc coded)
member_some near Partner local group lengths i coded some within = (whole_piece local group i (Rattle.commit_core.specs.Pieces.length_before lengths i), refl)
member_some near Xor local group lengths i coded some within = parity_some near (length lengths) 1 (whole_piece local group i (Rattle.member_shares.specs.Shares.segment_length Xor lengths)) within (omega arith)
member_some near (Rs shares) local group lengths i coded (inl is) within = absurd (cc is)
member_some near (Rs shares) local group lengths i coded (inr some) within = parity_some near (length lengths) shares (whole_piece local group i (Rattle.member_shares.specs.Shares.segment_length (Rs shares) lengths)) within some
