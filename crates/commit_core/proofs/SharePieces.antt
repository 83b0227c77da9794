-- Shares are written piece by piece, in any order; once all are written, each is what its member is to keep.
use Rattle.std.proofs.Common.{◌≡◌, ◌≢◌, ◌⊎◌, inl, inr, ◌<◌, ◌≤◌, ◌+◌, ◌-◌, ◌*◌, ◌/◌, ◌%◌, ◌==◌, ◌&&◌, ℕ, zero, suc, max, Bool, true, false, List, [], ◌∷◌, length, Option, Some, refl, sym, ◌∙◌, ap, subst, arith}
use Rattle.std.specs.Prelude.{IsTrue, IsSome, is_some, slice_get, slice_index, filter, if◌then◌else◌}
use Rattle.std.proofs.lemmas.Bool.{cases_eq, eqb-true}
use Rattle.std.proofs.lemmas.Bool.Decides.{nat_tests}
use Rattle.std.proofs.lemmas.List.{ext_get_or}
use Rattle.std.proofs.lemmas.Option.{slice_get_within}
use Rattle.scr_base.specs.Sets.{group_count}
use Rattle.scr_base.specs.declared.shape.DataId.{DataId}
use Rattle.scr_base.specs.declared.shape.Shape.{Shape}
use Rattle.node_device.specs.File.{File, bytes_of, written}
use Rattle.node_device.specs.DeviceState.{DeviceState}
use Rattle.member_store.specs.Names.{record_name, part_name, IsPlace, IsPart}
use Rattle.member_store.specs.declared.part.Part.{Part}
use Rattle.member_store.proofs.Distinct.{one_member, one_part}
use Rattle.member_store.proofs.PartNames.{part_no_record}
use Rattle.member_store.specs.declared.part.Part.TheVariants.{File as FilePart, Share as SharePart}
use Rattle.ckpt_model.specs.Dataset.{Dataset}
use Rattle.commit_core.specs.Deposits.{IsPartAt}
use Rattle.commit_core.specs.Pieces.{FollowOn}
use Rattle.commit_core.specs.declared.piece.Piece.{Piece}
use Rattle.gated_record.specs.Record.{HasShutGates}
use Rattle.site_stands.specs.Described.{IsShareAt}
use Rattle.site_stands.specs.MemberMoves.{WritesPartAt}
use Rattle.commit_core.specs.Fill.{IsUnused, Fill, FillHolds, FitsNames}
use Rattle.commit_core.specs.SharePieces.{HasPart, HasPieces, keeps_piece, piece_place, SharePieces, PiecesHold, set_done}
use Rattle.site_stands.proofs.Moving.Members.{local_small}
use Rattle.node_device.specs.Written.{in_range_or_not, length-written, written_inside, written_outside}

-- ## One share

module _ (o : Option (List ℕ)) (share bytes : List ℕ) (at : ℕ) (part : IsPartAt at share bytes) where
  after : Option (List ℕ)
  after = Some (written (bytes_of o) at bytes)

  long_after : length (written (bytes_of o) at bytes) ≡ max (length (bytes_of o)) (at + length bytes)
  long_after = length-written (bytes_of o) at bytes

  -- what is written is the share's
  inside : (k : ℕ) → at ≤ k → k < at + length bytes → slice_index (written (bytes_of o) at bytes) k ≡ slice_index share k
  inside k le lt =
      let back : at + (k - at) ≡ k = omega (arith, le) in
      written_inside (bytes_of o) at bytes k le lt ∙ part.bytes (k - at) (omega (arith, le, lt)) ∙ ap (slice_index share) back

  pub part_written : HasPart (Some (written (bytes_of o) at bytes)) share at (length bytes)
  part_written = record { there = refl; long = omega (arith, long_after); bytes = λ b lt. inside (at + b) (omega arith) (omega (arith, lt)) }

  -- and what was the share's elsewhere stays so, also where the two meet
  pub part_stays : (from len : ℕ) → HasPart o share from len → HasPart (Some (written (bytes_of o) at bytes)) share from len
  part_stays from len has = record {
    there = refl;
    long = omega (arith, long_after, has.long);
    bytes = λ b lt. elim (in_range_or_not at (length bytes) (from + b)) [
      | inl within ↦ inside (from + b) within.0 within.1
      | inr away ↦ written_outside (bytes_of o) at bytes (from + b) away ∙ has.bytes b lt
    ];
  }

  pub piece_written : (place : Piece → ℕ) (mine : Piece → Bool) (pieces : List Piece) (done : ℕ → Bool) (i : ℕ) (piece : Piece) → slice_get pieces i ≡ Some piece → at ≡ place piece → length bytes ≡ piece.len
      → HasPieces o share place mine pieces done → HasPieces (Some (written (bytes_of o) at bytes)) share place mine pieces (set_done done i)
  piece_written place mine pieces done i piece there is len has = record {
    no_longer = omega (arith, long_after, has.no_longer, part.within);
    parts = λ j x x_at own done_j. elim (cases_eq j i) [
      | inl same ↦
          let it : x ≡ piece = one_piece x piece (subst (λ (n : ℕ). slice_get pieces n ≡ Some x) same x_at) there in
          subst (λ (y : Piece). HasPart (Some (written (bytes_of o) at bytes)) share (place y) y.len) (sym it) (subst (λ (n : ℕ). HasPart (Some (written (bytes_of o) at bytes)) share n piece.len) is (subst (λ (n : ℕ). HasPart (Some (written (bytes_of o) at bytes)) share at n) len part_written))
      | inr other ↦ part_stays (place x) x.len (has.parts j x x_at own (was_done j other done_j))
    ];
  }
    where
      one_piece : (x y : Piece) → slice_get pieces i ≡ Some x → slice_get pieces i ≡ Some y → x ≡ y
      one_piece x y a b = cc (a, b)

      was_done : (j : ℕ) → j ≢ i → set_done done i j ≡ true → done j ≡ true
      was_done j other is_done = grind (arith, nat_tests, is_done, other)

-- a piece that another rank keeps
pub pieces_beside : (o : Option (List ℕ)) (share : List ℕ) (place : Piece → ℕ) (mine : Piece → Bool) (pieces : List Piece) (done : ℕ → Bool) (i : ℕ) (piece : Piece) → slice_get pieces i ≡ Some piece → mine piece ≡ false
    → HasPieces o share place mine pieces done → HasPieces o share place mine pieces (set_done done i)
pieces_beside o share place mine pieces done i piece there not_mine has = record {
  no_longer = has.no_longer;
  parts = λ j x x_at own done_j. elim (cases_eq j i) [
    | inl same ↦ absurd (let it : x ≡ piece = one_piece x piece (subst (λ (n : ℕ). slice_get pieces n ≡ Some x) same x_at) there in let own_it = subst (λ (y : Piece). mine y ≡ true) it own in cc (own_it, not_mine))
    | inr other ↦ has.parts j x x_at own (was_done j other done_j)
  ];
}
  where
    one_piece : (x y : Piece) → slice_get pieces i ≡ Some x → slice_get pieces i ≡ Some y → x ≡ y
    one_piece x y a b = cc (a, b)

    was_done : (j : ℕ) → j ≢ i → set_done done i j ≡ true → done j ≡ true
    was_done j other is_done = grind (arith, nat_tests, is_done, other)

-- ## All pieces of a share

of_filter : (t : Piece → Bool) (xs : List Piece) (i : ℕ) (x : Piece) → slice_get (filter t xs) i ≡ Some x → (j : ℕ) × (slice_get xs j ≡ Some x) × (t x ≡ true)
of_filter t [] i x at = absurd (cc at)
of_filter t (y ∷ ys) i x at = pick (t y) refl i at (λ j there. of_filter t ys j x there)
  where
    pick : (b : Bool) → t y ≡ b → (i : ℕ) → slice_get (if b then y ∷ filter t ys else filter t ys) i ≡ Some x → ((j : ℕ) → slice_get (filter t ys) j ≡ Some x → (n : ℕ) × (slice_get ys n ≡ Some x) × (t x ≡ true)) → (n : ℕ) × (slice_get (y ∷ ys) n ≡ Some x) × (t x ≡ true)
    pick true is zero there go = let same : y ≡ x = cc there in (0, there, subst (λ (z : Piece). t z ≡ true) same is)
    pick true is (suc i) there go = let rest = go i there in (suc rest.0, rest.1, rest.2)
    pick false is i there go = let rest = go i there in (suc rest.0, rest.1, rest.2)

-- pieces that follow on cover every byte
pub covered : (place : Piece → ℕ) (from to : ℕ) (pieces : List Piece) (k : ℕ) → FollowOn place from to pieces → from ≤ k → k < to → (i : ℕ) × (piece : Piece) × (slice_get pieces i ≡ Some piece) × (place piece ≤ k) × (k < place piece + piece.len)
covered place from to [] k tiles le lt = absurd (omega (arith, tiles, le, lt))
covered place from to (x ∷ xs) k tiles le lt = pick (Rattle.node_device.specs.Outcomes.true_or_false (Rattle.std.specs.Prelude.nat_lt k (from + x.len))) (λ past. covered place (from + x.len) to xs k tiles.1 past lt)
  where
    pick : (Rattle.std.specs.Prelude.nat_lt k (from + x.len) ≡ true) ⊎ (Rattle.std.specs.Prelude.nat_lt k (from + x.len) ≡ false) → (from + x.len ≤ k → (i : ℕ) × (piece : Piece) × (slice_get xs i ≡ Some piece) × (place piece ≤ k) × (k < place piece + piece.len))
        → (i : ℕ) × (piece : Piece) × (slice_get (x ∷ xs) i ≡ Some piece) × (place piece ≤ k) × (k < place piece + piece.len)
    pick (inl here) go = let below : k < from + x.len = grind (arith, nat_tests, here) in (0, x, refl, omega (arith, tiles.0, le), omega (arith, tiles.0, below))
    pick (inr past) go = let behind : from + x.len ≤ k = grind (arith, nat_tests, past) in let rest = go behind in (suc rest.0, rest.1, rest.2, rest.3, rest.4)

pub pieces_whole : (o : Option (List ℕ)) (share : List ℕ) (place : Piece → ℕ) (mine : Piece → Bool) (pieces : List Piece) (done : ℕ → Bool) (first : Piece) → slice_get (filter mine pieces) 0 ≡ Some first → FollowOn place 0 (length share) (filter mine pieces)
    → ((i : ℕ) (piece : Piece) → slice_get pieces i ≡ Some piece → done i ≡ true) → HasPieces o share place mine pieces done → o ≡ Some share
pieces_whole o share place mine pieces done first some tiles all has =
    let one = of_filter mine pieces 0 first some in
    let there = (has.parts one.0 first one.1 one.2 (all one.0 first one.1)).there in
    Rattle.node_device.specs.Outcomes.is_there o there ∙ ap Some (ext_get_or 0 (bytes_of o) share (omega (arith, has.no_longer, long_enough)) (λ k lt. each k (omega (arith, lt, has.no_longer))))
  where
    part_at : (k : ℕ) → k < length share → (x : Piece) × HasPart o share (place x) x.len × (place x ≤ k) × (k < place x + x.len)
    part_at k lt =
        let c = covered place 0 (length share) (filter mine pieces) k tiles (omega arith) lt in
        let at = of_filter mine pieces c.0 c.1 c.2 in
        (c.1, has.parts at.0 c.1 at.1 at.2 (all at.0 c.1 at.1), c.3, c.4)

    long_enough : length share ≤ length (bytes_of o)
    long_enough = pick (length share) refl
      where
        pick : (n : ℕ) → length share ≡ n → length share ≤ length (bytes_of o)
        pick zero is = omega (arith, is)
        pick (suc n) is = let p = part_at n (omega (arith, is)) in omega (arith, is, p.1.long, p.3)

    each : (k : ℕ) → k < length share → slice_index (bytes_of o) k ≡ slice_index share k
    each k lt =
        let p = part_at k lt in
        let back : place p.0 + (k - place p.0) ≡ k = omega (arith, p.2) in
        ap (λ (n : ℕ). slice_index (bytes_of o) n) (sym back) ∙ p.1.bytes (k - place p.0) (omega (arith, p.2, p.3)) ∙ ap (slice_index share) back

-- ## The dataset

-- one rank keeps a piece
pub one_keeper : (d : Dataset) (node local other l : ℕ) (piece : Piece) → keeps_piece d node local piece ≡ true → keeps_piece d other l piece ≡ true → (other ≡ node) × (l ≡ local)
one_keeper d node local other l piece a b =
    let x = three (piece.local == local) (piece.group == node % g) (piece.target == node / g) a in
    let y = three (piece.local == l) (piece.group == other % g) (piece.target == other / g) b in
    let mods : other % g ≡ node % g = sym (eqb-true piece.group (other % g) y.1) ∙ eqb-true piece.group (node % g) x.1 in
    let divs : other / g ≡ node / g = sym (eqb-true piece.target (other / g) y.2) ∙ eqb-true piece.target (node / g) x.2 in (
      sym (Rattle.std.proofs.lemmas.Nat.div-add-mod' other g) ∙ ap (λ (n : ℕ). n * g + other % g) divs ∙ ap (λ (n : ℕ). node / g * g + n) mods ∙ Rattle.std.proofs.lemmas.Nat.div-add-mod' node g,
      sym (eqb-true piece.local l y.0) ∙ eqb-true piece.local local x.0,
    )
  where
    g : ℕ
    g = group_count d.shape.nodes d.size

    three : (p q r : Bool) → p && q && r ≡ true → (p ≡ true) × (q ≡ true) × (r ≡ true)
    three true true true is = (refl, refl, refl)
    three true true false is = absurd (cc is)
    three true false r is = absurd (cc is)
    three false q r is = absurd (cc is)

-- the names of other files stay
part_else : (which : DataId) (node : ℕ) (part : Part) (p q : ℕ) (name : List ℕ) (old new : ℕ → DeviceState) → WritesPartAt which node part p old new → (q ≡ p → name ≢ part_name which node part) → (new q).file name ≡ (old q).file name
part_else which node part p q name old new writes apart = elim (cases_eq q p) [
  | inl here ↦ subst (λ (x : ℕ). (new x).file name ≡ (old x).file name) (sym here) (writes.others name (apart here))
  | inr away ↦ ap (λ (s : DeviceState). s.file name) (writes.elsewhere q away)
]

pub unused_beside : (shape : Shape) (which : DataId) (node : ℕ) (part : Part) (p : ℕ) (old new : ℕ → DeviceState) → IsPlace which node → IsPart part → WritesPartAt which node part p old new → IsUnused shape old which → IsUnused shape new which
unused_beside shape which node part p old new at small writes unused q n low is_place = subst (λ (f : File). HasShutGates f) (sym (part_else which node part p q (record_name which n) old new writes (λ here is. no_record n is_place is))) (unused q n low is_place)
  where
    no_record : (n : ℕ) → IsPlace which n → record_name which n ≡ part_name which node part → ⊥
    no_record n is_place is = let same = (one_member which which n node (record_name which n) is_place at (inl refl) (inr (part, small, is))).1 in
        part_no_record which node part (sym is ∙ ap (λ (x : ℕ). record_name which x) same)

module _ (shape : Shape) (d : Dataset) (fits : FitsNames shape d) (old new : ℕ → DeviceState) (places : List ℕ) (all : length places ≡ shape.nodes) (pieces : List Piece) (done : ℕ → Bool)
    (node place local : ℕ) (home : slice_get places node ≡ Some place) (small : local < shape.ranks) (writes : WritesPartAt d.which node (SharePart local) place old new) where
  its_place : (n p : ℕ) → slice_get places n ≡ Some p → IsPlace d.which n
  its_place n p at = fits.places n (omega (arith, all, slice_get_within places n p at))

  -- another part of this member or of another
  other_part : (n p q : ℕ) (part : Part) → slice_get places n ≡ Some p → IsPart part → ((n ≡ node) → part ≢ SharePart local) → (new q).file (part_name d.which n part) ≡ (old q).file (part_name d.which n part)
  other_part n p q part at is_part apart = part_else d.which node (SharePart local) place q (part_name d.which n part) old new writes (λ here is. elim (cases_eq n node) [
    | inl same ↦ apart same (one_part d.which node part (SharePart local) is_part (local_small shape local small) (subst (λ (x : ℕ). part_name d.which x part ≡ part_name d.which node (SharePart local)) same is))
    | inr other ↦ other (one_member d.which d.which n node (part_name d.which n part) (its_place n p at) (its_place node place home) (inr (part, is_part, refl)) (inr (SharePart local, local_small shape local small, is))).1
  ])

  -- A deposit for a piece is written in its place: the piece is done.
  pub deposit_written : (i : ℕ) (piece : Piece) (bytes : List ℕ) → slice_get pieces i ≡ Some piece → keeps_piece d node local piece ≡ true → length bytes ≡ piece.len
      → ((share : List ℕ) → IsShareAt d node local share → IsPartAt (piece_place d node local piece) share bytes)
      → ((new place).file (part_name d.which node (SharePart local))).now ≡ Some (written (bytes_of ((old place).file (part_name d.which node (SharePart local))).now) (piece_place d node local piece) bytes)
      → PiecesHold shape old places d pieces done → PiecesHold shape new places d pieces (set_done done i)
  deposit_written i piece bytes there own len part now holds = record {
    unused = unused_beside shape d.which node (SharePart local) place old new (its_place node place home) (local_small shape local small) writes holds.unused;
    low = holds.low;
    files = λ n p l j f at file. ap (λ (x : File). x.now) (other_part n p p (FilePart l j) at (fits.files n l j f file) (λ same is. no_share l j is)) ∙ holds.files n p l j f at file;
    shares = λ n p l at lt. elim (cases_eq n node) [
      | inl same ↦ elim (cases_eq l local) [
        | inl it ↦
            let here : p ≡ place = one_place p place (subst (λ (x : ℕ). slice_get places x ≡ Some p) same at) home in
            subst (λ (x : ℕ). SharePieces ((new p).file (part_name d.which x (SharePart l))) d x l pieces (set_done done i)) (sym same)
            (subst (λ (x : ℕ). SharePieces ((new p).file (part_name d.which node (SharePart x))) d node x pieces (set_done done i)) (sym it)
            (subst (λ (x : ℕ). SharePieces ((new x).file (part_name d.which node (SharePart local))) d node local pieces (set_done done i)) (sym here) (this (holds.shares node place local home small))))
        | inr apart ↦ beside n p l at lt (inr apart) (holds.shares n p l at lt)
      ]
      | inr other ↦ beside n p l at lt (inl other) (holds.shares n p l at lt)
    ];
  }
    where
      one_place : (a b : ℕ) → slice_get places node ≡ Some a → slice_get places node ≡ Some b → a ≡ b
      one_place a b x y = cc (x, y)

      no_share : (l j : ℕ) → FilePart l j ≡ SharePart local → ⊥
      no_share l j is = absurd (cc is)

      this : SharePieces ((old place).file (part_name d.which node (SharePart local))) d node local pieces done → SharePieces ((new place).file (part_name d.which node (SharePart local))) d node local pieces (set_done done i)
      this was = record {
        share = was.share;
        is = was.is;
        tiles = was.tiles;
        first = was.first;
        some = was.some;
        has = subst (λ (o : Option (List ℕ)). HasPieces o was.share (piece_place d node local) (keeps_piece d node local) pieces (set_done done i)) (sym now)
            (piece_written ((old place).file (part_name d.which node (SharePart local))).now was.share bytes (piece_place d node local piece) (part was.share was.is) (piece_place d node local) (keeps_piece d node local) pieces done i piece there refl len was.has);
      }

      same_local : (l : ℕ) → SharePart l ≡ SharePart local → l ≡ local
      same_local l is = cc is

      beside : (n p l : ℕ) → slice_get places n ≡ Some p → l < shape.ranks → (n ≢ node) ⊎ (l ≢ local) → SharePieces ((old p).file (part_name d.which n (SharePart l))) d n l pieces done → SharePieces ((new p).file (part_name d.which n (SharePart l))) d n l pieces (set_done done i)
      beside n p l at lt apart was = record {
        share = was.share;
        is = was.is;
        tiles = was.tiles;
        first = was.first;
        some = was.some;
        has = subst (λ (o : Option (List ℕ)). HasPieces o was.share (piece_place d n l) (keeps_piece d n l) pieces (set_done done i))
            (sym (ap (λ (x : File). x.now) (other_part n p p (SharePart l) at (local_small shape l lt) (λ same is. elim apart [ inl other ↦ other same | inr off ↦ off (same_local l is) ]))))
            (pieces_beside ((old p).file (part_name d.which n (SharePart l))).now was.share (piece_place d n l) (keeps_piece d n l) pieces done i piece there (not_kept (keeps_piece d n l piece) refl) was.has);
      }
        where
          not_kept : (b : Bool) → keeps_piece d n l piece ≡ b → keeps_piece d n l piece ≡ false
          not_kept false is = is
          not_kept true is = let both = one_keeper d node local n l piece own is in absurd (elim apart [ inl other ↦ other both.0 | inr off ↦ off both.1 ])

-- Once all pieces are done, the records begin.
pub pieces_done : (shape : Shape) (states : ℕ → DeviceState) (places : List ℕ) (d : Dataset) (pieces : List Piece) (done : ℕ → Bool) → ((i : ℕ) (piece : Piece) → slice_get pieces i ≡ Some piece → done i ≡ true) → PiecesHold shape states places d pieces done → FillHolds shape states places d (λ node. Fill.Parts)
pieces_done shape states places d pieces done all holds = record {
  unused = holds.unused;
  members = λ node p at. (
    holds.low node p at,
    record {
      files = λ local j f file. holds.files node p local j f at file;
      shares = λ local lt coded. let x = holds.shares node p local at lt in record {
        share = x.share;
        is = x.is;
        reads = pieces_whole ((states p).file (part_name d.which node (SharePart local))).now x.share (piece_place d node local) (keeps_piece d node local) pieces done x.first x.some x.tiles all x.has;
      };
    },
  );
}

-- ## Where the pieces begin, and where they begin anew

-- no piece is written: what stands there is no longer than the share is to be
pub pieces_begin : (o : Option (List ℕ)) (share : List ℕ) (place : Piece → ℕ) (mine : Piece → Bool) (pieces : List Piece) → length (bytes_of o) ≤ length share → HasPieces o share place mine pieces (λ i. false)
pieces_begin o share place mine pieces le = record { no_longer = le; parts = λ i piece at own done. absurd (cc done) }

-- a refused Complete withdraws all pieces: files have only grown since, and so have the shares
pub pieces_withdrawn : (o : Option (List ℕ)) (share longer : List ℕ) (place again : Piece → ℕ) (mine of : Piece → Bool) (pieces anew : List Piece) (done : ℕ → Bool) → length share ≤ length longer → HasPieces o share place mine pieces done → HasPieces o longer again of anew (λ i. false)
pieces_withdrawn o share longer place again mine of pieces anew done le has = pieces_begin o longer again of anew (omega (arith, le, has.no_longer))

-- What reads give is as before: so after a refused write, a sync, done or refused, and a read.
pub pieces_same : (shape : Shape) (old new : ℕ → DeviceState) (places : List ℕ) (d : Dataset) (pieces : List Piece) (done : ℕ → Bool) → ((p : ℕ) (q : List ℕ) → ((new p).file q).now ≡ ((old p).file q).now) → IsUnused shape new d.which
    → PiecesHold shape old places d pieces done → PiecesHold shape new places d pieces done
pieces_same shape old new places d pieces done same unused holds = record {
  unused = unused;
  low = holds.low;
  files = λ n p l j f at file. same p (part_name d.which n (FilePart l j)) ∙ holds.files n p l j f at file;
  shares = λ n p l at lt. let was = holds.shares n p l at lt in record {
    share = was.share;
    is = was.is;
    tiles = was.tiles;
    first = was.first;
    some = was.some;
    has = subst (λ (o : Option (List ℕ)). HasPieces o was.share (piece_place d n l) (keeps_piece d n l) pieces done) (sym (same p (part_name d.which n (SharePart l)))) was.has;
  };
}
