-- What a claim leaves of a commit and of the site.
use Rattle.std.proofs.Common.{◌≡◌, ℕ, ◌+◌, ◌<◌, ◌≤◌, Bool, true, false, if◌then◌else◌, IsTrue, List, [], ◌∷◌, ◌++◌, length, All, Contains, slice_set, Option, Some, None, Err, refl, sym, ap, subst, ◌∙◌, arith, inl, inr}
use Rattle.std.specs.Prelude.{slice_get, slice_index_or, nat_lt}
use Rattle.std.proofs.lemmas.Bool.{cases_eq}
use Rattle.std.proofs.lemmas.Bool.Decides.{nat_tests}
use Rattle.std.proofs.lemmas.List.{length-set, get_or-set_same, get_or-set_other}
use Rattle.std.proofs.lemmas.List.Quantifiers.{position-Some}
use Rattle.std.proofs.lemmas.Option.{slice_get_within, get_or_from_slice_get}
use Rattle.scr_base.specs.declared.shape.Scheme.{Scheme}
use Rattle.scr_base.specs.declared.shape.Scheme.TheVariants.{Single, Partner, Xor, Rs}
use Rattle.scr_base.specs.Sets.{fits_sets}
use Rattle.scr_base.specs.declared.shape.Shape.{Shape}
use Rattle.node_device.specs.DeviceState.{DeviceState}
use Rattle.partner_copy.specs.Partner.{share_of}
use Rattle.member_shares.specs.Shares.{segment_length}
use Rattle.ckpt_model.specs.Dataset.{Dataset}
use Rattle.ckpt_model.specs.Machine.{Machine, Setup}
use Rattle.site_stands.specs.Site.{SiteStands}
use Rattle.site_calls.specs.Calls.{Tells}
use Rattle.site_calls.specs.declared.trouble.Trouble.{Trouble}
use Rattle.site_calls.specs.declared.trouble.Trouble.TheVariants as error
use Rattle.commit_core.specs.Claiming.{IsClaimFor, IsCommitting, is_claiming, next_piece, handed_out, withdrawn, HandsOut}
use Rattle.commit_core.specs.Committing.{Committing, begun, first_stage, first_book}
use Rattle.commit_core.specs.Deposits.{IsPartAt, AreSegmentParts, AreInputsUnder, AreInputsOf}
use Rattle.commit_core.specs.Holds.{IsCommitOf, CommitHolds, StageHolds, done_in}
use Rattle.commit_core.specs.LedgerBook.{Book, is_unclaimed, is_done, first_of, next_of, may_number, after_taking, after_taking_at, after_withdrawing}
use Rattle.commit_core.specs.PieceSets.{group_streams, AreInputsFor, IsPieceIn}
use Rattle.commit_core.specs.Pieces.{pieces_of}
use Rattle.commit_core.specs.Reads.{IsReadFault, ReadsOnly, FilesRead}
use Rattle.commit_core.specs.SharePieces.{PiecesHold}
use Rattle.commit_core.specs.Stages.{IsStage, stage_after}
use Rattle.commit_core.specs.Sets.{stream_lengths}
use Rattle.commit_core.specs.declared.claim.Claim.{Claim}
use Rattle.commit_core.specs.declared.piece.Piece.{Piece}
use Rattle.commit_core.specs.declared.set.CommitSet.{CommitSet}
use Rattle.commit_core.specs.declared.stage.CommitStage.{CommitStage}
use Rattle.commit_core.specs.declared.stage.CommitStage.TheVariants as stage
use Rattle.commit_core.specs.declared.standing.Standing.{Standing}
use Rattle.commit_core.specs.declared.standing.Standing.TheVariants.{Unclaimed, Out, Done}
use Rattle.commit_core.proofs.Claimable.{all_at}
use Rattle.commit_core.proofs.OutClaims.{IsPushed, pushed_at, next_at, taken_is, outs_none, outs_taken}
use Rattle.commit_core.proofs.PiecesIn.{dataset_in}
use Rattle.commit_core.proofs.Recording.{unsynced_site}

-- ## The stage and the next piece

pub claiming_is : (at : CommitStage) → is_claiming at ≡ true → at ≡ stage.Pieces
claiming_is stage.Pieces is = refl
claiming_is (stage.Record node) is = absurd (cc is)
claiming_is (stage.RecordSync node) is = absurd (cc is)
claiming_is (stage.Whole node) is = absurd (cc is)
claiming_is (stage.WholeSync node) is = absurd (cc is)
claiming_is (stage.Sealed node) is = absurd (cc is)
claiming_is (stage.SealedSync node) is = absurd (cc is)
claiming_is stage.Over is = absurd (cc is)

pub next_claims : (c : Committing) (piece : Piece) → next_piece c ≡ Some piece → (c.stage ≡ stage.Pieces) × (next_of c.book ≡ Some piece)
next_claims c piece is = pick (is_claiming c.stage) refl is
  where
    pick : (b : Bool) → is_claiming c.stage ≡ b → (if b then next_of c.book else None) ≡ Some piece → (c.stage ≡ stage.Pieces) × (next_of c.book ≡ Some piece)
    pick true e next = (claiming_is c.stage e, next)
    pick false e next = absurd (cc next)

-- it is one of the dataset's
pub next_among : (c : Committing) (piece : Piece) → IsCommitting c → next_of c.book ≡ Some piece → Contains (pieces_of c.set.desc.scheme c.set.desc.nodes c.set.desc.ranks c.set.desc.size (stream_lengths c.set.files)) piece
next_among c piece well is =
    let next = next_at c.book piece is in
    subst (λ (ps : List Piece). Contains ps piece) well.pieces (next.0, slice_get_within c.book.pieces next.0 piece next.1.there, get_or_from_slice_get c.book.pieces next.0 piece piece next.1.there)

pub next_in : (c : Committing) (piece : Piece) → IsCommitting c → next_of c.book ≡ Some piece → IsPieceIn c.set.desc.scheme c.set.desc.nodes c.set.desc.ranks c.set.desc.size (stream_lengths c.set.files) piece
next_in c piece well is = all_at (IsPieceIn c.set.desc.scheme c.set.desc.nodes c.set.desc.ranks c.set.desc.size (stream_lengths c.set.files)) (pieces_of c.set.desc.scheme c.set.desc.nodes c.set.desc.ranks c.set.desc.size (stream_lengths c.set.files)) piece
    (dataset_in c.set.desc.scheme c.set.desc.nodes c.set.desc.ranks c.set.desc.size (stream_lengths c.set.files)) (next_among c piece well is)

-- ## The inputs of a claim

inputs_under : (scheme : Scheme) (claim : Claim) (piece : Piece) (streams : List (List ℕ)) → claim.stripe ≡ piece.stripe → claim.target ≡ piece.target → claim.at ≡ piece.at → AreInputsFor scheme streams piece claim.inputs → AreInputsUnder scheme claim streams
inputs_under Single claim piece streams s t a inputs = inputs
inputs_under Partner claim piece streams s t a inputs =
    subst (λ (k : ℕ). IsPartAt k (share_of streams claim.target) (slice_index_or claim.inputs 0 [])) (sym a) (subst (λ (k : ℕ). IsPartAt piece.at (share_of streams k) (slice_index_or claim.inputs 0 [])) (sym t) inputs)
inputs_under Xor claim piece streams s t a inputs =
    subst (λ (k : ℕ). AreSegmentParts (length streams) 1 (segment_length Xor (Rattle.std.proofs.Common.map (length {A = ℕ}) streams)) k claim.at streams claim.inputs) (sym s)
    (subst (λ (k : ℕ). AreSegmentParts (length streams) 1 (segment_length Xor (Rattle.std.proofs.Common.map (length {A = ℕ}) streams)) piece.stripe k streams claim.inputs) (sym a) inputs)
inputs_under (Rs shares) claim piece streams s t a inputs =
    subst (λ (k : ℕ). AreSegmentParts (length streams) shares (segment_length (Rs shares) (Rattle.std.proofs.Common.map (length {A = ℕ}) streams)) k claim.at streams claim.inputs) (sym s)
    (subst (λ (k : ℕ). AreSegmentParts (length streams) shares (segment_length (Rs shares) (Rattle.std.proofs.Common.map (length {A = ℕ}) streams)) piece.stripe k streams claim.inputs) (sym a) inputs)

pub asks_of : (set : CommitSet) (piece : Piece) (claim : Claim) (d : Dataset) (inputs : List (List ℕ)) → IsClaimFor set piece claim → claim.inputs ≡ inputs → AreInputsFor set.desc.scheme (group_streams d piece.group piece.local) piece inputs → AreInputsOf claim (group_streams d claim.group claim.local)
asks_of set piece claim d inputs is same asks =
    subst (λ (g : ℕ). AreInputsOf claim (group_streams d g claim.local)) (sym is.group)
    (subst (λ (l : ℕ). AreInputsOf claim (group_streams d piece.group l)) (sym is.local)
    (subst (λ (k : Scheme). AreInputsUnder k claim (group_streams d piece.group piece.local)) (sym is.scheme)
    (inputs_under set.desc.scheme claim piece (group_streams d piece.group piece.local) is.stripe is.target is.at
    (subst (λ (xs : List (List ℕ)). AreInputsFor set.desc.scheme (group_streams d piece.group piece.local) piece xs) (sym same) asks))))

-- ## The book

taken_done : (book : Book) (place i : ℕ) → first_of book ≡ Some place → is_done (slice_index_or (slice_set book.standings place (Out (book.given + 1))) i Unclaimed) ≡ is_done (slice_index_or book.standings i Unclaimed)
taken_done book place i first = elim (cases_eq i place) [
  | inl same ↦ subst (λ (k : ℕ). is_done (slice_index_or (slice_set book.standings place (Out (book.given + 1))) k Unclaimed) ≡ is_done (slice_index_or book.standings k Unclaimed)) (sym same)
      (ap is_done (get_or-set_same book.standings place (Out (book.given + 1)) Unclaimed found.0) ∙ sym (not_done (slice_index_or book.standings place Unclaimed) found.1))
  | inr other ↦ ap is_done (get_or-set_other book.standings place i (Out (book.given + 1)) Unclaimed other)
]
  where
    found : (place < length book.standings) × (is_unclaimed (slice_index_or book.standings place Unclaimed) ≡ true) × ((k : ℕ) → k < place → is_unclaimed (slice_index_or book.standings k Unclaimed) ≡ false)
    found = position-Some is_unclaimed book.standings place Unclaimed first

    not_done : (x : Standing) → is_unclaimed x ≡ true → is_done x ≡ false
    not_done Unclaimed e = refl
    not_done (Out n) e = absurd (cc e)
    not_done Done e = absurd (cc e)

-- taking a piece makes none done
pub record IsAlike (book other : Book) : Type 0 where
  pub pieces : other.pieces ≡ book.pieces
  pub count : length other.standings ≡ length book.standings
  pub done : (i : ℕ) → done_in other i ≡ done_in book i

pub taken_alike : (book : Book) → IsAlike book (after_taking book)
taken_alike book = pick (first_of book) refl
  where
    same : IsAlike book book
    same = record { pieces = refl; count = refl; done = λ i. refl }

    by : (place : ℕ) → first_of book ≡ Some place → (b : Bool) → IsAlike book (if b then record { pieces = book.pieces; standings = slice_set book.standings place (Out (book.given + 1)); given = book.given + 1 } else book)
    by place first true = record { pieces = refl; count = length-set book.standings place (Out (book.given + 1)); done = λ i. taken_done book place i first }
    by place first false = same

    pick : (o : Option ℕ) → first_of book ≡ o → IsAlike book (after_taking_at book o)
    pick None e = same
    pick (Some place) e = by place e (may_number book)

-- ## What holds

pub files_read : (s : Setup) (m : Machine) (d : Dataset) (set : CommitSet) (states : ℕ → DeviceState) (pieces : List Piece) (done : ℕ → Bool) → IsCommitOf s m d set → Tells states → PiecesHold s.shape states m.places d pieces done → FilesRead set s.shape d states
files_read s m d set states pieces done of told holds = record {
  describes = of.describes;
  tells = told;
  files = λ node p local j f home at. holds.files node p local j f (subst (λ (ps : List ℕ). slice_get ps node ≡ Some p) of.places home) at;
}

pieces_alike : (s : Setup) (states : ℕ → DeviceState) (m : Machine) (d : Dataset) (book other : Book) → IsAlike book other → StageHolds s states m d book stage.Pieces → StageHolds s states m d other stage.Pieces
pieces_alike s states m d book other alike holds = (
  holds.0,
  alike.count ∙ holds.1 ∙ ap (length {A = Piece}) (sym alike.pieces),
  subst (λ (ps : List Piece). PiecesHold s.shape states m.places d ps (done_in other)) (sym alike.pieces) (subst (λ (f : ℕ → Bool). PiecesHold s.shape states m.places d book.pieces f) (λ i j. sym (alike.done j) i) holds.2),
)

pub out_holds : (s : Setup) (states : ℕ → DeviceState) (m : Machine) (d : Dataset) (before after : Committing) (claim : Claim) → Tells states → IsCommitOf s m d before.set → HandsOut before after claim
    → ((shape : Shape) (e : Dataset) → FilesRead before.set shape e states → AreInputsOf claim (group_streams e claim.group claim.local)) → CommitHolds s states m d before → CommitHolds s states m d after
out_holds s states m d before later claim told of out asks holds = subst (λ (c : Committing). CommitHolds s states m d c) (sym out.becomes) (record {
  so_far = subst (λ (at : CommitStage). StageHolds s states m d (after_taking before.book) at) (sym claims.0) (pieces_alike s states m d before.book (after_taking before.book) (taken_alike before.book) pieces);
  asks = λ k c at. by k c (pushed_at before.outs claim k c at);
})
  where
    claims : (before.stage ≡ stage.Pieces) × (next_of before.book ≡ Some out.piece)
    claims = next_claims before out.piece out.next

    pieces : StageHolds s states m d before.book stage.Pieces
    pieces = subst (λ (at : CommitStage). StageHolds s states m d before.book at) claims.0 holds.so_far

    by : (k : ℕ) (c : Claim) → IsPushed before.outs claim k c → AreInputsOf c (group_streams d c.group c.local)
    by k c (IsPushed.Before at) = holds.asks k c at
    by k c (IsPushed.Last same) = subst (λ (x : Claim). AreInputsOf x (group_streams d x.group x.local)) (sym same) (asks s.shape d (files_read s m d before.set states before.book.pieces (done_in before.book) of told pieces.2))

pub withdrawn_holds : (s : Setup) (states : ℕ → DeviceState) (m : Machine) (d : Dataset) (before after : Committing) → after ≡ withdrawn before → CommitHolds s states m d after
withdrawn_holds s states m d before later is = subst (λ (c : Committing). CommitHolds s states m d c) (sym is) (record { so_far = tt; asks = λ k c at. absurd (none k c at) })
  where
    none : (k : ℕ) (c : Claim) → slice_get {X = Claim} [] k ≡ Some c → ⊥
    none k c at = cc at

pub fault_site : (s : Setup) (m : Machine) (old new : ℕ → DeviceState) (node count : ℕ) → IsReadFault old new node count → SiteStands s old m → SiteStands s new m
fault_site s m old new node count fault stands = unsynced_site s m fault.place old new fault.kept stands

-- ## The commit

pub stage_after_is : (nodes : ℕ) (at : CommitStage) → IsStage nodes at → IsStage nodes (stage_after nodes at)
stage_after_is nodes stage.Pieces is = is
stage_after_is nodes (stage.Record node) is = is
stage_after_is nodes (stage.RecordSync node) is = pick (nat_lt (node + 1) nodes) refl
  where
    pick : (b : Bool) → nat_lt (node + 1) nodes ≡ b → IsStage nodes (if b then stage.Record (node + 1) else stage.Whole 0)
    pick true e = grind (arith, nat_tests, e)
    pick false e = omega (arith, is)
stage_after_is nodes (stage.Whole node) is = is
stage_after_is nodes (stage.WholeSync node) is = pick (nat_lt (node + 1) nodes) refl
  where
    pick : (b : Bool) → nat_lt (node + 1) nodes ≡ b → IsStage nodes (if b then stage.Whole (node + 1) else stage.Sealed 0)
    pick true e = grind (arith, nat_tests, e)
    pick false e = omega (arith, is)
stage_after_is nodes (stage.Sealed node) is = is
stage_after_is nodes (stage.SealedSync node) is = pick (nat_lt (node + 1) nodes) refl
  where
    pick : (b : Bool) → nat_lt (node + 1) nodes ≡ b → IsStage nodes (if b then stage.Sealed (node + 1) else stage.Over)
    pick true e = grind (arith, nat_tests, e)
    pick false e = tt
stage_after_is nodes stage.Over is = tt

-- at another stage the commit keeps what it kept
pub staged : (c : Committing) (at : CommitStage) → IsStage c.set.desc.nodes at → IsCommitting c → IsCommitting (record { set = c.set; stage = at; book = c.book; outs = c.outs })
staged c at is well = record { stage = is; fits = well.fits; pieces = well.pieces; outs = well.outs }

pub withdrawn_keeps : (c : Committing) → IsCommitting c → IsCommitting (withdrawn c)
withdrawn_keeps c well = record { stage = tt; fits = well.fits; pieces = well.pieces; outs = outs_none c.set (after_withdrawing c.book) }

pub begun_keeps : (set : CommitSet) → 0 < set.desc.nodes → IsTrue (fits_sets set.desc.scheme set.desc.size set.desc.nodes) → IsCommitting (begun set)
begun_keeps set some fits = record { stage = first set.desc.scheme; fits = fits; pieces = refl; outs = outs_none set (first_book set) }
  where
    first : (scheme : Scheme) → IsStage set.desc.nodes (first_stage scheme)
    first Single = some
    first Partner = some
    first Xor = some
    first (Rs shares) = some

pub handed_keeps : (c : Committing) (piece : Piece) (claim : Claim) → next_piece c ≡ Some piece → may_number c.book ≡ true → claim.number ≡ c.book.given + 1 → IsClaimFor c.set piece claim
    → ((p n : ℕ) → slice_get c.book.standings p ≡ Some (Out n) → n ≤ c.book.given) → IsCommitting c → IsCommitting (handed_out c claim)
handed_keeps c piece claim is may number for given well =
    let claims = next_claims c piece is in
    let next = next_at c.book piece claims.1 in
    record {
      stage = well.stage;
      fits = well.fits;
      pieces = ap (λ (b : Book). b.pieces) (taken_is c.book piece next.0 next.1 may) ∙ well.pieces;
      outs = outs_taken c.set c.book c.outs well.outs piece next.0 claim next.1 may number for given;
    }

-- what a claim's inputs are, from what was read for its piece
pub asks_by : (before after : Committing) (set : CommitSet) (claim : Claim) (piece : Piece) (inputs : List (List ℕ)) (old : ℕ → DeviceState) → set ≡ before.set → HandsOut before after claim → next_piece before ≡ Some piece → claim.inputs ≡ inputs
    → ((shape : Shape) (d : Dataset) → FilesRead set shape d old → AreInputsFor set.desc.scheme (group_streams d piece.group piece.local) piece inputs)
    → (shape : Shape) (d : Dataset) → FilesRead before.set shape d old → AreInputsOf claim (group_streams d claim.group claim.local)
asks_by before later set claim piece inputs old own out next same asks shape d reads =
    asks_of before.set out.piece claim d inputs out.is same
    (subst (λ (p : Piece). AreInputsFor before.set.desc.scheme (group_streams d p.group p.local) p inputs) (one piece out.piece (sym next ∙ out.next))
    (subst (λ (x : CommitSet). AreInputsFor x.desc.scheme (group_streams d piece.group piece.local) piece inputs) own (asks shape d (subst (λ (x : CommitSet). FilesRead x shape d old) (sym own) reads))))
  where
    one : (a b : Piece) → Some a ≡ Some b → a ≡ b
    one a b e = cc

pub hands_out : (v now : Committing) (piece : Piece) (claim : Claim) (book : Book) (outs : List Claim) → v ≡ now → next_piece now ≡ Some piece → claim.number ≡ v.book.given + 1 → IsClaimFor v.set piece claim → book ≡ after_taking v.book → outs ≡ v.outs ++ claim ∷ []
    → HandsOut now (record { set = v.set; stage = v.stage; book = book; outs = outs }) claim
hands_out v now piece claim book outs view next number is taken more = record {
  piece = piece;
  next = next;
  number = number ∙ ap (λ (x : Committing). x.book.given + 1) view;
  is = subst (λ (x : Committing). IsClaimFor x.set piece claim) view is;
  becomes = ap (λ (b : Book). let c : Committing = record { set = v.set; stage = v.stage; book = b; outs = outs } in c) taken
      ∙ ap (λ (xs : List Claim). let c : Committing = record { set = v.set; stage = v.stage; book = after_taking v.book; outs = xs } in c) more
      ∙ ap (λ (x : Committing). handed_out x claim) view;
}

-- a read that a fault refused
pub fault_of : (T : Type 0) (old new : ℕ → DeviceState) (t : Trouble) (node count : ℕ) → t ≡ error.Fault node count → ReadsOnly {T = T} old new (Err t) → IsReadFault old new node count
fault_of T old new t node count is reads = subst (λ (x : Trouble). ReadsOnly {T = T} old new (Err x)) is reads
