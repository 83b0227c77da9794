-- What reads of a dataset's files give of the streams of its sets.
use Rattle.std.proofs.Common.{IsTrue, Result, Ok, Err, ◌≡◌, ◌<◌, ◌≤◌, ◌+◌, ◌*◌, ◌-◌, ◌%◌, ℕ, zero, suc, List, [], ◌∷◌, length, map, Some, refl, sym, ◌∙◌, ap, subst, arith, length-append}
use Rattle.std.specs.Prelude.{slice_index, slice_index_or, slice_get, get_or, flat_map, unwrap_or}
use Rattle.std.proofs.lemmas.Bool.Decides.{nat_tests}
use Rattle.std.proofs.lemmas.List.{length-map, get_or-map}
use Rattle.std.proofs.lemmas.List.Sums.{sum_by-cons}
use Rattle.scr_base.specs.declared.shape.DataId.{DataId}
use Rattle.std.specs.Result.{IfOk}
use Rattle.scr_base.specs.declared.shape.Scheme.{Scheme}
use Rattle.scr_base.specs.declared.shape.Scheme.TheVariants.{Single, Partner, Xor, Rs}
use Rattle.scr_base.specs.declared.shape.Shape.{Shape}
use Rattle.scr_base.specs.Sets.{group_count, nodes_of_group, ranks_of_set, fits_sets}
use Rattle.node_device.specs.DeviceState.{DeviceState}
use Rattle.dataset_desc.specs.declared.desc.Desc.{Desc}
use Rattle.filemap.specs.Maps.{rows_of}
use Rattle.filemap.specs.declared.rows.FileRow.{FileRow}
use Rattle.member_store.specs.Names.{part_name}
use Rattle.member_store.specs.declared.part.Part.TheVariants.{File as FilePart}
use Rattle.partner_copy.specs.Partner.{share_of}
use Rattle.ckpt_model.specs.Dataset.{Dataset, File as RankFile, files_of}
use Rattle.site_stands.specs.Described.{Describes, stream_of}
use Rattle.member_shares.specs.Shares.{IsSet, parity_count, segment_length}
use Rattle.commit_core.specs.Deposits.{IsPartAt, AreSegmentParts}
use Rattle.commit_core.specs.PieceSets.{IsWithin, group_streams, AreInputsFor}
use Rattle.commit_core.specs.Pieces.{set_lengths, length_before}
use Rattle.commit_core.specs.Reads.{RankReads, FilesRead}
use Rattle.commit_core.specs.Sets.{rows_length, stream_lengths}
use Rattle.commit_core.specs.SharePieces.{lengths_of}
use Rattle.commit_core.specs.Stretch.{IsStretch}
use Rattle.commit_core.specs.declared.piece.Piece.{Piece}
use Rattle.commit_core.specs.declared.set.CommitSet.{CommitSet}
use Rattle.commit_core.proofs.SetLengths.{set_is}
use Rattle.commit_core.proofs.ShareBegins.{set_lengths_are}

pub few_nodes : (desc : Desc) → desc.nodes ≤ 16
few_nodes desc = grind (arith, nat_tests, desc.ranges)

pub some_nodes : (desc : Desc) → 1 ≤ desc.nodes
some_nodes desc = grind (arith, nat_tests, desc.ranges)

-- ## The files of a rank

rows_at : (rows : List (List FileRow)) (files : List (List RankFile)) (r : ℕ) → map (map (λ (row : FileRow). row.len)) rows ≡ map (map (λ (f : RankFile). length f.bytes)) files → map (λ (row : FileRow). row.len) (get_or rows r []) ≡ map (λ (f : RankFile). length f.bytes) (unwrap_or (slice_get files r) [])
rows_at [] [] r is = refl
rows_at [] (fs ∷ files) r is = absurd (cc is)
rows_at (row ∷ rows) [] r is = absurd (cc is)
rows_at (row ∷ rows) (fs ∷ files) zero is = cc is
rows_at (row ∷ rows) (fs ∷ files) (suc r) is = let rest : map (map (λ (row : FileRow). row.len)) rows ≡ map (map (λ (f : RankFile). length f.bytes)) files = cc is in rows_at rows files r rest

pub rank_reads : (set : CommitSet) (shape : Shape) (d : Dataset) (states : ℕ → DeviceState) (place node local : ℕ) → FilesRead set shape d states → slice_get set.places node ≡ Some place → place < 32 → local < set.desc.ranks
    → RankReads (states place) set.desc.which node local (rows_of set.files (node * set.desc.ranks + local)) (files_of d (node * set.desc.ranks + local))
rank_reads set shape d states place node local reads home low small = record {
  tells = reads.tells place (omega (arith, low));
  lengths = rows_at set.files d.files (node * set.desc.ranks + local) reads.describes.lengths;
  reads = λ j f at. subst (λ (w : DataId). ((states place).file (part_name w node (FilePart local j))).now ≡ Some f.bytes) (sym reads.describes.which)
      (reads.files node place local j f home (omega (arith, small, reads.describes.ranks), subst (λ (k : ℕ). slice_get (files_of d (node * k + local)) j ≡ Some f) reads.describes.ranks at));
}

-- ## The streams of a set

ranks_alike : (set : CommitSet) (shape : Shape) (d : Dataset) (group local : ℕ) → Describes shape set.desc set.files d → ranks_of_set d.shape.nodes d.shape.ranks d.size group local ≡ ranks_of_set set.desc.nodes set.desc.ranks set.desc.size group local
ranks_alike set shape d group local is =
    let nodes : d.shape.nodes ≡ set.desc.nodes = ap (λ (s : Shape). s.nodes) is.site ∙ sym is.nodes in
    let ranks : d.shape.ranks ≡ set.desc.ranks = ap (λ (s : Shape). s.ranks) is.site ∙ sym is.ranks in
    ap (λ (n : ℕ). ranks_of_set n d.shape.ranks d.size group local) nodes
    ∙ ap (λ (n : ℕ). ranks_of_set set.desc.nodes n d.size group local) ranks
    ∙ ap (λ (n : ℕ). ranks_of_set set.desc.nodes set.desc.ranks n group local) (sym is.size)

pub member_stream : (set : CommitSet) (shape : Shape) (d : Dataset) (group local member node : ℕ) → Describes shape set.desc set.files d → member < length (nodes_of_group set.desc.nodes set.desc.size group) → node ≡ slice_index (nodes_of_group set.desc.nodes set.desc.size group) member
    → slice_index_or (group_streams d group local) member [] ≡ stream_of d (node * set.desc.ranks + local)
member_stream set shape d group local member node is low own =
    let members : List ℕ = nodes_of_group set.desc.nodes set.desc.size group in
    ap (λ (rs : List ℕ). slice_index_or (map (stream_of d) rs) member []) (ranks_alike set shape d group local is)
    ∙ get_or-map (stream_of d) (ranks_of_set set.desc.nodes set.desc.ranks set.desc.size group local) member 0 [] (omega (arith, low, length-map members (λ i. i * set.desc.ranks + local)))
    ∙ ap (stream_of d) (get_or-map (λ i. i * set.desc.ranks + local) members member 0 0 low ∙ ap (λ (i : ℕ). i * set.desc.ranks + local) (sym own))

pub streams_count : (set : CommitSet) (shape : Shape) (d : Dataset) (group local : ℕ) → Describes shape set.desc set.files d → length (group_streams d group local) ≡ length (nodes_of_group set.desc.nodes set.desc.size group)
streams_count set shape d group local is =
    ap (λ (rs : List ℕ). length (map (stream_of d) rs)) (ranks_alike set shape d group local is)
    ∙ length-map (ranks_of_set set.desc.nodes set.desc.ranks set.desc.size group local) (stream_of d)
    ∙ length-map (nodes_of_group set.desc.nodes set.desc.size group) (λ i. i * set.desc.ranks + local)

-- ## Their lengths

rank_long : (rows : List FileRow) (files : List RankFile) → map (λ (row : FileRow). row.len) rows ≡ map (λ (f : RankFile). length f.bytes) files → rows_length rows ≡ length (flat_map (λ (f : RankFile). f.bytes) files)
rank_long [] [] is = refl
rank_long [] (f ∷ fs) is = absurd (cc is)
rank_long (row ∷ rows) [] is = absurd (cc is)
rank_long (row ∷ rows) (f ∷ fs) is =
    let head : row.len ≡ length f.bytes = cc is in
    let tail : map (λ (row : FileRow). row.len) rows ≡ map (λ (f : RankFile). length f.bytes) fs = cc is in
    omega (arith, length-append f.bytes (flat_map (λ (f : RankFile). f.bytes) fs), head, rank_long rows fs tail, sum_by-cons (λ (row : FileRow). row.len) row rows)

all_long : (rows : List (List FileRow)) (files : List (List RankFile)) → map (map (λ (row : FileRow). row.len)) rows ≡ map (map (λ (f : RankFile). length f.bytes)) files → map rows_length rows ≡ map (λ (fs : List RankFile). length (flat_map (λ (f : RankFile). f.bytes) fs)) files
all_long [] [] is = refl
all_long [] (fs ∷ files) is = absurd (cc is)
all_long (row ∷ rows) [] is = absurd (cc is)
all_long (row ∷ rows) (fs ∷ files) is =
    let head : map (λ (r : FileRow). r.len) row ≡ map (λ (f : RankFile). length f.bytes) fs = cc is in
    let tail : map (map (λ (r : FileRow). r.len)) rows ≡ map (map (λ (f : RankFile). length f.bytes)) files = cc is in
    let one = rank_long row fs head in
    let rest = all_long rows files tail in
    cc (one, rest)

-- the lengths of a set's streams are those that the records tell
pub lengths_are : (set : CommitSet) (shape : Shape) (d : Dataset) (group local : ℕ) → Describes shape set.desc set.files d → set_lengths set.desc.nodes set.desc.ranks set.desc.size group local (stream_lengths set.files) ≡ map (length {A = ℕ}) (group_streams d group local)
lengths_are set shape d group local is =
    ap (λ (ls : List ℕ). map (slice_index ls) (ranks_of_set set.desc.nodes set.desc.ranks set.desc.size group local)) (all_long set.files d.files is.lengths)
    ∙ ap (λ (rs : List ℕ). map (slice_index (lengths_of d)) rs) (sym (ranks_alike set shape d group local is))
    ∙ set_lengths_are d (ranks_of_set d.shape.nodes d.shape.ranks d.size group local)

-- ## For PARTNER the one stream

pub stream_part : (streams : List (List ℕ)) (lengths : List ℕ) (target members at len : ℕ) (bytes : List ℕ) → lengths ≡ map (length {A = ℕ}) streams → members ≡ length streams → target < members → at + len ≤ length_before lengths target
    → IsStretch (slice_index_or streams ((target + members - 1) % members) []) at len bytes → IsPartAt at (share_of streams target) bytes
stream_part streams lengths target members at len bytes are count low within stretch =
    subst (λ (n : ℕ). IsPartAt at (slice_index_or streams ((target + n - 1) % n) []) bytes) count
    (record {
      within = omega (arith, stretch.size, within, long);
      bytes = λ b lt. stretch.each b (omega (arith, lt, stretch.size));
    })
  where
    i : ℕ
    i = (target + members - 1) % members

    inside : i < length streams
    inside = omega (arith, low, count)

    long : length_before lengths target ≡ length (slice_index_or streams i [])
    long = ap (λ (ls : List ℕ). length_before ls target) are
        ∙ ap (λ (n : ℕ). slice_index (map (length {A = ℕ}) streams) ((target + n - 1) % n)) (length-map streams (length {A = ℕ}) ∙ sym count)
        ∙ get_or-map (length {A = ℕ}) streams i [] 0 inside

-- ## For the codes the segments

pub coded_within : (scheme : Scheme) (lengths : List ℕ) (piece : Piece) → (scheme ≡ Partner → ⊥) → IsWithin scheme lengths piece → piece.at + piece.len ≤ segment_length scheme lengths
coded_within Single lengths piece other within = absurd within
coded_within Partner lengths piece other within = absurd (other refl)
coded_within Xor lengths piece other within = within
coded_within (Rs shares) lengths piece other within = within

pub coded_inputs : (scheme : Scheme) (streams inputs : List (List ℕ)) (piece : Piece) (n p c : ℕ) → (scheme ≡ Single → ⊥) → (scheme ≡ Partner → ⊥) → n ≡ length streams → p ≡ parity_count scheme → c ≡ segment_length scheme (map (length {A = ℕ}) streams)
    → AreSegmentParts n p c piece.stripe piece.at streams inputs → AreInputsFor scheme streams piece inputs
coded_inputs Single streams inputs piece n p c single partner en ep ec parts = absurd (single refl)
coded_inputs Partner streams inputs piece n p c single partner en ep ec parts = absurd (partner refl)
coded_inputs Xor streams inputs piece n p c single partner en ep ec parts =
    subst (λ (k : ℕ). AreSegmentParts (length streams) 1 k piece.stripe piece.at streams inputs) ec
    (subst (λ (k : ℕ). AreSegmentParts (length streams) k c piece.stripe piece.at streams inputs) ep (subst (λ (k : ℕ). AreSegmentParts k p c piece.stripe piece.at streams inputs) en parts))
coded_inputs (Rs shares) streams inputs piece n p c single partner en ep ec parts =
    subst (λ (k : ℕ). AreSegmentParts (length streams) shares k piece.stripe piece.at streams inputs) ec
    (subst (λ (k : ℕ). AreSegmentParts (length streams) k c piece.stripe piece.at streams inputs) ep (subst (λ (k : ℕ). AreSegmentParts k p c piece.stripe piece.at streams inputs) en parts))

-- a part of the sets is one with the scheme
pub set_of : (set : CommitSet) (group local : ℕ) → group < group_count set.desc.nodes set.desc.size → IsTrue (fits_sets set.desc.scheme set.desc.size set.desc.nodes) → IsSet set.desc.scheme (length (set_lengths set.desc.nodes set.desc.ranks set.desc.size group local (stream_lengths set.files)))
set_of set group local low fits = set_is set.desc.scheme set.desc.nodes set.desc.ranks set.desc.size group local (stream_lengths set.files) (some_nodes set.desc) (few_nodes set.desc) low fits

pub if_ok : {T E : Type 0} (r : Result T E) (P Q : T → Type 0) → ((x : T) → P x → Q x) → IfOk r P → IfOk r Q
if_ok (Ok x) P Q by holds = by x holds
if_ok (Err e) P Q by holds = tt
