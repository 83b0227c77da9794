-- What reads of files make of a rank's stream.
use Rattle.std.proofs.Common.{◌≡◌, ◌≢◌, ◌<◌, ◌≤◌, ◌+◌, ◌-◌, ◌++◌, ℕ, zero, suc, min, inl, inr, true, List, [], ◌∷◌, length, map, take, Some, Result, Ok, Err, refl, sym, ◌∙◌, ap, subst, arith, length-append}
use Rattle.std.specs.Prelude.{slice_index, slice_get, flat_map}
use Rattle.std.specs.List.{sum_by}
use Rattle.std.proofs.lemmas.List.Sums.{sum_by-cons}
use Rattle.filemap.specs.declared.rows.FileRow.{FileRow}
use Rattle.ckpt_model.specs.Dataset.{File as RankFile}
use Rattle.commit_core.specs.Sets.{rows_length}
use Rattle.commit_core.specs.Stretch.{IsStretch, IsFilled}
use Rattle.commit_core.proofs.Stretches.{stretch_more}

-- ## The files of a rank

-- one file more
pub stream_more : (files : List RankFile) (j : ℕ) (f : RankFile) → slice_get files j ≡ Some f → flat_map (λ (f : RankFile). f.bytes) (take (j + 1) files) ≡ flat_map (λ (f : RankFile). f.bytes) (take j files) ++ f.bytes
stream_more files j f at = rw (Rattle.std.proofs.Common.add-one) (go files j at)
  where
    go : (files : List RankFile) (j : ℕ) → slice_get files j ≡ Some f → flat_map (λ (f : RankFile). f.bytes) (take (suc j) files) ≡ flat_map (λ (f : RankFile). f.bytes) (take j files) ++ f.bytes
    go [] j at = absurd (cc at)
    go (x ∷ xs) zero at = let same : x ≡ f = cc at in Rattle.std.proofs.lemmas.List.append-nil x.bytes ∙ ap (λ (y : RankFile). y.bytes) same
    go (x ∷ xs) (suc j) at = ap (λ (ys : List ℕ). x.bytes ++ ys) (go xs j at) ∙ sym (Rattle.std.proofs.Common.append_assoc x.bytes (flat_map (λ (f : RankFile). f.bytes) (take j xs)) f.bytes)

-- so many bytes as the rows say
pub stream_length : (rows : List FileRow) (files : List RankFile) (j : ℕ) → map (λ (row : FileRow). row.len) rows ≡ map (λ (f : RankFile). length f.bytes) files → length (flat_map (λ (f : RankFile). f.bytes) (take j files)) ≡ rows_length (take j rows)
stream_length [] [] zero is = refl
stream_length [] [] (suc j) is = refl
stream_length [] (f ∷ fs) j is = absurd (cc is)
stream_length (row ∷ rows) [] j is = absurd (cc is)
stream_length (row ∷ rows) (f ∷ fs) zero is = refl
stream_length (row ∷ rows) (f ∷ fs) (suc j) is =
    let head : row.len ≡ length f.bytes = cc is in
    let tail : map (λ (row : FileRow). row.len) rows ≡ map (λ (f : RankFile). length f.bytes) fs = cc is in
    omega (arith, length-append f.bytes (flat_map (λ (f : RankFile). f.bytes) (take j fs)), head, stream_length rows fs j tail, sum_by-cons (λ (row : FileRow). row.len) row (take j rows))

-- the file of a row
pub file_at : (rows : List FileRow) (files : List RankFile) (j : ℕ) (d : FileRow) → map (λ (row : FileRow). row.len) rows ≡ map (λ (f : RankFile). length f.bytes) files → j < length rows → (f : RankFile) × (slice_get files j ≡ Some f) × (length f.bytes ≡ (Rattle.std.specs.Prelude.get_or rows j d).len)
file_at [] files j d is lt = absurd (omega (arith, lt))
file_at (row ∷ rows) [] j d is lt = absurd (cc is)
file_at (row ∷ rows) (f ∷ fs) zero d is lt = let head : row.len ≡ length f.bytes = cc is in (f, refl, sym head)
file_at (row ∷ rows) (f ∷ fs) (suc j) d is lt = let tail : map (λ (row : FileRow). row.len) rows ≡ map (λ (f : RankFile). length f.bytes) fs = cc is in file_at rows fs j d tail (omega (arith, lt))

-- one row more
pub rows_more : (rows : List FileRow) (j : ℕ) (d : FileRow) → j < length rows → rows_length (take (j + 1) rows) ≡ rows_length (take j rows) + (Rattle.std.specs.Prelude.get_or rows j d).len
rows_more rows j d lt = rw (Rattle.std.proofs.Common.add-one) (go rows j lt)
  where
    go : (rows : List FileRow) (j : ℕ) → j < length rows → rows_length (take (suc j) rows) ≡ rows_length (take j rows) + (Rattle.std.specs.Prelude.get_or rows j d).len
    go [] j lt = absurd (omega (arith, lt))
    go (row ∷ rows) zero lt = omega (arith, sum_by-cons (λ (row : FileRow). row.len) row [])
    go (row ∷ rows) (suc j) lt = omega (arith, go rows j (omega (arith, lt)), sum_by-cons (λ (row : FileRow). row.len) row (take (suc j) rows), sum_by-cons (λ (row : FileRow). row.len) row (take j rows))

-- a buffer after all of it was lent
pub lent_back : (n : ℕ) (old new : List ℕ) → length old ≡ n → length new ≡ length old → take n (new ++ Rattle.std.proofs.Common.drop (length new) old) ≡ new
lent_back n old new is same = Rattle.std.proofs.lemmas.List.take_at new (Rattle.std.proofs.Common.drop (length new) old) n (same ∙ is)

-- one file of a rank more is read
pub rank_more : (rows : List FileRow) (files : List RankFile) (j : ℕ) (row : FileRow) (old new : List ℕ) (from len done skip count : ℕ) → j < length rows
    → map (λ (row : FileRow). row.len) rows ≡ map (λ (f : RankFile). length f.bytes) files → done ≡ min len (rows_length (take j rows) - from) → skip ≡ from - rows_length (take j rows) → count ≡ min ((Rattle.std.specs.Prelude.get_or rows j row).len - skip) (len - done)
    → IsStretch (flat_map (λ (f : RankFile). f.bytes) (take j files)) from len old → ((f : RankFile) → slice_get files j ≡ Some f → IsFilled f.bytes skip done count old new)
    → IsStretch (flat_map (λ (f : RankFile). f.bytes) (take (j + 1) files)) from len new
rank_more rows files j row old new from len done skip count low lengths is_done is_skip is_count was fill =
    let file = file_at rows files j row lengths low in
    let long : length (flat_map (λ (f : RankFile). f.bytes) (take j files)) ≡ rows_length (take j rows) = stream_length rows files j lengths in
    subst (λ (xs : List ℕ). IsStretch xs from len new) (sym (stream_more files j file.0 file.1))
    (stretch_more (flat_map (λ (f : RankFile). f.bytes) (take j files)) file.0.bytes old new from len done skip count (omega (arith, is_done, long)) (omega (arith, is_skip, long)) (omega (arith, is_count, file.2)) was (fill file.0 file.1))
