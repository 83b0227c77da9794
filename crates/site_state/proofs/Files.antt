-- The files of a rank, by the rows that the site has of them.
use Rattle.std.proofs.Common.{◌≡◌, ◌≢◌, ℕ, suc, ◌+◌, ◌<◌, ◌≤◌, Bool, true, false, List, [], ◌∷◌, ◌++◌, length, Option, Some, None, refl, sym, ap, ◌∙◌, subst, get_or, arith}
use Rattle.std.specs.Prelude.{not, bytes_eq, nat_lt, option_map, is_none, is_some, if◌then◌else◌, AllPairs}
use Rattle.std.proofs.lemmas.Slice.Eq.{bytes_eq-Decides}
use Rattle.std.proofs.lemmas.Bool.Decides.{nat_tests}
use Rattle.filemap.specs.Rows.{place_of, is_routed, routed, extended, Differ}
use Rattle.filemap.specs.declared.rows.FileRow.{FileRow}
use Rattle.ckpt_model.specs.Dataset.{File, file_named, place_from, files_written, written_at, routed as file_routed}
use Rattle.site_state.specs.Shown.{rank_files}

-- ## One rank

one_more : (p n : ℕ) → nat_lt (1 + p) (suc n) ≡ nat_lt p n
one_more p n = grind (arith, nat_tests)

first_below : (n : ℕ) → nat_lt 0 (suc n) ≡ true
first_below n = grind (arith, nat_tests)

missing_at : (b : ℕ → List ℕ) (j : ℕ) (row : FileRow) (rows : List FileRow) (name : List ℕ) → is_none (file_named (rank_files b (j + 1) rows) name) ≡ not (is_routed rows name)
    → (is : Bool) → is_none (if is then Some (record { name = row.name; bytes = b j }) else file_named (rank_files b (j + 1) rows) name) ≡ not (nat_lt (if not is then 1 + place_of rows name else 0) (suc (length rows)))
missing_at b j row rows name more true = ap not (sym (first_below (length rows)))
missing_at b j row rows name more false = more ∙ ap not (sym (one_more (place_of rows name) (length rows)))

pub missing_is : (b : ℕ → List ℕ) (j : ℕ) (rows : List FileRow) (name : List ℕ) → is_none (file_named (rank_files b j rows) name) ≡ not (is_routed rows name)
missing_is b j [] name = refl
missing_is b j (row ∷ rows) name = missing_at b j row rows name (missing_is b (j + 1) rows name) (bytes_eq row.name name)

pub length_is : (b : ℕ → List ℕ) (j : ℕ) (rows : List FileRow) → length (rank_files b j rows) ≡ length rows
length_is b j [] = refl
length_is b j (row ∷ rows) = ap suc (length_is b (j + 1) rows)

place_at : (b : ℕ → List ℕ) (k j : ℕ) (row : FileRow) (rows : List FileRow) (name : List ℕ) → place_from (k + 1) (rank_files b (j + 1) rows) name ≡ (k + 1) + place_of rows name
    → (is : Bool) → (if is then k else place_from (k + 1) (rank_files b (j + 1) rows) name) ≡ k + (if not is then 1 + place_of rows name else 0)
place_at b k j row rows name more true = omega arith
place_at b k j row rows name more false = omega (arith, more)

pub place_is : (b : ℕ → List ℕ) (k j : ℕ) (rows : List FileRow) (name : List ℕ) → place_from k (rank_files b j rows) name ≡ k + place_of rows name
place_is b k j [] name = omega arith
place_is b k j (row ∷ rows) name = place_at b k j row rows name (place_is b (k + 1) (j + 1) rows name) (bytes_eq row.name name)

found_at : (b : ℕ → List ℕ) (j : ℕ) (row : FileRow) (rows : List FileRow) (name : List ℕ) → (is_routed rows name ≡ true → option_map (λ (f : File). f.bytes) (file_named (rank_files b (j + 1) rows) name) ≡ Some (b (j + 1 + place_of rows name)))
    → (is : Bool) → nat_lt (if not is then 1 + place_of rows name else 0) (suc (length rows)) ≡ true
    → option_map (λ (f : File). f.bytes) (if is then Some (record { name = row.name; bytes = b j }) else file_named (rank_files b (j + 1) rows) name) ≡ Some (b (j + (if not is then 1 + place_of rows name else 0)))
found_at b j row rows name more true there = ap (λ (k : ℕ). Some (b k)) (let e : j ≡ j + 0 = omega arith in e)
found_at b j row rows name more false there = more (sym (one_more (place_of rows name) (length rows)) ∙ there) ∙ ap (λ (k : ℕ). Some (b k)) (let e : (j + 1) + place_of rows name ≡ j + (1 + place_of rows name) = omega arith in e)

-- the bytes of the file of this name
pub bytes_are : (b : ℕ → List ℕ) (j : ℕ) (rows : List FileRow) (name : List ℕ) → is_routed rows name ≡ true → option_map (λ (f : File). f.bytes) (file_named (rank_files b j rows) name) ≡ Some (b (j + place_of rows name))
bytes_are b j [] name there = absurd (cc there)
bytes_are b j (row ∷ rows) name there = found_at b j row rows name (bytes_are b (j + 1) rows name) (bytes_eq row.name name) there

pub push_is : (b : ℕ → List ℕ) (j : ℕ) (rows : List FileRow) (row : FileRow) → rank_files b j (rows ++ row ∷ []) ≡ rank_files b j rows ++ record { name = row.name; bytes = b (j + length rows) } ∷ []
push_is b j [] row = ap (λ (k : ℕ). (let f : File = record { name = row.name; bytes = b k } in f) ∷ []) (let e : j ≡ j + 0 = omega arith in e)
push_is b j (r ∷ rows) row = ap (λ (fs : List File). (let f : File = record { name = r.name; bytes = b j } in f) ∷ fs) (push_is b (j + 1) rows row
    ∙ ap (λ (k : ℕ). rank_files b (j + 1) rows ++ (let f : File = record { name = row.name; bytes = b k } in f) ∷ []) (let e : (j + 1) + length rows ≡ j + suc (length rows) = omega arith in e))

-- a file that is new, or there
routed_at : (b : ℕ → List ℕ) (rows : List FileRow) (name : List ℕ) (there : Bool) → (there ≡ false → b (length rows) ≡ [])
    → (new : Bool) → new ≡ not there → rank_files b 0 (if there then rows else rows ++ record { name = name; len = 0 } ∷ []) ≡ (if not new then rank_files b 0 rows else rank_files b 0 rows ++ record { name = name; bytes = [] } ∷ [])
routed_at b rows name true empty new is = rw (is) refl
routed_at b rows name false empty new is = rw (is) (push_is b 0 rows (record { name = name; len = 0 }) ∙ ap (λ (bs : List ℕ). rank_files b 0 rows ++ (let f : File = record { name = name; bytes = bs } in f) ∷ []) (ap b (let e : 0 + length rows ≡ length rows = omega arith in e) ∙ empty refl))

some_or_none : (o : Option File) → is_some o ≡ not (is_none o)
some_or_none None = refl
some_or_none (Some f) = refl

pub routed_is : (b : ℕ → List ℕ) (rows : List FileRow) (name : List ℕ) → (is_routed rows name ≡ false → b (length rows) ≡ []) → rank_files b 0 (routed rows name) ≡ file_routed (rank_files b 0 rows) name
routed_is b rows name empty =
    routed_at b rows name (is_routed rows name) empty (is_none (file_named (rank_files b 0 rows) name)) (missing_is b 0 rows name)
    ∙ ap (λ (t : Bool). if t then rank_files b 0 rows else rank_files b 0 rows ++ (let f : File = record { name = name; bytes = [] } in f) ∷ []) (sym (some_or_none (file_named (rank_files b 0 rows) name)))

-- ## A write

pub same_files : (b d : ℕ → List ℕ) (j : ℕ) (rows : List FileRow) → ((k : ℕ) → j ≤ k → b k ≡ d k) → rank_files b j rows ≡ rank_files d j rows
same_files b d j [] same = refl
same_files b d j (row ∷ rows) same = rw (same j (omega arith), same_files b d (j + 1) rows (λ k le. same k (omega (arith, le)))) refl

unnamed_is : (b : ℕ → List ℕ) (j : ℕ) (rows : List FileRow) (name : List ℕ) (at : ℕ) (new : List ℕ) → ((k : ℕ) (d : FileRow) → k < length rows → bytes_eq (get_or rows k d).name name ≡ false)
    → files_written (rank_files b j rows) name at new ≡ rank_files b j rows
unnamed_is b j [] name at new others = refl
unnamed_is b j (row ∷ rows) name at new others =
    rw (others 0 row (omega arith), unnamed_is b (j + 1) rows name at new (λ k d lt. others (suc k) d (omega (arith, lt)))) refl

false_unless : (b : Bool) → (b ≡ true → ⊥) → b ≡ false
false_unless true not = absurd (not refl)
false_unless false not = refl

equal_names : (a b : List ℕ) → bytes_eq a b ≡ true → a ≡ b
equal_names a b e = grind (arith, bytes_eq-Decides, e)

-- where the first has the name, no other has
others_unnamed : (row : FileRow) (rows : List FileRow) (name : List ℕ) → AllPairs Differ (row ∷ rows) → bytes_eq row.name name ≡ true → (k : ℕ) (d : FileRow) → k < length rows → bytes_eq (get_or rows k d).name name ≡ false
others_unnamed row rows name apart is k d lt = false_unless (bytes_eq (get_or rows k d).name name) (λ e.
    apart 0 (suc k) d (omega arith) (omega (arith, lt)) (equal_names row.name name is ∙ sym (equal_names (get_or rows k d).name name e)))

rest_apart : (row : FileRow) (rows : List FileRow) → AllPairs Differ (row ∷ rows) → AllPairs Differ rows
rest_apart row rows apart = λ i k d lt below. apart (suc i) (suc k) d (omega (arith, lt)) (omega (arith, below))

abbrev file_of : List ℕ → List ℕ → File
file_of name bytes = record { name = name; bytes = bytes }

module _ (b d : ℕ → List ℕ) (j : ℕ) (row : FileRow) (rows : List FileRow) (name : List ℕ) (at : ℕ) (new : List ℕ) (len : ℕ) (apart : AllPairs Differ (row ∷ rows)) where
  written_step : (is : Bool) → bytes_eq row.name name ≡ is
      → ((k : ℕ) → k ≢ j + (if not is then 1 + place_of rows name else 0) → d k ≡ b k)
      → d (j + (if not is then 1 + place_of rows name else 0)) ≡ written_at (b (j + (if not is then 1 + place_of rows name else 0))) at new
      → nat_lt (if not is then 1 + place_of rows name else 0) (suc (length rows)) ≡ true
      → (is_routed rows name ≡ true → ((k : ℕ) → k ≢ (j + 1) + place_of rows name → d k ≡ b k) → d ((j + 1) + place_of rows name) ≡ written_at (b ((j + 1) + place_of rows name)) at new → rank_files d (j + 1) (extended rows (place_of rows name) len) ≡ files_written (rank_files b (j + 1) rows) name at new)
      → rank_files d j (extended (row ∷ rows) (if not is then 1 + place_of rows name else 0) len) ≡ (if is then file_of row.name (written_at (b j) at new) else file_of row.name (b j)) ∷ files_written (rank_files b (j + 1) rows) name at new
  written_step true e others here there more =
      let zero_more : j + 0 ≡ j = omega arith in
      let head : d j ≡ written_at (b j) at new = subst (λ (k : ℕ). d k ≡ written_at (b k) at new) zero_more here in
      let tail : rank_files d (j + 1) rows ≡ files_written (rank_files b (j + 1) rows) name at new =
      same_files d b (j + 1) rows (λ k le. others k (omega (arith, le)))
      ∙ sym (unnamed_is b (j + 1) rows name at new (others_unnamed row rows name apart e)) in
      ap (λ (bs : List ℕ). file_of row.name bs ∷ rank_files d (j + 1) rows) head ∙ ap (λ (fs : List File). file_of row.name (written_at (b j) at new) ∷ fs) tail
  written_step false e others here there more =
      let p = place_of rows name in
      let moved : j + (1 + p) ≡ (j + 1) + p = omega arith in
      let tail = more (sym (one_more p (length rows)) ∙ there) (λ k other. others k (λ is. other (is ∙ moved))) (subst (λ (k : ℕ). d k ≡ written_at (b k) at new) moved here) in
      let next : 1 + p ≡ suc p = omega arith in
      ap (λ (n : ℕ). rank_files d j (extended (row ∷ rows) n len)) next
      ∙ ap (λ (bs : List ℕ). file_of row.name bs ∷ rank_files d (j + 1) (extended rows p len)) (others j (λ is. absurd (omega (arith, is))))
      ∙ ap (λ (fs : List File). file_of row.name (b j) ∷ fs) tail

-- the file of this name is written, and no other
pub written_is : (b d : ℕ → List ℕ) (j : ℕ) (rows : List FileRow) (name : List ℕ) (at : ℕ) (new : List ℕ) (len : ℕ) → AllPairs Differ rows → is_routed rows name ≡ true
    → ((k : ℕ) → k ≢ j + place_of rows name → d k ≡ b k) → d (j + place_of rows name) ≡ written_at (b (j + place_of rows name)) at new
    → rank_files d j (extended rows (place_of rows name) len) ≡ files_written (rank_files b j rows) name at new
written_is b d j [] name at new len apart there others here = absurd (cc there)
written_is b d j (row ∷ rows) name at new len apart there others here =
    written_step b d j row rows name at new len apart (bytes_eq row.name name) refl others here there (λ t o h. written_is b d (j + 1) rows name at new len (rest_apart row rows apart) t o h)
