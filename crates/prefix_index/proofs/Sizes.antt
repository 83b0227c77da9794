-- How deep the tree of an index record is, and how long its encoding.
use Rattle.std.proofs.Common.{◌≡◌, ◌<◌, ◌≤◌, ◌+◌, ◌*◌, ◌^◌, ℕ, suc, List, [], ◌∷◌, ◌++◌, map, length, refl, arith, length-append}
use Rattle.std.specs.Prelude.{All, IsTrue, decimal, codes, ◌&&◌, Bool, true, false, nat_le}
use Rattle.std.specs.Int.{w16, w32, to_be_bytes}
use Rattle.std.proofs.lemmas.Fmt.{length-decimal-le}
use Rattle.std.proofs.lemmas.List.Elements.{All-tail}
use Rattle.std.proofs.lemmas.Bool.{leb-true}
use Rattle.std.specs.List.{list_all}
use Rattle.scr_base.specs.Words.{is_name, begins_well, is_name_byte}
use Rattle.kvtree.specs.Entries.{Entries, none, entry, width, depth}
use Rattle.kvtree.specs.Lookup.{leaf}
use Rattle.kvtree.specs.Encoding.{encoding, children_bytes}
use Rattle.scr_base.specs.declared.shape.Flags.{Flags}
use Rattle.scr_base.specs.declared.shape.Flags.TheVariants.{Ckpt, Output, Both}
use Rattle.scr_base.specs.declared.shape.Scheme.{Scheme}
use Rattle.scr_base.specs.declared.shape.Scheme.TheVariants.{Single, Partner, Xor, Rs}
use Rattle.scr_base.specs.Limits.{is_in, is_site, is_scheme}
use Rattle.dataset_desc.specs.Ranges.{is_number, is_size}
use Rattle.dataset_desc.specs.Parts.{dset_tree, scheme_tree, shape_tree, flags_key, scheme_key, shares_of}
use Rattle.dataset_desc.specs.declared.desc.Desc.{Desc}
use Rattle.prefix_index.specs.Entries.{entry_tree}
use Rattle.prefix_index.specs.Marks.{mark_tree}
use Rattle.scr_base.specs.declared.shape.DataId.{DataId}
use Rattle.filemap.specs.Rows.{IsRow, IsRows}
use Rattle.filemap.specs.Numbered.{numbered, two_digits}
use Rattle.filemap.specs.Maps.{file_tree, rows_tree, map_tree}
use Rattle.filemap.specs.declared.rows.FileRow.{FileRow}

-- the bytes of a tree's children
size : Entries → ℕ
size t = length (children_bytes t)

size_is : (t : Entries) → length (children_bytes t) ≡ size t
unfolding size
size_is t = refl

size_none : size none ≡ 0
unfolding size
size_none = refl

size_entry : (key : List ℕ) (child rest : Entries) → size (entry key child rest) ≡ 6 + length key + size child + size rest
unfolding size
size_entry key child rest =
    let head = to_be_bytes w16 (length key) in
    let count = to_be_bytes w32 (width child) in
    omega (arith, length-append (head ++ key ++ count ++ children_bytes child) (children_bytes rest), length-append (head ++ key ++ count) (children_bytes child), length-append (head ++ key) count, length-append head key)

size_leaf : (key : List ℕ) → size (leaf key) ≡ 6 + length key
size_leaf key = omega (arith, size_entry key none none, size_none)

-- ## depth

rows_depth : (n : ℕ) (rows : List FileRow) → depth (numbered n (map file_tree rows)) ≤ 4
rows_depth n [] = omega arith
rows_depth n (row ∷ rows) = omega (arith, rows_depth (suc n) rows)

maps_depth : (n : ℕ) (files : List (List FileRow)) → depth (numbered n (map rows_tree files)) ≤ 5
maps_depth n [] = omega arith
maps_depth n (rows ∷ files) = omega (arith, rows_depth 0 rows, maps_depth (suc n) files)

pub map_depth : (files : List (List FileRow)) → depth (map_tree files) ≤ 5
map_depth files = maps_depth 0 files

-- ## length

All-head : {X : Type 0} (P : X → Type 0) (x : X) (xs : List X) → All P (x ∷ xs) → P x
All-head P x xs all = all 0 x (omega arith)

-- a name has at most 64 bytes
pub name_short : (a b c : Bool) → (a && b && c) ≡ true → b ≡ true
name_short true true c is = refl
name_short true false c is = absurd (cc is)
name_short false b c is = absurd (cc is)

file_size : (row : FileRow) → IsRow row → size (file_tree row) ≤ 86
file_size row is =
    let empty = size_none in
    let short : length row.name ≤ 64 = leb-true (length row.name) 64 (name_short (begins_well row.name) (nat_le (length row.name) 64) (list_all is_name_byte row.name) is.named) in
    omega (arith, size_entry row.name (leaf (decimal row.len)) none, empty, size_leaf (decimal row.len), length-decimal-le 10 row.len (omega arith) (omega (arith, is.short)) (omega (arith, is.short)), short)

rows_size : (n : ℕ) (rows : List FileRow) → All IsRow rows → size (numbered n (map file_tree rows)) ≤ length rows * 94
rows_size n [] all = omega (arith, size_none)
rows_size n (row ∷ rows) all = omega (arith, size_entry (two_digits n) (file_tree row) (numbered (suc n) (map file_tree rows)), file_size row (All-head IsRow row rows all), rows_size (suc n) rows (All-tail IsRow row rows all))

maps_size : (n : ℕ) (files : List (List FileRow)) → All IsRows files → size (numbered n (map rows_tree files)) ≤ length files * 1512
maps_size n [] all = omega (arith, size_none)
maps_size n (rows ∷ files) all =
    let is = All-head IsRows rows files all in
    let few = is.few in
    omega (arith, size_entry (two_digits n) (rows_tree rows) (numbered (suc n) (map rows_tree files)), rows_size 0 rows is.fit, maps_size (suc n) files (All-tail IsRows rows files all), few)

decimal_size : (n : ℕ) → n < 2 ^ 32 → size (leaf (decimal n)) ≤ 16
decimal_size n lt = omega (arith, size_leaf (decimal n), length-decimal-le 10 n (omega arith) (omega (arith, lt)) (omega (arith, lt)))

-- the body of a record, by its parts
and_first : (a b : Bool) → (a && b) ≡ true → a ≡ true
and_first true b is = refl
and_first false b is = absurd (cc is)

scheme_short : (s : Scheme) → length (scheme_key s) ≤ 7
scheme_short Single = omega arith
scheme_short Partner = omega arith
scheme_short Xor = omega arith
scheme_short (Rs shares) = omega arith

flags_short : (f : Flags) → length (flags_key f) ≤ 6
flags_short Ckpt = omega arith
flags_short Output = omega arith
flags_short Both = omega arith

pub tree_depth : (desc : Desc) (files : List (List FileRow)) → depth (entry_tree desc files) ≤ 16
tree_depth desc files = omega (arith, map_depth files)

pub body_short : (desc : Desc) (files : List (List FileRow)) → length desc.name ≤ 64 → desc.which.id < 2 ^ 32 → desc.which.run < 2 ^ 32 → shares_of desc.scheme < 2 ^ 32 → desc.size < 2 ^ 32 → desc.nodes < 2 ^ 32 → desc.ranks < 2 ^ 32
    → length files ≤ 64 → All IsRows files → length (encoding (entry_tree desc files)) ≤ 1048576
body_short desc files name id run shares sz nodes ranks few all =
    let files_tree = map_tree files in
    let empty : size none ≡ 0 = size_none in
    let shape = entry (codes "SHAPE") (shape_tree desc.nodes desc.ranks) none in
    let scheme = entry (codes "SCHEME") (scheme_tree desc.scheme desc.size) shape in
    let format = entry (codes "FORMAT") (leaf (codes "1")) scheme in
    let file_part = entry (codes "FILES") files_tree format in
    let dset = dset_tree desc.flags desc.which.id desc.name desc.which.run in
    let e5 : size shape ≤ 100 = omega (arith, size_entry (codes "SHAPE") (shape_tree desc.nodes desc.ranks) none, size_entry (codes "NODES") (leaf (decimal desc.nodes)) (entry (codes "RANKS") (leaf (decimal desc.ranks)) none), size_entry (codes "RANKS") (leaf (decimal desc.ranks)) none, decimal_size desc.nodes nodes, decimal_size desc.ranks ranks) in
    let e4 : size scheme ≤ 300 = omega (
      arith,
      e5,
      size_entry (codes "SCHEME") (scheme_tree desc.scheme desc.size) shape,
      size_entry (codes "SHARES") (leaf (decimal (shares_of desc.scheme))) (entry (codes "SIZE") (leaf (decimal desc.size)) (entry (codes "TYPE") (leaf (scheme_key desc.scheme)) none)),
      size_entry (codes "SIZE") (leaf (decimal desc.size)) (entry (codes "TYPE") (leaf (scheme_key desc.scheme)) none),
      size_entry (codes "TYPE") (leaf (scheme_key desc.scheme)) none,
      size_leaf (scheme_key desc.scheme),
      scheme_short desc.scheme,
      decimal_size (shares_of desc.scheme) shares,
      decimal_size desc.size sz,
    ) in
    let e2 : size format ≤ 500 = omega (arith, e4, size_entry (codes "FORMAT") (leaf (codes "1")) scheme, size_leaf (codes "1")) in
    let e1 : size file_part ≤ 97500 = omega (arith, e2, size_entry (codes "FILES") files_tree format, maps_size 0 files all, few) in
    let e0 : size dset ≤ 500 = omega (
      arith,
      size_entry (codes "FLAGS") (leaf (flags_key desc.flags)) (entry (codes "ID") (leaf (decimal desc.which.id)) (entry (codes "NAME") (leaf desc.name) (entry (codes "RUN") (leaf (decimal desc.which.run)) none))),
      size_entry (codes "ID") (leaf (decimal desc.which.id)) (entry (codes "NAME") (leaf desc.name) (entry (codes "RUN") (leaf (decimal desc.which.run)) none)),
      size_entry (codes "NAME") (leaf desc.name) (entry (codes "RUN") (leaf (decimal desc.which.run)) none),
      size_entry (codes "RUN") (leaf (decimal desc.which.run)) none,
      size_leaf (flags_key desc.flags),
      flags_short desc.flags,
      size_leaf desc.name,
      name,
      decimal_size desc.which.id id,
      decimal_size desc.which.run run,
    ) in
    omega (arith, e0, e1, size_is (entry_tree desc files), size_entry (codes "DSET") dset file_part, length-append (to_be_bytes w32 (width (entry_tree desc files))) (children_bytes (entry_tree desc files)))

-- the ranges that a description keeps
five : (a b c d e : Bool) → (a && b && c && d && e) ≡ true → (a ≡ true) × (b ≡ true) × (c ≡ true) × (d ≡ true) × (e ≡ true)
five true true true true true is = (refl, refl, refl, refl, refl)
five false b c d e is = absurd (cc is)
five true false c d e is = absurd (cc is)
five true true false d e is = absurd (cc is)
five true true true false e is = absurd (cc is)
five true true true true false is = absurd (cc is)

upper : (low high n : ℕ) → is_in low high n ≡ true → n ≤ high
upper low high n is = leb-true n high (second (nat_le low n) (nat_le n high) is)
  where
    second : (a b : Bool) → (a && b) ≡ true → b ≡ true
    second true b is = is
    second false b is = absurd (cc is)

shares_few : (s : Scheme) → is_scheme s ≡ true → shares_of s ≤ 15
shares_few Single is = omega arith
shares_few Partner is = omega arith
shares_few Xor is = omega arith
shares_few (Rs shares) is = upper 1 15 shares is

four : (a b c d : Bool) → (a && b && c && d) ≡ true → (a ≡ true) × (b ≡ true) × (d ≡ true)
four true true true true is = (refl, refl, refl)
four false b c d is = absurd (cc is)
four true false c d is = absurd (cc is)
four true true false d is = absurd (cc is)
four true true true false is = absurd (cc is)

pub ranks_few : (desc : Desc) → desc.nodes * desc.ranks ≤ 64
ranks_few desc =
    let site = (five (is_number desc.which.id) (is_number desc.which.run) (is_site desc.nodes desc.ranks 0) (is_scheme desc.scheme) (is_size desc.size) desc.ranges).2 in
    leb-true (desc.nodes * desc.ranks) 64 (four (is_in 1 16 desc.nodes) (is_in 1 8 desc.ranks) (nat_le 0 16) (nat_le (desc.nodes * desc.ranks) 64) site).2

pub shares_below : (desc : Desc) → shares_of desc.scheme ≤ 15
shares_below desc = shares_few desc.scheme (five (is_number desc.which.id) (is_number desc.which.run) (is_site desc.nodes desc.ranks 0) (is_scheme desc.scheme) (is_size desc.size) desc.ranges).3

pub record_short : (desc : Desc) (files : List (List FileRow)) → IsTrue (is_name desc.name) → length files ≡ desc.nodes * desc.ranks → All IsRows files → length (encoding (entry_tree desc files)) ≤ 1048576
record_short desc files named ranks all =
    let parts = five (is_number desc.which.id) (is_number desc.which.run) (is_site desc.nodes desc.ranks 0) (is_scheme desc.scheme) (is_size desc.size) desc.ranges in
    let site = four (is_in 1 16 desc.nodes) (is_in 1 8 desc.ranks) (nat_le 0 16) (nat_le (desc.nodes * desc.ranks) 64) parts.2 in
    let few : desc.nodes * desc.ranks ≤ 64 = ranks_few desc in
    body_short desc files (leb-true (length desc.name) 64 (name_short (begins_well desc.name) (nat_le (length desc.name) 64) (list_all is_name_byte desc.name) named))
    (omega (arith, upper 1 4294967295 desc.which.id parts.0)) (omega (arith, upper 1 4294967295 desc.which.run parts.1)) (omega (arith, shares_few desc.scheme parts.3)) (omega (arith, upper 2 16 desc.size parts.4))
    (omega (arith, upper 1 16 desc.nodes site.0)) (omega (arith, upper 1 8 desc.ranks site.1)) (omega (arith, ranks, few)) all

pub mark_short : (which : DataId) → which.id < 2 ^ 32 → which.run < 2 ^ 32 → length (encoding (mark_tree which)) ≤ 1048572
mark_short which id run = omega (
  arith,
  size_is (mark_tree which),
  size_entry (codes "ID") (leaf (decimal which.id)) (entry (codes "RUN") (leaf (decimal which.run)) none),
  size_entry (codes "RUN") (leaf (decimal which.run)) none,
  size_none,
  decimal_size which.id id,
  decimal_size which.run run,
  length-append (to_be_bytes w32 (width (mark_tree which))) (children_bytes (mark_tree which)),
)

pub mark_depth : (which : DataId) → depth (mark_tree which) ≤ 16
mark_depth which = omega arith
