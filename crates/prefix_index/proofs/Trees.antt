-- The tree of an index record is a tree, and its encoding is one.
use Rattle.std.proofs.Common.{◌≡◌, ◌<◌, ◌≤◌, ◌+◌, ◌^◌, ℕ, suc, Bool, true, false, List, [], ◌∷◌, map, length, refl, ap, arith, codes}
use Rattle.std.specs.Prelude.{All, IsTrue, decimal, ◌&&◌, nat_le}
use Rattle.std.specs.List.{list_all}
use Rattle.std.specs.declared.cmp.Ordering.TheVariants.{Less}
use Rattle.std.proofs.lemmas.Bool.{leb-true}
use Rattle.std.proofs.lemmas.Bool.Decides.{nat_tests}
use Rattle.std.proofs.lemmas.List.Elements.{All-tail}
use Rattle.scr_base.specs.Words.{is_name, begins_well, is_name_byte}
use Rattle.scr_base.specs.declared.shape.Flags.{Flags}
use Rattle.scr_base.specs.declared.shape.Flags.TheVariants.{Ckpt, Output, Both}
use Rattle.scr_base.specs.declared.shape.Scheme.{Scheme}
use Rattle.scr_base.specs.declared.shape.Scheme.TheVariants.{Single, Partner, Xor, Rs}
use Rattle.scr_base.specs.declared.shape.DataId.{DataId}
use Rattle.kvtree.specs.Entries.{Entries, none, entry, width, key_order, IsKey, IsTree, AreAbove}
use Rattle.kvtree.specs.Lookup.{leaf}
use Rattle.kvtree.specs.Encoding.{IsEncoding}
use Rattle.kvtree.proofs.Numbers.{decimal_is_key}
use Rattle.kvtree.proofs.Puts.{first_key}
use Rattle.dataset_desc.specs.Parts.{dset_tree, scheme_tree, shape_tree, flags_key, scheme_key, shares_of}
use Rattle.filemap.specs.Rows.{IsRow, IsRows}
use Rattle.filemap.specs.Numbered.{numbered, two_digits}
use Rattle.filemap.specs.Maps.{file_tree, rows_tree, map_tree}
use Rattle.filemap.specs.declared.rows.FileRow.{FileRow}
use Rattle.filemap.proofs.Digits.{digits_less, digits_are_key}
use Rattle.prefix_index.specs.Entries.{MaySay, entry_tree, entry_body}
use Rattle.prefix_index.specs.Marks.{mark_tree, mark_payload}
use Rattle.prefix_index.specs.declared.entry.Entry.{Entry}
use Rattle.prefix_index.proofs.Sizes.{tree_depth, shares_below, ranks_few, name_short}

-- an entry above the last key
above : (last key : List ℕ) (child rest : Entries) → IsKey key → key_order last key ≡ Less → IsTree child → AreAbove key rest → AreAbove last (entry key child rest)
above last key child rest is less tree more = (is, less, tree.0, tree.1, more)

leaf_is : (key : List ℕ) → IsKey key → IsTree (leaf key)
leaf_is key is = (omega arith, (is, first_key key is, omega arith, tt, tt))

number_is : (n : ℕ) → n < 2 ^ 32 → IsTree (leaf (decimal n))
number_is n lt = leaf_is (decimal n) (decimal_is_key n lt)

-- ## Numbered trees

AreTrees : List Entries → Type 0
AreTrees [] = Unit {0}
AreTrees (t ∷ ts) = IsTree t × AreTrees ts

numbered_width : (n : ℕ) (ts : List Entries) → width (numbered n ts) ≡ length ts
numbered_width n [] = refl
numbered_width n (t ∷ ts) = omega (arith, numbered_width (suc n) ts)

numbered_above : (last : List ℕ) (n : ℕ) (ts : List Entries) → n + length ts < 100 → key_order last (two_digits n) ≡ Less → AreTrees ts → AreAbove last (numbered n ts)
unfolding AreTrees
numbered_above last n [] few less trees = tt
numbered_above last n (t ∷ ts) few less trees =
    above last (two_digits n) t (numbered (suc n) ts) (digits_are_key n) less trees.0 (numbered_above (two_digits n) (suc n) ts (omega (arith, few)) (digits_less n (suc n) (omega arith) (omega (arith, few))) trees.1)

numbered_is : (ts : List Entries) → length ts < 100 → AreTrees ts → IsTree (numbered 0 ts)
numbered_is ts few trees = (omega (arith, few, numbered_width 0 ts), numbered_above [] 0 ts (omega (arith, few)) (first_key (two_digits 0) (digits_are_key 0)) trees)

-- ## The files

All-head : {X : Type 0} (P : X → Type 0) (x : X) (xs : List X) → All P (x ∷ xs) → P x
All-head P x xs all = all 0 x (omega arith)

first_of : (a b c : Bool) → (a && b && c) ≡ true → a ≡ true
first_of true b c is = refl
first_of false b c is = absurd (cc is)

some_byte : (bs : List ℕ) → begins_well bs ≡ true → 0 < length bs
some_byte [] is = absurd (cc is)
some_byte (b ∷ bs) is = omega arith

name_is_key : (name : List ℕ) → IsTrue (is_name name) → IsKey name
name_is_key name is =
    let short : length name ≤ 64 = leb-true (length name) 64 (name_short (begins_well name) (nat_le (length name) 64) (list_all is_name_byte name) is) in
    (some_byte name (first_of (begins_well name) (nat_le (length name) 64) (list_all is_name_byte name) is), omega (arith, short))

file_is : (row : FileRow) → IsRow row → IsTree (file_tree row)
file_is row is =
    let key = name_is_key row.name is.named in
    (omega arith, above [] row.name (leaf (decimal row.len)) none key (first_key row.name key) (number_is row.len (omega (arith, is.short))) tt)

files_are : (rows : List FileRow) → All IsRow rows → AreTrees (map file_tree rows)
unfolding AreTrees
files_are [] all = tt
files_are (row ∷ rows) all = (file_is row (All-head IsRow row rows all), files_are rows (All-tail IsRow row rows all))

length_map : {X Y : Type 0} (f : X → Y) (xs : List X) → length (map f xs) ≡ length xs
length_map f [] = refl
length_map f (x ∷ xs) = ap suc (length_map f xs)

rows_are : (files : List (List FileRow)) → All IsRows files → AreTrees (map rows_tree files)
unfolding AreTrees
rows_are [] all = tt
rows_are (rows ∷ files) all =
    let is = All-head IsRows rows files all in
    (numbered_is (map file_tree rows) (omega (arith, length_map file_tree rows, is.few)) (files_are rows is.fit), rows_are files (All-tail IsRows rows files all))

map_is : (files : List (List FileRow)) → length files ≤ 64 → All IsRows files → IsTree (map_tree files)
map_is files few all = numbered_is (map rows_tree files) (omega (arith, length_map rows_tree files, few)) (rows_are files all)

-- ## The parts of a description

flags_are_key : (f : Flags) → IsKey (flags_key f)
flags_are_key Ckpt = (omega arith, omega arith)
flags_are_key Output = (omega arith, omega arith)
flags_are_key Both = (omega arith, omega arith)

scheme_is_key : (s : Scheme) → IsKey (scheme_key s)
scheme_is_key Single = (omega arith, omega arith)
scheme_is_key Partner = (omega arith, omega arith)
scheme_is_key Xor = (omega arith, omega arith)
scheme_is_key (Rs shares) = (omega arith, omega arith)

dset_is : (flags : Flags) (id : ℕ) (name : List ℕ) (run : ℕ) → id < 2 ^ 32 → IsTrue (is_name name) → run < 2 ^ 32 → IsTree (dset_tree flags id name run)
dset_is flags id name run i n r =
    let flags_tree = leaf_is (flags_key flags) (flags_are_key flags) in
    let id_tree = number_is id i in
    let name_tree = leaf_is name (name_is_key name n) in
    let run_tree = number_is run r in
    (omega arith, ((omega arith, omega arith), refl, flags_tree.0, flags_tree.1, ((omega arith, omega arith), refl, id_tree.0, id_tree.1, ((omega arith, omega arith), refl, name_tree.0, name_tree.1, ((omega arith, omega arith), refl, run_tree.0, run_tree.1, tt)))))

scheme_is : (s : Scheme) (size : ℕ) → shares_of s < 2 ^ 32 → size < 2 ^ 32 → IsTree (scheme_tree s size)
scheme_is s size shares z =
    let shares_tree = number_is (shares_of s) shares in
    let size_tree = number_is size z in
    let type_tree = leaf_is (scheme_key s) (scheme_is_key s) in
    (omega arith, ((omega arith, omega arith), refl, shares_tree.0, shares_tree.1, ((omega arith, omega arith), refl, size_tree.0, size_tree.1, ((omega arith, omega arith), refl, type_tree.0, type_tree.1, tt))))

shape_is : (nodes ranks : ℕ) → nodes < 2 ^ 32 → ranks < 2 ^ 32 → IsTree (shape_tree nodes ranks)
shape_is nodes ranks n r =
    let nodes_tree = number_is nodes n in
    let ranks_tree = number_is ranks r in
    (omega arith, ((omega arith, omega arith), refl, nodes_tree.0, nodes_tree.1, ((omega arith, omega arith), refl, ranks_tree.0, ranks_tree.1, tt)))

-- ## The record

record_is : (dset files scheme shape : Entries) → IsTree dset → IsTree files → IsTree scheme → IsTree shape
    → IsTree (entry (codes "DSET") dset (entry (codes "FILES") files (entry (codes "FORMAT") (leaf (codes "1")) (entry (codes "SCHEME") scheme (entry (codes "SHAPE") shape none)))))
record_is dset files scheme shape d f s h =
    let format_tree = leaf_is (codes "1") (omega arith, omega arith) in (
      omega arith,
      (
        (omega arith, omega arith),
        refl,
        d.0,
        d.1,
        ((omega arith, omega arith), refl, f.0, f.1, ((omega arith, omega arith), refl, format_tree.0, format_tree.1, ((omega arith, omega arith), refl, s.0, s.1, ((omega arith, omega arith), refl, h.0, h.1, tt)))),
      ),
    )

pub is_encoding : (e : Entry) → MaySay e → IsEncoding (entry_tree e.desc e.files) (entry_body e.desc e.files)
unfolding entry_body
is_encoding e is =
    let d = e.desc in
    let id : d.which.id < 2 ^ 32 = grind (arith, nat_tests, d.ranges) in
    let run : d.which.run < 2 ^ 32 = grind (arith, nat_tests, d.ranges) in
    let size : d.size < 2 ^ 32 = grind (arith, nat_tests, d.ranges) in
    let nodes : d.nodes < 2 ^ 32 = grind (arith, nat_tests, d.ranges) in
    let ranks : d.ranks < 2 ^ 32 = grind (arith, nat_tests, d.ranges) in
    record {
      tree = record_is (dset_tree d.flags d.which.id d.name d.which.run) (map_tree e.files) (scheme_tree d.scheme d.size) (shape_tree d.nodes d.ranks) (dset_is d.flags d.which.id d.name d.which.run id is.named run) (map_is e.files (omega (arith, is.files.ranks_are, ranks_few d)) is.files.rows) (scheme_is d.scheme d.size (omega (arith, shares_below d)) size) (shape_is d.nodes d.ranks nodes ranks);
      shallow = tree_depth d e.files;
      spelled = refl;
    }

-- ## The payload of a mark

pub mark_is : (which : DataId) → which.id < 2 ^ 32 → which.run < 2 ^ 32 → IsEncoding (mark_tree which) (mark_payload which)
unfolding mark_payload
mark_is which id run =
    let id_tree = number_is which.id id in
    let run_tree = number_is which.run run in
    record {
      tree = (omega arith, ((omega arith, omega arith), refl, id_tree.0, id_tree.1, ((omega arith, omega arith), refl, run_tree.0, run_tree.1, tt)));
      shallow = omega arith;
      spelled = refl;
    }
