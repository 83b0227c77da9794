-- A tree with the keys of an index record, key by key.
use Rattle.std.proofs.Common.{◌≡◌, ◌≤◌, ◌*◌, ℕ, suc, List, Some, sym, ap, ◌∙◌, arith, codes}
use Rattle.std.proofs.Math.Nat.{le-mul_of_pos_right}
use Rattle.std.proofs.lemmas.Bool.Decides.{nat_tests}
use Rattle.kvtree.specs.Entries.{Entries, none, entry, width}
use Rattle.kvtree.specs.Lookup.{get, entry_under}
use Rattle.kvtree.proofs.ByPlace.{rest_of, opened, entry_under-rest_of, four_entries}
use Rattle.dataset_desc.specs.Descs.{HasParts}
use Rattle.dataset_desc.specs.declared.desc.Desc.{Desc}
use Rattle.filemap.specs.Maps.{map_tree}
use Rattle.filemap.specs.declared.rows.FileRow.{FileRow}
use Rattle.prefix_index.specs.Trees.{HasKeys, Says}
use Rattle.prefix_index.specs.declared.tree.Found.{Found}

one_less : (t : Entries) (n : ℕ) → width t ≡ suc n → width (rest_of t) ≡ n
one_less none n e = absurd (omega arith)
one_less (entry k c r) n e = omega arith

pub five_entries : (t : Entries) (a b c d e : List ℕ) (x y z w v : Entries) → entry_under t 0 a ≡ Some x → entry_under t 1 b ≡ Some y → entry_under t 2 c ≡ Some z → entry_under t 3 d ≡ Some w → entry_under t 4 e ≡ Some v → width t ≡ 5
    → t ≡ entry a x (entry b y (entry c z (entry d w (entry e v none))))
five_entries t a b c d e x y z w v first second third fourth fifth five =
    opened t a x first ∙ ap (entry a x)
    (four_entries (rest_of t) b c d e y z w v (sym (entry_under-rest_of t 0 b) ∙ second) (sym (entry_under-rest_of t 1 c) ∙ third) (sym (entry_under-rest_of t 2 d) ∙ fourth) (sym (entry_under-rest_of t 3 e) ∙ fifth) (one_less t 4 five))

-- ## What a description and a map say

pub keys_of : (tree : Entries) (f : Found) → Says tree f → HasKeys tree (map_tree f.files)
keys_of tree f says = record { dset = _; scheme = _; shape = _; is = says.tree_is }

pub parts_of : (tree : Entries) (f : Found) → Says tree f → HasParts tree f.desc
parts_of tree f says = record {
  dset = ap (λ (t : Entries). get t (codes "DSET")) says.tree_is;
  scheme = ap (λ (t : Entries). get t (codes "SCHEME")) says.tree_is;
  shape = ap (λ (t : Entries). get t (codes "SHAPE")) says.tree_is;
  named = says.named;
}

some_same : {A : Type 0} (x y : A) → Some x ≡ Some y → x ≡ y
some_same x y e = cc

pub files_same : (tree files : Entries) (f : Found) → HasKeys tree files → Says tree f → files ≡ map_tree f.files
files_same tree files f keys says = some_same files (map_tree f.files) (ap (λ (t : Entries). entry_under t 1 (codes "FILES")) (sym keys.is ∙ says.tree_is))

pub found_same : (d : Desc) (fs : List (List FileRow)) (f : Found) → d ≡ f.desc → fs ≡ f.files → (let x : Found = record { desc = d; files = fs } in x) ≡ f
found_same d fs f p q =
    ap (λ (y : Desc). let x : Found = record { desc = y; files = fs } in x) p
    ∙ ap (λ (y : List (List FileRow)). let x : Found = record { desc = f.desc; files = y } in x) q

-- ## Numbers of nodes and ranks

pub few_nodes : (d : Desc) → d.nodes ≤ 16
few_nodes d = grind (arith, nat_tests, d.ranges)

some_nodes : (d : Desc) → 1 ≤ d.nodes
some_nodes d = grind (arith, nat_tests, d.ranges)

some_ranks : (d : Desc) → 1 ≤ d.ranks
some_ranks d = grind (arith, nat_tests, d.ranges)

pos-mul : (a b : ℕ) → 1 ≤ a → 1 ≤ b → 1 ≤ a * b
pos-mul a b p q = omega (arith, p, le-mul_of_pos_right a q)

pub some_few : (d : Desc) → (1 ≤ d.nodes * d.ranks) × (d.nodes * d.ranks ≤ 64)
some_few d = (pos-mul d.nodes d.ranks (some_nodes d) (some_ranks d), grind (arith, nat_tests, d.ranges))
