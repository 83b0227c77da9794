-- A tree with the keys of a member's record, key by key.
use Rattle.std.proofs.Common.{◌≡◌, ◌<◌, ◌≤◌, ◌*◌, ◌^◌, ℕ, suc, List, Some, sym, ap, ◌∙◌, arith, codes}
use Rattle.std.specs.Prelude.{decimal}
use Rattle.std.proofs.lemmas.Fmt.{decimal_injective}
use Rattle.std.proofs.Math.Nat.{le-mul_of_pos_right}
use Rattle.std.proofs.lemmas.Bool.Decides.{nat_tests}
use Rattle.scr_base.specs.declared.shape.Shape.{Shape}
use Rattle.kvtree.specs.Entries.{Entries, none, entry, width}
use Rattle.kvtree.specs.Lookup.{get, entry_under, leaf}
use Rattle.kvtree.proofs.ByPlace.{rest_of, opened, entry_under-rest_of, four_entries}
use Rattle.dataset_desc.specs.Descs.{HasParts}
use Rattle.dataset_desc.specs.declared.desc.Desc.{Desc}
use Rattle.filemap.specs.Maps.{map_tree}
use Rattle.filemap.specs.declared.rows.FileRow.{FileRow}
use Rattle.member_store.specs.Trees.{HasKeys, Says}
use Rattle.member_store.specs.declared.tree.Found.{Found}

one_less : (t : Entries) (n : ℕ) → width t ≡ suc n → width (rest_of t) ≡ n
one_less none n e = absurd (omega arith)
one_less (entry k c r) n e = omega arith

past_two : (t : Entries) (at : ℕ) (key : List ℕ) (x : Entries) → entry_under t (suc (suc at)) key ≡ Some x → entry_under (rest_of (rest_of t)) at key ≡ Some x
past_two t at key x e = sym (entry_under-rest_of (rest_of t) at key) ∙ sym (entry_under-rest_of t (suc at) key) ∙ e

pub six_entries : (t : Entries) (a b c d e f : List ℕ) (x y z w v u : Entries) → entry_under t 0 a ≡ Some x → entry_under t 1 b ≡ Some y → entry_under t 2 c ≡ Some z → entry_under t 3 d ≡ Some w → entry_under t 4 e ≡ Some v → entry_under t 5 f ≡ Some u → width t ≡ 6
    → t ≡ entry a x (entry b y (entry c z (entry d w (entry e v (entry f u none)))))
six_entries t a b c d e f x y z w v u first second third fourth fifth sixth six =
    opened t a x first ∙ ap (entry a x) (opened (rest_of t) b y (sym (entry_under-rest_of t 0 b) ∙ second) ∙ ap (entry b y)
    (four_entries (rest_of (rest_of t)) c d e f z w v u (past_two t 0 c z third) (past_two t 1 d w fourth) (past_two t 2 e v fifth) (past_two t 3 f u sixth) (one_less (rest_of t) 4 (one_less t 5 six))))

-- ## What a description and a map say

pub small_node : (shape : Shape) (tree : Entries) (f : Found) → Says shape tree f → f.node < 2 ^ 32
small_node shape tree f says = let few : f.desc.nodes ≤ 16 = grind (arith, nat_tests, f.desc.ranges) in omega (arith, says.node_is, few)

pub keys_of : (shape : Shape) (tree : Entries) (f : Found) → Says shape tree f → HasKeys tree (map_tree f.files) f.node
keys_of shape tree f says = record { dset = _; scheme = _; shape = _; is = says.tree_is }

pub parts_of : (shape : Shape) (tree : Entries) (f : Found) → Says shape tree f → HasParts tree f.desc
parts_of shape tree f says = record {
  dset = ap (λ (t : Entries). get t (codes "DSET")) says.tree_is;
  scheme = ap (λ (t : Entries). get t (codes "SCHEME")) says.tree_is;
  shape = ap (λ (t : Entries). get t (codes "SHAPE")) says.tree_is;
  named = says.named;
}

some_same : {A : Type 0} (x y : A) → Some x ≡ Some y → x ≡ y
some_same x y e = cc

leaf_same : (a b : List ℕ) → leaf a ≡ leaf b → a ≡ b
leaf_same a b e = cc

pub files_same : (shape : Shape) (tree files : Entries) (node : ℕ) (f : Found) → HasKeys tree files node → Says shape tree f → files ≡ map_tree f.files
files_same shape tree files node f keys says = some_same files (map_tree f.files) (ap (λ (t : Entries). entry_under t 1 (codes "FILES")) (sym keys.is ∙ says.tree_is))

pub node_same : (shape : Shape) (tree files : Entries) (node : ℕ) (f : Found) → node < 2 ^ 32 → HasKeys tree files node → Says shape tree f → node ≡ f.node
node_same shape tree files node f small keys says =
    decimal_injective node f.node (omega (arith, small)) (omega (arith, small_node shape tree f says))
    (leaf_same (decimal node) (decimal f.node) (some_same (leaf (decimal node)) (leaf (decimal f.node)) (ap (λ (t : Entries). entry_under t 3 (codes "NODE")) (sym keys.is ∙ says.tree_is))))

pub found_same : (d : Desc) (n : ℕ) (fs : List (List FileRow)) (f : Found) → d ≡ f.desc → n ≡ f.node → fs ≡ f.files → (let x : Found = record { desc = d; node = n; files = fs } in x) ≡ f
found_same d n fs f p q r =
    ap (λ (y : Desc). let x : Found = record { desc = y; node = n; files = fs } in x) p
    ∙ ap (λ (y : ℕ). let x : Found = record { desc = f.desc; node = y; files = fs } in x) q
    ∙ ap (λ (y : List (List FileRow)). let x : Found = record { desc = f.desc; node = f.node; files = y } in x) r

-- ## Numbers of nodes and ranks

pub few_nodes : (d : Desc) → d.nodes ≤ 16
few_nodes d = grind (arith, nat_tests, d.ranges)

some_nodes : (d : Desc) → 1 ≤ d.nodes
some_nodes d = grind (arith, nat_tests, d.ranges)

some_ranks : (d : Desc) → 1 ≤ d.ranks
some_ranks d = grind (arith, nat_tests, d.ranges)

pos-mul : (a b : ℕ) → 1 ≤ a → 1 ≤ b → 1 ≤ a * b
pos-mul a b p q = omega (arith, p, le-mul_of_pos_right a q)

pub some_few : (d : Desc) → (1 ≤ d.nodes * d.ranks) × (d.nodes * d.ranks ≤ 64)
some_few d = (pos-mul d.nodes d.ranks (some_nodes d) (some_ranks d), grind (arith, nat_tests, d.ranges))
