-- One file changes: what stays of the others.
use Rattle.std.proofs.Common.{◌≡◌, ℕ, ◌+◌, ◌*◌, ◌/◌, ◌%◌, ◌<◌, ◌^◌, Bool, true, false, List, [], Option, refl, sym, ap, ◌∙◌, subst, arith, codes}
use Rattle.std.specs.Prelude.{if◌then◌else◌}
use Rattle.std.proofs.lemmas.Bool.Decides.{nat_tests}
use Rattle.std.proofs.Math.Path.{fun_ext}
use Rattle.std.proofs.Math.Nat.{div-add-mod, div-le_self, mod-le}
use Rattle.scr_base.specs.declared.shape.DataId.{DataId}
use Rattle.node_device.specs.File.{bytes_of}
use Rattle.dataset_desc.specs.declared.desc.Desc.{Desc}
use Rattle.member_store.specs.Names.{record_name, part_name, IsPlace}
use Rattle.member_store.specs.declared.part.Part.TheVariants.{File}
use Rattle.site_state.specs.declared.cache.Manifest.{Manifest}
use Rattle.site_core.specs.Stored.{Cells, contents_in, is_named, place_of_rank, file_name, NoOtherRecords, IsFuture, NoFutureFiles, stored_run, ChangesFile}
use Rattle.site_core.proofs.Names.{part_no_record, parts-same}

-- ## Numbers

-- the identity of a description is within its ranges
pub is_place : (d : Desc) (node : ℕ) → node < 2 ^ 8 → IsPlace d.which node
is_place d node small = record { id = grind (arith, d.ranges); run = grind (arith, d.ranges); small = small }

pub data-same : (a b : DataId) → a.id ≡ b.id → a.run ≡ b.run → a ≡ b
data-same a b i r = ap (λ (x : ℕ). let d : DataId = record { id = x; run = a.run } in d) i ∙ ap (λ (x : ℕ). let d : DataId = record { id = b.id; run = x } in d) r

-- a number by its parts
pub rank-same : (r k n : ℕ) → r / n ≡ k / n → r % n ≡ k % n → r ≡ k
rank-same r k n d m = sym (div-add-mod r n) ∙ ap (λ (x : ℕ). n * x + r % n) d ∙ ap (λ (x : ℕ). n * (k / n) + x) m ∙ div-add-mod k n

pub div_small : (r n : ℕ) → r < 2 ^ 8 → r / n < 2 ^ 8
div_small r n lt = omega (arith, lt, div-le_self r n)

pub mod_small : (r n : ℕ) → r < 2 ^ 8 → r % n < 2 ^ 8
mod_small r n lt = omega (arith, lt, mod-le r n)

-- the numbers of a name, as it tells them
pub record IsNamed (which : DataId) (rank j : ℕ) : Type 0 where
  pub id : which.id < 2 ^ 32
  pub run : which.run < 2 ^ 32
  pub rank_is : rank < 2 ^ 8
  pub file : j < 2 ^ 8

pub named : (which : DataId) (rank j : ℕ) → is_named which rank j ≡ true → IsNamed which rank j
named which rank j e = record { id = grind (arith, nat_tests, e); run = grind (arith, nat_tests, e); rank_is = grind (arith, nat_tests, e); file = grind (arith, nat_tests, e) }

pub is_named_true : (which : DataId) (rank j : ℕ) → IsNamed which rank j → is_named which rank j ≡ true
is_named_true which rank j n = grind (arith, nat_tests, n.id, n.run, n.rank_is, n.file)

pub place_named : (which : DataId) (rank j ranks : ℕ) → IsNamed which rank j → IsPlace which (rank / ranks)
place_named which rank j ranks n = record { id = n.id; run = n.run; small = div_small rank ranks n.rank_is }

-- ## Names of files

-- one name, one file
pub record AreFilesSame (which : DataId) (rank j : ℕ) (other : DataId) (k i : ℕ) : Type 0 where
  pub which_is : which ≡ other
  pub rank_is : rank ≡ k
  pub file_is : j ≡ i

pub files-same : (which other : DataId) (ranks rank k j i : ℕ) → IsNamed which rank j → IsNamed other k i → file_name which ranks rank j ≡ file_name other ranks k i → AreFilesSame which rank j other k i
files-same which other ranks rank k j i n o e =
    let s = parts-same which other (rank / ranks) (k / ranks) (rank % ranks) (k % ranks) j i (place_named which rank j ranks n) (place_named other k i ranks o)
    (mod_small rank ranks n.rank_is) (mod_small k ranks o.rank_is) n.file o.file e in
    record { which_is = data-same which other s.id s.run; rank_is = rank-same rank k ranks s.node_is s.local_is; file_is = s.file_is }

pub file_no_record : (which other : DataId) (ranks rank j node : ℕ) → IsNamed which rank j → IsPlace other node → file_name which ranks rank j ≡ record_name other node → ⊥
file_no_record which other ranks rank j node n o e = part_no_record which other (rank / ranks) node (rank % ranks) j (place_named which rank j ranks n) o e

-- ## A file of a dataset changes

module _ (old new : Cells) (places : List ℕ) (ranks place : ℕ) (which : DataId) (rank j : ℕ) (is : IsNamed which rank j) (change : ChangesFile place (file_name which ranks rank j) old new) where
  -- the bytes of every other file
  pub other_contents : (w : DataId) (r i : ℕ) → (AreFilesSame w r i which rank j → ⊥) → contents_in new places ranks w r i ≡ contents_in old places ranks w r i
  other_contents w r i other = pick (is_named w r i) refl where
    pick : (b : Bool) → is_named w r i ≡ b → (if b then bytes_of (new (place_of_rank places ranks r) (file_name w ranks r i)) else []) ≡ (if b then bytes_of (old (place_of_rank places ranks r) (file_name w ranks r i)) else [])
    pick true e = ap bytes_of (change.others (place_of_rank places ranks r) (file_name w ranks r i) (λ same. other (files-same w which ranks r rank i j (named w r i e) is same)))
    pick false e = refl

  pub this_contents : contents_in new places ranks which rank j ≡ bytes_of (new (place_of_rank places ranks rank) (file_name which ranks rank j))
  this_contents = ap (λ (b : Bool). if b then bytes_of (new (place_of_rank places ranks rank) (file_name which ranks rank j)) else []) (is_named_true which rank j is)

  pub these_contents : contents_in old places ranks which rank j ≡ bytes_of (old (place_of_rank places ranks rank) (file_name which ranks rank j))
  these_contents = ap (λ (b : Bool). if b then bytes_of (old (place_of_rank places ranks rank) (file_name which ranks rank j)) else []) (is_named_true which rank j is)

  pub other_file : (w : DataId) (p r i : ℕ) → IsNamed w r i → (AreFilesSame w r i which rank j → ⊥) → new p (file_name w ranks r i) ≡ old p (file_name w ranks r i)
  other_file w p r i n other = change.others p (file_name w ranks r i) (λ same. other (files-same w which ranks r rank i j n is same))

  pub every_record : (w : DataId) (p node : ℕ) → IsPlace w node → new p (record_name w node) ≡ old p (record_name w node)
  every_record w p node n = change.others p (record_name w node) (λ same. file_no_record which w ranks rank j node is n (sym same))

  pub records_stay : (known : Manifest → Type 0) → NoOtherRecords known old places → NoOtherRecords known new places
  records_stay known none = λ p w node low n foreign. every_record w p node n ∙ none p w node low n foreign

  pub future_stays : (run next : ℕ) → (IsFuture run next which → ⊥) → NoFutureFiles old run next → NoFutureFiles new run next
  future_stays run next known none = λ p w node local i low n sl si future.
      change.others p (part_name w node (File local i)) (λ same.
      let s = parts-same w which node (rank / ranks) local (rank % ranks) i j n (place_named which rank j ranks is) sl (mod_small rank ranks is.rank_is) si is.file same in
      known (subst (λ (x : DataId). IsFuture run next x) (data-same w which s.id s.run) future))
      ∙ none p w node local i low n sl si future

  pub prefix_stays : place < 32 → new 32 ≡ old 32
  prefix_stays low = fun_ext (λ q. change.elsewhere 32 q (λ same. absurd (omega (arith, same, low))))

  pub stored_stays : place < 32 → stored_run new ≡ stored_run old
  stored_stays low = ap (λ (f : List ℕ → Option (List ℕ)). Rattle.site_calls.specs.Numbers.run_number (Rattle.gated_record.specs.Pair.pair_value (codes "run") f)) (prefix_stays low)
