-- A file is an entry exactly where its record is.
use Rattle.std.proofs.Common.{◌≡◌, ◌≢◌, ◌≤◌, ◌+◌, ◌*◌, ◌/◌, ◌%◌, ◌==◌, ◌++◌, ℕ, Bool, true, false, List, [], ◌∷◌, Option, Some, None, length, take, drop, codes, refl, sym, ◌∙◌, ap, subst, arith}
use Rattle.std.specs.Prelude.{IfSome, IsNone, if◌then◌else◌, slice_index, Result, Ok, Err, IfOk}
use Rattle.std.proofs.lemmas.Bool.Decides.{nat_tests}
use Rattle.kvtree.specs.Entries.{Entries}
use Rattle.kvtree.specs.Encoding.{IsEncoding, encoding}
use Rattle.node_device.specs.File.{bytes_of}
use Rattle.gated_record.specs.Record.{HasBody, IsOpen, gates_of, is_open}
use Rattle.gated_record.specs.Loads.{HoldsRecord}
use Rattle.gated_record.specs.declared.reading.Record.{Record}
use Rattle.prefix_index.specs.Names.{entry_name}
use Rattle.prefix_index.specs.Entries.{IsEntry, entry_tree, entry_body}
use Rattle.prefix_index.specs.Trees.{Says}
use Rattle.prefix_index.specs.Listing.{RecordIs, entry_of}
use Rattle.prefix_index.specs.declared.entry.Entry.{Entry}
use Rattle.prefix_index.specs.declared.tree.Found.{Found}
use Rattle.prefix_index.proofs.Trees.{is_encoding}

some_same : {A : Type 0} (x y : A) → Some x ≡ Some y → x ≡ y
some_same x y e = cc

pub there : {A : Type 0} (P : A → Type 0) (o : Option A) (x : A) → o ≡ Some x → IfSome o P → P x
there P None x is holds = absurd (cc is)
there P (Some y) x is holds = subst P (some_same y x is) holds

-- ## The beginning of a record's name

pub begins : (rest name : List ℕ) → name ≡ codes "x." ++ rest → take 2 name ≡ codes "x."
begins rest name e = ap (λ (n : List ℕ). take 2 n) e

-- ## What a record says, and its entry

-- what an entry's record says
abbrev pub found_of : Entry → Found
found_of e = record { desc = e.desc; files = e.files }

pub says_entry : (tree : Entries) (name : List ℕ) (r : Record) (e : Entry) → Some tree ≡ Some (entry_tree e.desc e.files) → RecordIs name r e → Says tree (found_of e)
says_entry tree name r e is reads = record { tree_is = some_same tree (entry_tree e.desc e.files) is; named = reads.says.named; files = reads.says.files }

pub encoding_of : (name bytes : List ℕ) (r : Record) (e : Entry) → bytes ≡ r.body → RecordIs name r e → IsEncoding (entry_tree e.desc e.files) bytes
encoding_of name bytes r e is reads = subst (λ (b : List ℕ). IsEncoding (entry_tree e.desc e.files) b) (sym (is ∙ reads.body)) (is_encoding e reads.says)

said : (tree : Entries) (name bytes : List ℕ) (r : Record) (f : Found) → r.gates % 2 ≡ 1 → bytes ≡ r.body → IsEncoding tree bytes → Says tree f → name ≡ entry_name f.desc.which → RecordIs name r (entry_of r.gates f)
unfolding entry_body
said tree name bytes r f open_bit is coded says named = record {
  named = named;
  indexed = open_bit;
  failed = refl;
  body = sym is ∙ coded.spelled ∙ ap encoding says.tree_is;
  says = record { named = says.named; files = says.files };
}

-- what is found under the entry's name is the entry
abbrev pub Named : List ℕ → ℕ → Found → Option Entry → Type 0
Named name gates f o = IfSome o (λ e. (e ≡ entry_of gates f) × (name ≡ entry_name f.desc.which))

pub named_reads : (tree : Entries) (name bytes : List ℕ) (r : Record) (f : Found) (o : Option Entry) → r.gates % 2 ≡ 1 → bytes ≡ r.body → IsEncoding tree bytes → Says tree f → Named name r.gates f o → IfSome o (RecordIs name r)
named_reads tree name bytes r f None open_bit is coded says named = tt
named_reads tree name bytes r f (Some e) open_bit is coded says named = subst (RecordIs name r) (sym named.0) (said tree name bytes r f open_bit is coded says named.1)

same_entry : (e : Entry) (failed : Bool) → failed ≡ e.failed → (let x : Entry = record { desc = e.desc; files = e.files; failed = failed } in x) ≡ e
same_entry e failed p = ap (λ (y : Bool). let x : Entry = record { desc = e.desc; files = e.files; failed = y } in x) p

pub named_only : (name : List ℕ) (r : Record) (f : Found) (e : Entry) (o : Option Entry) → Some f ≡ Some (found_of e) → RecordIs name r e → Named name r.gates f o → (IsNone o → name ≢ entry_name f.desc.which) → o ≡ Some e
named_only name r f e None is reads named none =
    let same = some_same f (found_of e) is in
    absurd (none refl (reads.named ∙ ap (λ (x : Found). entry_name x.desc.which) (sym same)))
named_only name r f e (Some x) is reads named none =
    ap Some (named.0 ∙ ap (entry_of r.gates) (some_same f (found_of e) is) ∙ same_entry e (r.gates / 2 % 2 == 1) (sym reads.failed))

-- a gate bit that isn't closed is open
pub odd : (n : ℕ) → n % 2 ≢ 0 → n % 2 ≡ 1
odd n not_even = omega (arith, not_even)

-- ## Gates as bits

bit_zero : (t : Bool) (k : ℕ) → (((if t then 1 else 0) + 2 * k) % 2 == 1) ≡ t
bit_zero true k = let e : (1 + 2 * k) % 2 ≡ 1 = omega arith in ap (λ (x : ℕ). x == 1) e
bit_zero false k = let e : (0 + 2 * k) % 2 ≡ 0 = omega arith in ap (λ (x : ℕ). x == 1) e

bit_one : (s t : Bool) (k : ℕ) → (((if s then 1 else 0) + 2 * ((if t then 1 else 0) + 2 * k)) / 2 % 2 == 1) ≡ t
bit_one true true k = let e : (1 + 2 * (1 + 2 * k)) / 2 % 2 ≡ 1 = omega arith in ap (λ (x : ℕ). x == 1) e
bit_one true false k = let e : (1 + 2 * (0 + 2 * k)) / 2 % 2 ≡ 0 = omega arith in ap (λ (x : ℕ). x == 1) e
bit_one false true k = let e : (0 + 2 * (1 + 2 * k)) / 2 % 2 ≡ 1 = omega arith in ap (λ (x : ℕ). x == 1) e
bit_one false false k = let e : (0 + 2 * (0 + 2 * k)) / 2 % 2 ≡ 0 = omega arith in ap (λ (x : ℕ). x == 1) e

first_is : (bs : List ℕ) → 16 ≤ length bs → (gates_of (take 8 bs) % 2 == 1) ≡ (slice_index bs 0 == 79)
first_is [] long = absurd (omega (arith, long))
first_is (b ∷ bs) long = bit_zero (b == 79) (gates_of (take 7 bs))

second_is : (bs : List ℕ) → 16 ≤ length bs → (gates_of (take 8 bs) / 2 % 2 == 1) ≡ (slice_index bs 1 == 79)
second_is [] long = absurd (omega (arith, long))
second_is (b ∷ []) long = absurd (omega (arith, long))
second_is (b ∷ c ∷ bs) long = bit_one (b == 79) (c == 79) (gates_of (take 6 bs))

-- ## Files and records

same_body : (o : Option (List ℕ)) (a b : List ℕ) → HasBody o a → HasBody o b → a ≡ b
same_body o a b x y = sym x.same ∙ ap (λ (n : ℕ). take n (drop 16 (bytes_of o))) (sym x.len ∙ y.len) ∙ y.same

indexed_of : (o : Option (List ℕ)) (r : Record) → HoldsRecord o (Some r) → (r.gates % 2 == 1) ≡ is_open o 0
indexed_of o r holds = ap (λ (n : ℕ). n % 2 == 1) holds.1 ∙ first_is (bytes_of o) (omega (arith, holds.0.whole))

failed_of : (o : Option (List ℕ)) (r : Record) → HoldsRecord o (Some r) → (r.gates / 2 % 2 == 1) ≡ is_open o 1
failed_of o r holds = ap (λ (n : ℕ). n / 2 % 2 == 1) holds.1 ∙ second_is (bytes_of o) (omega (arith, holds.0.whole))

bit_set : (n : ℕ) → n % 2 ≡ 1 → (n % 2 == 1) ≡ true
bit_set n is = ap (λ (x : ℕ). x == 1) is

open_is : (o : Option (List ℕ)) → is_open o 0 ≡ true → IsOpen o 0
open_is o is = grind (arith, nat_tests, is)

is_odd : (n : ℕ) → (n % 2 == 1) ≡ true → n % 2 ≡ 1
is_odd n is = grind (arith, nat_tests, is)

opened : (o : Option (List ℕ)) → IsOpen o 0 → is_open o 0 ≡ true
opened o is = ap (λ (x : ℕ). x == 79) is

file_is : (name : List ℕ) (o : Option (List ℕ)) (r : Record) (e : Entry) → HoldsRecord o (Some r) → RecordIs name r e → IsEntry name o e
file_is name o r e holds reads = record {
  named = reads.named;
  indexed = open_is o (sym (indexed_of o r holds) ∙ bit_set r.gates reads.indexed);
  failed = reads.failed ∙ failed_of o r holds;
  body = subst (HasBody o) reads.body holds.0;
  says = reads.says;
}

pub record_is : (name : List ℕ) (o : Option (List ℕ)) (r : Record) (e : Entry) → HoldsRecord o (Some r) → IsEntry name o e → RecordIs name r e
record_is name o r e holds reads = record {
  named = reads.named;
  indexed = is_odd r.gates (indexed_of o r holds ∙ opened o reads.indexed);
  failed = reads.failed ∙ sym (failed_of o r holds);
  body = same_body o r.body (entry_body e.desc e.files) holds.0 reads.body;
  says = reads.says;
}

maybe_is : (name : List ℕ) (o : Option (List ℕ)) (r : Record) (found : Option Entry) → HoldsRecord o (Some r) → IfSome found (RecordIs name r) → IfSome found (IsEntry name o)
maybe_is name o r None holds reads = tt
maybe_is name o r (Some e) holds reads = file_is name o r e holds reads

pub ok_is : {E : Type 0} (name : List ℕ) (o : Option (List ℕ)) (r : Record) (result : Result (Option Entry) E) → HoldsRecord o (Some r) → IfOk result (λ found. IfSome found (RecordIs name r)) → IfOk result (λ found. IfSome found (IsEntry name o))
ok_is name o r (Ok found) holds reads = maybe_is name o r found holds reads
ok_is name o r (Err e) holds reads = tt
