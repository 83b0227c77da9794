-- A file reads as a member exactly where its record does.
use Rattle.std.proofs.Common.{◌≡◌, ◌≢◌, ◌≤◌, ◌+◌, ◌*◌, ◌/◌, ◌%◌, ◌==◌, ◌-◌, ◌++◌, ℕ, Bool, true, false, List, [], ◌∷◌, Option, Some, None, length, take, drop, length-append, codes, refl, sym, ◌∙◌, ap, subst, arith}
use Rattle.std.specs.Prelude.{IfSome, IsNone, if◌then◌else◌, slice_index, Result, Ok, Err, IfOk}
use Rattle.std.proofs.lemmas.List.{drop_at}
use Rattle.scr_base.specs.declared.shape.DataId.{DataId}
use Rattle.scr_base.specs.declared.shape.Shape.{Shape}
use Rattle.kvtree.specs.Entries.{Entries}
use Rattle.kvtree.specs.Encoding.{IsEncoding, encoding}
use Rattle.node_device.specs.File.{bytes_of}
use Rattle.gated_record.specs.Record.{HasBody, gates_of, is_open}
use Rattle.gated_record.specs.Loads.{HoldsRecord}
use Rattle.gated_record.specs.declared.reading.Record.{Record}
use Rattle.member_store.specs.Names.{record_name}
use Rattle.member_store.specs.Members.{ReadsMember, member_tree, member_body}
use Rattle.member_store.specs.Trees.{Says}
use Rattle.member_store.specs.Scanning.{RecordReads, member_of}
use Rattle.member_store.specs.declared.member.Member.{Member}
use Rattle.member_store.specs.declared.tree.Found.{Found}
use Rattle.member_store.proofs.Trees.{is_encoding}

some_same : {A : Type 0} (x y : A) → Some x ≡ Some y → x ≡ y
some_same x y e = cc

pub there : {A : Type 0} (P : A → Type 0) (o : Option A) (x : A) → o ≡ Some x → IfSome o P → P x
there P None x is holds = absurd (cc is)
there P (Some y) x is holds = subst P (some_same y x is) holds

-- ## The end of a record's name

pub ends : (stem name : List ℕ) → name ≡ stem ++ codes ".m" → drop (length name - 2) name ≡ codes ".m"
ends stem name e = ap (λ (n : List ℕ). drop (length n - 2) n) e ∙ drop_at stem (codes ".m") (length (stem ++ codes ".m") - 2) (omega (arith, length-append stem (codes ".m")))

-- ## What a record says, and its member

-- what a member's record says
abbrev pub found_of : Member → Found
found_of m = record { desc = m.desc; node = m.node; files = m.files }

pub says_member : (shape : Shape) (tree : Entries) (name : List ℕ) (r : Record) (m : Member) → Some tree ≡ Some (member_tree m.desc m.node m.files) → RecordReads shape name r m → Says shape tree (found_of m)
says_member shape tree name r m is reads = record { tree_is = some_same tree (member_tree m.desc m.node m.files) is; named = reads.member.named; nodes = reads.member.nodes; ranks = reads.member.ranks; node_is = reads.member.node; files = reads.member.files }

pub encoding_of : (shape : Shape) (name bytes : List ℕ) (r : Record) (m : Member) → bytes ≡ r.body → RecordReads shape name r m → IsEncoding (member_tree m.desc m.node m.files) bytes
encoding_of shape name bytes r m is reads = subst (λ (b : List ℕ). IsEncoding (member_tree m.desc m.node m.files) b) (sym (is ∙ reads.body)) (is_encoding shape m reads.member)

said : (shape : Shape) (tree : Entries) (name bytes : List ℕ) (r : Record) (f : Found) → bytes ≡ r.body → IsEncoding tree bytes → Says shape tree f → name ≡ record_name f.desc.which f.node → RecordReads shape name r (member_of r.gates f)
unfolding member_body
said shape tree name bytes r f is coded says named = record {
  named = named;
  body = sym is ∙ coded.spelled ∙ ap encoding says.tree_is;
  whole = refl;
  sealed = refl;
  member = record { named = says.named; which = refl; nodes = says.nodes; ranks = says.ranks; node = says.node_is; files = says.files };
}

-- what is found under the member's name is the member
abbrev pub Named : List ℕ → ℕ → Found → Option Member → Type 0
Named name gates f o = IfSome o (λ m. (m ≡ member_of gates f) × (name ≡ record_name f.desc.which f.node))

pub named_reads : (shape : Shape) (tree : Entries) (name bytes : List ℕ) (r : Record) (f : Found) (o : Option Member) → bytes ≡ r.body → IsEncoding tree bytes → Says shape tree f → Named name r.gates f o → IfSome o (RecordReads shape name r)
named_reads shape tree name bytes r f None is coded says named = tt
named_reads shape tree name bytes r f (Some m) is coded says named = subst (RecordReads shape name r) (sym named.0) (said shape tree name bytes r f is coded says named.1)

same_member : (m : Member) (which : DataId) (whole sealed : Bool) → which ≡ m.which → whole ≡ m.whole → sealed ≡ m.sealed → (let x : Member = record { which = which; node = m.node; whole = whole; sealed = sealed; desc = m.desc; files = m.files } in x) ≡ m
same_member m which whole sealed p q r =
    ap (λ (y : DataId). let x : Member = record { which = y; node = m.node; whole = whole; sealed = sealed; desc = m.desc; files = m.files } in x) p
    ∙ ap (λ (y : Bool). let x : Member = record { which = m.which; node = m.node; whole = y; sealed = sealed; desc = m.desc; files = m.files } in x) q
    ∙ ap (λ (y : Bool). let x : Member = record { which = m.which; node = m.node; whole = m.whole; sealed = y; desc = m.desc; files = m.files } in x) r

pub named_only : (shape : Shape) (name : List ℕ) (r : Record) (f : Found) (m : Member) (o : Option Member) → Some f ≡ Some (found_of m) → RecordReads shape name r m → Named name r.gates f o → (IsNone o → name ≢ record_name f.desc.which f.node) → o ≡ Some m
named_only shape name r f m None is reads named none =
    let same = some_same f (found_of m) is in
    absurd (none refl (reads.named ∙ ap (λ (w : DataId). record_name w m.node) (sym reads.member.which) ∙ ap (λ (x : Found). record_name x.desc.which x.node) (sym same)))
named_only shape name r f m (Some x) is reads named none =
    ap Some (named.0 ∙ ap (member_of r.gates) (some_same f (found_of m) is) ∙ same_member m m.desc.which (r.gates % 2 == 1) (r.gates / 2 % 2 == 1) reads.member.which (sym reads.whole) (sym reads.sealed))

-- ## Gates as bits

bit_zero : (t : Bool) (k : ℕ) → (((if t then 1 else 0) + 2 * k) % 2 == 1) ≡ t
bit_zero true k = let e : (1 + 2 * k) % 2 ≡ 1 = omega arith in ap (λ (x : ℕ). x == 1) e
bit_zero false k = let e : (0 + 2 * k) % 2 ≡ 0 = omega arith in ap (λ (x : ℕ). x == 1) e

bit_one : (s t : Bool) (k : ℕ) → (((if s then 1 else 0) + 2 * ((if t then 1 else 0) + 2 * k)) / 2 % 2 == 1) ≡ t
bit_one true true k = let e : (1 + 2 * (1 + 2 * k)) / 2 % 2 ≡ 1 = omega arith in ap (λ (x : ℕ). x == 1) e
bit_one true false k = let e : (1 + 2 * (0 + 2 * k)) / 2 % 2 ≡ 0 = omega arith in ap (λ (x : ℕ). x == 1) e
bit_one false true k = let e : (0 + 2 * (1 + 2 * k)) / 2 % 2 ≡ 1 = omega arith in ap (λ (x : ℕ). x == 1) e
bit_one false false k = let e : (0 + 2 * (0 + 2 * k)) / 2 % 2 ≡ 0 = omega arith in ap (λ (x : ℕ). x == 1) e

whole_is : (bs : List ℕ) → 16 ≤ length bs → (gates_of (take 8 bs) % 2 == 1) ≡ (slice_index bs 0 == 79)
whole_is [] long = absurd (omega (arith, long))
whole_is (b ∷ bs) long = bit_zero (b == 79) (gates_of (take 7 bs))

sealed_is : (bs : List ℕ) → 16 ≤ length bs → (gates_of (take 8 bs) / 2 % 2 == 1) ≡ (slice_index bs 1 == 79)
sealed_is [] long = absurd (omega (arith, long))
sealed_is (b ∷ []) long = absurd (omega (arith, long))
sealed_is (b ∷ c ∷ bs) long = bit_one (b == 79) (c == 79) (gates_of (take 6 bs))

-- ## Files and records

same_body : (o : Option (List ℕ)) (a b : List ℕ) → HasBody o a → HasBody o b → a ≡ b
same_body o a b x y = sym x.same ∙ ap (λ (n : ℕ). take n (drop 16 (bytes_of o))) (sym x.len ∙ y.len) ∙ y.same

whole_of : (o : Option (List ℕ)) (r : Record) → HoldsRecord o (Some r) → (r.gates % 2 == 1) ≡ is_open o 0
whole_of o r holds = ap (λ (n : ℕ). n % 2 == 1) holds.1 ∙ whole_is (bytes_of o) (omega (arith, holds.0.whole))

sealed_of : (o : Option (List ℕ)) (r : Record) → HoldsRecord o (Some r) → (r.gates / 2 % 2 == 1) ≡ is_open o 1
sealed_of o r holds = ap (λ (n : ℕ). n / 2 % 2 == 1) holds.1 ∙ sealed_is (bytes_of o) (omega (arith, holds.0.whole))

file_reads : (shape : Shape) (name : List ℕ) (o : Option (List ℕ)) (r : Record) (m : Member) → HoldsRecord o (Some r) → RecordReads shape name r m → ReadsMember shape name o m
file_reads shape name o r m holds reads = record {
  named = reads.named;
  body = subst (HasBody o) reads.body holds.0;
  whole = reads.whole ∙ whole_of o r holds;
  sealed = reads.sealed ∙ sealed_of o r holds;
  member = reads.member;
}

pub record_reads : (shape : Shape) (name : List ℕ) (o : Option (List ℕ)) (r : Record) (m : Member) → HoldsRecord o (Some r) → ReadsMember shape name o m → RecordReads shape name r m
record_reads shape name o r m holds reads = record {
  named = reads.named;
  body = same_body o r.body (member_body m.desc m.node m.files) holds.0 reads.body;
  whole = reads.whole ∙ sym (whole_of o r holds);
  sealed = reads.sealed ∙ sym (sealed_of o r holds);
  member = reads.member;
}

maybe_reads : (shape : Shape) (name : List ℕ) (o : Option (List ℕ)) (r : Record) (found : Option Member) → HoldsRecord o (Some r) → IfSome found (RecordReads shape name r) → IfSome found (ReadsMember shape name o)
maybe_reads shape name o r None holds reads = tt
maybe_reads shape name o r (Some m) holds reads = file_reads shape name o r m holds reads

pub ok_reads : {E : Type 0} (shape : Shape) (name : List ℕ) (o : Option (List ℕ)) (r : Record) (result : Result (Option Member) E) → HoldsRecord o (Some r) → IfOk result (λ found. IfSome found (RecordReads shape name r)) → IfOk result (λ found. IfSome found (ReadsMember shape name o))
ok_reads shape name o r (Ok found) holds reads = maybe_reads shape name o r found holds reads
ok_reads shape name o r (Err e) holds reads = tt
