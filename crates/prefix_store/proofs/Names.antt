-- Slashes in names: the names of two folders tell them apart, and a file under one is of one rank and one file.
use Rattle.std.proofs.Common.{◌≡◌, ◌≢◌, ◌≤◌, ℕ, zero, suc, ◌<◌, ◌+◌, ◌/◌, ◌%◌, ◌^◌, ◌==◌, Bool, true, false, List, [], ◌∷◌, ◌++◌, length, refl, sym, ap, ◌∙◌, subst, arith, append_assoc, codes, if◌then◌else◌}
use Rattle.std.specs.Prelude.{decimal, IsTrue, nat_lt, nat_le, ◌&&◌}
use Rattle.std.specs.List.{list_all}
use Rattle.std.specs.Fmt.{digits, digits_onto, digit_glyph}
use Rattle.std.proofs.lemmas.List.{append_cancel_left}
use Rattle.std.proofs.lemmas.Bool.{leb-true}
use Rattle.std.proofs.lemmas.Fmt.{decimal_injective, length-decimal-le}
use Rattle.scr_base.specs.Words.{is_name, is_name_byte, begins_well}
use Rattle.prefix_store.specs.Names.{flushed_name, IsUnder, HasNoSlash}

head_same : (a b : ℕ) (x y : List ℕ) → a ∷ x ≡ b ∷ y → a ≡ b
head_same a b x y is = cc

tail_same : (a b : ℕ) (x y : List ℕ) → a ∷ x ≡ b ∷ y → x ≡ y
tail_same a b x y is = cc

-- a text falls into two at its first slash in one way
pub slash_splits : (a b xs ys : List ℕ) → HasNoSlash a → HasNoSlash b → a ++ 47 ∷ xs ≡ b ++ 47 ∷ ys → (a ≡ b) × (xs ≡ ys)
slash_splits [] [] xs ys na nb is = (refl, tail_same 47 47 xs ys is)
slash_splits [] (y ∷ b) xs ys na nb is = absurd (nb.0 (sym (head_same 47 y xs (b ++ 47 ∷ ys) is)))
slash_splits (x ∷ a) [] xs ys na nb is = absurd (na.0 (head_same x 47 (a ++ 47 ∷ xs) ys is))
slash_splits (x ∷ a) (y ∷ b) xs ys na nb is =
    let later = slash_splits a b xs ys na.1 nb.1 (tail_same x y (a ++ 47 ∷ xs) (b ++ 47 ∷ ys) is) in
    let first = head_same x y (a ++ 47 ∷ xs) (b ++ 47 ∷ ys) is in
    (ap (λ (h : ℕ). h ∷ a) first ∙ ap (λ (t : List ℕ). y ∷ t) later.0, later.1)

has_slash : (a xs : List ℕ) → HasNoSlash (a ++ 47 ∷ xs) → ⊥
has_slash [] xs none = none.0 refl
has_slash (x ∷ a) xs none = has_slash a xs none.1

pub no_slash_in : (a b : List ℕ) → HasNoSlash a → HasNoSlash b → HasNoSlash (a ++ b)
no_slash_in [] b na nb = nb
no_slash_in (x ∷ a) b na nb = (na.0, no_slash_in a b na.1 nb)

-- a digit is no slash
glyph_no_slash : (n : ℕ) → digit_glyph false (n % 10) ≢ 47
glyph_no_slash n is = pick (nat_lt (n % 10) 10) is
  where
    pick : (b : Bool) → (if b then 48 + n % 10 else 87 + n % 10) ≡ 47 → ⊥
    pick true e = absurd (omega (arith, e))
    pick false e = absurd (omega (arith, e))

onto_no_slash : (k n : ℕ) (acc : List ℕ) → HasNoSlash acc → HasNoSlash (digits_onto k 10 false n acc)
onto_no_slash zero n acc none = none
onto_no_slash (suc k) n acc none = pick (n / 10 == 0) (onto_no_slash k (n / 10) (digit_glyph false (n % 10) ∷ acc) (glyph_no_slash n, none))
  where
    pick : (b : Bool) → HasNoSlash (digits_onto k 10 false (n / 10) (digit_glyph false (n % 10) ∷ acc)) → HasNoSlash (if b then digit_glyph false (n % 10) ∷ acc else digits_onto k 10 false (n / 10) (digit_glyph false (n % 10) ∷ acc))
    pick true rest = (glyph_no_slash n, none)
    pick false rest = rest

pub number_no_slash : (n : ℕ) → HasNoSlash (decimal n)
unfolding digits
number_no_slash n = onto_no_slash 64 n [] tt

name_byte : (b : ℕ) → IsTrue (is_name_byte b) → b ≢ 47
name_byte b is e = no (subst (λ (x : ℕ). IsTrue (is_name_byte x)) e is)
  where
    no : IsTrue (is_name_byte 47) → ⊥
    no f = absurd (cc f)

bytes_no_slash : (bs : List ℕ) → IsTrue (list_all is_name_byte bs) → HasNoSlash bs
bytes_no_slash [] all = tt
bytes_no_slash (b ∷ bs) all = pick (is_name_byte b) refl all (λ rest. bytes_no_slash bs rest)
  where
    pick : (t : Bool) → is_name_byte b ≡ t → IsTrue (t && list_all is_name_byte bs) → (IsTrue (list_all is_name_byte bs) → HasNoSlash bs) → (b ≢ 47) × HasNoSlash bs
    pick true is rest go = (name_byte b is, go rest)
    pick false is rest go = absurd (cc rest)

-- the tests that a name passes
parts_of : (a b c : Bool) → IsTrue ((a && b) && c) → IsTrue b × IsTrue c
parts_of true true c is = (refl, is)
parts_of true false c is = absurd (cc is)
parts_of false b c is = absurd (cc is)

pub name_no_slash : (name : List ℕ) → IsTrue (is_name name) → HasNoSlash name
name_no_slash name is = bytes_no_slash name (parts_of (begins_well name) (nat_le (length name) 64) (list_all is_name_byte name) is).1

pub name_short : (name : List ℕ) → IsTrue (is_name name) → length name ≤ 64
name_short name is = leb-true (length name) 64 (parts_of (begins_well name) (nat_le (length name) 64) (list_all is_name_byte name) is).0

pub number_short : (n : ℕ) → n < 2 ^ 8 → length (decimal n) ≤ 10
number_short n lt = length-decimal-le 10 n (omega arith) (omega (arith, lt)) (omega (arith, lt))

-- ## Folders

pub one_folder : (name other q : List ℕ) → IsTrue (is_name name) → IsTrue (is_name other) → IsUnder name q → IsUnder other q → name ≡ other
one_folder name other q named its under also = (slash_splits name other under.0 also.0 (name_no_slash name named) (name_no_slash other its) (sym under.1 ∙ also.1)).0

-- a flushed file stands under its dataset's folder
pub under_folder : (name : List ℕ) (rank : ℕ) (file : List ℕ) → flushed_name name rank file ≡ name ++ 47 ∷ (114 ∷ (decimal rank ++ 47 ∷ file))
under_folder name rank file = append_assoc (name ++ codes "/r") (decimal rank) (47 ∷ file) ∙ append_assoc name (codes "/r") (decimal rank ++ 47 ∷ file)

pub flushed_under : (name : List ℕ) (rank : ℕ) (file : List ℕ) → IsUnder name (flushed_name name rank file)
flushed_under name rank file = (114 ∷ (decimal rank ++ 47 ∷ file), under_folder name rank file)

-- a flushed file's name is of one rank and one file
pub one_file : (name : List ℕ) (rank other : ℕ) (file its : List ℕ) → rank < 2 ^ 8 → other < 2 ^ 8 → flushed_name name other its ≡ flushed_name name rank file → (other ≡ rank) × (its ≡ file)
one_file name rank other file its small also is =
    let whole = append_cancel_left name (47 ∷ (114 ∷ (decimal other ++ 47 ∷ its))) (47 ∷ (114 ∷ (decimal rank ++ 47 ∷ file))) (sym (under_folder name other its) ∙ is ∙ under_folder name rank file) in
    let parts = slash_splits (decimal other) (decimal rank) its file (number_no_slash other) (number_no_slash rank) (tail_same 114 114 (decimal other ++ 47 ∷ its) (decimal rank ++ 47 ∷ file) (tail_same 47 47 (114 ∷ (decimal other ++ 47 ∷ its)) (114 ∷ (decimal rank ++ 47 ∷ file)) whole)) in
    (decimal_injective other rank (omega (arith, also)) (omega (arith, small)) parts.0, parts.1)

pub under_slash : (name q : List ℕ) → HasNoSlash q → IsUnder name q → ⊥
under_slash name q none under = has_slash name under.0 (subst HasNoSlash under.1 none)

-- ## What stands behind a folder's name

pub behind_slash : (folder name rest : List ℕ) → name ≡ folder ++ rest → IsUnder [] rest → IsUnder folder name
behind_slash folder name rest is under = (under.0, is ∙ ap (λ (l : List ℕ). folder ++ l) under.1)

pub slash_behind : (folder name rest : List ℕ) → name ≡ folder ++ rest → IsUnder folder name → IsUnder [] rest
slash_behind folder name rest is under = (under.0, append_cancel_left folder rest (47 ∷ under.0) (sym is ∙ under.1))

pub not_under : (folder name : List ℕ) → ((rest : List ℕ) → name ≢ folder ++ rest) → IsUnder folder name → ⊥
not_under folder name none under = none (47 ∷ under.0) under.1
