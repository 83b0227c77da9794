-- The names of members' files tell what they are of.
use Rattle.std.proofs.Common.{◌≡◌, ◌≢◌, inl, inr, ℕ, ◌<◌, ◌^◌, List, [], ◌∷◌, ◌++◌, refl, sym, ap, ◌∙◌, subst, append_assoc, arith, codes}
use Rattle.std.specs.Prelude.{decimal}
use Rattle.std.proofs.lemmas.List.{append_cancel_left}
use Rattle.std.proofs.lemmas.Fmt.{decimal_injective, decimal_is_IsNumeral}
use Rattle.std.specs.Str.Parse.{AllDigits}
use Rattle.std.specs.Char.{digit_value}
use Rattle.scr_base.specs.declared.shape.DataId.{DataId}
use Rattle.member_store.specs.Names.{record_name, part_name, part_mark, member_stem, IsPlace, IsNameOf}
use Rattle.member_store.specs.declared.part.Part.TheVariants.{File}

-- no byte of these is a dot
HasNoDot : List ℕ → Type 0
HasNoDot [] = Unit {0}
HasNoDot (b ∷ bs) = (b ≢ 46) × HasNoDot bs

head-same : (a b : ℕ) (x y : List ℕ) → a ∷ x ≡ b ∷ y → a ≡ b
head-same a b x y e = cc

tail-same : (a b : ℕ) (x y : List ℕ) → a ∷ x ≡ b ∷ y → x ≡ y
tail-same a b x y e = cc

-- a text is split at its first dot in one way
split : (a b xs ys : List ℕ) → HasNoDot a → HasNoDot b → a ++ 46 ∷ xs ≡ b ++ 46 ∷ ys → (a ≡ b) × (xs ≡ ys)
unfolding HasNoDot
split [] [] xs ys na nb e = (refl, tail-same 46 46 xs ys e)
split [] (y ∷ b) xs ys na nb e = absurd (nb.0 (sym (head-same 46 y xs (b ++ 46 ∷ ys) e)))
split (x ∷ a) [] xs ys na nb e = absurd (na.0 (head-same x 46 (a ++ 46 ∷ xs) ys e))
split (x ∷ a) (y ∷ b) xs ys na nb e =
    let rest = split a b xs ys na.1 nb.1 (tail-same x y (a ++ 46 ∷ xs) (b ++ 46 ∷ ys) e) in
    let first = head-same x y (a ++ 46 ∷ xs) (b ++ 46 ∷ ys) e in
    (ap (λ (h : ℕ). h ∷ a) first ∙ ap (λ (t : List ℕ). y ∷ t) rest.0, rest.1)

no_dot : (ds : List ℕ) → AllDigits 10 ds → HasNoDot ds
unfolding HasNoDot
no_dot [] all = tt
no_dot (d ∷ ds) all = (λ is. not_a_digit (subst (λ (x : ℕ). digit_value x < 10) is all.0), no_dot ds all.1) where
  not_a_digit : digit_value 46 < 10 → ⊥
  not_a_digit lt = absurd (omega arith)

number : (n : ℕ) → n < 2 ^ 64 → HasNoDot (decimal n)
number n small = no_dot (decimal n) (decimal_is_IsNumeral n small).0.1

-- two numbers before a dot
numbers-split : (m n : ℕ) (xs ys : List ℕ) → m < 2 ^ 64 → n < 2 ^ 64 → decimal m ++ 46 ∷ xs ≡ decimal n ++ 46 ∷ ys → (m ≡ n) × (xs ≡ ys)
numbers-split m n xs ys sm sn e =
    let s = split (decimal m) (decimal n) xs ys (number m sm) (number n sn) e in
    (decimal_injective m n sm sn s.0, s.1)

-- d.ID.RUN.NODE and what stands behind it
stem_with : DataId → ℕ → List ℕ → List ℕ
stem_with which node tail = codes "d." ++ decimal which.id ++ 46 ∷ (decimal which.run ++ 46 ∷ (decimal node ++ 46 ∷ tail))

stem_is : (which : DataId) (node : ℕ) (tail : List ℕ) → member_stem which node ++ 46 ∷ tail ≡ stem_with which node tail
unfolding stem_with
stem_is which node tail = regroup (decimal which.id) (decimal which.run) (decimal node) (46 ∷ tail) where
  regroup : (a b c t : List ℕ) → (codes "d." ++ a ++ 46 ∷ b ++ 46 ∷ c) ++ t ≡ codes "d." ++ a ++ 46 ∷ (b ++ 46 ∷ (c ++ t))
  regroup a b c t = ap (λ (x : List ℕ). codes "d." ++ x) (append_assoc (a ++ 46 ∷ b) (46 ∷ c) t ∙ append_assoc a (46 ∷ b) (46 ∷ (c ++ t)))

-- a member, as its name tells
pub record AreSame (which : DataId) (node : ℕ) (other : DataId) (place : ℕ) (tail rest : List ℕ) : Type 0 where
  pub id : which.id ≡ other.id
  pub run : which.run ≡ other.run
  pub node_is : node ≡ place
  pub tail_is : tail ≡ rest

wide : (n : ℕ) → n < 2 ^ 32 → n < 2 ^ 64
wide n lt = omega (arith, lt)

narrow : (n : ℕ) → n < 2 ^ 8 → n < 2 ^ 64
narrow n lt = omega (arith, lt)

same : (which other : DataId) (node place : ℕ) (tail rest : List ℕ) → IsPlace which node → IsPlace other place → member_stem which node ++ 46 ∷ tail ≡ member_stem other place ++ 46 ∷ rest → AreSame which node other place tail rest
unfolding stem_with
same which other node place tail rest w o e =
    let whole = append_cancel_left (codes "d.") (decimal which.id ++ 46 ∷ (decimal which.run ++ 46 ∷ (decimal node ++ 46 ∷ tail))) (decimal other.id ++ 46 ∷ (decimal other.run ++ 46 ∷ (decimal place ++ 46 ∷ rest)))
    (sym (stem_is which node tail) ∙ e ∙ stem_is other place rest) in
    let a = numbers-split which.id other.id _ _ (wide which.id w.id) (wide other.id o.id) whole in
    let b = numbers-split which.run other.run _ _ (wide which.run w.run) (wide other.run o.run) a.1 in
    let c = numbers-split node place _ _ (narrow node w.small) (narrow place o.small) b.1 in
    record { id = a.0; run = b.0; node_is = c.0; tail_is = c.1 }

-- two records of one name are of one member
pub records-same : (which other : DataId) (node place : ℕ) → IsPlace which node → IsPlace other place → record_name which node ≡ record_name other place → AreSame which node other place (109 ∷ []) (109 ∷ [])
records-same which other node place w o e = same which other node place (109 ∷ []) (109 ∷ []) w o e

-- no file has a record's name
pub part_no_record : (which other : DataId) (node place local file : ℕ) → IsPlace which node → IsPlace other place → part_name which node (File local file) ≡ record_name other place → ⊥
part_no_record which other node place local file w o e =
    absurd (cc (same which other node place (codes "f." ++ decimal local ++ 46 ∷ decimal file) (109 ∷ []) w o e).tail_is)

-- two files of one name are one
pub record ArePartsSame (which : DataId) (node local file : ℕ) (other : DataId) (place locals files : ℕ) : Type 0 where
  pub id : which.id ≡ other.id
  pub run : which.run ≡ other.run
  pub node_is : node ≡ place
  pub local_is : local ≡ locals
  pub file_is : file ≡ files

pub parts-same : (which other : DataId) (node place local locals file files : ℕ) → IsPlace which node → IsPlace other place → local < 2 ^ 8 → locals < 2 ^ 8 → file < 2 ^ 8 → files < 2 ^ 8
    → part_name which node (File local file) ≡ part_name other place (File locals files) → ArePartsSame which node local file other place locals files
parts-same which other node place local locals file files w o sl sls sf sfs e =
    let s = same which other node place (codes "f." ++ decimal local ++ 46 ∷ decimal file) (codes "f." ++ decimal locals ++ 46 ∷ decimal files) w o e in
    let t = numbers-split local locals (decimal file) (decimal files) (narrow local sl) (narrow locals sls) (append_cancel_left (codes "f.") (decimal local ++ 46 ∷ decimal file) (decimal locals ++ 46 ∷ decimal files) s.tail_is) in
    record { id = s.id; run = s.run; node_is = s.node_is; local_is = t.0; file_is = decimal_injective file files (narrow file sf) (narrow files sfs) t.1 }

-- a name of a member's file, by what stands behind its stem
name_tail : (which : DataId) (node : ℕ) (name : List ℕ) → IsNameOf which node name → (tail : List ℕ) × (name ≡ member_stem which node ++ 46 ∷ tail)
name_tail which node name (inl is) = (109 ∷ [], is)
name_tail which node name (inr part) = (part_mark part.0, part.2)

-- one member, by a name of a file of it
pub record AreMembersSame (which : DataId) (node : ℕ) (other : DataId) (place : ℕ) : Type 0 where
  pub id : which.id ≡ other.id
  pub run : which.run ≡ other.run
  pub node_is : node ≡ place

pub members-same : (which other : DataId) (node place : ℕ) (name : List ℕ) → IsPlace which node → IsPlace other place → IsNameOf which node name → IsNameOf other place name → AreMembersSame which node other place
members-same which other node place name w o a b =
    let x = name_tail which node name a in
    let y = name_tail other place name b in
    let s = same which other node place x.0 y.0 w o (sym x.1 ∙ y.1) in
    record { id = s.id; run = s.run; node_is = s.node_is }
