-- A name is of one member and of one of its files.
use Rattle.std.proofs.Common.{◌≡◌, inl, inr, ℕ, ◌<◌, ◌^◌, List, [], ◌∷◌, ◌++◌, sym, ap, ◌∙◌, append_assoc, arith, codes}
use Rattle.std.specs.Prelude.{decimal}
use Rattle.std.proofs.lemmas.List.{append_cancel_left}
use Rattle.scr_base.specs.declared.shape.DataId.{DataId}
use Rattle.member_store.specs.Names.{part_name, member_stem, part_mark, IsPlace, IsPart, IsNameOf}
use Rattle.member_store.specs.declared.part.Part.{Part}
use Rattle.member_store.specs.declared.part.Part.TheVariants.{File, Share}
use Rattle.member_store.proofs.PartNames.{share_no_file}
use Rattle.member_store.proofs.Names.{dot_splits, number_no_dot, numbers_same, head_same}

-- two numbers, each before a dot
numbers_split : (m n : ℕ) (xs ys : List ℕ) → m < 2 ^ 32 → n < 2 ^ 32 → decimal m ++ 46 ∷ xs ≡ decimal n ++ 46 ∷ ys → (m ≡ n) × (xs ≡ ys)
numbers_split m n xs ys fits others is =
    let parts = dot_splits (decimal m) (decimal n) xs ys (number_no_dot m fits) (number_no_dot n others) is in
    (numbers_same m n fits others parts.0, parts.1)

wide : (n : ℕ) → n < 2 ^ 8 → n < 2 ^ 32
wide n lt = omega (arith, lt)

-- what stands behind d.ID.RUN.NODE and a dot
tail_of : (which : DataId) (node : ℕ) (name : List ℕ) → IsNameOf which node name → (tail : List ℕ) × (name ≡ member_stem which node ++ 46 ∷ tail)
tail_of which node name (inl is) = (codes "m", is)
tail_of which node name (inr part) = (part_mark part.0, part.2)

regroup : (id run node tail : List ℕ) → (codes "d." ++ id ++ 46 ∷ run ++ 46 ∷ node) ++ tail ≡ codes "d." ++ (id ++ 46 ∷ (run ++ 46 ∷ (node ++ tail)))
regroup id run node tail = ap (λ (x : List ℕ). codes "d." ++ x) (append_assoc (id ++ 46 ∷ run) (46 ∷ node) tail ∙ append_assoc id (46 ∷ run) (46 ∷ (node ++ tail)))

same_data : (a b : DataId) → a.id ≡ b.id → a.run ≡ b.run → a ≡ b
same_data a b id run =
    let first : ◌≡◌ {A = DataId} (record { id = a.id; run = a.run }) (record { id = b.id; run = a.run }) = ap (λ (n : ℕ). record { id = n; run = a.run }) id in
    let second : ◌≡◌ {A = DataId} (record { id = b.id; run = a.run }) (record { id = b.id; run = b.run }) = ap (λ (n : ℕ). record { id = b.id; run = n }) run in
    first ∙ second

pub one_member : (which other : DataId) (node place : ℕ) (name : List ℕ) → IsPlace which node → IsPlace other place → IsNameOf which node name → IsNameOf other place name → (which ≡ other) × (node ≡ place)
one_member which other node place name at there named also =
    let mine = tail_of which node name named in
    let its = tail_of other place name also in
    let whole = append_cancel_left (codes "d.") (decimal which.id ++ 46 ∷ (decimal which.run ++ 46 ∷ (decimal node ++ 46 ∷ mine.0))) (decimal other.id ++ 46 ∷ (decimal other.run ++ 46 ∷ (decimal place ++ 46 ∷ its.0)))
    (sym (regroup (decimal which.id) (decimal which.run) (decimal node) (46 ∷ mine.0)) ∙ sym mine.1 ∙ its.1 ∙ regroup (decimal other.id) (decimal other.run) (decimal place) (46 ∷ its.0)) in
    let ids = numbers_split which.id other.id _ _ at.id there.id whole in
    let runs = numbers_split which.run other.run _ _ at.run there.run ids.1 in
    let nodes = numbers_split node place _ _ (wide node at.small) (wide place there.small) runs.1 in
    (same_data which other ids.0 runs.0, nodes.0)

one_mark : (part other : Part) → IsPart part → IsPart other → part_mark part ≡ part_mark other → part ≡ other
one_mark (File l f) (File m g) fits others is =
    let numbers = numbers_split l m (decimal f) (decimal g) (wide l fits.0) (wide m others.0) (append_cancel_left (codes "f.") (decimal l ++ 46 ∷ decimal f) (decimal m ++ 46 ∷ decimal g) is) in
    ap (λ (n : ℕ). File n f) numbers.0 ∙ ap (λ (n : ℕ). File m n) (numbers_same f g (wide f fits.1) (wide g others.1) numbers.1)
one_mark (File l f) (Share m) fits others is = absurd (share_no_file (sym (head_same 102 112 (46 ∷ (decimal l ++ 46 ∷ decimal f)) (46 ∷ decimal m) is)))
one_mark (Share l) (File m g) fits others is = absurd (share_no_file (head_same 112 102 (46 ∷ decimal l) (46 ∷ (decimal m ++ 46 ∷ decimal g)) is))
one_mark (Share l) (Share m) fits others is = ap Share (numbers_same l m (wide l fits) (wide m others) (append_cancel_left (codes "p.") (decimal l) (decimal m) is))

pub one_part : (which : DataId) (node : ℕ) (part other : Part) → IsPart part → IsPart other → part_name which node part ≡ part_name which node other → part ≡ other
one_part which node part other fits others is = one_mark part other fits others (append_cancel_left (46 ∷ []) (part_mark part) (part_mark other) (append_cancel_left (member_stem which node) (46 ∷ part_mark part) (46 ∷ part_mark other) is))
