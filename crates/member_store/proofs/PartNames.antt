-- Which bytes are the names of a member's files and shares.
use Rattle.std.proofs.Common.{◌≡◌, ◌≢◌, ℕ, suc, ◌+◌, ◌-◌, ◌<◌, ◌^◌, List, [], ◌∷◌, ◌++◌, length, take, drop, refl, sym, ap, ◌∙◌, append_assoc, arith, codes, length-append, length-drop}
use Rattle.std.specs.Prelude.{decimal, slice_index}
use Rattle.std.proofs.lemmas.List.{append_cancel_left, take_at, append-nil}
use Rattle.scr_base.specs.declared.shape.DataId.{DataId}
use Rattle.member_store.specs.Names.{record_name, part_name, member_stem, part_mark, IsPart}
use Rattle.member_store.specs.declared.part.Part.{Part}
use Rattle.member_store.specs.declared.part.Part.TheVariants.{File, Share}
use Rattle.member_store.proofs.Names.{HasNoDot, dot_splits, number_no_dot, front_no_dot, at_place, head_same}

-- the decimal form of a number below 256
abbrev pub IsSmall : List ℕ → Type 0
IsSmall bs = (n : ℕ) × (n < 2 ^ 8) × (bs ≡ decimal n)

-- two of them with a dot between them
abbrev pub AreTwo : List ℕ → Type 0
AreTwo bs = (m : ℕ) × (n : ℕ) × (m < 2 ^ 8) × (n < 2 ^ 8) × (bs ≡ decimal m ++ 46 ∷ decimal n)

abbrev pub IsMark : List ℕ → Type 0
IsMark bs = (part : Part) × IsPart part × (bs ≡ part_mark part)

abbrev pub IsPartName : DataId → ℕ → List ℕ → Type 0
IsPartName which node name = (part : Part) × IsPart part × (name ≡ part_name which node part)

no_dot : (n : ℕ) → n < 2 ^ 8 → HasNoDot (decimal n)
no_dot n small = number_no_dot n (omega (arith, small))

dot_there : (xs ys : List ℕ) → slice_index (xs ++ 46 ∷ ys) (length xs) ≡ 46
dot_there [] ys = refl
dot_there (x ∷ xs) ys = dot_there xs ys

-- where there is no dot, there aren't two
pub no_two : (bs : List ℕ) → ((k : ℕ) → k < length bs → slice_index bs k ≢ 46) → AreTwo bs → ⊥
no_two bs none two =
    let long : length (decimal two.0) < length bs = omega (arith, ap (λ (l : List ℕ). length l) two.4, length-append (decimal two.0) (46 ∷ decimal two.1)) in
    none (length (decimal two.0)) long (ap (λ (l : List ℕ). slice_index l (length (decimal two.0))) two.4 ∙ dot_there (decimal two.0) (decimal two.1))

-- of the first dot
module _ (bs : List ℕ) (at : ℕ) (lt : at < length bs) (dot : slice_index bs at ≡ 46) (before : (k : ℕ) → k < at → slice_index bs k ≢ 46) where
  whole : bs ≡ take at bs ++ 46 ∷ drop (at + 1) bs
  whole = at_place bs at lt ∙ ap (λ (b : ℕ). take at bs ++ b ∷ drop (suc at) bs) dot ∙ ap (λ (k : ℕ). take at bs ++ 46 ∷ drop k bs) (let e : suc at ≡ at + 1 = omega arith in e)

  pub two_of : IsSmall (take at bs) → IsSmall (drop (at + 1) bs) → AreTwo bs
  two_of m n = (m.0, n.0, m.1, n.1, whole ∙ ap (λ (l : List ℕ). l ++ 46 ∷ drop (at + 1) bs) m.2 ∙ ap (λ (l : List ℕ). decimal m.0 ++ 46 ∷ l) n.2)

  halves : (two : AreTwo bs) → (take at bs ≡ decimal two.0) × (drop (at + 1) bs ≡ decimal two.1)
  halves two = dot_splits (take at bs) (decimal two.0) (drop (at + 1) bs) (decimal two.1) (front_no_dot bs at before) (no_dot two.0 two.2) (sym whole ∙ two.4)

  pub first_of : AreTwo bs → IsSmall (take at bs)
  first_of two = (two.0, two.2, (halves two).0)

  pub second_of : AreTwo bs → IsSmall (drop (at + 1) bs)
  second_of two = (two.1, two.3, (halves two).1)

-- all that is behind a place
pub behind : (bs : List ℕ) (at : ℕ) → take (length bs - at) (drop at bs) ≡ drop at bs
behind bs at = ap (λ (l : List ℕ). take (length bs - at) l) (sym (append-nil (drop at bs))) ∙ take_at (drop at bs) [] (length bs - at) (length-drop at bs)

-- ## marks

pub share_no_file : ◌≡◌ {A = ℕ} 112 102 → ⊥
share_no_file is = absurd (omega (arith, is))

pub share_mark : (bs local : List ℕ) → bs ≡ codes "p." ++ local → IsSmall local → IsMark bs
share_mark bs local is small = (Share small.0, small.1, is ∙ ap (λ (l : List ℕ). codes "p." ++ l) small.2)

pub mark_share : (bs local : List ℕ) → bs ≡ codes "p." ++ local → IsMark bs → IsSmall local
mark_share bs local is mark = by_part mark.0 mark.1 mark.2
  where
    by_part : (part : Part) → IsPart part → bs ≡ part_mark part → IsSmall local
    by_part (File l f) fits same = absurd (share_no_file (head_same 112 102 (46 ∷ local) (46 ∷ (decimal l ++ 46 ∷ decimal f)) (sym is ∙ same)))
    by_part (Share l) fits same = (l, fits, append_cancel_left (codes "p.") local (decimal l) (sym is ∙ same))

pub file_mark : (bs numbers : List ℕ) → bs ≡ codes "f." ++ numbers → AreTwo numbers → IsMark bs
file_mark bs numbers is two = (File two.0 two.1, (two.2, two.3), is ∙ ap (λ (l : List ℕ). codes "f." ++ l) two.4)

pub mark_file : (bs numbers : List ℕ) → bs ≡ codes "f." ++ numbers → IsMark bs → AreTwo numbers
mark_file bs numbers is mark = by_part mark.0 mark.1 mark.2
  where
    by_part : (part : Part) → IsPart part → bs ≡ part_mark part → AreTwo numbers
    by_part (File l f) fits same = (l, f, fits.0, fits.1, append_cancel_left (codes "f.") numbers (decimal l ++ 46 ∷ decimal f) (sym is ∙ same))
    by_part (Share l) fits same = absurd (share_no_file (sym (head_same 102 112 (46 ∷ numbers) (46 ∷ decimal l) (sym is ∙ same))))

pub no_mark : (bs : List ℕ) → ((rest : List ℕ) → bs ≢ codes "p." ++ rest) → ((rest : List ℕ) → bs ≢ codes "f." ++ rest) → IsMark bs → ⊥
no_mark bs no_share no_file mark = by_part mark.0 mark.2
  where
    by_part : (part : Part) → bs ≡ part_mark part → ⊥
    by_part (File l f) same = no_file (decimal l ++ 46 ∷ decimal f) same
    by_part (Share l) same = no_share (decimal l) same

-- ## names

module _ (which : DataId) (node : ℕ) (name : List ℕ) where
  pub named : (mark : List ℕ) → name ≡ (member_stem which node ++ 46 ∷ []) ++ mark → IsMark mark → IsPartName which node name
  named mark is m = (m.0, m.1, is ∙ append_assoc (member_stem which node) (46 ∷ []) mark ∙ ap (λ (l : List ℕ). member_stem which node ++ 46 ∷ l) m.2)

  pub mark_of : (mark : List ℕ) → name ≡ (member_stem which node ++ 46 ∷ []) ++ mark → IsPartName which node name → IsMark mark
  mark_of mark is part = (part.0, part.1, append_cancel_left (member_stem which node ++ 46 ∷ []) mark (part_mark part.0) (sym is ∙ part.2 ∙ sym (append_assoc (member_stem which node) (46 ∷ []) (part_mark part.0))))

  pub unnamed : ((rest : List ℕ) → name ≢ (member_stem which node ++ 46 ∷ []) ++ rest) → IsPartName which node name → ⊥
  unnamed none part = none (part_mark part.0) (part.2 ∙ sym (append_assoc (member_stem which node) (46 ∷ []) (part_mark part.0)))

-- no file or share has its record's name
pub part_no_record : (which : DataId) (node : ℕ) (part : Part) → part_name which node part ≢ record_name which node
part_no_record which node part is = by_part part (append_cancel_left (member_stem which node) (46 ∷ part_mark part) (codes ".m") is)
  where
    by_part : (p : Part) → 46 ∷ part_mark p ≡ codes ".m" → ⊥
    by_part (File l f) same = cc same
    by_part (Share l) same = cc same
