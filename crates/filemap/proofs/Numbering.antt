-- A numbered tree, by its children.
use Rattle.std.proofs.Common.{◌≡◌, ℕ, zero, suc, ◌+◌, ◌<◌, List, [], ◌∷◌, ◌++◌, length, get_or, take, Some, refl, sym, ap, subst, ◌∙◌, arith, inl, inr}
use Rattle.std.specs.Prelude.{map}
use Rattle.std.proofs.lemmas.Bool.{cases_lt}
use Rattle.std.proofs.lemmas.List.{take_more, map-append, length-map, length-take, get_or-map, get_or_append_left}
use Rattle.std.proofs.Math.Seq.{get_or-append_seam}
use Rattle.kvtree.specs.Entries.{Entries, none, entry, width}
use Rattle.kvtree.specs.Lookup.{put, entry_under}
use Rattle.kvtree.proofs.Puts.{same_key}
use Rattle.kvtree.proofs.ByPlace.{opened}
use Rattle.filemap.specs.Numbered.{two_digits, numbered}
use Rattle.filemap.proofs.Digits.{digits_less}

pub width-numbered : (n : ℕ) (cs : List Entries) → width (numbered n cs) ≡ length cs
width-numbered n [] = refl
width-numbered n (c ∷ cs) = omega (arith, width-numbered (suc n) cs)

-- the next number stands last
pub put-numbered : (n k : ℕ) (cs : List Entries) (c : Entries) → k ≡ n + length cs → k < 100 → put (numbered n cs) (two_digits k) c ≡ numbered n (cs ++ c ∷ [])
put-numbered n k [] c is small = let e : k ≡ n = omega arith in ap (λ (i : ℕ). entry (two_digits i) c none) e
put-numbered n k (d ∷ cs) c is small =
    rw (digits_less n k (omega arith) small) (ap (entry (two_digits n) d) (put-numbered (suc n) k cs c (omega arith) small))

-- what stands at a place
pub child-numbered : (n k at : ℕ) (cs : List Entries) (d : Entries) → at < length cs → k ≡ n + at → entry_under (numbered n cs) at (two_digits k) ≡ Some (get_or cs at d)
child-numbered n k at [] d lt is = absurd (omega arith)
child-numbered n k zero (c ∷ cs) d lt is = let e : k ≡ n = omega arith in rw e (rw (same_key (two_digits n)) refl)
child-numbered n k (suc at) (c ∷ cs) d lt is = child-numbered (suc n) k at cs d (omega arith) (omega arith)

-- the numbers from 0 on stand at their places, with these children under them
abbrev pub Places : Entries → List Entries → ℕ → Type 0
Places t cs n = (at : ℕ) → at < n → entry_under t at (two_digits at) ≡ Some (get_or cs at none)

pub Places-push : (t : Entries) (cs : List Entries) (c : Entries) (n : ℕ) → length cs ≡ n → Places t cs n → entry_under t n (two_digits n) ≡ Some c → Places t (cs ++ c ∷ []) (n + 1)
Places-push t cs c n len places here at lt =
    elim (cases_lt at n) [
      | inl below ↦ places at below ∙ ap (λ (x : Entries). Some x) (sym (get_or_append_left cs (c ∷ []) none at (omega arith)))
      | inr above ↦
          let is : at ≡ length cs = omega arith in
          let at_n : n ≡ length cs = omega arith in
          rw is (rw at_n at here ∙ ap (λ (x : Entries). Some x) (sym (get_or-append_seam cs c [] none)))
    ]

by_places : (t : Entries) (n : ℕ) (cs : List Entries) → width t ≡ length cs → ((at k : ℕ) → at < length cs → k ≡ n + at → entry_under t at (two_digits k) ≡ Some (get_or cs at none)) → t ≡ numbered n cs
by_places none n [] wide places = refl
by_places none n (c ∷ cs) wide places = absurd (omega arith)
by_places (entry k x r) n [] wide places = absurd (omega arith)
by_places (entry k x r) n (c ∷ cs) wide places =
    opened (entry k x r) (two_digits n) c (places 0 n (omega arith) (omega arith))
    ∙ ap (entry (two_digits n) c) (by_places r (suc n) cs (omega arith) (λ at i lt is. places (suc at) i (omega arith) (omega arith)))

pub all_places : (t : Entries) (cs : List Entries) → width t ≡ length cs → Places t cs (length cs) → t ≡ numbered 0 cs
all_places t cs wide places = by_places t 0 cs wide (λ at k lt is. let e : k ≡ at = omega arith in rw e (places at lt))

-- a loop's step: the next child is put under its number
pub put_more : {A : Type 0} (f : A → Entries) (xs : List A) (i : ℕ) (x : A) (t : Entries) → i < length xs → i < 100 → x ≡ get_or xs i x → t ≡ numbered 0 (map f (take i xs)) → put t (two_digits i) (f x) ≡ numbered 0 (map f (take (i + 1) xs))
put_more {A = A} f xs i x t lt small is so_far =
    let len : i ≡ 0 + length (map f (take i xs)) = omega (arith, length-map (take i xs) f, length-take i xs) in
    let next : map f (take (i + 1) xs) ≡ map f (take i xs) ++ f x ∷ [] =
    ap (map f) (take_more xs i x lt) ∙ map-append f (take i xs) (get_or xs i x ∷ []) ∙ ap (λ (y : A). map f (take i xs) ++ f y ∷ []) (sym is) in
    rw so_far (put-numbered 0 i (map f (take i xs)) (f x) len small ∙ ap (numbered 0) (sym next))

pub numbered_same : (n : ℕ) (cs ds : List Entries) → numbered n cs ≡ numbered n ds → cs ≡ ds
numbered_same n [] [] e = refl
numbered_same n [] (d ∷ ds) e = absurd cc
numbered_same n (c ∷ cs) [] e = absurd cc
numbered_same n (c ∷ cs) (d ∷ ds) e =
    let first : c ≡ d = cc in
    let rest : numbered (suc n) cs ≡ numbered (suc n) ds = cc in
    ap (λ (x : Entries). x ∷ cs) first ∙ ap (λ (xs : List Entries). d ∷ xs) (numbered_same (suc n) cs ds rest)

-- the same, for what a call was given
pub put_at : {A : Type 0} (f : A → Entries) (xs : List A) (i : ℕ) (x : A) (t : Entries) (key : List ℕ) (child : Entries) (n : ℕ) → i < length xs → i < 100 → x ≡ get_or xs i x → t ≡ numbered 0 (map f (take i xs)) → key ≡ two_digits n → n ≡ i → child ≡ f x
    → put t key child ≡ numbered 0 (map f (take (i + 1) xs))
put_at f xs i x t key child n lt small is so_far key_is n_is child_is = rw (key_is, n_is, child_is) (put_more f xs i x t lt small is so_far)

pub wide_as : {A : Type 0} (f : A → Entries) (xs : List A) (t : Entries) → t ≡ numbered 0 (map f xs) → width t ≡ length xs
wide_as f xs t is = ap width is ∙ width-numbered 0 (map f xs) ∙ length-map xs f

pub at_place : {A : Type 0} (f : A → Entries) (xs : List A) (t : Entries) (k : ℕ) (d : A) → t ≡ numbered 0 (map f xs) → k < length xs → entry_under t k (two_digits k) ≡ Some (f (get_or xs k d))
at_place f xs t k d is lt =
    ap (λ (u : Entries). entry_under u k (two_digits k)) is
    ∙ child-numbered 0 k k (map f xs) none (omega (arith, length-map xs f)) (omega arith)
    ∙ ap (λ (c : Entries). Some c) (get_or-map f xs k d none lt)

pub places_more : {A : Type 0} (f : A → Entries) (t : Entries) (xs : List A) (x : A) (ys : List A) (n : ℕ) → ys ≡ xs ++ x ∷ [] → length xs ≡ n → Places t (map f xs) n → entry_under t n (two_digits n) ≡ Some (f x) → Places t (map f ys) (n + 1)
places_more f t xs x ys n is len places here =
    let e : map f ys ≡ map f xs ++ f x ∷ [] = ap (map f) is ∙ map-append f xs (x ∷ []) in
    subst (λ (cs : List Entries). Places t cs (n + 1)) (sym e) (Places-push t (map f xs) (f x) n (length-map xs f ∙ len) places here)

pub found_all : {A : Type 0} (f : A → Entries) (t : Entries) (xs : List A) (n : ℕ) → length xs ≡ n → width t ≡ n → Places t (map f xs) n → t ≡ numbered 0 (map f xs)
found_all f t xs n len wide places =
    let all : length (map f xs) ≡ n = length-map xs f ∙ len in
    all_places t (map f xs) (wide ∙ sym all) (subst (Places t (map f xs)) (sym all) places)
