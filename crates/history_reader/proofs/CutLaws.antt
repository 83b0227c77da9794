-- What stands before and behind a byte.
use Rattle.std.proofs.Common.{◌≡◌, ◌≢◌, ℕ, suc, length-append, ◌+◌, ◌<◌, ◌&&◌, ◌==◌, not, Bool, true, false, List, [], ◌∷◌, ◌++◌, map, length, get_or, Option, Some, None, refl, ap, sym, ◌∙◌, arith}
use Rattle.std.specs.Prelude.{option_map}
use Rattle.std.specs.List.{join_with_byte, list_all, onto_first}
use Rattle.std.proofs.lemmas.Bool.Decides.{nat_tests}
use Rattle.std.proofs.lemmas.List.Splits.{slice_split-cons_yes, slice_split-cons_no}
use Rattle.std.proofs.lemmas.Option.{some_pair_parts}
use Rattle.history_reader.specs.Reading.{cut_at, cut_last_at, parts}

-- no byte of the list is this one
abbrev pub lacks : ℕ → List ℕ → Bool
lacks c bs = list_all (λ b. not (b == c)) bs

pub both_are : (a b : Bool) → (a && b) ≡ true → (a ≡ true) × (b ≡ true)
both_are true true h = (refl, refl)
both_are true false h = absurd cc
both_are false b h = absurd cc

is_not : (a : Bool) → not a ≡ true → a ≡ false
is_not true h = absurd cc
is_not false h = refl

same : (n : ℕ) → (n == n) ≡ true
same n = grind (arith, nat_tests)

pub cut_here : (c : ℕ) (w rest : List ℕ) → lacks c w ≡ true → cut_at c (w ++ c ∷ rest) ≡ Some (w, rest)
unfolding cut_at
cut_here c [] rest h = rw (same c) refl
cut_here c (b ∷ w) rest h =
    let p = both_are (not (b == c)) (lacks c w) h in
    rw (is_not (b == c) p.0, cut_here c w rest p.1) refl

pub cut_nowhere : (c : ℕ) (w : List ℕ) → lacks c w ≡ true → cut_at c w ≡ None
unfolding cut_at
cut_nowhere c [] h = refl
cut_nowhere c (b ∷ w) h =
    let p = both_are (not (b == c)) (lacks c w) h in
    rw (is_not (b == c) p.0, cut_nowhere c w p.1) refl

pub cut_last_nowhere : (c : ℕ) (w : List ℕ) → lacks c w ≡ true → cut_last_at c w ≡ None
unfolding cut_last_at
cut_last_nowhere c [] h = refl
cut_last_nowhere c (b ∷ w) h =
    let p = both_are (not (b == c)) (lacks c w) h in
    rw (cut_last_nowhere c w p.1, is_not (b == c) p.0) refl

pub cut_last_here : (c : ℕ) (w rest : List ℕ) → lacks c rest ≡ true → cut_last_at c (w ++ c ∷ rest) ≡ Some (w, rest)
unfolding cut_last_at
cut_last_here c [] rest h = rw (cut_last_nowhere c rest h, same c) refl
cut_last_here c (b ∷ w) rest h = rw (cut_last_here c w rest h) refl

-- what the places say
pub lacks_all : (c : ℕ) (bs : List ℕ) → ((k : ℕ) → k < length bs → get_or bs k 0 ≢ c) → lacks c bs ≡ true
lacks_all c [] h = refl
lacks_all c (b ∷ bs) h =
    let first : b ≢ c = h 0 (omega arith) in
    let test : (b == c) ≡ false = grind (arith, nat_tests) in
    rw test (lacks_all c bs (λ k lt. h (suc k) (omega arith)))

lacks_front : (c : ℕ) (front rest : List ℕ) → ((k : ℕ) → k < length front → get_or (front ++ rest) k 0 ≢ c) → lacks c front ≡ true
lacks_front c [] rest h = refl
lacks_front c (b ∷ front) rest h =
    let first : b ≢ c = h 0 (omega arith) in
    let test : (b == c) ≡ false = grind (arith, nat_tests) in
    rw test (lacks_front c front rest (λ k lt. h (suc k) (omega arith)))

lacks_back : (c : ℕ) (front rest : List ℕ) → ((k : ℕ) → length front < k → k < length front + (1 + length rest) → get_or (front ++ c ∷ rest) k 0 ≢ c) → lacks c rest ≡ true
lacks_back c [] rest h = lacks_all c rest (λ k lt. h (suc k) (omega arith) (omega arith))
lacks_back c (b ∷ front) rest h = lacks_back c front rest (λ k low high. h (suc k) (omega arith) (omega arith))

pub cut_at_place : (c : ℕ) (bytes front rest : List ℕ) (place : ℕ) → bytes ≡ front ++ c ∷ rest → length front ≡ place → ((k : ℕ) → k < place → get_or bytes k 0 ≢ c) → Some (front, rest) ≡ cut_at c bytes
cut_at_place c bytes front rest place is len first =
    let some : lacks c front ≡ true = lacks_front c front (c ∷ rest) (rw (is, ← len) at first) in
    rw is (sym (cut_here c front rest some))

pub cut_last_at_place : (c : ℕ) (bytes front rest : List ℕ) (place : ℕ) → bytes ≡ front ++ c ∷ rest → length front ≡ place → ((k : ℕ) → place < k → k < length bytes → get_or bytes k 0 ≢ c) → Some (front, rest) ≡ cut_last_at c bytes
cut_last_at_place c bytes front rest place is len last =
    let far : (k : ℕ) → length front < k → k < length (front ++ c ∷ rest) → get_or (front ++ c ∷ rest) k 0 ≢ c = rw (is, ← len) at last in
    let some : lacks c rest ≡ true = lacks_back c front rest (λ k low high. far k low (omega (arith, length-append front (c ∷ rest)))) in
    rw is (sym (cut_last_here c front rest some))

-- ---- parts

parts_first : (c : ℕ) (w rest : List ℕ) → lacks c w ≡ true → parts c (w ++ c ∷ rest) ≡ w ∷ parts c rest
parts_first c [] rest h = slice_split-cons_yes (λ b. b == c) c rest (same c)
parts_first c (b ∷ w) rest h =
    let p = both_are (not (b == c)) (lacks c w) h in
    slice_split-cons_no (λ x. x == c) b (w ++ c ∷ rest) (is_not (b == c) p.0) ∙ ap (onto_first b) (parts_first c w rest p.1)

parts_only : (c : ℕ) (w : List ℕ) → lacks c w ≡ true → parts c w ≡ w ∷ []
parts_only c [] h = refl
parts_only c (b ∷ w) h =
    let p = both_are (not (b == c)) (lacks c w) h in
    slice_split-cons_no (λ x. x == c) b w (is_not (b == c) p.0) ∙ ap (onto_first b) (parts_only c w p.1)

-- the same, where a cut is known
onto_first_is : (b : ℕ) (ws : List (List ℕ)) (w : List ℕ) (vs : List (List ℕ)) → ws ≡ w ∷ vs → onto_first b ws ≡ (b ∷ w) ∷ vs
onto_first_is b ws w vs e = rw e refl

some_none : (p : List ℕ × List ℕ) → ◌≡◌ {A = Option (List ℕ × List ℕ)} (Some p) None → ⊥
some_none p h = cc

-- a cut behind the first byte
behind_first : (b c : ℕ) (bs w rest : List ℕ) → cut_at c (b ∷ bs) ≡ Some (w, rest) → ((b == c) ≡ true → (w ≡ []) × (rest ≡ bs)) × ((b == c) ≡ false → (v : List ℕ) × (w ≡ b ∷ v) × (cut_at c bs ≡ Some (v, rest)))
unfolding cut_at
behind_first b c bs w rest h = (
  λ e.
      let h2 : ◌≡◌ {A = Option (List ℕ × List ℕ)} (Some ([], bs)) (Some (w, rest)) = rw e at h in
      let q = some_pair_parts [] w bs rest h2 in
      (sym q.0, sym q.1),
  λ e. by_cut (cut_at c bs) refl (rw e at h),
)
  where
    by_cut : (o : Option (List ℕ × List ℕ)) → cut_at c bs ≡ o → option_map {U = List ℕ × List ℕ} (λ (p : List ℕ × List ℕ). (b ∷ p.0, p.1)) o ≡ Some (w, rest) → (v : List ℕ) × (w ≡ b ∷ v) × (cut_at c bs ≡ Some (v, rest))
    by_cut None e h2 = absurd cc
    by_cut (Some p) e h2 =
        let q = some_pair_parts (b ∷ p.0) w p.1 rest h2 in
        (p.0, sym q.0, e ∙ ap (λ (r : List ℕ). Some (p.0, r)) q.1)

pub parts_cut : (c : ℕ) (bs w rest : List ℕ) → cut_at c bs ≡ Some (w, rest) → parts c bs ≡ w ∷ parts c rest
unfolding cut_at
parts_cut c [] w rest h = absurd cc
parts_cut c (b ∷ bs) w rest h = by_test (b == c) refl (behind_first b c bs w rest h) (λ v e. parts_cut c bs v rest e)
  where
    by_test : (t : Bool) → (b == c) ≡ t → ((b == c) ≡ true → (w ≡ []) × (rest ≡ bs)) × ((b == c) ≡ false → (v : List ℕ) × (w ≡ b ∷ v) × (cut_at c bs ≡ Some (v, rest))) → ((v : List ℕ) → cut_at c bs ≡ Some (v, rest) → parts c bs ≡ v ∷ parts c rest) → parts c (b ∷ bs) ≡ w ∷ parts c rest
    by_test true e both shorter =
        let p = both.0 e in
        slice_split-cons_yes (λ x. x == c) b bs e ∙ rw (p.0, p.1) refl
    by_test false e both shorter =
        let p = both.1 e in
        slice_split-cons_no (λ x. x == c) b bs e ∙ onto_first_is b (parts c bs) p.0 (parts c rest) (shorter p.0 p.2) ∙ ap (λ (v : List ℕ). v ∷ parts c rest) (sym p.1)

pub parts_uncut : (c : ℕ) (bs : List ℕ) → cut_at c bs ≡ None → parts c bs ≡ bs ∷ []
unfolding cut_at
parts_uncut c [] h = refl
parts_uncut c (b ∷ bs) h = by_test (b == c) refl (λ e. parts_uncut c bs e)
  where
    by_cut : (o : Option (List ℕ × List ℕ)) → option_map {U = List ℕ × List ℕ} (λ (p : List ℕ × List ℕ). (b ∷ p.0, p.1)) o ≡ None → o ≡ None
    by_cut None h2 = refl
    by_cut (Some p) h2 = absurd cc

    by_test : (t : Bool) → (b == c) ≡ t → (cut_at c bs ≡ None → parts c bs ≡ bs ∷ []) → parts c (b ∷ bs) ≡ (b ∷ bs) ∷ []
    by_test true e shorter = absurd (some_none ([], bs) (rw e at h))
    by_test false e shorter = slice_split-cons_no (λ x. x == c) b bs e ∙ onto_first_is b (parts c bs) bs [] (shorter (by_cut (cut_at c bs) (rw e at h)))

-- parts that are joined are cut again
pub parts_joined : {X : Type 0} (c : ℕ) (text : X → List ℕ) (x : X) (xs : List X) → list_all (λ y. lacks c (text y)) (x ∷ xs) ≡ true → parts c (join_with_byte c (map text (x ∷ xs))) ≡ map text (x ∷ xs)
parts_joined c text x [] h = parts_only c (text x) (both_are (lacks c (text x)) true h).0
parts_joined c text x (y ∷ ys) h =
    let p = both_are (lacks c (text x)) (list_all (λ y. lacks c (text y)) (y ∷ ys)) h in
    parts_first c (text x) (join_with_byte c (map text (y ∷ ys))) p.0 ∙ ap (λ (ws : List (List ℕ)). text x ∷ ws) (parts_joined c text y ys p.1)
