-- Numbers that are chosen by a test.
use Rattle.std.proofs.Common.{◌≡◌, ◌⊎◌, inl, inr, ◌<◌, ◌≤◌, ◌+◌, ℕ, zero, suc, Bool, true, false, List, [], ◌∷◌, ◌++◌, length, filter, refl, sym, ◌∙◌, ap, subst, arith}
use Rattle.std.specs.Prelude.{IsTrue, not, if◌then◌else◌}
use Rattle.scr_base.specs.Sets.{numbers_below, is_among}
use Rattle.std.proofs.lemmas.Bool.{cases_eq}
use Rattle.std.proofs.lemmas.Bool.Decides.{nat_tests}
use Rattle.ckpt_model.specs.Loss.{are_nodes}
use Rattle.ckpt_model.proofs.SameLemmas.{bytes-same}
use Rattle.member_shares.proofs.Ranks.{one_in, one_out, rank_in, rank_out}
use Rattle.process_sets.proofs.Groups.{among_chosen}
use Rattle.recover_core.specs.Seen.{is_marked}

-- tests that agree below a number choose the same ones
same_chosen : (p q : ℕ → Bool) (n : ℕ) → ((i : ℕ) → i < n → q i ≡ p i) → filter q (numbers_below n) ≡ filter p (numbers_below n)
same_chosen p q zero same = refl
same_chosen p q (suc n) same = pick (p n) refl (same_chosen p q n (λ i lt. same i (omega (arith, lt)))) where
  pick : (b : Bool) → p n ≡ b → filter q (numbers_below n) ≡ filter p (numbers_below n) → filter q (numbers_below (suc n)) ≡ filter p (numbers_below (suc n))
  pick true e front = one_in q n (same n (omega arith) ∙ e) ∙ ap (λ (xs : List ℕ). xs ++ n ∷ []) front ∙ sym (one_in p n e)
  pick false e front = one_out q n (same n (omega arith) ∙ e) ∙ front ∙ sym (one_out p n e)

-- those that a test chooses are nodes, ascending
pub chosen_nodes : (p : ℕ → Bool) (n : ℕ) → IsTrue (are_nodes n (filter p (numbers_below n)))
chosen_nodes p n =
    let chosen = filter p (numbers_below n) in
    rw (same_chosen p (λ i. is_among i chosen) n (λ i lt. among_chosen p n i lt)) (bytes-same chosen)

-- what is among them passes
pub among_passes : (p : ℕ → Bool) (xs : List ℕ) (i : ℕ) → is_among i (filter p xs) ≡ true → p i ≡ true
among_passes p [] i there = absurd (cc there)
among_passes p (x ∷ xs) i there = pick (p x) refl there (among_passes p xs i) where
  pick : (b : Bool) → p x ≡ b → is_among i (if b then x ∷ filter p xs else filter p xs) ≡ true → (is_among i (filter p xs) ≡ true → p i ≡ true) → p i ≡ true
  pick true e h rest = grind (arith, nat_tests, e, h, rest)
  pick false e h rest = rest h

pub at_most : (p : ℕ → Bool) (n : ℕ) → length (filter p (numbers_below n)) ≤ n
at_most p zero = omega arith
at_most p (suc n) = pick (p n) refl (at_most p n) where
  pick : (b : Bool) → p n ≡ b → length (filter p (numbers_below n)) ≤ n → length (filter p (numbers_below (suc n))) ≤ suc n
  pick true e h = omega (arith, rank_in p n e, h)
  pick false e h = omega (arith, rank_out p n e, h)

-- where one of the numbers doesn't pass, fewer are chosen
pub fewer_chosen : (p : ℕ → Bool) (n i : ℕ) → i < n → p i ≡ false → length (filter p (numbers_below n)) < n
fewer_chosen p zero i lt not = absurd (omega (arith, lt))
fewer_chosen p (suc n) i lt not = pick (p n) refl (cases_eq i n) (fewer_chosen p n i) where
  pick : (b : Bool) → p n ≡ b → (i ≡ n) ⊎ ((i ≡ n) → ⊥) → (i < n → p i ≡ false → length (filter p (numbers_below n)) < n) → length (filter p (numbers_below (suc n))) < suc n
  pick false e at rest = omega (arith, rank_out p n e, at_most p n)
  pick true e (inl same) rest = absurd (cc (not, e, same))
  pick true e (inr other) rest = omega (arith, rank_in p n e, rest (omega (arith, lt, other)) not)

-- ## One number after the other

pub chosen_more : (there : List Bool) (n : ℕ) (old new : List ℕ) → is_marked there n ≡ false → old ≡ filter (λ i. not (is_marked there i)) (numbers_below n) → new ≡ old ++ n ∷ [] → new ≡ filter (λ i. not (is_marked there i)) (numbers_below (n + 1))
chosen_more there n old new not_there is more = let next : suc n ≡ n + 1 = omega arith in subst (λ (k : ℕ). new ≡ filter (λ i. not (is_marked there i)) (numbers_below k)) next (more ∙ ap (λ (xs : List ℕ). xs ++ n ∷ []) is ∙ sym (one_in (λ i. not (is_marked there i)) n (ap not not_there)))

pub chosen_same : (there : List Bool) (n : ℕ) (old new : List ℕ) → is_marked there n ≡ true → old ≡ filter (λ i. not (is_marked there i)) (numbers_below n) → new ≡ old → new ≡ filter (λ i. not (is_marked there i)) (numbers_below (n + 1))
chosen_same there n old new marked is same = let next : suc n ≡ n + 1 = omega arith in subst (λ (k : ℕ). new ≡ filter (λ i. not (is_marked there i)) (numbers_below k)) next (same ∙ is ∙ sym (one_out (λ i. not (is_marked there i)) n (ap not marked)))
