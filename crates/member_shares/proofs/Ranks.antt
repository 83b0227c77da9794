-- The place of a number among those below n that pass a test is how many pass before it.
use Rattle.std.proofs.Common.{◌≡◌, ℕ, zero, suc, ◌+◌, ◌<◌, ◌≤◌, Bool, true, false, List, [], ◌∷◌, ◌++◌, length, take, length-take, slice_index, ◌||◌, subst, sym, ap, ◌∙◌, arith, inl, inr}
use Rattle.std.specs.List.{filter, list_any}
use Rattle.std.proofs.lemmas.Bool.{cases_Bool, cases_lt}
use Rattle.std.proofs.lemmas.List.{ext_get_or, get_or-take, get_or-append-add, get_or_append_left, length-append, take_all}
use Rattle.std.proofs.lemmas.List.FromFn.{length-range_with_len}
use Rattle.scr_base.specs.Sets.{numbers_below}
use Rattle.scr_base.proofs.Chosen.{number_at, chosen_more_in, chosen_more_out}

length-numbers : (n : ℕ) → length (numbers_below n) ≡ n
length-numbers n = length-range_with_len 0 n

front : (n i : ℕ) → i ≤ n → take i (numbers_below n) ≡ numbers_below i
front n i h =
    let size : length (take i (numbers_below n)) ≡ i = omega (arith, length-numbers n, length-take i (numbers_below n)) in
    ext_get_or 0 (take i (numbers_below n)) (numbers_below i) (size ∙ sym (length-numbers i))
    (λ k l.
    let low : k < i = omega (arith, size) in
    get_or-take i (numbers_below n) k 0 low ∙ number_at n k (omega arith) ∙ sym (number_at i k low))

-- how many of the numbers below i pass
abbrev pub rank : (ℕ → Bool) → ℕ → ℕ
rank p i = length (filter p (numbers_below i))

pub one_in : (p : ℕ → Bool) (i : ℕ) → p i ≡ true → filter p (numbers_below (suc i)) ≡ filter p (numbers_below i) ++ i ∷ []
one_in p i e =
    let whole : filter p (numbers_below (suc i)) ≡ filter p (take (i + 1) (numbers_below (suc i))) = ap (filter p) (sym (take_all (i + 1) (numbers_below (suc i)) (omega (arith, length-numbers (suc i))))) in
    whole ∙ chosen_more_in p (suc i) i (omega arith) e ∙ ap (λ xs. filter p xs ++ i ∷ []) (front (suc i) i (omega arith))

pub one_out : (p : ℕ → Bool) (i : ℕ) → p i ≡ false → filter p (numbers_below (suc i)) ≡ filter p (numbers_below i)
one_out p i e =
    let whole : filter p (numbers_below (suc i)) ≡ filter p (take (i + 1) (numbers_below (suc i))) = ap (filter p) (sym (take_all (i + 1) (numbers_below (suc i)) (omega (arith, length-numbers (suc i))))) in
    whole ∙ chosen_more_out p (suc i) i (omega arith) e ∙ ap (filter p) (front (suc i) i (omega arith))

pub rank_in : (p : ℕ → Bool) (i : ℕ) → p i ≡ true → rank p (suc i) ≡ rank p i + 1
rank_in p i e = ap (length {A = ℕ}) (one_in p i e) ∙ length-append (filter p (numbers_below i)) (i ∷ [])

pub rank_out : (p : ℕ → Bool) (i : ℕ) → p i ≡ false → rank p (suc i) ≡ rank p i
rank_out p i e = ap (length {A = ℕ}) (one_out p i e)

-- a number that passes stands where its rank says
pub record StandsAt (p : ℕ → Bool) (n x : ℕ) : Type 0 where
  pub within : rank p x < rank p n
  pub there : slice_index (filter p (numbers_below n)) (rank p x) ≡ x

pub stands_at : (p : ℕ → Bool) (n x : ℕ) → x < n → p x ≡ true → StandsAt p n x
stands_at p zero x h e = absurd (omega arith)
stands_at p (suc n) x h e =
    elim (cases_lt x n) [
      | inl low ↦
          let before = stands_at p n x low e in
          elim (cases_Bool (p n)) [
            | inl more ↦
                record {
                  within = omega (arith, before.within, rank_in p n more);
                  there = ap (λ xs. slice_index xs (rank p x)) (one_in p n more) ∙ get_or_append_left (filter p (numbers_below n)) (n ∷ []) 0 (rank p x) before.within ∙ before.there;
                }
            | inr same ↦
                record {
                  within = omega (arith, before.within, rank_out p n same);
                  there = ap (λ xs. slice_index xs (rank p x)) (one_out p n same) ∙ before.there;
                }
          ]
      | inr high ↦
          let top : n ≡ x = omega arith in
          subst (λ t. StandsAt p (suc n) t) top
          (let own : p n ≡ true = ap p top ∙ e in
          record {
            within = omega (arith, rank_in p n own);
            there =
                ap (λ xs. slice_index xs (rank p n)) (one_in p n own)
                ∙ ap (slice_index (filter p (numbers_below n) ++ n ∷ [])) (let same : rank p n ≡ rank p n + 0 = omega arith in same)
                ∙ get_or-append-add (filter p (numbers_below n)) (n ∷ []) 0 0;
          })
    ]

-- and at each place stands a number that passes and has that rank
pub record HasRank (p : ℕ → Bool) (n q x : ℕ) : Type 0 where
  pub below : x < n
  pub passes : p x ≡ true
  pub ranked : rank p x ≡ q

ranked_here : (p : ℕ → Bool) (n q : ℕ) → p n ≡ true → q ≡ rank p n → HasRank p (suc n) q (slice_index (filter p (numbers_below (suc n))) q)
ranked_here p n q e last =
    let there : slice_index (filter p (numbers_below (suc n))) q ≡ n =
    ap (slice_index (filter p (numbers_below (suc n)))) last ∙ (stands_at p (suc n) n (omega arith) e).there in
    subst (HasRank p (suc n) q) (sym there) (record { below = omega arith; passes = e; ranked = sym last })

pub has_rank : (p : ℕ → Bool) (n q : ℕ) → q < rank p n → HasRank p n q (slice_index (filter p (numbers_below n)) q)
has_rank p zero q h = absurd (omega arith)
has_rank p (suc n) q h =
    elim (cases_Bool (p n)) [
      | inl more ↦
          elim (cases_lt q (rank p n)) [
            | inl low ↦
                let before = has_rank p n q low in
                let same : slice_index (filter p (numbers_below (suc n))) q ≡ slice_index (filter p (numbers_below n)) q =
                ap (λ xs. slice_index xs q) (one_in p n more) ∙ get_or_append_left (filter p (numbers_below n)) (n ∷ []) 0 q low in
                subst (HasRank p (suc n) q) (sym same) (record { below = omega (arith, before.below); passes = before.passes; ranked = before.ranked })
            | inr high ↦ ranked_here p n q more (omega (arith, rank_in p n more))
          ]
      | inr less ↦
          let before = has_rank p n q (omega (arith, rank_out p n less)) in
          let same : slice_index (filter p (numbers_below (suc n))) q ≡ slice_index (filter p (numbers_below n)) q = ap (λ xs. slice_index xs q) (one_out p n less) in
          subst (HasRank p (suc n) q) (sym same) (record { below = omega (arith, before.below); passes = before.passes; ranked = before.ranked })
    ]

-- of two that pass one comes before the other
pub only_one : (p : ℕ → Bool) (n x y : ℕ) → rank p n ≤ 1 → x < n → y < n → p x ≡ true → p y ≡ true → x ≡ y
only_one p n x y few h l e f =
    let a = stands_at p n x h e in
    let b = stands_at p n y l f in
    let same : rank p x ≡ rank p y = omega (arith, a.within, b.within) in
    sym a.there ∙ ap (slice_index (filter p (numbers_below n))) same ∙ b.there

pub any_index : (p : ℕ → Bool) (xs : List ℕ) → list_any p xs ≡ true → (i : ℕ) × (i < length xs) × (p (slice_index xs i) ≡ true)
any_index p [] e = cc
any_index p (x ∷ xs) e =
    elim (cases_Bool (p x)) [
      | inl yes_x ↦ (0, omega arith, yes_x)
      | inr no_x ↦
          let rest = any_index p xs (sym (ap (λ b. b || list_any p xs) no_x) ∙ e) in
          (suc rest.0, omega (arith, rest.1), rest.2)
    ]

pub any_number : (p : ℕ → Bool) (n : ℕ) → list_any p (numbers_below n) ≡ true → (i : ℕ) × (i < n) × (p i ≡ true)
any_number p n e =
    let found = any_index p (numbers_below n) e in
    let low : found.0 < n = omega (arith, found.1, length-numbers n) in
    (found.0, low, sym (ap p (number_at n found.0 low)) ∙ found.2)
