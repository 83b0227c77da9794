-- The nodes of a group: the group's number, and one more round of groups for each further node.
use Rattle.std.proofs.Common.{◌≡◌, ◌≢◌, ℕ, zero, suc, ◌+◌, ◌-◌, ◌*◌, ◌/◌, ◌%◌, ◌<◌, ◌≤◌, ◌==◌, Bool, true, false, cond, List, [], ◌∷◌, ◌++◌, length, take, get_or, slice_index, refl, subst, not, ◌&&◌, ◌||◌, ap₂, sym, ap, ◌∙◌, arith, inl, inr}
use Rattle.std.specs.List.{filter, All, list_all, list_any}
use Rattle.std.proofs.Math.Nat.{div-add-mod'}
use Rattle.std.proofs.Math.Bool.{and-false}
use Rattle.std.proofs.lemmas.Bool.{cases_Bool, cases_lt, cases_eq, eq-eqb, ne_eqb}
use Rattle.std.proofs.lemmas.Nat.{mod-mul-add, mod_below, le-div}
use Rattle.std.proofs.lemmas.List.{take_all, append-nil, length-append, get_or-append-add, get_or_append_left}
use Rattle.std.proofs.lemmas.List.Elements.{All-filter, All-from_get_or}
use Rattle.std.proofs.lemmas.List.Folds.{list_all_at, list_any_at, list_any_none}
use Rattle.std.proofs.lemmas.List.FromFn.{length-range_with_len}
use Rattle.scr_base.specs.declared.shape.Scheme.TheVariants.{Partner}
use Rattle.scr_base.specs.Sets.{numbers_below, is_among, lost_members, bears_members}
use Rattle.scr_base.proofs.Chosen.{number_at, chosen_more}
use Rattle.process_sets.specs.Group.{members_of, is_lost, spares_neighbours}

-- the test of a group
abbrev pub in_group : ℕ → ℕ → ℕ → Bool
in_group g r i = i % g == r

-- the numbers of a group among the first i numbers below n
abbrev pub group_below : ℕ → ℕ → ℕ → ℕ → List ℕ
group_below n g r i = filter (in_group g r) (take i (numbers_below n))

-- what the numbers below q * g + m have of a group
pub record Spread (g r q m : ℕ) (xs : List ℕ) : Type 0 where
  pub above : r < m → length xs ≡ q + 1
  pub below : m ≤ r → length xs ≡ q
  pub at : (k : ℕ) → k < length xs → slice_index xs k ≡ r + k * g

one_more : (g r q m i : ℕ) (xs : List ℕ) → i ≡ q * g + m → m ≡ r → Spread g r q m xs → Spread g r q (m + 1) (xs ++ i ∷ [])
one_more g r q m i xs e same s =
    let size : length xs ≡ q = s.below (omega arith) in
    let longer : length (xs ++ i ∷ []) ≡ length xs + 1 = length-append xs (i ∷ []) in
    record {
      above = λ h. omega (arith, longer, size);
      below = λ h. absurd (omega arith);
      at = λ k h.
          elim (cases_lt k (length xs)) [
            | inl low ↦ get_or_append_left xs (i ∷ []) 0 k low ∙ s.at k low
            | inr high ↦
                let last : k ≡ length xs + 0 = omega (arith, longer) in
                let there : slice_index (xs ++ i ∷ []) (length xs + 0) ≡ i = get_or-append-add xs (i ∷ []) 0 0 in
                let k_is : k ≡ q = omega (arith, size) in
                ap (slice_index (xs ++ i ∷ [])) last ∙ there ∙ e ∙ ap (λ t. t * g + m) (sym k_is) ∙ omega (arith, same)
          ];
    }

not_more : (g r q m : ℕ) (xs : List ℕ) → m ≢ r → Spread g r q m xs → Spread g r q (m + 1) xs
not_more g r q m xs ne s = record {
  above = λ h. s.above (omega arith);
  below = λ h. s.below (omega arith);
  at = s.at;
}

next_round : (g r q : ℕ) (xs : List ℕ) → r < g → Spread g r q g xs → Spread g r (suc q) 0 xs
next_round g r q xs h s = record {
  above = λ l. absurd (omega arith);
  below = λ l. omega (arith, s.above h);
  at = s.at;
}

spread_step : (n g r q m i : ℕ) → i ≡ q * g + m → i < n → m < g → Spread g r q m (group_below n g r i) → Spread g r q (m + 1) (group_below n g r (i + 1))
spread_step n g r q m i e h low s =
    let rest : i % g ≡ m = ap (λ t. t % g) e ∙ mod-mul-add q g m low in
    elim (cases_eq m r) [
      | inl same ↦
          let passes : in_group g r i ≡ true = eq-eqb (i % g) r (rest ∙ same) in
          let more : group_below n g r (i + 1) ≡ group_below n g r i ++ i ∷ [] =
          chosen_more (in_group g r) n i h ∙ ap (λ b. group_below n g r i ++ cond b (i ∷ []) []) passes in
          subst (Spread g r q (m + 1)) (sym more) (one_more g r q m i (group_below n g r i) e same s)
      | inr other ↦
          let fails : in_group g r i ≡ false = ne_eqb (i % g) r (λ f. other (sym rest ∙ f)) in
          let more : group_below n g r (i + 1) ≡ group_below n g r i =
          chosen_more (in_group g r) n i h ∙ ap (λ b. group_below n g r i ++ cond b (i ∷ []) []) fails ∙ append-nil (group_below n g r i) in
          subst (Spread g r q (m + 1)) (sym more) (not_more g r q m (group_below n g r i) other s)
    ]

restated : (n g r q m i m' i' : ℕ) → m ≡ m' → i ≡ i' → Spread g r q m (group_below n g r i) → Spread g r q m' (group_below n g r i')
restated n g r q m i m' i' e f s = subst (λ t. Spread g r q m' (group_below n g r t)) f (subst (λ t. Spread g r q t (group_below n g r i)) e s)

pub spread : (n g r i q m : ℕ) → i ≡ q * g + m → i ≤ n → r < g → m < g → Spread g r q m (group_below n g r i)
spread n g r zero zero zero e h low small = record { above = λ l. absurd (omega arith); below = λ l. refl; at = λ k l. absurd (omega arith) }
spread n g r zero zero (suc m) e h low small = absurd (omega arith)
spread n g r zero (suc q) m e h low small = absurd (omega arith)
spread n g r (suc i) zero zero e h low small = absurd (omega arith)
spread n g r (suc i) q (suc m) e h low small =
    let before : i ≡ q * g + m = omega arith in
    restated n g r q (m + 1) (i + 1) (suc m) (suc i) (omega arith) (omega arith)
    (spread_step n g r q m i before (omega arith) (omega arith) (spread n g r i q m before (omega arith) low (omega arith)))
spread n g r (suc i) (suc q) zero e h low small =
    let before : i ≡ q * g + (g - 1) = omega arith in
    let top : g - 1 + 1 ≡ g = omega arith in
    let last : g - 1 < g = omega arith in
    next_round g r q (group_below n g r (suc i)) low
    (restated n g r q (g - 1 + 1) (i + 1) g (suc i) top (omega arith)
    (spread_step n g r q (g - 1) i before (omega arith) last (spread n g r i q (g - 1) before (omega arith) low last)))

-- the members of a group, by its number
pub group_members : (n g r q m : ℕ) → n ≡ q * g + m → r < g → m < g → Spread g r q m (filter (in_group g r) (numbers_below n))
group_members n g r q m e low small =
    subst (λ xs. Spread g r q m (filter (in_group g r) xs)) (take_all n (numbers_below n) (omega (arith, length-range_with_len 0 n)))
    (spread n g r n q m e (omega arith) low small)

pub members_spread : (n g r : ℕ) → r < g → Spread g r (n / g) (n % g) (members_of n g r)
members_spread n g r h = group_members n g r (n / g) (n % g) (sym (div-add-mod' n g)) h (mod_below n g (omega arith))

pub member_below : (n g r k : ℕ) → k < length (members_of n g r) → slice_index (members_of n g r) k < n
member_below n g r k h =
    let all : All (λ x. x < n) (numbers_below n) =
    All-from_get_or (λ x. x < n) (numbers_below n) 0 (λ i l. let e = length-range_with_len 0 n in rw (number_at n i (omega (arith, e))) (omega (arith, e))) in
    All-filter (in_group g r) (λ x. x < n) (numbers_below n) all k 0 h

-- a member's node is below 16, and so no sum overflows
pub node_fits : (n g r k : ℕ) → n ≤ 16 → r < g → k < length (members_of n g r) → r + k * g < 16
node_fits n g r k few h l = omega (arith, (members_spread n g r h).at k l, member_below n g r k l)

pub place_within : (n g i : ℕ) → 0 < g → i < n → i / g < length (members_of n g (i % g))
place_within n g i some h =
    let r : ℕ = i % g in
    let low : r < g = mod_below i g some in
    let s : Spread g r (n / g) (n % g) (members_of n g r) = members_spread n g r low in
    let own : i / g * g + r ≡ i = div-add-mod' i g in
    let up : i / g ≤ n / g = le-div (i / g) n g some (omega (arith, own)) in
    let all : n / g * g + n % g ≡ n = div-add-mod' n g in
    elim (cases_lt r (n % g)) [
      | inl more ↦ omega (arith, s.above more)
      | inr same ↦
          elim (cases_eq (i / g) (n / g)) [
            | inl e ↦ let f : i / g * g ≡ n / g * g = ap (λ t. t * g) e in absurd (omega arith)
            | inr ne ↦ omega (arith, s.below same)
          ]
    ]

pub place_there : (n g i : ℕ) → 0 < g → i < n → slice_index (members_of n g (i % g)) (i / g) ≡ i
place_there n g i some h =
    let own : i / g * g + i % g ≡ i = div-add-mod' i g in
    (members_spread n g (i % g) (mod_below i g some)).at (i / g) (place_within n g i some h) ∙ omega arith

-- ---- tests of all numbers below n
all_at : (p : ℕ → Bool) (xs : List ℕ) → ((k : ℕ) → k < length xs → p (get_or xs k 0) ≡ true) → list_all p xs ≡ true
all_at p [] h = refl
all_at p (x ∷ xs) h = ap₂ (λ a b. a && b) (h 0 (omega arith)) (all_at p xs (λ k l. h (suc k) (omega arith)))

pub all_numbers : (p : ℕ → Bool) (n : ℕ) → ((i : ℕ) → i < n → p i ≡ true) → list_all p (numbers_below n) ≡ true
all_numbers p n h =
    all_at p (numbers_below n) (λ k l. let e = length-range_with_len 0 n in let low : k < n = omega (arith, e) in ap p (number_at n k low) ∙ h k low)

pub not_all_numbers : (p : ℕ → Bool) (n i : ℕ) → i < n → p i ≡ false → list_all p (numbers_below n) ≡ false
not_all_numbers p n i h e =
    list_all_at p (numbers_below n) i 0 (let l = length-range_with_len 0 n in omega (arith, l)) (ap p (number_at n i h) ∙ e)

all_same : (p q : ℕ → Bool) (xs : List ℕ) → ((k : ℕ) → k < length xs → p (get_or xs k 0) ≡ q (get_or xs k 0)) → list_all p xs ≡ list_all q xs
all_same p q [] h = refl
all_same p q (x ∷ xs) h = ap₂ (λ a b. a && b) (h 0 (omega arith)) (all_same p q xs (λ k l. h (suc k) (omega arith)))

any-filter : (p q : ℕ → Bool) (xs : List ℕ) → list_any q (filter p xs) ≡ list_any (λ x. p x && q x) xs
any-filter p q [] = refl
any-filter p q (x ∷ xs) =
    elim (p x) as (λ b. list_any q (cond b (x ∷ filter p xs) (filter p xs)) ≡ ((b && q x) || list_any (λ x. p x && q x) xs)) [
      | true ↦ ap (λ t. q x || t) (any-filter p q xs)
      | false ↦ any-filter p q xs
    ]

pub among_chosen : (p : ℕ → Bool) (n i : ℕ) → i < n → is_among i (filter p (numbers_below n)) ≡ p i
among_chosen p n i h =
    any-filter p (λ m. m == i) (numbers_below n)
    ∙ elim (cases_Bool (p i)) [
      | inl passes ↦
          list_any_at (λ m. p m && (m == i)) (numbers_below n) i 0 (let l = length-range_with_len 0 n in omega (arith, l))
          (ap (λ m. p m && (m == i)) (number_at n i h) ∙ ap₂ (λ a b. a && b) passes (eq-eqb i i refl)) ∙ sym passes
      | inr fails ↦
          list_any_none (λ m. p m && (m == i)) (numbers_below n)
          (All-from_get_or (λ m. (p m && (m == i)) ≡ false) (numbers_below n) 0 (λ k l.
          let x : ℕ = get_or (numbers_below n) k 0 in
          elim (cases_eq x i) [
            | inl e ↦ ap (λ a. a && (x == i)) (ap p e ∙ fails)
            | inr ne ↦ ap (λ b. p x && b) (ne_eqb x i ne) ∙ and-false (p x)
          ])) ∙ sym fails
    ]

-- the loss is borne where no member and its next are lost
pub neighbours : (members lost : List ℕ) → bears_members Partner (length members) (lost_members members lost) ≡ spares_neighbours members lost
neighbours members lost =
    all_same (λ i. not (is_among i (lost_members members lost) && is_among ((i + 1) % length members) (lost_members members lost)))
    (λ k. not (is_lost members lost k && is_lost members lost ((k + 1) % length members))) (numbers_below (length members))
    (λ k l.
    let n : ℕ = length members in
    let e = length-range_with_len 0 n in
    let low : k < n = omega (arith, e) in
    let own : get_or (numbers_below n) k 0 ≡ k = number_at n k low in
    let first = among_chosen (is_lost members lost) n k low in
    let second = among_chosen (is_lost members lost) n ((k + 1) % n) (mod_below (k + 1) n (omega arith)) in
    rw own (ap₂ (λ a b. not (a && b)) first second))
