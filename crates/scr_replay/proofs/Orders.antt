-- Lists of numbers in their order.
use Rattle.std.proofs.Common.{◌≡◌, ℕ, ◌<◌, Bool, true, false, List, length, get_or, refl, ap, ◌∙◌, zero-add, bytes_eq}
use Rattle.std.proofs.lemmas.List.{map-id}
use Rattle.std.proofs.lemmas.List.FromFn.{fill_by_all, length-range_with_len, get_or-range_with_len}
use Rattle.std.proofs.lemmas.Slice.Eq.{bytes_eq-Decides}
use Rattle.scr_base.specs.Sets.{numbers_below}

-- the numbers below another, each at its place
pub in_order : (xs : List ℕ) (n : ℕ) → length xs ≡ n → ((k : ℕ) → k < n → get_or xs k 0 ≡ k) → bytes_eq xs (numbers_below n) ≡ true
in_order xs n long each = (bytes_eq-Decides xs (numbers_below n)).1 (fill_by_all (λ k. k) xs n 0 long each ∙ map-id (numbers_below n))

pub unlike : (xs ys : List ℕ) → (xs ≡ ys → ⊥) → bytes_eq xs ys ≡ false
unlike xs ys differ = by_test (bytes_eq xs ys) refl
  where
    by_test : (t : Bool) → bytes_eq xs ys ≡ t → bytes_eq xs ys ≡ false
    by_test true e = absurd (differ ((bytes_eq-Decides xs ys).0 e))
    by_test false e = e

-- another length
pub too_many : (xs : List ℕ) (n : ℕ) → (length xs ≡ n → ⊥) → bytes_eq xs (numbers_below n) ≡ false
too_many xs n long = unlike xs (numbers_below n) (λ e. long (ap (length {A = ℕ}) e ∙ length-range_with_len 0 n))

-- another number at a place
pub out_of_order : (xs : List ℕ) (n i : ℕ) → i < n → (get_or xs i 0 ≡ i → ⊥) → bytes_eq xs (numbers_below n) ≡ false
out_of_order xs n i within differ =
    unlike xs (numbers_below n) (λ e. differ (ap (λ (ys : List ℕ). get_or ys i 0) e ∙ get_or-range_with_len 0 n i 0 within ∙ zero-add i))
