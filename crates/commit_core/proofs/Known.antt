-- What the inputs tell of a stripe.
use Rattle.std.proofs.Common.{◌≡◌, ℕ, ◌+◌, ◌<◌, ◌≤◌, not, Bool, true, false, if◌then◌else◌, IsTrue, List, [], length, slice_index, slice_index_or, Option, Some, None, refl, sym, ap, subst, ◌∙◌, arith, inl, inr}
use Rattle.std.specs.Option.{IfSome}
use Rattle.std.proofs.lemmas.Bool.{cases_Bool}
use Rattle.std.proofs.lemmas.List.FromFn.{length-map-range_with_len, get_or-map-range_with_len}
use Rattle.scr_base.specs.declared.shape.Scheme.{Scheme}
use Rattle.member_shares.specs.Layout.{holds_parity}
use Rattle.member_shares.proofs.Ranks.{stands_at}
use Rattle.member_shares.proofs.Places.{data_holders}
use Rattle.redundancy_set.specs.Known.{IsKnownAt, IsKnown, IsCompleted}
use Rattle.redundancy_set.specs.Sums.{IsCodeSegment, has_data, data_byte}
use Rattle.commit_core.specs.Claims.{input_length, have_one_length}
use Rattle.commit_core.specs.Deposits.{input_place, known_at, known_of}
use Rattle.commit_core.proofs.ClaimFacts.{one_length}

pub at_parity : (n p s m : ℕ) (inputs : List (List ℕ)) → holds_parity n p s m ≡ true → known_at n p s inputs m ≡ None
at_parity n p s m inputs e = ap (λ t. if t then None else Some (slice_index_or inputs (input_place n p s m) [])) e

pub at_data : (n p s m : ℕ) (inputs : List (List ℕ)) → holds_parity n p s m ≡ false → known_at n p s inputs m ≡ Some (slice_index_or inputs (input_place n p s m) [])
at_data n p s m inputs e = ap (λ t. if t then None else Some (slice_index_or inputs (input_place n p s m) [])) e

-- each member that has data in the stripe has an input
pub place_within : (n p s m count : ℕ) → s < n → p ≤ n → m < n → count + p ≡ n → holds_parity n p s m ≡ false → input_place n p s m < count
place_within n p s m count h few l all e =
    let own = stands_at (λ t. not (holds_parity n p s t)) n m l (ap not e) in
    omega (arith, own.within, data_holders n p s h few)

-- the bytes of a member's input
abbrev pub input_byte : (n p s : ℕ) → List (List ℕ) → (m b : ℕ) → ℕ
input_byte n p s inputs m b = slice_index (slice_index_or inputs (input_place n p s m) []) b

pub known_is : (n p s : ℕ) (inputs : List (List ℕ)) → s < n → p ≤ n → length inputs + p ≡ n → IsTrue (have_one_length inputs)
    → IsKnown n (input_length inputs) (holds_parity n p s) (input_byte n p s inputs) (known_of n p s inputs)
known_is n p s inputs h few all one = record {
  count = length-map-range_with_len (known_at n p s inputs) 0 n;
  each = λ m l.
      let own : slice_index_or (known_of n p s inputs) m None ≡ known_at n p s inputs m =
      get_or-map-range_with_len (known_at n p s inputs) 0 n m m None l (omega arith) in
      subst (IsKnownAt (holds_parity n p s m) (input_length inputs) (input_byte n p s inputs m)) (sym own)
      (elim (cases_Bool (holds_parity n p s m)) [
        | inl held ↦
            subst (λ t. IsKnownAt t (input_length inputs) (input_byte n p s inputs m) (known_at n p s inputs m)) (sym held) (at_parity n p s m inputs held)
        | inr free ↦
            subst (λ t. IsKnownAt t (input_length inputs) (input_byte n p s inputs m) (known_at n p s inputs m)) (sym free)
            (subst (λ o. IsKnownAt false (input_length inputs) (input_byte n p s inputs m) o) (sym (at_data n p s m inputs free))
            (record {
              size = one_length inputs (input_place n p s m) one (place_within n p s m (length inputs) h few l all free);
              bytes = λ b low. refl;
            }))
      ]);
}

-- a column that has the bytes of what is known has those of the inputs
gives_when : (gap : Bool) (c b v : ℕ) (byte : ℕ → ℕ) (segment : Option (List ℕ)) → IsKnownAt gap c byte segment → gap ≡ false → b < c → IfSome segment (λ s. v ≡ slice_index s b)
    → v ≡ byte b
gives_when true c b v byte segment is free low h = cc
gives_when false c b v byte None is free low h = absurd is
gives_when false c b v byte (Some segment) is free low h = h ∙ is.bytes b low

is_free : (b : Bool) → not b ≡ true → b ≡ false
is_free true e = cc
is_free false e = refl

-- the segment that the inputs give the target completes the stripe at the target
pub completes : (scheme : Scheme) (n p s target c : ℕ) (inputs : List (List ℕ)) (segment : List ℕ) → s < n → p ≤ n → length inputs + p ≡ n → IsTrue (have_one_length inputs)
    → c ≡ input_length inputs → IsCodeSegment scheme n target c (has_data n p s) (data_byte n p s inputs) segment → IsCompleted scheme (known_of n p s inputs) target (input_length inputs) segment
completes scheme n p s target c inputs segment h few all one size g =
    let k = known_is n p s inputs h few all one in
    record {
      size = g.size ∙ size;
      value = λ b low bytes count right agree.
          g.value b (omega (arith, size)) bytes (count ∙ k.count) right
          (λ m l free.
          gives_when (holds_parity n p s m) (input_length inputs) b (slice_index bytes m) (input_byte n p s inputs m) (slice_index_or (known_of n p s inputs) m None) (k.each m l)
          (is_free (holds_parity n p s m) free) low (agree m (omega (arith, k.count))));
    }
