-- What the test of a claim says.
use Rattle.std.proofs.Common.{◌≡◌, ℕ, ◌+◌, ◌<◌, ◌≤◌, ◌==◌, Bool, true, false, ◌&&◌, IsTrue, nat_le, nat_lt, List, [], length, slice_index_or, refl, sym, subst, ◌∙◌, arith, inl, inr}
use Rattle.std.specs.List.{list_all}
use Rattle.std.proofs.lemmas.Bool.{cases_Bool, leb-true, le-leb, ltb-true, eqb-true}
use Rattle.std.proofs.lemmas.List.Folds.{list_all_at}
use Rattle.scr_base.specs.declared.shape.Scheme.{Scheme}
use Rattle.scr_base.specs.declared.shape.Scheme.TheVariants.{Single, Partner, Xor, Rs}
use Rattle.member_shares.specs.Layout.{holds_parity}
use Rattle.member_shares.specs.Shares.{parity_count, IsSet}
use Rattle.member_shares.proofs.Places.{holds_some}
use Rattle.commit_core.specs.Claims.{input_length, have_one_length, fits_members, is_stripe_claim, is_claim}

pub both_of : (a b : Bool) → IsTrue (a && b) → IsTrue a × IsTrue b
both_of true true h = (refl, refl)
both_of true false h = absurd cc
both_of false b h = absurd cc

pub record IsStripeClaim (p stripe target count : ℕ) : Type 0 where
  pub some : 1 ≤ count
  pub few : count + p ≤ 16
  pub stripe_in : stripe < count + p
  pub target_in : target < count + p
  pub parity : holds_parity (count + p) p stripe target ≡ true

pub stripe_claim : (p stripe target count : ℕ) → IsTrue (is_stripe_claim p stripe target count) → IsStripeClaim p stripe target count
stripe_claim p stripe target count h =
    let n : ℕ = count + p in
    let d = both_of (nat_le 1 count && nat_le n 16 && nat_lt stripe n && nat_lt target n) (holds_parity n p stripe target) h in
    let c = both_of (nat_le 1 count && nat_le n 16 && nat_lt stripe n) (nat_lt target n) d.0 in
    let b = both_of (nat_le 1 count && nat_le n 16) (nat_lt stripe n) c.0 in
    let a = both_of (nat_le 1 count) (nat_le n 16) b.0 in
    record {
      some = leb-true 1 count a.0;
      few = leb-true n 16 a.1;
      stripe_in = ltb-true stripe n b.1;
      target_in = ltb-true target n c.1;
      parity = d.1;
    }

pub one_length : (inputs : List (List ℕ)) (i : ℕ) → IsTrue (have_one_length inputs) → i < length inputs → length (slice_index_or inputs i []) ≡ input_length inputs
one_length inputs i h l =
    elim (cases_Bool (length (slice_index_or inputs i []) == input_length inputs)) [
      | inl same ↦ eqb-true (length (slice_index_or inputs i [])) (input_length inputs) same
      | inr other ↦
          let none : list_all (λ input. length input == input_length inputs) inputs ≡ false =
          list_all_at (λ input. length input == input_length inputs) inputs i [] l other in
          absurd (let clash : true ≡ false = sym h ∙ none in cc)
    ]

-- a claim with parity is one of a stripe
pub record IsCoded (scheme : Scheme) (p stripe target : ℕ) (inputs : List (List ℕ)) : Type 0 where
  pub of_stripe : IsStripeClaim p stripe target (length inputs)
  pub one : IsTrue (have_one_length inputs)
  pub set : IsSet scheme (length inputs + p)

pub coded : (scheme : Scheme) (p stripe target : ℕ) (inputs : List (List ℕ)) → p ≡ parity_count scheme → 1 ≤ p → IsTrue (is_claim scheme stripe target inputs)
    → IsCoded scheme p stripe target inputs
coded Single p stripe target inputs ep some fits = absurd (omega arith)
coded Partner p stripe target inputs ep some fits = absurd (omega arith)
coded Xor p stripe target inputs ep some fits =
    let two = both_of (fits_members Xor stripe target (length inputs)) (have_one_length inputs) fits in
    let f : IsStripeClaim p stripe target (length inputs) = subst (λ t. IsStripeClaim t stripe target (length inputs)) (sym ep) (stripe_claim 1 stripe target (length inputs) two.0) in
    record {
      of_stripe = f;
      one = two.1;
      set = record { some = omega (arith, f.some); few = f.few; fits = le-leb 2 (length inputs + p) (omega (arith, f.some)) };
    }
coded (Rs shares) p stripe target inputs ep some fits =
    let two = both_of (fits_members (Rs shares) stripe target (length inputs)) (have_one_length inputs) fits in
    let f : IsStripeClaim p stripe target (length inputs) =
    subst (λ t. IsStripeClaim t stripe target (length inputs)) (sym ep) (stripe_claim shares stripe target (length inputs) two.0) in
    record {
      of_stripe = f;
      one = two.1;
      set = record { some = omega (arith, f.some); few = f.few; fits = le-leb (shares + 1) (length inputs + p) (omega (arith, f.some, ep)) };
    }

-- a claim of Reed-Solomon has some parity
pub some_shares : (shares stripe target : ℕ) (inputs : List (List ℕ)) → IsTrue (is_claim (Rs shares) stripe target inputs) → 1 ≤ shares
some_shares shares stripe target inputs fits =
    let two = both_of (fits_members (Rs shares) stripe target (length inputs)) (have_one_length inputs) fits in
    let f = stripe_claim shares stripe target (length inputs) two.0 in
    holds_some (length inputs + shares) shares stripe target f.stripe_in f.target_in (omega arith) f.parity
