-- How far a member stands after the first with parity tells whether it has parity.
use Rattle.std.proofs.Common.{◌≡◌, ℕ, ◌+◌, ◌<◌, ◌≤◌, Bool, true, false, refl, arith, inl, inr}
use Rattle.std.specs.Bool.{nat_lt}
use Rattle.std.proofs.lemmas.Bool.{cases_Bool, cases_lt, lt-ltb, ltb-true}
use Rattle.member_shares.specs.Layout.{holds_parity}
use Rattle.member_shares.proofs.Places.{holds_true, holds_false}

same_answer : (a b : Bool) → (a ≡ true → b ≡ true) → (a ≡ false → b ≡ false) → b ≡ a
same_answer true b f g = f refl
same_answer false b f g = g refl

pub held_is : (n p s m ahead : ℕ) → s < n → m < n → p ≤ n → (s ≤ m → ahead + s ≡ m) → (m < s → ahead + s ≡ m + n)
    → nat_lt ahead p ≡ holds_parity n p s m
held_is n p s m ahead h l few near round =
    same_answer (holds_parity n p s m) (nat_lt ahead p)
    (λ e.
    lt-ltb ahead p
    (elim (holds_true n p s m h l few e) [
      | inl there ↦ omega (arith, there.0, near there.1)
      | inr there ↦ omega (arith, there.0, round there.1)
    ]))
    (λ e.
    let far = holds_false n p s m h l e in
    elim (cases_Bool (nat_lt ahead p)) [
      | inr no_lt ↦ no_lt
      | inl low ↦
          let below : ahead < p = ltb-true ahead p low in
          absurd
          (elim (cases_lt m s) [
            | inl under ↦ omega (arith, round under, far.1 under)
            | inr up ↦ omega (arith, near up, far.0 up)
          ])
    ])
