-- The neighbour's copy is the stream that is lost.
use Rattle.std.proofs.Common.{◌≡◌, ℕ, ◌+◌, ◌-◌, ◌%◌, ◌<◌, List, [], length, slice_index_or, Option, Some, None, IsNone, IfSome, MatchOption, refl, sym, ap, ◌∙◌, arith, inl, inr}
use Rattle.std.proofs.Math.Nat.{mod-eq_of_lt, add-mod_right}
use Rattle.std.proofs.lemmas.Bool.{cases_lt}
use Rattle.std.proofs.lemmas.List.{ext_get_or}
use Rattle.std.proofs.lemmas.Nat.{mod_below}
use Rattle.partner_copy.specs.declared.Held.{Held}
use Rattle.partner_copy.specs.Partner.{share_of, IsMemberOf, AreMembersOf, AreBothLost, IsStreamOf}

-- the member before the next is the member itself
before_next : (n i : ℕ) → i < n → ((i + 1) % n + n - 1) % n ≡ i
before_next n i h =
    elim (cases_lt (i + 1) n) [
      | inl low ↦
          let e : (i + 1) % n ≡ i + 1 = mod-eq_of_lt low in
          let f : (i + 1) % n + n - 1 ≡ i + n = omega (arith, e) in
          ap (λ t. t % n) f ∙ add-mod_right i n ∙ mod-eq_of_lt h
      | inr high ↦
          let top : i + 1 ≡ 0 + n = omega arith in
          let below : 0 < n = omega arith in
          let zero : 0 % n ≡ 0 = mod-eq_of_lt below in
          let e : (i + 1) % n ≡ 0 = ap (λ t. t % n) top ∙ add-mod_right 0 n ∙ zero in
          let f : (i + 1) % n + n - 1 ≡ i = omega (arith, e) in
          ap (λ t. t % n) f ∙ mod-eq_of_lt h
    ]

-- the stream that a member or the next holds is the member's own
pub stream_from : (streams : List (List ℕ)) (n i : ℕ) (own next : Option Held) (stream : List ℕ) → n ≡ length streams → i < n
    → IfSome own (IsMemberOf streams i) → IfSome next (IsMemberOf streams ((i + 1) % n)) → ¬ (IsNone own × IsNone next)
    → MatchOption own (IfSome next (λ held. stream ≡ held.share)) (λ held. stream ≡ held.stream) → stream ≡ slice_index_or streams i []
stream_from streams n i (Some held) next stream count h p q borne e = e ∙ p.0
stream_from streams n i None (Some held) stream count h p q borne e =
    e ∙ q.1
    ∙ ap (λ m. slice_index_or streams (((i + 1) % n + m - 1) % m) []) (sym count)
    ∙ ap (λ t. slice_index_or streams t []) (before_next n i h)
stream_from streams n i None None stream count h p q borne e = absurd (borne (refl, refl))

pub originals : (streams answer : List (List ℕ)) (members : List (Option Held)) → AreMembersOf streams members → length answer ≡ length members
    → ((i : ℕ) → i < length members → ¬ AreBothLost members i)
    → ((i : ℕ) → i < length members → IsStreamOf members i (slice_index_or answer i [])) → answer ≡ streams
originals streams answer members m count borne each =
    ext_get_or [] answer streams (count ∙ m.count)
    (λ i h.
    let n : ℕ = length members in
    let low : i < n = omega (arith, count) in
    let next : (i + 1) % n < n = mod_below (i + 1) n (omega arith) in
    stream_from streams n i (slice_index_or members i None) (slice_index_or members ((i + 1) % n) None) (slice_index_or answer i []) m.count low
    (m.each i low) (m.each ((i + 1) % n) next) (borne i low) (each i low))
