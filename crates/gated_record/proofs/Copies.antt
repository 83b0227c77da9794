-- The values of a pair's copies, and what a stop leaves of them.
use Rattle.std.proofs.Common.{◌≡◌, ◌≢◌, ◌⊎◌, inl, inr, ◌<◌, ◌≤◌, ◌+◌, ◌%◌, ℕ, zero, suc, Bool, true, false, List, [], ◌∷◌, length, set, take, drop, Option, None, Some, refl, sym, ◌∙◌, ap, subst, arith}
use Rattle.std.specs.Prelude.{◌==◌, ◌&&◌, if◌then◌else◌, nat_le, nat_lt, slice_index, option_and_then, is_some}
use Rattle.std.specs.Int.{from_be_bytes, w64}
use Rattle.std.proofs.lemmas.Bool.{cases_eq, eqb-true, ne_eqb, ltb-true, ltb-false, lt-ltb}
use Rattle.std.proofs.lemmas.Bool.Decides.{eqb_tells}
use Rattle.std.proofs.lemmas.List.{get_or-set_same, get_or-set_other, get_or_past, drop-set-lt, length-set}
use Rattle.node_device.specs.File.{File, MayLeave, MayHold, IsByteAfter, Torn, bytes_of, byte_at}
use Rattle.node_device.specs.Outcomes.{true_or_false}
use Rattle.gated_record.specs.Record.{IsOpen, is_open, open_gate_byte}
use Rattle.gated_record.specs.Loads.{told_len}
use Rattle.gated_record.specs.Pair.{standing_body, version_in, belongs, value_of, value_in, newer}
use Rattle.gated_record.specs.PairStages.{value_by, IsBelow}
use Rattle.gated_record.specs.declared.pair.PairValue.{PairValue}

-- ## one copy

abbrev standing_of : ℕ → List ℕ → ℕ → List ℕ → Option (List ℕ)
standing_of gate back len behind = if (gate == open_gate_byte) && nat_le (16 + from_be_bytes w64 (take 8 back)) len then Some (take (from_be_bytes w64 (take 8 back)) behind) else None

-- files that are alike but for gates behind the first have one value
pub same_value : (copy : ℕ) (b c : List ℕ) → slice_index c 0 ≡ slice_index b 0 → drop 8 c ≡ drop 8 b → length c ≡ length b → drop 16 c ≡ drop 16 b → value_in copy (Some c) ≡ value_in copy (Some b)
same_value copy b c first back len behind = ap (λ (o : Option (List ℕ)). option_and_then (value_of copy) o) (
    ap (λ (x : ℕ). standing_of x (drop 8 c) (length c) (drop 16 c)) first ∙ ap (λ (x : List ℕ). standing_of (slice_index b 0) x (length c) (drop 16 c)) back
    ∙ ap (λ (x : ℕ). standing_of (slice_index b 0) (drop 8 b) x (drop 16 c)) len ∙ ap (λ (x : List ℕ). standing_of (slice_index b 0) (drop 8 b) (length b) x) behind
    )

pub other_gate_value : (copy k w : ℕ) (c : List ℕ) → 0 < k → k < 8 → value_in copy (Some (set c k w)) ≡ value_in copy (Some c)
other_gate_value copy k w c above lt = same_value copy c (set c k w) (get_or-set_other c k 0 w 0 (let ne : 0 ≢ k = omega arith in ne)) (drop-set-lt 8 c k w lt) (length-set c k w) (drop-set-lt 16 c k w (omega arith))

shut_standing : (t u : Bool) (x : List ℕ) → t ≡ false → (if t && u then Some x else None) ≡ None
shut_standing true u x is = absurd (cc is)
shut_standing false u x is = refl

-- a copy whose gate 0 is shut has no value
pub shut_value : (copy : ℕ) (o : Option (List ℕ)) → is_open o 0 ≡ false → value_in copy o ≡ None
shut_value copy o is = ap (λ (p : Option (List ℕ)). option_and_then (value_of copy) p) (shut_standing (is_open o 0) (nat_le (16 + told_len o) (length (bytes_of o))) (take (told_len o) (drop 16 (bytes_of o))) is)

pub open_is : (o : Option (List ℕ)) (k : ℕ) → is_open o k ≡ true → IsOpen o k
open_is o k = eqb-true (byte_at o k) open_gate_byte

pub not_open_is : (o : Option (List ℕ)) (k : ℕ) → ¬ IsOpen o k → is_open o k ≡ false
not_open_is o k = ne_eqb (byte_at o k) open_gate_byte

-- a byte written where it stands changes nothing
pub set_back : (c : List ℕ) (k w : ℕ) → slice_index c k ≡ w → set c k w ≡ c
set_back [] k w is = refl
set_back (x ∷ c) zero w is = ap (λ (y : ℕ). y ∷ c) (sym is)
set_back (x ∷ c) (suc k) w is = ap (λ (l : List ℕ). x ∷ l) (set_back c k w is)

-- Before a byte was written, done or refused, a stop might have left this with the byte as it read then.
pub before_torn : (k : ℕ) (f g : File) (c : List ℕ) → f.now ≡ Some (bytes_of f.now) → k < length (bytes_of f.now) → MayLeave f f.now → Torn k 1 f g → MayHold g c → MayHold f (set c k (byte_at f.now k))
before_torn k f g c is lt may torn held =
    let w = byte_at f.now k in
    let held_now : MayHold f (bytes_of f.now) = subst (λ (o : Option (List ℕ)). MayLeave f o) is may in
    let fluid : g.fluid ≡ true → f.fluid ≡ true = λ h. elim (torn.fluid h) [ inl before ↦ before | inr none ↦ absurd (cc (none, is)) ] in
    let same_stable : length (bytes_of g.stable) ≡ length (bytes_of f.stable) = ap (λ (o : Option (List ℕ)). length (bytes_of o)) torn.stable in
    let len : length (set c k w) ≡ length c = length-set c k w in record {
      there = inr (ap is_some is);
      no_longer = omega (arith, held.no_longer, torn.greatest, held_now.no_longer, lt, len);
      no_shorter = elim held.no_shorter [ inl h ↦ inl (fluid h) | inr le ↦ inr (omega (arith, le, same_stable, len)) ];
      each = λ j. elim (cases_eq j k) [
        | inl same ↦ subst (λ (i : ℕ). IsByteAfter f i (slice_index (set c k w) i)) (sym same) (elim (below_or_past k (length c)) [
          | inl inside ↦ subst (λ (b : ℕ). IsByteAfter f k b) (sym (get_or-set_same c k w 0 inside)) (held_now.each k)
          | inr past ↦ subst (λ (b : ℕ). IsByteAfter f k b) (sym (get_or_past (set c k w) k 0 (omega (arith, past, len)))) (elim held.no_shorter [
            | inl h ↦ inr (inr (fluid h, refl))
            | inr le ↦ inr (inl (sym (get_or_past (bytes_of f.stable) k 0 (omega (arith, le, past, same_stable)))))
          ])
        ])
        | inr ne ↦ subst (λ (b : ℕ). IsByteAfter f j b) (sym (get_or-set_other c k j w 0 (let other : j ≢ k = ne in other))) (elim (held.each j) [
          | inl touched ↦ elim (torn.touched j touched) [ inl before ↦ inl before | inr inside ↦ absurd (omega (arith, inside.0, inside.1, ne)) ]
          | inr rest ↦ elim rest [
            | inl stable ↦ inr (inl (stable ∙ ap (λ (o : Option (List ℕ)). byte_at o j) torn.stable))
            | inr zero_of ↦ inr (inr (fluid zero_of.0, zero_of.1))
          ]
        ])
      ];
    }
  where
    below_or_past : (k n : ℕ) → (k < n) ⊎ (n ≤ k)
    below_or_past k n = grind arith

-- After an open gate is closed, done or refused, what a stop leaves has a value that it might have had before, or none.
pub closed_value : (copy k : ℕ) (f g : File) (P : Option PairValue → Type 0) → k < 8 → f.now ≡ Some (bytes_of f.now) → k < length (bytes_of f.now) → MayLeave f f.now → IsOpen f.now k → Torn k 1 f g
    → P None → ((o : Option (List ℕ)) → MayLeave f o → P (value_in copy o)) → (o : Option (List ℕ)) → MayLeave g o → P (value_in copy o)
closed_value copy k f g P lt is inside may open_now torn none before None left = none
closed_value copy k f g P lt is inside may open_now torn none before (Some c) left =
    let old : P (value_in copy (Some (set c k (byte_at f.now k)))) = before (Some (set c k (byte_at f.now k))) (before_torn k f g c is inside may torn left) in
    elim (eqb_tells (slice_index c 0) open_gate_byte) [
      | inr not ↦ subst P (sym (shut_value copy (Some c) not.0)) none
      | inl open_c ↦ elim (cases_eq k 0) [
        | inl first ↦
            let at : slice_index c k ≡ byte_at f.now k = ap (λ (i : ℕ). slice_index c i) first ∙ open_c.1 ∙ sym open_now in
            subst (λ (l : List ℕ). P (value_in copy (Some l))) (set_back c k (byte_at f.now k) at) old
        | inr later ↦ subst P (other_gate_value copy k (byte_at f.now k) c (omega (arith, later)) lt) old
      ]
    ]

-- ## both copies

pub newer_none : (a : Option PairValue) → newer a None ≡ a
newer_none None = refl
newer_none (Some a) = refl

pub by_none : (copy : ℕ) (b : Option PairValue) → value_by copy None b ≡ b
by_none zero b = refl
by_none (suc copy) b = newer_none b

one_of : (t : Bool) (a b : PairValue) → ((if t then Some b else Some a) ≡ Some a) ⊎ ((if t then Some b else Some a) ≡ Some b)
one_of true a b = inr refl
one_of false a b = inl refl

newer_one : (a b : Option PairValue) → (newer a b ≡ a) ⊎ (newer a b ≡ b)
newer_one None b = inr refl
newer_one (Some a) None = inl refl
newer_one (Some a) (Some b) = one_of (nat_lt a.version b.version) a b

pub by_one : (copy : ℕ) (a b : Option PairValue) → (value_by copy a b ≡ a) ⊎ (value_by copy a b ≡ b)
by_one zero a b = newer_one a b
by_one (suc copy) a b = elim (newer_one b a) [ inl is ↦ inr is | inr is ↦ inl is ]

pub below_newer : (copy : ℕ) (a old : Option PairValue) → IsBelow a old → value_by copy a old ≡ old
below_newer copy None old below = by_none copy old
below_newer copy (Some a) None below = absurd below
below_newer zero (Some a) (Some b) below = ap (λ (t : Bool). if t then Some b else Some a) (lt-ltb a.version b.version below)
below_newer (suc copy) (Some a) (Some b) below = ap (λ (t : Bool). if t then Some a else Some b) (not_above (eqb_lt b.version a.version) below)
  where
    eqb_lt : (x y : ℕ) → ((nat_lt x y ≡ true) × (x < y)) ⊎ ((nat_lt x y ≡ false) × (y ≤ x))
    eqb_lt x y = elim (true_or_false (nat_lt x y)) [ inl h ↦ inl (h, ltb-true x y h) | inr h ↦ inr (h, ltb-false x y h) ]

    not_above : ((nat_lt b.version a.version ≡ true) × (b.version < a.version)) ⊎ ((nat_lt b.version a.version ≡ false) × (a.version ≤ b.version)) → a.version < b.version → nat_lt b.version a.version ≡ false
    not_above (inl h) lt = absurd (omega (arith, h.1, lt))
    not_above (inr h) lt = h.0

-- a value belongs in its copy
parts_and : (a b : Bool) → (a && b) ≡ true → (a ≡ true) × (b ≡ true)
parts_and true true is = (refl, refl)
parts_and true false is = absurd (cc is)
parts_and false b is = absurd (cc is)

if_some : (t : Bool) (x y : PairValue) → (if t then Some x else None) ≡ Some y → (t ≡ true) × (x ≡ y)
if_some true x y is = (refl, cc is)
if_some false x y is = absurd (cc is)

of_body : (copy : ℕ) (body : Option (List ℕ)) (value : PairValue) → option_and_then (value_of copy) body ≡ Some value → value.version % 2 ≡ copy
of_body copy None value is = absurd (cc is)
of_body copy (Some body) value is =
    let found = if_some (belongs copy body) (record { version = version_in body; body = drop 4 body }) value is in
    let last = parts_and (nat_le 4 (length body) && nat_le 1 (version_in body)) (version_in body % 2 == copy) (assoc (nat_le 4 (length body)) (nat_le 1 (version_in body)) (version_in body % 2 == copy) found.0) in
    ap (λ (v : PairValue). v.version % 2) (sym found.1) ∙ eqb-true (version_in body % 2) copy last.1
  where
    assoc : (a b c : Bool) → (a && b && c) ≡ true → ((a && b) && c) ≡ true
    assoc true b c is = is
    assoc false b c is = is

pub in_its_copy : (copy : ℕ) (o : Option (List ℕ)) (value : PairValue) → value_in copy o ≡ Some value → value.version % 2 ≡ copy
in_its_copy copy o value is = of_body copy (standing_body o) value is
