-- A pair on its way from an old value to a wanted one: each change, made or refused.
use Rattle.std.proofs.Common.{◌≡◌, ◌≢◌, inl, inr, ◌<◌, ◌≤◌, ◌+◌, ◌-◌, ◌%◌, ◌^◌, ℕ, zero, suc, Bool, true, false, List, [], ◌∷◌, length, set, take, drop, get_or, Option, None, Some, refl, sym, ◌∙◌, ap, subst, arith, length-append}
use Rattle.std.specs.Prelude.{◌==◌, ◌&&◌, if◌then◌else◌, nat_le}
use Rattle.std.specs.Int.{from_be_bytes, to_be_bytes, w32}
use Rattle.std.proofs.lemmas.Nat.{from_be_bytes-to_be_bytes_4}
use Rattle.std.proofs.lemmas.Bool.{eq-eqb, le-leb}
use Rattle.std.proofs.lemmas.List.{take_at, drop_at, get_or-take}
use Rattle.std.proofs.Math.Seq.{take-set-lt}
use Rattle.std.proofs.lemmas.Bool.Decides.{eqb_tells}
use Rattle.node_device.specs.File.{File, MayLeave, IsAtRest, bytes_of, byte_at}
use Rattle.node_device.specs.DeviceState.{DeviceState}
use Rattle.node_device.specs.Outcomes.{rest_leaves}
use Rattle.gated_record.specs.Record.{IsOpen, HasBody, HasShutGates, KeepsBody, is_open, open_gate_byte}
use Rattle.gated_record.specs.Loads.{told_len}
use Rattle.gated_record.specs.Pair.{value_of, value_in, version_in, belongs, copy_name, pair_body, copy_of}
use Rattle.gated_record.specs.PairStages.{PairLeaves, IsOldOrWanted, value_by, IsBelow, OtherStands, StandingHolds, open_gates, open_from}
use Rattle.gated_record.specs.declared.pair.PairValue.{PairValue}
use Rattle.gated_record.proofs.Plans.{none_open, first_shut}
use Rattle.gated_record.proofs.Copies.{shut_value, not_open_is, by_none, by_one, below_newer}

-- ## what a body says

abbrev made : ℕ → List ℕ → PairValue
made version body = record { version = version; body = body }

valued : (t : Bool) (v : ℕ) (b : List ℕ) (want : PairValue) → t ≡ true → v ≡ want.version → b ≡ want.body → (if t then Some (record { version = v; body = b }) else None) ≡ Some want
valued true v b want is version body = ap (λ (x : ℕ). Some (made x b)) version ∙ ap (λ (x : List ℕ). Some (made want.version x)) body
valued false v b want is version body = absurd (cc is)

all_three : (a b c : Bool) → a ≡ true → b ≡ true → c ≡ true → (a && b && c) ≡ true
all_three true true true p q r = refl
all_three false b c p q r = absurd (cc p)
all_three true false c p q r = absurd (cc q)
all_three true true false p q r = absurd (cc r)

-- a record of a value's body, with its gate open, has the value
module _ (want : PairValue) (above : 1 ≤ want.version) (fits : want.version < 2 ^ 32) where
  version_is : version_in (pair_body want) ≡ want.version
  version_is = ap (λ (l : List ℕ). from_be_bytes w32 l) (take_at (to_be_bytes w32 want.version) want.body 4 refl) ∙ from_be_bytes-to_be_bytes_4 want.version fits

  of_wanted : value_of (copy_of want) (pair_body want) ≡ Some want
  of_wanted = valued (belongs (copy_of want) (pair_body want)) (version_in (pair_body want)) (drop 4 (pair_body want)) want
      (all_three (nat_le 4 (length (pair_body want))) (nat_le 1 (version_in (pair_body want))) (version_in (pair_body want) % 2 == copy_of want)
      (le-leb 4 (length (pair_body want)) (omega (arith, length-append (to_be_bytes w32 want.version) want.body)))
      (le-leb 1 (version_in (pair_body want)) (omega (arith, version_is, above)))
      (eq-eqb (version_in (pair_body want) % 2) (copy_of want) (ap (λ (v : ℕ). v % 2) version_is)))
      version_is (drop_at (to_be_bytes w32 want.version) want.body 4 refl)

  chosen : (t u : Bool) (x y : List ℕ) → t ≡ true → u ≡ true → x ≡ y → (if t && u then Some x else None) ≡ Some y
  chosen true true x y p q is = ap Some is
  chosen false u x y p q is = absurd (cc p)
  chosen true false x y p q is = absurd (cc q)

  pub body_value : (o : Option (List ℕ)) → HasBody o (pair_body want) → IsOpen o 0 → value_in (copy_of want) o ≡ Some want
  body_value o has opens = ap (λ (p : Option (List ℕ)). option_and_then_value p) (chosen (is_open o 0) (nat_le (16 + told_len o) (length (bytes_of o))) (take (told_len o) (drop 16 (bytes_of o))) (pair_body want)
      (eq-eqb (byte_at o 0) open_gate_byte opens) (le-leb (16 + told_len o) (length (bytes_of o)) (omega (arith, has.whole, has.len))) (ap (λ (n : ℕ). take n (drop 16 (bytes_of o))) has.len ∙ has.same)) ∙ of_wanted
    where
      option_and_then_value : Option (List ℕ) → Option PairValue
      option_and_then_value None = None
      option_and_then_value (Some body) = value_of (copy_of want) body

-- ## one file

-- what a sync leaves of a file, done or refused
pub record Synced (f g : File) : Type 0 where
  pub now : g.now ≡ f.now
  pub len : g.len ≡ f.len
  pub outcomes : (o : Option (List ℕ)) → MayLeave g o → MayLeave f o

-- what stands of the other copy is as it was
pub other_kept : (copy : ℕ) (old : Option PairValue) (gate : Bool) (f g : File) → Synced f g → OtherStands copy old gate f → OtherStands copy old gate g
other_kept copy old gate f g synced other = record {
  before = λ o may. other.before o (synced.outcomes o may);
  found = other.found ∙ ap (λ (o : Option (List ℕ)). is_open o 0) (sym synced.now);
}

-- the gates of a file at rest are shut where none of them reads as open
pub rest_is_shut : (f g : File) → Synced f g → IsAtRest g → [] ≡ open_gates f.now → HasShutGates g
rest_is_shut f g synced rest none = record {
  shut = λ o may gate lt opens.
      let at : byte_at f.now gate ≡ open_gate_byte = ap (λ (p : Option (List ℕ)). byte_at p gate) (sym (rest_leaves g o rest may ∙ synced.now)) ∙ opens in
      none_open 0 (take 8 (bytes_of f.now)) none gate (get_or-take 8 (bytes_of f.now) gate 0 lt ∙ at);
  untouched = λ gate lt. rest.untouched gate;
}

-- what stays of shut gates after a sync
pub shut_kept : (f g : File) → Synced f g → ((k : ℕ) → g.touched k ≡ true → f.touched k ≡ true) → HasShutGates f → HasShutGates g
shut_kept f g synced touched gates = record {
  shut = λ o may. gates.shut o (synced.outcomes o may);
  untouched = λ gate lt. not_touched (g.touched gate) (f.touched gate) (touched gate) (gates.untouched gate lt);
}
  where
    not_touched : (a b : Bool) → (a ≡ true → b ≡ true) → b ≡ false → a ≡ false
    not_touched true b to is = absurd (let e : b ≡ true = to refl in cc (e, is))
    not_touched false b to is = refl

pub shut_no_value : (copy : ℕ) (o : Option (List ℕ)) → byte_at o 0 ≢ open_gate_byte → value_in copy o ≡ None
shut_no_value copy o shut = shut_value copy o (not_open_is o 0 shut)

-- the file is told and long enough
pub record Told (f : File) (k : ℕ) : Type 0 where
  pub is : f.now ≡ Some (bytes_of f.now)
  pub inside : k < length (bytes_of f.now)
  pub may : MayLeave f f.now

-- the first open gate reads as open
pub first_is_open : (f : File) (k : ℕ) (gates : List ℕ) → k < 8 → k ∷ gates ≡ open_gates f.now → IsOpen f.now k
first_is_open f k gates lt are =
    let same : k ≡ k - 0 = omega arith in
    sym (get_or-take 8 (bytes_of f.now) k 0 lt) ∙ ap (λ (j : ℕ). get_or (take 8 (bytes_of f.now)) j 0) same ∙ (first_shut 0 (take 8 (bytes_of f.now)) k gates are).1

-- what is left to be closed after the first was
pub gates_left : (f g : File) (k : ℕ) (gates : List ℕ) → k < 8 → k ∷ gates ≡ open_gates f.now → g.now ≡ Some (set (bytes_of f.now) k 0) → gates ≡ open_gates g.now
gates_left f g k gates lt are now =
    let same : k - 0 ≡ k = omega arith in
    (first_shut 0 (take 8 (bytes_of f.now)) k gates are).2 ∙ ap (λ (j : ℕ). open_from 0 (set (take 8 (bytes_of f.now)) j 0)) same ∙ ap (λ (l : List ℕ). open_from 0 l) (sym (take-set-lt 8 (bytes_of f.now) k 0 lt)) ∙ ap open_gates (sym now)

-- ## both copies, from what is said of each

module _ (copy : ℕ) (old : Option PairValue) (want : PairValue) (f g : File) where
  pub below_either : ((o : Option (List ℕ)) → MayLeave f o → IsBelow (value_in copy o) old) → ((p : Option (List ℕ)) → MayLeave g p → value_in (1 - copy) p ≡ old) → (o p : Option (List ℕ)) → MayLeave f o → MayLeave g p → IsOldOrWanted old want (value_by copy (value_in copy o) (value_in (1 - copy) p))
  below_either below before o p left right = inl (ap (λ (b : Option PairValue). value_by copy (value_in copy o) b) (before p right) ∙ below_newer copy (value_in copy o) old (below o left))

  pub shut_either : HasShutGates f → ((p : Option (List ℕ)) → MayLeave g p → value_in (1 - copy) p ≡ old) → (o p : Option (List ℕ)) → MayLeave f o → MayLeave g p → IsOldOrWanted old want (value_by copy (value_in copy o) (value_in (1 - copy) p))
  shut_either gates before o p left right = inl (ap (λ (a : Option PairValue). value_by copy a (value_in (1 - copy) p)) (shut_no_value copy o (gates.shut o left 0 (omega arith))) ∙ by_none copy (value_in (1 - copy) p) ∙ before p right)

  pub body_either : 1 ≤ want.version → want.version < 2 ^ 32 → copy ≡ copy_of want → KeepsBody f (pair_body want) → ((p : Option (List ℕ)) → MayLeave g p → value_in (1 - copy) p ≡ old) → (o p : Option (List ℕ)) → MayLeave f o → MayLeave g p → IsOldOrWanted old want (value_by copy (value_in copy o) (value_in (1 - copy) p))
  body_either above fits is keeps before o p left right = elim (eqb_tells (byte_at o 0) open_gate_byte) [
    | inl opens ↦
        let wanted : value_in copy o ≡ Some want = subst (λ (c : ℕ). value_in c o ≡ Some want) (sym is) (body_value want above fits o (keeps o left) opens.1) in
        elim (by_one copy (value_in copy o) (value_in (1 - copy) p)) [ inl first ↦ inr (first ∙ wanted) | inr second ↦ inl (second ∙ before p right) ]
    | inr shut ↦ inl (ap (λ (a : Option PairValue). value_by copy a (value_in (1 - copy) p)) (shut_no_value copy o shut.1) ∙ by_none copy (value_in (1 - copy) p) ∙ before p right)
  ]

  pub standing_either : StandingHolds copy old want f g → (o p : Option (List ℕ)) → MayLeave f o → MayLeave g p → IsOldOrWanted old want (value_by copy (value_in copy o) (value_in (1 - copy) p))
  standing_either holds o p left right = subst (λ (a : Option PairValue). IsOldOrWanted old want (value_by copy a (value_in (1 - copy) p))) (sym (holds.stands o left)) (holds.either p right)

-- a pair by the wanted value's copy and the other one
pub leaves_by_copies : (stem : List ℕ) (copy : ℕ) (d : DeviceState) (P : Option PairValue → Type 0) → copy < 2
    → ((o p : Option (List ℕ)) → MayLeave (d.file (copy_name stem copy)) o → MayLeave (d.file (copy_name stem (1 - copy))) p → P (value_by copy (value_in copy o) (value_in (1 - copy) p))) → PairLeaves stem d P
leaves_by_copies stem zero d P lt each = λ o p left right. each o p left right
leaves_by_copies stem (suc zero) d P lt each = λ o p left right. each p o right left
leaves_by_copies stem (suc (suc n)) d P lt each = absurd (omega arith)

pub copies_by_leaves : (stem : List ℕ) (copy : ℕ) (d : DeviceState) (P : Option PairValue → Type 0) → copy < 2 → PairLeaves stem d P
    → (o p : Option (List ℕ)) → MayLeave (d.file (copy_name stem copy)) o → MayLeave (d.file (copy_name stem (1 - copy))) p → P (value_by copy (value_in copy o) (value_in (1 - copy) p))
copies_by_leaves stem zero d P lt leaves = λ o p left right. leaves o p left right
copies_by_leaves stem (suc zero) d P lt leaves = λ o p left right. leaves p o right left
copies_by_leaves stem (suc (suc n)) d P lt leaves = absurd (omega arith)
