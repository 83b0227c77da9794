-- The gates that are open, and the changes that close them.
use Rattle.std.proofs.Common.{◌≡◌, ◌≢◌, inl, inr, ◌<◌, ◌≤◌, ◌+◌, ◌-◌, ℕ, zero, suc, Bool, true, false, List, [], ◌∷◌, ◌++◌, length, take, drop, set, get_or, refl, sym, ◌∙◌, ap, arith}
use Rattle.std.specs.Prelude.{◌==◌, if◌then◌else◌, All, min, unwrap_or, Option, None, Some}
use Rattle.std.specs.Option.{option_map}
use Rattle.std.proofs.lemmas.Bool.{ne_eqb, eq-eqb}
use Rattle.std.proofs.lemmas.Bool.Decides.{eqb_tells}
use Rattle.std.proofs.lemmas.Grind.{take_at_read}
use Rattle.std.proofs.lemmas.List.Elements.{All-cons}
use Rattle.std.proofs.lemmas.List.{length-take-le, length-take, ext_get_or, get_or-take}
use Rattle.scr_base.specs.declared.change.Change.{Change}
use Rattle.scr_base.specs.declared.change.Change.TheVariants.{Close}
use Rattle.node_device.specs.File.{bytes_of}
use Rattle.node_device.specs.DeviceState.{DeviceState, IsUnchanged}
use Rattle.gated_record.specs.Record.{open_gate_byte}
use Rattle.gated_record.specs.PairStages.{open_from, closings}

-- one gate more
pub gates_more : (k : ℕ) (bs : List ℕ) (b : ℕ) → open_from k (bs ++ b ∷ []) ≡ open_from k bs ++ (if b == open_gate_byte then (k + length bs) ∷ [] else [])
gates_more k [] b = more_of (b == open_gate_byte) k
  where
    more_of : (t : Bool) (k : ℕ) → (if t then k ∷ [] else []) ≡ (if t then (k + 0) ∷ [] else [])
    more_of true k = ap (λ (n : ℕ). n ∷ []) (omega arith)
    more_of false k = refl
gates_more k (x ∷ bs) b = first_of (x == open_gate_byte) (b == open_gate_byte) k (open_from (suc k) bs) (open_from (suc k) (bs ++ b ∷ [])) (length bs) (gates_more (suc k) bs b)
  where
    tail_of : (u : Bool) (k n : ℕ) → (if u then (suc k + n) ∷ [] else []) ≡ (if u then (k + suc n) ∷ [] else [])
    tail_of true k n = ap (λ (m : ℕ). m ∷ []) (omega arith)
    tail_of false k n = refl

    first_of : (t u : Bool) (k : ℕ) (before after : List ℕ) (n : ℕ) → after ≡ before ++ (if u then (suc k + n) ∷ [] else []) → (if t then k ∷ after else after) ≡ (if t then k ∷ before else before) ++ (if u then (k + suc n) ∷ [] else [])
    first_of true u k before after n is = ap (λ (l : List ℕ). k ∷ l) (is ∙ ap (λ (l : List ℕ). before ++ l) (tail_of u k n))
    first_of false u k before after n is = is ∙ ap (λ (l : List ℕ). before ++ l) (tail_of u k n)

pub closings-append : (name : List ℕ) (xs ys : List ℕ) → closings name (xs ++ ys) ≡ closings name xs ++ closings name ys
closings-append name [] ys = refl
closings-append name (x ∷ xs) ys = ap (λ (l : List Change). Close name x ∷ l) (closings-append name xs ys)

-- an open gate more is one change more
pub more_open : (name : List ℕ) (bs : List ℕ) (b : ℕ) → b ≡ open_gate_byte → closings name (open_from 0 (bs ++ b ∷ [])) ≡ closings name (open_from 0 bs) ++ Close name (length bs) ∷ []
more_open name bs b is =
    ap (λ (l : List ℕ). closings name l) (gates_more 0 bs b ∙ ap (λ (n : ℕ). open_from 0 bs ++ (if n == open_gate_byte then (0 + length bs) ∷ [] else [])) is)
    ∙ ap (λ (n : ℕ). closings name (open_from 0 bs ++ n ∷ [])) (let none : 0 + length bs ≡ length bs = omega arith in none)
    ∙ closings-append name (open_from 0 bs) (length bs ∷ [])

-- a shut one is none
pub more_shut : (name : List ℕ) (bs : List ℕ) (b : ℕ) → (b == open_gate_byte) ≡ false → closings name (open_from 0 (bs ++ b ∷ [])) ≡ closings name (open_from 0 bs)
more_shut name bs b is =
    ap (λ (l : List ℕ). closings name l) (gates_more 0 bs b ∙ ap (λ (t : Bool). open_from 0 bs ++ (if t then (0 + length bs) ∷ [] else [])) is)
    ∙ ap (λ (l : List ℕ). closings name l) (none_more (open_from 0 bs))
  where
    none_more : (l : List ℕ) → l ++ [] ≡ l
    none_more [] = refl
    none_more (x ∷ l) = ap (λ (m : List ℕ). x ∷ m) (none_more l)

-- the same of the first bytes of a list
pub grown_open : (name front : List ℕ) (i : ℕ) → i < length front → get_or front i 0 ≡ open_gate_byte → closings name (open_from 0 (take (i + 1) front)) ≡ closings name (open_from 0 (take i front)) ++ Close name i ∷ []
grown_open name front i lt is =
    ap (λ (l : List ℕ). closings name (open_from 0 l)) (take_at_read front i 0 lt).1 ∙ more_open name (take i front) (get_or front i 0) is
    ∙ ap (λ (n : ℕ). closings name (open_from 0 (take i front)) ++ Close name n ∷ []) (length-take-le i front (omega arith))

pub grown_shut : (name front : List ℕ) (i : ℕ) → i < length front → (get_or front i 0 ≡ open_gate_byte → ⊥) → closings name (open_from 0 (take (i + 1) front)) ≡ closings name (open_from 0 (take i front))
grown_shut name front i lt not =
    ap (λ (l : List ℕ). closings name (open_from 0 l)) (take_at_read front i 0 lt).1 ∙ more_shut name (take i front) (get_or front i 0) (ne_eqb (get_or front i 0) open_gate_byte not)

-- the gates that are counted stand in the bytes
pub open_within : (P : ℕ → Type 0) (k : ℕ) (bs : List ℕ) → ((g : ℕ) → g < k + length bs → P g) → All P (open_from k bs)
open_within P k [] each = λ i d lt. absurd (omega arith)
open_within P k (b ∷ bs) each = first_of (b == open_gate_byte) (open_from (suc k) bs) (each k (omega arith)) (open_within P (suc k) bs (λ g lt. each g (omega arith)))
  where
    first_of : (t : Bool) (gs : List ℕ) → P k → All P gs → All P (if t then k ∷ gs else gs)
    first_of true gs here later = All-cons P k gs here later
    first_of false gs here later = later

unopened : (t : Bool) (k : ℕ) (gs : List ℕ) → t ≡ true → [] ≡ (if t then k ∷ gs else gs) → ⊥
unopened true k gs is none = cc none
unopened false k gs is none = cc is

skipped : (t : Bool) (k : ℕ) (hs gs : List ℕ) → t ≡ false → hs ≡ (if t then k ∷ gs else gs) → hs ≡ gs
skipped true k hs gs is e = absurd (cc is)
skipped false k hs gs is e = e

taken : (t : Bool) (k g : ℕ) (hs gs : List ℕ) → t ≡ true → g ∷ hs ≡ (if t then k ∷ gs else gs) → (g ≡ k) × (hs ≡ gs)
taken true k g hs gs is e = (cc e, cc e)
taken false k g hs gs is e = absurd (cc is)

skips : (t : Bool) (k : ℕ) (hs gs : List ℕ) → t ≡ false → hs ≡ gs → hs ≡ (if t then k ∷ gs else gs)
skips true k hs gs is e = absurd (cc is)
skips false k hs gs is e = e

-- what no gate is open means
pub none_open : (k : ℕ) (bs : List ℕ) → [] ≡ open_from k bs → (j : ℕ) → get_or bs j 0 ≢ open_gate_byte
none_open k [] is j = λ there. absurd (cc there)
none_open k (b ∷ bs) is zero = λ there. unopened (b == open_gate_byte) k (open_from (suc k) bs) (eq-eqb b open_gate_byte there) is
none_open k (b ∷ bs) is (suc j) = elim (eqb_tells b open_gate_byte) [
  | inl yes_it ↦ absurd (unopened (b == open_gate_byte) k (open_from (suc k) bs) yes_it.0 is)
  | inr not ↦ none_open (suc k) bs (skipped (b == open_gate_byte) k [] (open_from (suc k) bs) not.0 is) j
]

-- once the first open gate is shut, the others are open
pub first_shut : (k : ℕ) (bs : List ℕ) (g : ℕ) (gs : List ℕ) → g ∷ gs ≡ open_from k bs → (k ≤ g) × (get_or bs (g - k) 0 ≡ open_gate_byte) × (gs ≡ open_from k (set bs (g - k) 0))
first_shut k [] g gs is = absurd (cc is)
first_shut k (b ∷ bs) g gs is = elim (eqb_tells b open_gate_byte) [
  | inl yes_it ↦
      let parts = taken (b == open_gate_byte) k g gs (open_from (suc k) bs) yes_it.0 is in
      let same : g ≡ k = parts.0 in
      let none : g - k ≡ 0 = omega arith in
      (omega arith, ap (λ (j : ℕ). get_or (b ∷ bs) j 0) none ∙ yes_it.1, parts.1 ∙ ap (λ (j : ℕ). open_from k (set (b ∷ bs) j 0)) (sym none))
  | inr not ↦
      let found = first_shut (suc k) bs g gs (skipped (b == open_gate_byte) k (g ∷ gs) (open_from (suc k) bs) not.0 is) in
      let le : suc k ≤ g = found.0 in
      let more : g - k ≡ suc (g - suc k) = omega arith in (
        omega arith,
        ap (λ (j : ℕ). get_or (b ∷ bs) j 0) more ∙ found.1,
        skips (b == open_gate_byte) k gs (open_from (suc k) (set bs (g - suc k) 0)) not.0 found.2 ∙ ap (λ (j : ℕ). open_from k (set (b ∷ bs) j 0)) (sym more),
      )
]

-- the first bytes of a file that is told, read up to its end
pub front_told : (d e : DeviceState) (name into : List ℕ) (n : ℕ) → IsUnchanged d e → (d.file name).len ≡ option_map length (d.file name).now → n ≡ min (unwrap_or (d.file name).len 0) 8
    → into ≡ take n (drop 0 (bytes_of (e.file name).now)) → into ≡ take 8 (bytes_of (d.file name).now)
front_told d e name into n same told is read =
    read ∙ ap (λ (s : DeviceState). take n (bytes_of (s.file name).now)) same ∙ by_file (d.file name).now (is ∙ ap (λ (l : Option ℕ). min (unwrap_or l 0) 8) told)
  where
    cut_off : (bs : List ℕ) → take (min (length bs) 8) bs ≡ take 8 bs
    cut_off bs = ext_get_or 0 (take (min (length bs) 8) bs) (take 8 bs) (omega (arith, length-take {A = ℕ})) (λ k lt. get_or-take (min (length bs) 8) bs k 0 (omega (arith, length-take {A = ℕ})) ∙ sym (get_or-take 8 bs k 0 (omega (arith, length-take {A = ℕ}))))

    by_file : (o : Option (List ℕ)) → n ≡ min (unwrap_or (option_map length o) 0) 8 → take n (bytes_of o) ≡ take 8 (bytes_of o)
    by_file None is = ap (λ (k : ℕ). take k []) is
    by_file (Some bs) is = ap (λ (k : ℕ). take k bs) is ∙ cut_off bs
