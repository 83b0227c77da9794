-- What a write does to a record.
use Rattle.std.proofs.Common.{◌≡◌, ◌≢◌, ◌⊎◌, ◌<◌, ◌≤◌, ◌+◌, ◌-◌, ◌^◌, ℕ, zero, List, [], ◌∷◌, ◌++◌, length, set, get_or, take, drop, replicate, Option, None, Some, inl, inr, refl, sym, ◌∙◌, ap, subst, arith, length-append}
use Rattle.std.specs.Prelude.{IsSomeAnd, unwrap_or, Result, Ok, Err, OnOk, OnErr, IsErrAnd}
use Rattle.std.specs.Int.{from_be_bytes, to_be_bytes, w64}
use Rattle.std.proofs.lemmas.Nat.{from_be_bytes-to_be_bytes_8}
use Rattle.std.proofs.lemmas.Bool.{cases_eq}
use Rattle.node_device.specs.Written.{length-written, written_inside, written_outside}
use Rattle.std.proofs.lemmas.List.{ext_get_or, get_or-set_same, get_or-set_other, drop-set-lt, length-set, drop_at, take_at, length-replicate, drop-drop, append_assoc, length-take-le}
use Rattle.node_device.specs.File.{File, MayLeave, IsAtRest, Torn, IsKept, bytes_of, byte_at, written, grown}
use Rattle.node_device.specs.DeviceState.{DeviceState, ReadsAlike}
use Rattle.node_device.specs.Answers.{WriteAnswers, SyncAnswers}
use Rattle.node_device.specs.declared.device.DevError.{DevError}
use Rattle.node_device.specs.declared.device.DevError.TheVariants.{Failed, Full, NoFile, Range, Memory}
use Rattle.node_device.specs.Outcomes.{torn_byte, sure_byte, untouched_outside}
use Rattle.gated_record.specs.Record.{HasBody, KeepsBody, HasShutGates, HasPlace}
use Rattle.gated_record.specs.Calls.{WritesBody}

-- a gate's byte is no part of the body
pub body-set : (b body : List ℕ) (gate byte : ℕ) → gate < 8 → HasBody (Some b) body → HasBody (Some (set b gate byte)) body
body-set b body gate byte lt has = record {
  whole = omega (arith, has.whole, length-set b gate byte);
  len = ap (λ (l : List ℕ). from_be_bytes w64 (take 8 l)) (drop-set-lt 8 b gate byte lt) ∙ has.len;
  same = ap (λ (l : List ℕ). take (length body) l) (drop-set-lt 16 b gate byte (omega arith)) ∙ has.same;
}

-- a whole record is there, with its gates
whole_there : (o : Option (List ℕ)) (body : List ℕ) → HasBody o body → (o ≡ Some (bytes_of o)) × (8 ≤ length (bytes_of o))
whole_there None body has = absurd (omega (arith, has.whole))
whole_there (Some b) body has = (refl, omega (arith, has.whole))

-- After a write of one gate's byte in a record at rest, done or refused, a stop leaves its body.
pub gate_keeps_body : (gate : ℕ) (f g : File) (body : List ℕ) → gate < 8 → IsAtRest f → Torn gate 1 f g → HasBody f.now body → KeepsBody g body
gate_keeps_body gate f g body lt rest torn has o may =
    let there = whole_there f.now body has in
    let left = torn_byte gate f g (bytes_of f.now) o rest torn there.0 (omega (arith, lt, there.1)) may in
    subst (λ (p : Option (List ℕ)). HasBody p body) (sym left.1) (body-set (bytes_of f.now) body gate left.0 lt (subst (λ (p : Option (List ℕ)). HasBody p body) there.0 has))

-- a number of eight bytes and a body, behind eight bytes
module _ (front number body tail : List ℕ) (front_8 : length front ≡ 8) (number_8 : length number ≡ 8) where
  all : List ℕ
  all = front ++ (number ++ body) ++ tail

  after_front : drop 8 (front ++ (number ++ body) ++ tail) ≡ number ++ (body ++ tail)
  after_front = ap (λ (l : List ℕ). drop 8 l) (append_assoc front (number ++ body) tail) ∙ drop_at front ((number ++ body) ++ tail) 8 front_8 ∙ append_assoc number body tail

  after_number : drop 16 (front ++ (number ++ body) ++ tail) ≡ body ++ tail
  after_number = sym (drop-drop 8 8 (front ++ (number ++ body) ++ tail)) ∙ ap (λ (l : List ℕ). drop 8 l) after_front ∙ drop_at number (body ++ tail) 8 number_8

  pub framed_body : from_be_bytes w64 number ≡ length body → HasBody (Some (front ++ (number ++ body) ++ tail)) body
  framed_body is = record {
    whole = omega (arith, front_8, number_8, length-append (front ++ (number ++ body)) tail, length-append front (number ++ body), length-append number body);
    len = ap (λ (l : List ℕ). from_be_bytes w64 (take 8 l)) after_front ∙ ap (λ (l : List ℕ). from_be_bytes w64 l) (take_at number (body ++ tail) 8 number_8) ∙ is;
    same = ap (λ (l : List ℕ). take (length body) l) after_number ∙ take_at body tail (length body) refl;
  }

length-front : (old : List ℕ) (at : ℕ) → length (take at (old ++ replicate (at - length old) 0)) ≡ at
length-front old at = length-take-le at (old ++ replicate (at - length old) 0) (omega (arith, length-append old (replicate (at - length old) 0), length-replicate (at - length old) (zero)))

-- the body that was written at place 8
pub written_body : (old body all : List ℕ) → length body < 2 ^ 64 → all ≡ to_be_bytes w64 (length body) ++ body → HasBody (Some (written old 8 all)) body
written_body old body all fits is =
    let front = take 8 (old ++ replicate (8 - length old) 0) in
    let at_number : HasBody (Some (front ++ (to_be_bytes w64 (length body) ++ body) ++ drop (8 + length all) old)) body =
    framed_body front (to_be_bytes w64 (length body)) body (drop (8 + length all) old) (length-front old 8) refl (from_be_bytes-to_be_bytes_8 (length body) fits) in
    subst (λ (l : List ℕ). HasBody (Some (front ++ l ++ drop (8 + length all) old)) body) (sym is) at_number

-- the gates stay shut where what was written lies behind them
pub stays_shut : (n : ℕ) (f g : File) → HasShutGates f → MayLeave f f.stable → Torn 8 n f g → HasShutGates g
stays_shut n f g gates stable torn = record {
  shut = λ o may gate lt. elim (sure_byte g o gate may (untouched_outside 8 n f g gate torn (inl lt) (gates.untouched gate lt))) [
    | inl is_stable ↦ λ is. gates.shut f.stable stable gate lt (sym (ap (λ (p : Option (List ℕ)). byte_at p gate) torn.stable) ∙ sym is_stable ∙ is)
    | inr is_zero ↦ λ is. absurd (cc (is_zero, is))
  ];
  untouched = λ gate lt. untouched_outside 8 n f g gate torn (inl lt) (gates.untouched gate lt);
}

other_place : (k at : ℕ) → k ≢ at → (k < at) ⊎ (at + 1 ≤ k)
other_place k at ne = grind arith

-- the write of one byte inside
pub written_byte : (b : List ℕ) (at byte : ℕ) → at < length b → written b at (byte ∷ []) ≡ set b at byte
written_byte b at byte lt = ext_get_or 0 (written b at (byte ∷ [])) (set b at byte) (omega (arith, lt, length-written b at (byte ∷ []), length-set b at byte)) (λ k below. elim (cases_eq k at) [
  | inl same ↦
      ap (λ (j : ℕ). get_or (written b at (byte ∷ [])) j 0) same ∙ written_inside b at (byte ∷ []) at (omega arith) (omega arith)
      ∙ ap (λ (j : ℕ). get_or (byte ∷ []) j 0) (let none : at - at ≡ 0 = omega arith in none)
      ∙ sym (get_or-set_same b at byte 0 lt) ∙ ap (λ (j : ℕ). get_or (set b at byte) j 0) (sym same)
  | inr ne ↦ let other : k ≢ at = ne in written_outside b at (byte ∷ []) k (other_place k at other) ∙ sym (get_or-set_other b at k byte 0 other)
])

-- ## a write of one gate in a file that has its place

no_growth : (len : Option ℕ) (gate : ℕ) → IsSomeAnd len (λ l. gate < l) → 0 < grown len gate 1 - unwrap_or len 0 → ⊥
no_growth None gate has more = has
no_growth (Some l) gate has more = absurd (omega (arith, has, more))

same_len : (len : Option ℕ) (gate : ℕ) → IsSomeAnd len (λ l. gate < l) → Some (grown len gate 1) ≡ len
same_len None gate has = absurd has
same_len (Some l) gate has = ap Some (let same : grown (Some l) gate 1 ≡ l = omega (arith, has) in same)

-- it takes no memory and no room
pub gate_alone : {T : Type 0} (f : File) (used capacity gate : ℕ) (r : Result T DevError) → gate < 8 → WriteAnswers f used capacity gate 1 r → HasPlace f gate → SyncAnswers r
gate_alone f used capacity gate (Ok x) lt a has = tt
gate_alone f used capacity gate (Err Failed) lt a has = tt
gate_alone f used capacity gate (Err Full) lt a has = absurd (no_growth f.len gate has a.1.0)
gate_alone f used capacity gate (Err NoFile) lt a has = absurd a
gate_alone f used capacity gate (Err Range) lt a has = absurd (omega (arith, lt, a))
gate_alone f used capacity gate (Err Memory) lt a has = absurd (a.2 (refl, lt, has))

-- done or refused, the file keeps its length
pub gate_len : {T : Type 0} (d e : DeviceState) (name : List ℕ) (gate : ℕ) (r : Result T DevError) → OnOk r ((e.file name).len ≡ Some (grown (d.file name).len gate 1)) → OnErr r (ReadsAlike d e) → HasPlace (d.file name) gate → (e.file name).len ≡ (d.file name).len
gate_len d e name gate (Ok x) done refused has = done ∙ same_len (d.file name).len gate has
gate_len d e name gate (Err x) done refused has = (refused.files name).len

-- ## a body that isn't written for want of memory

same_torn : (at n : ℕ) (f : File) → Torn at n f f
same_torn at n f = record { stable = refl; touched = λ k is. inl is; fluid = λ is. inl is; greatest = omega arith; there = λ is. is }

same_kept : (f : File) → IsKept f f
same_kept f = record { len = refl; now = refl; fluid = λ is. is; greatest = omega arith }

pub unwritten : {T : Type 0} (name body : List ℕ) (d : DeviceState) (r : Result T DevError) → IsErrAnd r (λ fault. fault ≡ Memory) → WritesBody name body r d d
unwritten name body d (Ok x) is = absurd is
unwritten name body d (Err Failed) is = absurd (cc is)
unwritten name body d (Err Full) is = absurd (cc is)
unwritten name body d (Err NoFile) is = absurd (cc is)
unwritten name body d (Err Range) is = absurd (cc is)
unwritten name body d (Err Memory) is = record {
  answer = tt;
  whole = λ tells. tt;
  len = tt;
  shut = λ shut. shut;
  torn = same_torn 8 (8 + length body) (d.file name);
  refused = record { tells = refl; capacity = refl; names = refl; files = λ q. same_kept (d.file q) };
  spared = refl;
  only = record { tells = refl; capacity = refl; others = λ q other. refl };
  cause = refl;
}
