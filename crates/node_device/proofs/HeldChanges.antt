-- What a write, a remove and a stop make of the file of an entry.
use Rattle.std.proofs.Common.{◌≡◌, ◌⊎◌, inl, inr, ◌<◌, ◌≤◌, ◌+◌, ◌-◌, ℕ, max, Bool, true, false, cond, ◌||◌, not, List, [], length, take, get_or, Some, refl, sym, ◌∙◌, ap, subst, arith}
use Rattle.std.specs.Prelude.{slice_index, is_some}
use Rattle.std.proofs.lemmas.List.{ext_get_or, get_or-take, length-take-le, take_all}
use Rattle.node_device.specs.Limits.{max_end}
use Rattle.node_device.specs.File.{File, MayLeave, IsAtRest, Torn, IsRemoved, bytes_of, written}
use Rattle.std.proofs.Math.Path.{fun_ext}
use Rattle.std.specs.Option.{option_map}
use Rattle.node_device.specs.Changes.{is_written, older_byte, one_wrote, byte_before_all}
use Rattle.node_device.specs.declared.changes.Change.{Change}
use Rattle.node_device.proofs.ChangeLists.{same_written as written_as, same_older as older_as}
use Rattle.node_device.specs.Held.{present, mapped_from, stable_bytes, file_of, IsSoundFile, scrambled, left_by, bytes_left, there_left}
use Rattle.node_device.specs.HeldFiles.{length-mapped_from, get_or-mapped_from, mapped_is, none_stable, stable_in_greatest, now_allowed, stable_allowed, scrambled_allowed, scrambled_there, bytes-present, length-present}
use Rattle.node_device.specs.declared.changes.Changes.{Changes}
use Rattle.node_device.specs.declared.outcome.Outcome.{Outcome}
use Rattle.node_device.specs.declared.outcome.Outcome.TheVariants.{AsRead, AsStable, Scrambled}
use Rattle.node_device.specs.Outcomes.{true_or_false, not_both}
use Rattle.node_device.specs.Written.{in_range_or_not, length-written, written_inside, written_outside}

-- bytes over a range of bytes that reach its end
pub put_is : (old mid new bytes : List ℕ) (at : ℕ) → length mid ≡ max (length old) (at + length bytes) → ((k : ℕ) → slice_index mid k ≡ slice_index old k) → length new ≡ length mid
    → ((k : ℕ) → at ≤ k → k < at + length bytes → slice_index new k ≡ slice_index bytes (k - at)) → ((k : ℕ) → (k < at) ⊎ (at + length bytes ≤ k) → slice_index new k ≡ slice_index mid k) → new ≡ written old at bytes
put_is old mid new bytes at len same new_len inside outside = ext_get_or 0 new (written old at bytes) (new_len ∙ len ∙ sym (length-written old at bytes)) (λ k lt. elim (in_range_or_not at (length bytes) k) [
  | inl within ↦ inside k within.0 within.1 ∙ sym (written_inside old at bytes k within.0 within.1)
  | inr out ↦ outside k out ∙ same k ∙ sym (written_outside old at bytes k out)
])

place_of : (f : ℕ → ℕ → ℕ) (n k : ℕ) (bytes : List ℕ) → n ≤ length bytes → k < n → get_or (mapped_from f 0 (take n bytes)) k 0 ≡ f k (get_or bytes k 0)
place_of f n k bytes long lt =
    get_or-mapped_from f 0 k (take n bytes) (omega (arith, length-take-le n bytes long)) ∙ ap (λ (i : ℕ). f i (get_or (take n bytes) k 0)) (let same : 0 + k ≡ k = omega arith in same) ∙ ap (λ (b : ℕ). f k b) (get_or-take n bytes k 0 lt)

-- the bytes that a put back leaves
pub put_back_is : (fluid : Bool) (bytes kept cut after : List ℕ) (n : ℕ) (changes : Changes) → fluid ≡ false → cut ≡ take n bytes → length after ≡ length cut → ((k : ℕ) → k < length cut → slice_index after k ≡ older_byte changes k (slice_index cut k)) → after ≡ stable_bytes fluid bytes kept n changes
put_back_is fluid bytes kept cut after n changes steady is len each =
    mapped_is (older_byte changes) cut after len each ∙ ap (λ (l : List ℕ). mapped_from (older_byte changes) 0 l) is ∙ sym (ap (λ b. stable_bytes b bytes kept n changes) steady)

-- A write of n bytes at a place is noted, to a file of these bytes.
pub record IsNoted (at n stable_len : ℕ) (bytes : List ℕ) (old new : Changes) : Type 0 where
  pub inside : (k : ℕ) → at ≤ k → k < at + n → is_written new k ≡ true
  pub outside : (k : ℕ) → (k < at) ⊎ (at + n ≤ k) → is_written new k ≡ is_written old k
  pub kept : (k byte : ℕ) → at ≤ k → k < at + n → k < stable_len → older_byte new k byte ≡ older_byte old k (slice_index bytes k)
  pub others : (k byte : ℕ) → (k < at) ⊎ (at + n ≤ k) → older_byte new k byte ≡ older_byte old k byte

-- Bytes are others only in a range.
abbrev pub SameOutside : ℕ → ℕ → List ℕ → List ℕ → Type 0
SameOutside at n old new = (k : ℕ) → (k < at) ⊎ (at + n ≤ k) → slice_index new k ≡ slice_index old k

module _ (there was fluid : Bool) (bytes kept : List ℕ) (stable_len greatest : ℕ) (old : Changes) (s : IsSoundFile there was fluid bytes kept stable_len greatest old) (at n : ℕ) (new : Changes) (noted : IsNoted at n stable_len bytes old new) where
  -- a place that is still not written lies outside
  outside_of : (k : ℕ) → is_written new k ≡ false → (k < at) ⊎ (at + n ≤ k)
  outside_of k untouched = elim (in_range_or_not at n k) [
    | inl within ↦ not_both (is_written new k) (noted.inside k within.0 within.1) untouched
    | inr out ↦ out
  ]

  same_older_bytes : (after : List ℕ) → stable_len ≤ length after → SameOutside at n bytes after → mapped_from (older_byte new) 0 (take stable_len after) ≡ mapped_from (older_byte old) 0 (take stable_len bytes)
  same_older_bytes after long same =
      let len : length (mapped_from (older_byte old) 0 (take stable_len bytes)) ≡ length (take stable_len after) =
      length-mapped_from (older_byte old) 0 (take stable_len bytes) ∙ length-take-le stable_len bytes s.stable_in ∙ sym (length-take-le stable_len after long) in
      sym (mapped_is (older_byte new) (take stable_len after) (mapped_from (older_byte old) 0 (take stable_len bytes)) len (λ k lt.
      let below : k < stable_len = omega (arith, length-take-le stable_len after long) in
      let now : get_or (take stable_len after) k 0 ≡ get_or after k 0 = get_or-take stable_len after k 0 below in
      place_of (older_byte old) stable_len k bytes s.stable_in below ∙ elim (in_range_or_not at n k) [
        | inl within ↦ sym (noted.kept k (get_or (take stable_len after) k 0) within.0 within.1 below)
        | inr out ↦ sym (noted.others k (get_or (take stable_len after) k 0) out ∙ ap (λ (b : ℕ). older_byte old k b) (now ∙ same k out))
      ]))

  pub sound_after : (there' fluid' : Bool) (greatest' : ℕ) (after : List ℕ) → (there' ≡ false → after ≡ []) → (fluid' ≡ false → there' ≡ was) → (fluid' ≡ false → fluid ≡ false) → (fluid' ≡ true → (fluid ≡ true) ⊎ (bytes ≡ []))
      → stable_len ≤ length after → length after ≤ greatest' → greatest ≤ greatest' → greatest' ≤ max_end → SameOutside at n bytes after → IsSoundFile there' was fluid' after kept stable_len greatest' new
  sound_after there' fluid' greatest' after absent steady was_steady was_fluid long in_greatest no_less small same = record {
    absent = absent;
    was_absent = s.was_absent;
    steady = steady;
    stable_in = long;
    now_in = in_greatest;
    kept_in = omega (arith, s.kept_in, no_less);
    small = small;
    untouched = λ k untouched is_steady.
        let out = outside_of k untouched in
        same k out ∙ s.untouched k (sym (noted.outside k out) ∙ untouched) (was_steady is_steady) ∙ sym (ap (λ (l : List ℕ). get_or l k 0) (same_older_bytes after long same));
    untouched_fluid = λ k untouched is_fluid.
        let out = outside_of k untouched in
        same k out ∙ elim (was_fluid is_fluid) [
          | inl before ↦ s.untouched_fluid k (sym (noted.outside k out) ∙ untouched) before
          | inr none ↦ ap (λ (l : List ℕ). get_or l k 0) none
        ];
  }

  -- what the last sync made sure of stays
  same_stable : (fluid' : Bool) (after : List ℕ) → (fluid' ≡ false → fluid ≡ false) → (fluid' ≡ true → (fluid ≡ true) ⊎ (there ≡ false)) → stable_len ≤ length after → SameOutside at n bytes after
      → present was (stable_bytes fluid' after kept stable_len new) ≡ present was (stable_bytes fluid bytes kept stable_len old)
  same_stable fluid' after was_steady was_fluid long same = elim (true_or_false fluid') [
    | inl is_fluid ↦ elim (was_fluid is_fluid) [
      | inl before ↦ ap (λ b. present was (stable_bytes b after kept stable_len new)) is_fluid ∙ sym (ap (λ b. present was (stable_bytes b bytes kept stable_len old)) before)
      | inr none ↦ elim (true_or_false fluid) [
        | inl before ↦ ap (λ b. present was (stable_bytes b after kept stable_len new)) is_fluid ∙ sym (ap (λ b. present was (stable_bytes b bytes kept stable_len old)) before)
        | inr steady ↦
            let was_none : was ≡ false = sym (s.steady steady) ∙ none in
            ap (λ b. present b (stable_bytes fluid' after kept stable_len new)) was_none ∙ sym (ap (λ b. present b (stable_bytes fluid bytes kept stable_len old)) was_none)
      ]
    ]
    | inr is_steady ↦
        ap (λ b. present was (stable_bytes b after kept stable_len new)) is_steady ∙ ap (λ (l : List ℕ). present was l) (same_older_bytes after long same)
        ∙ sym (ap (λ b. present was (stable_bytes b bytes kept stable_len old)) (was_steady is_steady))
  ]

  pub torn_after : (there' fluid' : Bool) (greatest' : ℕ) (after : List ℕ) → (fluid' ≡ false → fluid ≡ false) → (fluid' ≡ true → (fluid ≡ true) ⊎ (there ≡ false)) → stable_len ≤ length after → SameOutside at n bytes after
      → greatest' ≤ max greatest (at + n) → (there ≡ true → there' ≡ true) → Torn at n (file_of there was fluid bytes kept stable_len greatest old) (file_of there' was fluid' after kept stable_len greatest' new)
  torn_after there' fluid' greatest' after was_steady was_fluid long same in_greatest stays = record {
    stable = same_stable fluid' after was_steady was_fluid long same;
    touched = λ k touched. elim (in_range_or_not at n k) [
      | inl within ↦ inr within
      | inr out ↦ inl (sym (noted.outside k out) ∙ touched)
    ];
    fluid = λ is_fluid. elim (was_fluid is_fluid) [
      | inl before ↦ inl before
      | inr none ↦ inr (ap (λ b. present b bytes) none)
    ];
    greatest = in_greatest;
    there = λ some. elim (true_or_false there) [
      | inl is ↦ ap (λ b. is_some (present b after)) (stays is)
      | inr none ↦ absurd (cc (some, ap (λ b. is_some (present b bytes)) none))
    ];
  }

-- a file is newly fluid where it is made
made_steady : (fluid there : Bool) → (fluid || not there) ≡ false → (fluid ≡ false)
made_steady true there f = absurd (cc f)
made_steady false there f = refl

made_there : (fluid there : Bool) → (fluid || not there) ≡ false → (there ≡ true)
made_there true there f = absurd (cc f)
made_there false true f = refl
made_there false false f = absurd (cc f)

made_fluid : (fluid there : Bool) → (fluid || not there) ≡ true → (fluid ≡ true) ⊎ (there ≡ false)
made_fluid true there f = inl refl
made_fluid false true f = absurd (cc f)
made_fluid false false f = inr refl

module _ (there was fluid : Bool) (bytes kept : List ℕ) (stable_len greatest : ℕ) (old : Changes) (s : IsSoundFile there was fluid bytes kept stable_len greatest old) (at : ℕ) (put : List ℕ) (new : Changes) (noted : IsNoted at (length put) stable_len bytes old new) where
  -- the write was noted, and not made
  pub noted_sound : IsSoundFile there was fluid bytes kept stable_len greatest new
  noted_sound = sound_after there was fluid bytes kept stable_len greatest old s at (length put) new noted there fluid greatest bytes s.absent s.steady (λ f. f) (λ f. inl f) s.stable_in s.now_in (omega arith) s.small (λ k out. refl)

  pub noted_torn : Torn at (length put) (file_of there was fluid bytes kept stable_len greatest old) (file_of there was fluid bytes kept stable_len greatest new)
  noted_torn = torn_after there was fluid bytes kept stable_len greatest old s at (length put) new noted there fluid greatest bytes (λ f. f) (λ f. inl f) s.stable_in (λ k out. refl) (omega arith) (λ is. is)

  -- the write was made
  module _ (after : List ℕ) (is : after ≡ written bytes at put) where
    same_outside : SameOutside at (length put) bytes after
    same_outside k out = ap (λ (l : List ℕ). get_or l k 0) is ∙ written_outside bytes at put k out

    length_after : length after ≡ max (length bytes) (at + length put)
    length_after = ap length is ∙ length-written bytes at put

    pub written_sound : at + length put ≤ max_end → IsSoundFile true was (fluid || not there) after kept stable_len (max greatest (at + length put)) new
    written_sound small = sound_after there was fluid bytes kept stable_len greatest old s at (length put) new noted true (fluid || not there) (max greatest (at + length put)) after
        (λ none. absurd (cc none)) (λ f. sym (made_there fluid there f) ∙ s.steady (made_steady fluid there f)) (made_steady fluid there)
        (λ f. elim (made_fluid fluid there f) [ inl before ↦ inl before | inr none ↦ inr (s.absent none) ])
        (omega (arith, length_after, s.stable_in)) (omega (arith, length_after, s.now_in)) (omega arith) (omega (arith, small, s.small)) same_outside

    pub written_torn : Torn at (length put) (file_of there was fluid bytes kept stable_len greatest old) (file_of true was (fluid || not there) after kept stable_len (max greatest (at + length put)) new)
    written_torn = torn_after there was fluid bytes kept stable_len greatest old s at (length put) new noted true (fluid || not there) (max greatest (at + length put)) after
        (made_steady fluid there) (made_fluid fluid there) (omega (arith, length_after, s.stable_in)) same_outside (omega arith) (λ t. refl)

    pub written_now : Some after ≡ Some (written (bytes_of (present there bytes)) at put)
    written_now = ap Some (is ∙ ap (λ (l : List ℕ). written l at put) (sym (bytes-present there bytes s.absent)))

-- after a remove what was stable is aside
module _ (there was fluid : Bool) (bytes kept : List ℕ) (stable_len greatest : ℕ) (changes : Changes) (s : IsSoundFile there was fluid bytes kept stable_len greatest changes) (aside : List ℕ) (is : aside ≡ stable_bytes fluid bytes kept stable_len changes) where
  pub removed_sound : IsSoundFile false was true [] aside 0 greatest changes
  removed_sound = record {
    absent = λ none. refl;
    was_absent = λ none. is ∙ none_stable there was fluid bytes kept stable_len greatest changes s none;
    steady = λ f. absurd (cc f);
    stable_in = omega arith;
    now_in = omega arith;
    kept_in = omega (arith, ap length is, stable_in_greatest there was fluid bytes kept stable_len greatest changes s);
    small = s.small;
    untouched = λ k untouched f. absurd (cc f);
    untouched_fluid = λ k untouched f. refl;
  }

  pub is_removed : (empty : List ℕ) → IsRemoved (file_of there was fluid bytes kept stable_len greatest changes) (file_of false was true empty aside 0 greatest changes)
  is_removed empty = record {
    len = refl;
    now = refl;
    stable = ap (λ (l : List ℕ). present was l) is;
    touched = λ k touched. touched;
    greatest = omega arith;
  }

  -- with the bytes that were moved out
  pub removed_empty : (empty : List ℕ) → empty ≡ [] → IsSoundFile false was true empty aside 0 greatest changes
  removed_empty empty none = subst (λ (l : List ℕ). IsSoundFile false was true l aside 0 greatest changes) (sym none) removed_sound

-- a file of these bytes at rest
module _ (there : Bool) (bytes : List ℕ) (changes : Changes) (none : (k : ℕ) → is_written changes k ≡ false) (same : (k : ℕ) → older_byte changes k (slice_index bytes k) ≡ slice_index bytes k) (absent : there ≡ false → bytes ≡ []) where
  settled_bytes : mapped_from (older_byte changes) 0 (take (length bytes) bytes) ≡ bytes
  settled_bytes = ap (λ (l : List ℕ). mapped_from (older_byte changes) 0 l) (take_all (length bytes) bytes (omega arith)) ∙ sym (mapped_is (older_byte changes) bytes bytes refl (λ k lt. sym (same k)))

  pub settled_sound : length bytes ≤ max_end → IsSoundFile there there false bytes [] (length bytes) (length bytes) changes
  settled_sound small = record {
    absent = absent;
    was_absent = λ h. refl;
    steady = λ h. refl;
    stable_in = omega arith;
    now_in = omega arith;
    kept_in = omega arith;
    small = small;
    untouched = λ k untouched f. sym (ap (λ (l : List ℕ). get_or l k 0) settled_bytes);
    untouched_fluid = λ k untouched f. absurd (cc f);
  }

  pub settled_at_rest : IsAtRest (file_of there there false bytes [] (length bytes) (length bytes) changes)
  settled_at_rest = record {
    stable = ap (λ (l : List ℕ). present there l) settled_bytes;
    untouched = none;
    not_fluid = refl;
    greatest = sym (length-present there bytes absent);
  }

  pub settled_empty : (kept : List ℕ) (n m : ℕ) → kept ≡ [] → n ≡ length bytes → m ≡ length bytes → length bytes ≤ max_end → IsSoundFile there there false bytes kept n m changes
  settled_empty kept n m none n_is m_is small =
      subst (λ (l : List ℕ). IsSoundFile there there false bytes l n m changes) (sym none)
      (subst (λ (i : ℕ). IsSoundFile there there false bytes [] i m changes) (sym n_is) (subst (λ (i : ℕ). IsSoundFile there there false bytes [] (length bytes) i changes) (sym m_is) (settled_sound small)))

  pub rests : (kept : List ℕ) (n m : ℕ) → n ≡ length bytes → m ≡ length bytes → IsAtRest (file_of there there false bytes kept n m changes)
  rests kept n m n_is m_is =
      subst (λ (i : ℕ). IsAtRest (file_of there there false bytes kept i m changes)) (sym n_is) (subst (λ (i : ℕ). IsAtRest (file_of there there false bytes kept (length bytes) i changes)) (sym m_is) settled_at_rest)

-- the bytes that an outcome leaves, and that a stop may leave them
module _ (there was fluid : Bool) (bytes kept : List ℕ) (stable_len greatest : ℕ) (changes : Changes) (s : IsSoundFile there was fluid bytes kept stable_len greatest changes) where
  pub left_absent : (o : Outcome) → there_left o there was ≡ false → bytes_left o fluid bytes kept stable_len changes ≡ []
  left_absent AsRead none = s.absent none
  left_absent AsStable none = none_stable there was fluid bytes kept stable_len greatest changes s none
  left_absent Scrambled none = ap (λ (l : List ℕ). scrambled (is_written changes) l) (s.absent none)

  pub left_small : (o : Outcome) → length (bytes_left o fluid bytes kept stable_len changes) ≤ max_end
  left_small AsRead = omega (arith, s.now_in, s.small)
  left_small AsStable = omega (arith, stable_in_greatest there was fluid bytes kept stable_len greatest changes s, s.small)
  left_small Scrambled = omega (arith, length-mapped_from (λ k byte. cond (is_written changes k) 0xA5 byte) 0 bytes, s.now_in, s.small)

  pub left_is : (o : Outcome) → present (there_left o there was) (bytes_left o fluid bytes kept stable_len changes) ≡ left_by o (file_of there was fluid bytes kept stable_len greatest changes)
  left_is AsRead = refl
  left_is AsStable = refl
  left_is Scrambled = sym (scrambled_there there was fluid bytes kept stable_len greatest changes s)

  pub left_allowed : (o : Outcome) → MayLeave (file_of there was fluid bytes kept stable_len greatest changes) (present (there_left o there was) (bytes_left o fluid bytes kept stable_len changes))
  left_allowed AsRead = now_allowed there was fluid bytes kept stable_len greatest changes s
  left_allowed AsStable = stable_allowed there was fluid bytes kept stable_len greatest changes s
  left_allowed Scrambled = scrambled_allowed there was fluid bytes kept stable_len greatest changes s

-- ## Notes that are taken back

-- the same places are written, and the same older bytes are kept
pub record SameChanges (old new : Changes) : Type 0 where
  pub written : is_written new ≡ is_written old
  pub older : older_byte new ≡ older_byte old

-- what was noted is taken back
pub back : (old noted new : Changes) → take (length old.rest.items) noted.rest.items ≡ old.rest.items → noted.first ≡ old.first → new.first ≡ noted.first → new.first_written ≡ old.first_written → new.rest.items ≡ take (length old.rest.items) noted.rest.items
    → SameChanges old new
back old noted new before first same_first same_written cut =
    let rest : new.rest.items ≡ old.rest.items = cut ∙ before in
    let first_is : new.first ≡ old.first = same_first ∙ first in
    record {
      written = fun_ext (λ k. written_as new old k (λ lt. ap (λ (l : List Bool). get_or l k false) same_written) (ap (λ (l : List Change). one_wrote l k) rest));
      older = fun_ext (λ k. fun_ext (λ byte. older_as new old k byte byte (λ lt. ap (λ (l : List ℕ). slice_index l k) first_is) (λ le. ap (λ (l : List Change). byte_before_all l k byte) rest)));
    }

module _ (there was fluid : Bool) (bytes after kept : List ℕ) (stable_len greatest : ℕ) (old new : Changes) (same : SameChanges old new) (is : after ≡ bytes) where
  stable_same : stable_bytes fluid after kept stable_len new ≡ stable_bytes fluid bytes kept stable_len old
  stable_same = ap (λ (l : List ℕ). stable_bytes fluid l kept stable_len new) is ∙ by fluid where
    by : (b : Bool) → stable_bytes b bytes kept stable_len new ≡ stable_bytes b bytes kept stable_len old
    by true = refl
    by false = ap (λ (f : ℕ → ℕ → ℕ). mapped_from f 0 (take stable_len bytes)) same.older

  pub same_file : file_of there was fluid after kept stable_len greatest new ≡ file_of there was fluid bytes kept stable_len greatest old
  same_file i = record {
    len = option_map length (present there (is i));
    now = present there (is i);
    stable = present was (stable_same i);
    touched = same.written i;
    fluid = fluid;
    greatest = greatest;
  }

  pub same_sound : IsSoundFile there was fluid bytes kept stable_len greatest old → IsSoundFile there was fluid after kept stable_len greatest new
  same_sound s = subst (λ (l : List ℕ). IsSoundFile there was fluid l kept stable_len greatest new) (sym is) (record {
    absent = s.absent;
    was_absent = s.was_absent;
    steady = s.steady;
    stable_in = s.stable_in;
    now_in = s.now_in;
    kept_in = s.kept_in;
    small = s.small;
    untouched = λ k no steady. s.untouched k (sym (ap (λ (f : ℕ → Bool). f k) same.written) ∙ no) steady ∙ sym (ap (λ (f : ℕ → ℕ → ℕ). slice_index (mapped_from f 0 (take stable_len bytes)) k) same.older);
    untouched_fluid = λ k no is_fluid. s.untouched_fluid k (sym (ap (λ (f : ℕ → Bool). f k) same.written) ∙ no) is_fluid;
  })

-- a write that changed nothing is torn nowhere
pub torn_nowhere : (at n : ℕ) (f g : File) → g ≡ f → Torn at n f g
torn_nowhere at n f g same = subst (λ (x : File). Torn at n f x) (sym same) (record { stable = refl; touched = λ k is. inl is; fluid = λ is. inl is; greatest = omega arith; there = λ some. some })
