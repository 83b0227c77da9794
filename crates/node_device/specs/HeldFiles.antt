-- The files that entries stand for.
use Rattle.std.proofs.Common.{◌≡◌, ◌⊎◌, inl, inr, ◌<◌, ◌≤◌, ◌+◌, ℕ, zero, suc, Bool, true, false, cond, List, [], ◌∷◌, length, take, get_or, None, refl, sym, ◌∙◌, ap, subst, arith}
use Rattle.std.specs.Prelude.{slice_index, is_some}
use Rattle.std.proofs.lemmas.List.{ext_get_or, get_or_past, length-take-le}
use Rattle.std.specs.Option.{option_map}
use Rattle.node_device.specs.File.{MayLeave, IsByteAfter, bytes_of, byte_at}
use Rattle.node_device.specs.Changes.{is_written, older_byte}
use Rattle.node_device.specs.Held.{present, mapped_from, stable_bytes, file_of, IsSoundFile, scrambled}
use Rattle.node_device.specs.declared.changes.Changes.{Changes}
use Rattle.node_device.specs.Outcomes.{true_or_false}

below_or_not : (k n : ℕ) → (k < n) ⊎ (n ≤ k)
below_or_not k n = grind arith

pub length-mapped_from : (f : ℕ → ℕ → ℕ) (j : ℕ) (bytes : List ℕ) → length (mapped_from f j bytes) ≡ length bytes
length-mapped_from f j [] = refl
length-mapped_from f j (b ∷ bytes) = ap suc (length-mapped_from f (j + 1) bytes)

pub get_or-mapped_from : (f : ℕ → ℕ → ℕ) (j k : ℕ) (bytes : List ℕ) → k < length bytes → get_or (mapped_from f j bytes) k 0 ≡ f (j + k) (get_or bytes k 0)
get_or-mapped_from f j k [] lt = absurd (omega arith)
get_or-mapped_from f j zero (b ∷ bytes) lt = ap (λ (i : ℕ). f i b) (let same : j ≡ j + 0 = omega arith in same)
get_or-mapped_from f j (suc k) (b ∷ bytes) lt =
    get_or-mapped_from f (j + 1) k bytes (omega arith) ∙ ap (λ (i : ℕ). f i (get_or bytes k 0)) (let same : (j + 1) + k ≡ j + suc k = omega arith in same)

-- bytes that are those of another list by a function of their places
pub mapped_is : (f : ℕ → ℕ → ℕ) (bytes other : List ℕ) → length other ≡ length bytes → ((k : ℕ) → k < length bytes → slice_index other k ≡ f k (slice_index bytes k)) → other ≡ mapped_from f 0 bytes
mapped_is f bytes other len each = ext_get_or 0 other (mapped_from f 0 bytes) (len ∙ sym (length-mapped_from f 0 bytes)) (λ k lt.
    let below : k < length bytes = omega (arith, len) in
    each k below ∙ sym (get_or-mapped_from f 0 k bytes below ∙ ap (λ (i : ℕ). f i (get_or bytes k 0)) (let same : 0 + k ≡ k = omega arith in same)))

pub byte-present : (b : Bool) (xs : List ℕ) (k : ℕ) → (b ≡ false → xs ≡ []) → byte_at (present b xs) k ≡ get_or xs k 0
byte-present true xs k absent = refl
byte-present false xs k absent = sym (ap (λ (l : List ℕ). get_or l k 0) (absent refl))

pub length-present : (b : Bool) (xs : List ℕ) → (b ≡ false → xs ≡ []) → length (bytes_of (present b xs)) ≡ length xs
length-present true xs absent = refl
length-present false xs absent = sym (ap length (absent refl))

pub bytes-present : (b : Bool) (xs : List ℕ) → (b ≡ false → xs ≡ []) → bytes_of (present b xs) ≡ xs
bytes-present true xs absent = refl
bytes-present false xs absent = sym (absent refl)

none_absent : (b : Bool) (xs : List ℕ) → present b xs ≡ None → b ≡ false
none_absent true xs e = absurd (cc e)
none_absent false xs e = refl

module _ (there was fluid : Bool) (bytes kept : List ℕ) (stable_len greatest : ℕ) (changes : Changes) (s : IsSoundFile there was fluid bytes kept stable_len greatest changes) where
  length-older : length (mapped_from (older_byte changes) 0 (take stable_len bytes)) ≡ stable_len
  length-older = length-mapped_from (older_byte changes) 0 (take stable_len bytes) ∙ length-take-le stable_len bytes s.stable_in

  none_older : (was ≡ false) → fluid ≡ false → mapped_from (older_byte changes) 0 (take stable_len bytes) ≡ []
  none_older none steady =
      let empty : bytes ≡ [] = s.absent (s.steady steady ∙ none) in
      let no_length : stable_len ≡ 0 = omega (arith, s.stable_in, ap length empty) in
      ap (λ (l : List ℕ). mapped_from (older_byte changes) 0 (take stable_len l)) empty ∙ ap (λ (n : ℕ). mapped_from (older_byte changes) 0 (take n [])) no_length

  -- a file that was not there has no stable bytes
  pub none_stable : was ≡ false → stable_bytes fluid bytes kept stable_len changes ≡ []
  none_stable none = elim (true_or_false fluid) [
    | inl is_fluid ↦ ap (λ b. stable_bytes b bytes kept stable_len changes) is_fluid ∙ s.was_absent none
    | inr steady ↦ ap (λ b. stable_bytes b bytes kept stable_len changes) steady ∙ none_older none steady
  ]

  pub stable_in_greatest : length (stable_bytes fluid bytes kept stable_len changes) ≤ greatest
  stable_in_greatest = elim (true_or_false fluid) [
    | inl is_fluid ↦ omega (arith, ap (λ b. length (stable_bytes b bytes kept stable_len changes)) is_fluid, s.kept_in)
    | inr steady ↦ omega (arith, ap (λ b. length (stable_bytes b bytes kept stable_len changes)) steady, length-older, s.stable_in, s.now_in)
  ]

  stable_long : fluid ≡ false → length (bytes_of (present was (stable_bytes fluid bytes kept stable_len changes))) ≡ stable_len
  stable_long steady = length-present was _ none_stable ∙ ap (λ b. length (stable_bytes b bytes kept stable_len changes)) steady ∙ length-older

  stable_byte : (k : ℕ) → fluid ≡ false → byte_at (present was (stable_bytes fluid bytes kept stable_len changes)) k ≡ get_or (mapped_from (older_byte changes) 0 (take stable_len bytes)) k 0
  stable_byte k steady = byte-present was _ k none_stable ∙ ap (λ b. get_or (stable_bytes b bytes kept stable_len changes) k 0) steady

  -- a stop may leave a file of these bytes
  may_leave : (is : Bool) (xs : List ℕ) → (fluid ≡ false → is ≡ there) → length xs ≤ greatest → (fluid ≡ false → stable_len ≤ length xs)
      → ((k : ℕ) → k < length xs → IsByteAfter (file_of there was fluid bytes kept stable_len greatest changes) k (get_or xs k 0))
      → MayLeave (file_of there was fluid bytes kept stable_len greatest changes) (present is xs)
  may_leave false xs same long no_shorter each = elim (true_or_false fluid) [
    | inl is_fluid ↦ inl is_fluid
    | inr steady ↦ inr (ap (λ (b : Bool). present b bytes) (sym (same steady)))
  ]
  may_leave true xs same long no_shorter each = record {
    there = elim (true_or_false fluid) [
      | inl is_fluid ↦ inl is_fluid
      | inr steady ↦ inr (ap (λ (b : Bool). is_some (present b bytes)) (sym (same steady)))
    ];
    no_longer = long;
    no_shorter = elim (true_or_false fluid) [
      | inl is_fluid ↦ inl is_fluid
      | inr steady ↦ inr (omega (arith, stable_long steady, no_shorter steady))
    ];
    each = λ k. elim (below_or_not k (length xs)) [
      | inl lt ↦ each k lt
      | inr past ↦
          let zero_there : get_or xs k 0 ≡ 0 = get_or_past xs k 0 past in
          elim (true_or_false fluid) [
            | inl is_fluid ↦ inr (inr (is_fluid, zero_there))
            | inr steady ↦ inr (inl (zero_there ∙ sym (stable_byte k steady ∙ get_or_past (mapped_from (older_byte changes) 0 (take stable_len bytes)) k 0 (omega (arith, length-older, no_shorter steady, past)))))
          ]
    ];
  }

  -- what a byte is that no stop may change
  sure : (k : ℕ) → is_written changes k ≡ false → IsByteAfter (file_of there was fluid bytes kept stable_len greatest changes) k (get_or bytes k 0)
  sure k untouched = elim (true_or_false fluid) [
    | inl is_fluid ↦ inr (inr (is_fluid, s.untouched_fluid k untouched is_fluid))
    | inr steady ↦ inr (inl (s.untouched k untouched steady ∙ sym (stable_byte k steady)))
  ]

  -- what a read gives is what a stop may leave
  pub now_allowed : MayLeave (file_of there was fluid bytes kept stable_len greatest changes) (present there bytes)
  now_allowed = may_leave there bytes (λ h. refl) s.now_in (λ h. s.stable_in) (λ k lt. elim (true_or_false (is_written changes k)) [
    | inl touched ↦ inl touched
    | inr untouched ↦ sure k untouched
  ])

  -- and so is what the last sync made sure of
  pub stable_allowed : MayLeave (file_of there was fluid bytes kept stable_len greatest changes) (present was (stable_bytes fluid bytes kept stable_len changes))
  stable_allowed = may_leave was (stable_bytes fluid bytes kept stable_len changes) (λ h. sym (s.steady h)) stable_in_greatest
      (λ steady. omega (arith, ap (λ b. length (stable_bytes b bytes kept stable_len changes)) steady, length-older)) (λ k lt. inr (inl (sym (byte-present was _ k none_stable))))

  -- and what another value in each touched byte leaves
  pub scrambled_allowed : MayLeave (file_of there was fluid bytes kept stable_len greatest changes) (present there (scrambled (is_written changes) bytes))
  scrambled_allowed =
      let same_length = length-mapped_from (λ k byte. cond (is_written changes k) 0xA5 byte) 0 bytes in
      may_leave there (scrambled (is_written changes) bytes) (λ h. refl) (omega (arith, same_length, s.now_in)) (λ h. omega (arith, same_length, s.stable_in)) (λ k lt. elim (true_or_false (is_written changes k)) [
        | inl touched ↦ inl touched
        | inr untouched ↦
            let is : get_or (scrambled (is_written changes) bytes) k 0 ≡ get_or bytes k 0 =
            get_or-mapped_from (λ j byte. cond (is_written changes j) 0xA5 byte) 0 k bytes (omega (arith, same_length, lt))
            ∙ ap (λ (i : ℕ). cond (is_written changes i) 0xA5 (get_or bytes k 0)) (let same : 0 + k ≡ k = omega arith in same) ∙ ap (λ b. cond b 0xA5 (get_or bytes k 0)) untouched in
            subst (λ (byte : ℕ). IsByteAfter (file_of there was fluid bytes kept stable_len greatest changes) k byte) (sym is) (sure k untouched)
      ])

  pub scrambled_there : option_map (scrambled (is_written changes)) (present there bytes) ≡ present there (scrambled (is_written changes) bytes)
  scrambled_there = elim (true_or_false there) [
    | inl is ↦ ap (λ b. option_map (scrambled (is_written changes)) (present b bytes)) is ∙ sym (ap (λ b. present b (scrambled (is_written changes) bytes)) is)
    | inr none ↦ ap (λ b. option_map (scrambled (is_written changes)) (present b bytes)) none ∙ sym (ap (λ b. present b (scrambled (is_written changes) bytes)) none)
  ]
