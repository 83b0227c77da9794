-- Which bytes the pieces of a line have, and which they lack.
use Rattle.std.proofs.Common.{◌≡◌, ℕ, zero, suc, nat_le, length, ◌≤◌, ◌+◌, ◌/◌, ◌%◌, ◌<◌, ◌^◌, ◌&&◌, ◌||◌, ◌==◌, not, Bool, true, false, List, [], ◌∷◌, ◌++◌, map, refl, ap, ◌∙◌, append_assoc, arith, decimal}
use Rattle.std.specs.Prelude.{IsTrue}
use Rattle.std.specs.List.{AllByRecursion, join_with_byte, list_all}
use Rattle.std.proofs.lemmas.Bool.Decides.{nat_tests}
use Rattle.std.proofs.lemmas.Fmt.{decimal_by_steps}
use Rattle.std.proofs.lemmas.List.Folds.{list_all-append}
use Rattle.scr_base.specs.Words.{begins_well, is_between, is_name, is_name_byte, is_word, is_word_byte}
use Rattle.scr_base.specs.declared.shape.DataId.{DataId}
use Rattle.ckpt_model.specs.Text.{hex_digit, hex_text, id_text, lost_text}
use Rattle.history_reader.specs.Spelled.{FitsId, FitsBytes}
use Rattle.history_reader.proofs.CutLaws.{both_are, lacks}

pub all_both : (p : ℕ → Bool) (a b : List ℕ) → list_all p a ≡ true → list_all p b ≡ true → list_all p (a ++ b) ≡ true
all_both p a b h k = list_all-append p a b ∙ rw (h, k) refl

-- what passes one test passes another
pub all_weaker : (p q : ℕ → Bool) → ((b : ℕ) → p b ≡ true → q b ≡ true) → (bs : List ℕ) → list_all p bs ≡ true → list_all q bs ≡ true
all_weaker p q h [] k = refl
all_weaker p q h (b ∷ bs) k =
    let r = both_are (p b) (list_all p bs) k in
    rw (h b r.0) (all_weaker p q h bs r.1)

-- a byte that fails the test isn't there
pub misses : (p : ℕ → Bool) (c : ℕ) (bs : List ℕ) → p c ≡ false → list_all p bs ≡ true → lacks c bs ≡ true
misses p c bs fails = all_weaker p (λ b. not (b == c)) differs bs
  where
    differs : (b : ℕ) → p b ≡ true → not (b == c) ≡ true
    differs b h = by_test (b == c) refl
      where
        by_test : (t : Bool) → (b == c) ≡ t → not t ≡ true
        by_test false e = refl
        by_test true e =
            let same : b ≡ c = grind (arith, nat_tests) in
            let none : p b ≡ false = ap p same ∙ fails in
            absurd cc

abbrev pub is_digit : ℕ → Bool
is_digit b = is_between 48 57 b

pub digits_are : (n : ℕ) → n < 2 ^ 64 → list_all is_digit (decimal n) ≡ true
digits_are n lt = decimal_by_steps (λ m ds. list_all is_digit ds ≡ true) one more n lt
  where
    one : (m : ℕ) → m < 10 → list_all is_digit ((48 + m) ∷ []) ≡ true
    one m below = grind (arith, nat_tests)

    more : (m : ℕ) (ds : List ℕ) → 10 ≤ m → list_all is_digit ds ≡ true → list_all is_digit (ds ++ ((48 + m % 10) ∷ [])) ≡ true
    more m ds ten h = all_both is_digit ds ((48 + m % 10) ∷ []) h (one (m % 10) (omega arith))

pub decimal_lacks : (c n : ℕ) → is_digit c ≡ false → n < 2 ^ 64 → lacks c (decimal n) ≡ true
decimal_lacks c n absent lt = misses is_digit c (decimal n) absent (digits_are n lt)

-- a digit, or the dot of an identity
abbrev pub is_id_byte : ℕ → Bool
is_id_byte b = is_digit b || b == 46

digit_in_id : (b : ℕ) → is_digit b ≡ true → is_id_byte b ≡ true
digit_in_id b h = rw h refl

pub id_is : (which : DataId) → id_text which ≡ decimal which.id ++ 46 ∷ decimal which.run
id_is which = append_assoc (decimal which.id) (46 ∷ []) (decimal which.run)

pub id_bytes : (which : DataId) → FitsId which → list_all is_id_byte (id_text which) ≡ true
id_bytes which fits =
    ap (list_all is_id_byte) (id_is which)
    ∙ all_both
    is_id_byte
    (decimal which.id)
    (46 ∷ decimal which.run)
    (all_weaker is_digit is_id_byte digit_in_id (decimal which.id) (digits_are which.id (omega (arith, fits.0))))
    (all_weaker is_digit is_id_byte digit_in_id (decimal which.run) (digits_are which.run (omega (arith, fits.1))))

pub id_lacks : (c : ℕ) (which : DataId) → is_id_byte c ≡ false → FitsId which → lacks c (id_text which) ≡ true
id_lacks c which absent fits = misses is_id_byte c (id_text which) absent (id_bytes which fits)

pub name_bytes : (name : List ℕ) → IsTrue (is_name name) → list_all is_name_byte name ≡ true
name_bytes name h =
    let p = both_are (begins_well name && nat_le (length name) 64) (list_all is_name_byte name) (regrouped (begins_well name) (nat_le (length name) 64) (list_all is_name_byte name) h) in p.1
  where
    regrouped : (a b d : Bool) → (a && b && d) ≡ true → ((a && b) && d) ≡ true
    regrouped true b d e = e
    regrouped false b d e = absurd cc

pub word_bytes : (word : List ℕ) → IsTrue (is_word word) → list_all is_word_byte word ≡ true
word_bytes word h =
    let p = both_are (nat_le 1 (length word)) (nat_le (length word) 80 && list_all is_word_byte word) (regrouped (nat_le 1 (length word)) (nat_le (length word) 80) (list_all is_word_byte word) h) in
    (both_are (nat_le (length word) 80) (list_all is_word_byte word) p.1).1
  where
    regrouped : (a b d : Bool) → (a && b && d) ≡ true → (a && (b && d)) ≡ true
    regrouped true b d e = e
    regrouped false b d e = absurd cc

pub name_lacks : (c : ℕ) (name : List ℕ) → is_name_byte c ≡ false → IsTrue (is_name name) → lacks c name ≡ true
name_lacks c name absent h = misses is_name_byte c name absent (name_bytes name h)

pub word_lacks : (c : ℕ) (word : List ℕ) → is_word_byte c ≡ false → IsTrue (is_word word) → lacks c word ≡ true
word_lacks c word absent h = misses is_word_byte c word absent (word_bytes word h)

-- ---- what is joined

pub joined_passes : {X : Type 0} (p : ℕ → Bool) (c : ℕ) (text : X → List ℕ) (P : X → Type 0) → p c ≡ true → ((x : X) → P x → list_all p (text x) ≡ true) → (xs : List X) → AllByRecursion P xs → list_all p (join_with_byte c (map text xs)) ≡ true
joined_passes p c text P joins each [] all = refl
joined_passes p c text P joins each (x ∷ []) all = each x all.0
joined_passes p c text P joins each (x ∷ y ∷ ys) all =
    all_both p (text x) (c ∷ join_with_byte c (map text (y ∷ ys))) (each x all.0) (rw joins (joined_passes p c text P joins each (y ∷ ys) all.1))

pub each_lacks : {X : Type 0} (c : ℕ) (text : X → List ℕ) (P : X → Type 0) → ((x : X) → P x → lacks c (text x) ≡ true) → (xs : List X) → AllByRecursion P xs → list_all (λ x. lacks c (text x)) xs ≡ true
each_lacks c text P each [] all = refl
each_lacks c text P each (x ∷ xs) all = rw (each x all.0) (each_lacks c text P each xs all.1)

-- ---- hexadecimal

-- a digit from 0 to f
abbrev pub is_hex_byte : ℕ → Bool
is_hex_byte b = is_digit b || is_between 97 102 b

digit_passes : (d : ℕ) → d < 16 → is_hex_byte (hex_digit d) ≡ true
digit_passes zero lt = refl
digit_passes (suc zero) lt = refl
digit_passes (suc (suc zero)) lt = refl
digit_passes (suc (suc (suc zero))) lt = refl
digit_passes (suc (suc (suc (suc zero)))) lt = refl
digit_passes (suc (suc (suc (suc (suc zero))))) lt = refl
digit_passes (suc (suc (suc (suc (suc (suc zero)))))) lt = refl
digit_passes (suc (suc (suc (suc (suc (suc (suc zero))))))) lt = refl
digit_passes (suc (suc (suc (suc (suc (suc (suc (suc zero)))))))) lt = refl
digit_passes (suc (suc (suc (suc (suc (suc (suc (suc (suc zero))))))))) lt = refl
digit_passes (suc (suc (suc (suc (suc (suc (suc (suc (suc (suc zero)))))))))) lt = refl
digit_passes (suc (suc (suc (suc (suc (suc (suc (suc (suc (suc (suc zero))))))))))) lt = refl
digit_passes (suc (suc (suc (suc (suc (suc (suc (suc (suc (suc (suc (suc zero)))))))))))) lt = refl
digit_passes (suc (suc (suc (suc (suc (suc (suc (suc (suc (suc (suc (suc (suc zero))))))))))))) lt = refl
digit_passes (suc (suc (suc (suc (suc (suc (suc (suc (suc (suc (suc (suc (suc (suc zero)))))))))))))) lt = refl
digit_passes (suc (suc (suc (suc (suc (suc (suc (suc (suc (suc (suc (suc (suc (suc (suc zero))))))))))))))) lt = refl
digit_passes (suc (suc (suc (suc (suc (suc (suc (suc (suc (suc (suc (suc (suc (suc (suc (suc d)))))))))))))))) lt = absurd (omega arith)

pub hex_bytes : (bytes : List ℕ) → FitsBytes bytes → list_all is_hex_byte (hex_text bytes) ≡ true
hex_bytes [] fits = refl
hex_bytes (b ∷ bs) fits =
    let high : b / 16 < 16 = omega (arith, fits.0) in
    let low : b % 16 < 16 = omega arith in
    rw (digit_passes (b / 16) high, digit_passes (b % 16) low) (hex_bytes bs fits.1)

-- the lost nodes: digits, plus signs and a dash
abbrev pub is_lost_byte : ℕ → Bool
is_lost_byte b = is_digit b || b == 43 || b == 45

byte_passes : (n : ℕ) → n < 2 ^ 8 → list_all is_lost_byte (decimal n) ≡ true
byte_passes n lt = all_weaker is_digit is_lost_byte (λ b h. rw h refl) (decimal n) (digits_are n (omega arith))

pub lost_bytes : (lost : List ℕ) → FitsBytes lost → list_all is_lost_byte (lost_text lost) ≡ true
lost_bytes [] fits = refl
lost_bytes (n ∷ ns) fits = joined_passes is_lost_byte 43 decimal (λ b. b < 2 ^ 8) refl byte_passes (n ∷ ns) fits
