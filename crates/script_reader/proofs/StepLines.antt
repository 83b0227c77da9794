-- Steps are read back as they are spelled.
use Rattle.std.proofs.Common.{◌≡◌, ℕ, zero, suc, ◌+◌, ◌*◌, ◌/◌, ◌%◌, ◌<◌, ◌≤◌, List, [], ◌∷◌, ◌++◌, Bool, true, false, refl, sym, ap, ◌∙◌, Option, Some, None, Ok, length, get_or, decimal, codes, arith, ◌&&◌}
use Rattle.std.specs.Prelude.{◌==◌, not, nat_le}
use Rattle.std.specs.List.{list_all, list_any, All, AllByRecursion}
use Rattle.std.proofs.lemmas.List.Splits.{slice_split_at, slice_split_none}
use Rattle.std.proofs.lemmas.Fmt.{digits_decimal, decimal_nonempty}
use Rattle.scr_base.specs.Words.{is_word_byte, is_word}
use Rattle.scr_base.specs.declared.shape.Flags.TheVariants as flags
use Rattle.scr_base.specs.declared.content.Content.{Content}
use Rattle.scr_base.specs.declared.content.Content.TheVariants as content
use Rattle.scr_base.specs.declared.content.Step.{Step}
use Rattle.scr_base.specs.declared.content.Step.TheVariants as step
use Rattle.ckpt_model.specs.Text.{words, hex_text, hex_digit}
use Rattle.script_reader.specs.declared.step_form.StepForm.{StepForm}
use Rattle.script_reader.specs.declared.step_form.StepForm.TheVariants as kind
use Rattle.std.proofs.lemmas.List.FromFn.{length-range_with_len, get_or-range_with_len}
use Rattle.scr_base.specs.Sets.{numbers_below}
use Rattle.script_reader.specs.Numbers.{is_digit, number_in, hex_bytes, byte_in_hex, bytes_in_hex, hex_digit as hex_value}
use Rattle.script_reader.specs.Words.{pieces_of, words_of, is_empty}
use Rattle.script_reader.specs.Values.{Size, ranks_of, who_of, line_of, rank_line, step_of, read_of, write_text, write_hex, write_fill, fill_in, length_in, number_at, word_in}
use Rattle.script_reader.specs.Forms.{form_of, body_form, rank_form, step_form, bare_form, validity_form, valid_word, start_form, flags_word, write_form}
use Rattle.script_reader.specs.Progress.{is_text}
use Rattle.script_reader.specs.Spelled.{IsScriptContent, IsScriptStep, rank_text, IsReadAsStep}
use Rattle.script_reader.proofs.Tests.{left_true, right_true, le_is, at_each, none_is, all_weaker, all_append}
use Rattle.script_reader.proofs.Decimals.{own, decimal_is_read}

-- ## Words of a line

abbrev pub is_visible : List ℕ → Bool
is_visible w = list_all is_word_byte w

pub not_blank : (b : ℕ) → is_word_byte b ≡ true → (b == 32) ≡ false
not_blank b e = grind arith

pub unblank : (w : List ℕ) → is_visible w ≡ true → All (λ b. (b == 32) ≡ false) w
unblank w e = none_is 32 is_word_byte not_blank w e

-- the bytes of each word are visible
abbrev pub AreVisible : List (List ℕ) → Type 0
AreVisible [] = Unit {0}
AreVisible (w ∷ ws) = (is_visible w ≡ true) × AreVisible ws

pub words_split : (w : List ℕ) (ws : List (List ℕ)) → AreVisible (w ∷ ws) → words_of (words (w ∷ ws)) ≡ w ∷ ws
unfolding pieces_of
words_split w [] h = slice_split_none (λ b. b == 32) w (unblank w h.0)
words_split w (v ∷ ws) h = slice_split_at (λ b. b == 32) w 32 (words (v ∷ ws)) (unblank w h.0) refl ∙ ap (λ (vs : List (List ℕ)). w ∷ vs) (words_split v ws h.1)

pub digit_visible : (b : ℕ) → is_digit b ≡ true → is_word_byte b ≡ true
digit_visible b e = grind arith

visible_text : (b : ℕ) → is_word_byte b ≡ true → is_text b ≡ true
visible_text b e = grind arith

-- a line of such words has no other bytes
pub words_text : (w : List ℕ) (ws : List (List ℕ)) → AreVisible (w ∷ ws) → list_all is_text (words (w ∷ ws)) ≡ true
words_text w [] h = all_weaker is_word_byte is_text visible_text w h.0
words_text w (v ∷ ws) h = all_append is_text w (32 ∷ words (v ∷ ws)) (all_weaker is_word_byte is_text visible_text w h.0) (words_text v ws h.1)

record Word (w : List ℕ) : Type 0 where
  some : 1 ≤ length w
  bytes : list_all is_word_byte w ≡ true

three : (a b c : Bool) → (a && b && c) ≡ true → (a ≡ true) × (c ≡ true)
three false b c e = cc
three true false c e = cc
three true true false e = cc
three true true true e = (refl, refl)

word_parts : (w : List ℕ) → is_word w ≡ true → Word w
word_parts w e =
    let p = three (nat_le 1 (length w)) (nat_le (length w) 80) (list_all is_word_byte w) e in
    record { some = le_is 1 (length w) p.0; bytes = p.1 }

pub full : (w : List ℕ) → 0 < length w → is_empty w ≡ false
full w lt = grind arith

word_full : (w : List ℕ) → is_word w ≡ true → is_empty w ≡ false
word_full w e = let p = word_parts w e in full w p.some

word_clear : (w : List ℕ) → is_word w ≡ true → is_visible w ≡ true
word_clear w e = let p = word_parts w e in p.bytes

decimal_full : (n : ℕ) → n ≤ 1048576 → is_empty (decimal n) ≡ false
decimal_full n small = full (decimal n) (decimal_nonempty n (omega arith))

decimal_clear : (n : ℕ) → n ≤ 1048576 → is_visible (decimal n) ≡ true
decimal_clear n small = all_weaker is_digit is_word_byte digit_visible (decimal n) (digits_decimal own n (omega arith))

-- a number in its range
num : (high n : ℕ) → n ≤ high → high ≤ 1048576 → number_in 0 high (decimal n) ≡ Some n
num high n le small = decimal_is_read 0 high n (decimal n) (record { above = omega arith; below = le; short = omega arith; spelled = refl })

-- ## A line of a step

go : (z : Size) (who : List ℕ) (first last : ℕ) (s : Step) (k : StepForm) (rest : List (List ℕ)) → is_word who ≡ true → who_of (ranks_of z) who ≡ Some (first, last)
    → AreVisible rest → list_any is_empty rest ≡ false → rank_text who s ≡ words (codes "rank" ∷ who ∷ rest)
    → step_form (codes "rank" ∷ who ∷ rest) ≡ Some k → step_of k (codes "rank" ∷ who ∷ rest) ≡ Ok s → IsReadAsStep z (rank_text who s) first last s
unfolding form_of body_form rank_form line_of rank_line
go z who first last s k rest word meant clear some text form values =
    let split : words_of (rank_text who s) ≡ codes "rank" ∷ who ∷ rest = ap words_of text ∙ words_split (codes "rank") (who ∷ rest) (refl, (word_clear who word, clear)) in
    record {
      kind = k;
      form = rw (split, word_full who word, some, form) refl;
      values = rw (split, values, meant) refl;
      bytes = ap (list_all is_text) text ∙ words_text (codes "rank") (who ∷ rest) (refl, (word_clear who word, clear));
    }

-- ## Bytes in hexadecimal

abbrev reads : Option ℕ → ℕ → Bool
reads None d = false
reads (Some x) d = x == d

differ : false ≡ true → ⊥
differ e = cc

reads_it : (o : Option ℕ) (d : ℕ) → reads o d ≡ true → o ≡ Some d
reads_it None d e = absurd (differ e)
reads_it (Some x) d e = let k : x ≡ d = grind arith in ap (λ (y : ℕ). Some y) k

digits_back : list_all (λ d. reads (hex_value (hex_digit d)) d) (numbers_below 16) ≡ true
digits_back = refl

digits_clear : list_all (λ d. is_word_byte (hex_digit d)) (numbers_below 16) ≡ true
digits_clear = refl

digit_at : (p : ℕ → Bool) (d : ℕ) → d < 16 → list_all p (numbers_below 16) ≡ true → p d ≡ true
digit_at p d lt e =
    let is : get_or (numbers_below 16) d 0 ≡ d = get_or-range_with_len 0 16 d 0 lt ∙ (let k : 0 + d ≡ d = omega arith in k) in
    ap p (sym is) ∙ at_each p (numbers_below 16) d e (omega (arith, length-range_with_len 0 16))

digit_back : (d : ℕ) → d < 16 → hex_value (hex_digit d) ≡ Some d
digit_back d lt = reads_it (hex_value (hex_digit d)) d (digit_at (λ k. reads (hex_value (hex_digit k)) k) d lt digits_back)

byte_back : (b : ℕ) → b < 256 → byte_in_hex (hex_digit (b / 16)) (hex_digit (b % 16)) ≡ Some b
byte_back b lt =
    let high : b / 16 < 16 = omega arith in
    let low : b % 16 < 16 = omega arith in
    let whole : 16 * (b / 16) + b % 16 ≡ b = omega arith in
    rw (digit_back (b / 16) high, digit_back (b % 16) low) (ap (λ (x : ℕ). Some x) whole)

hex_back : (bs : List ℕ) → AllByRecursion (λ b. b < 256) bs → hex_bytes (hex_text bs) ≡ Some bs
unfolding hex_bytes
hex_back [] h = refl
hex_back (b ∷ bs) h = rw (byte_back b h.0, hex_back bs h.1) refl

hex_clear : (bs : List ℕ) → AllByRecursion (λ b. b < 256) bs → is_visible (hex_text bs) ≡ true
hex_clear [] h = refl
hex_clear (b ∷ bs) h =
    let small : b < 256 = h.0 in
    rw (digit_at (λ d. is_word_byte (hex_digit d)) (b / 16) (omega arith) digits_clear, digit_at (λ d. is_word_byte (hex_digit d)) (b % 16) (omega arith) digits_clear, hex_clear bs h.1) refl

hex_full : (bs : List ℕ) → 0 < length bs → is_empty (hex_text bs) ≡ false
hex_full [] lt = absurd (omega arith)
hex_full (b ∷ bs) lt = full (hex_text (b ∷ bs)) (omega arith)

hex_read : (bs : List ℕ) → 0 < length bs → AllByRecursion (λ b. b < 256) bs → bytes_in_hex (hex_text bs) ≡ Ok bs
unfolding bytes_in_hex
hex_read bs lt h = rw (hex_full bs lt, hex_back bs h) refl

-- ## Each step

read_line : (z : Size) (who : List ℕ) (first last : ℕ) (name : List ℕ) (at len : ℕ) → is_word who ≡ true → who_of (ranks_of z) who ≡ Some (first, last) → is_word name ≡ true → at ≤ 1048576 → len ≤ 1048576
    → IsReadAsStep z (rank_text who (step.Read name at len)) first last (step.Read name at len)
unfolding step_form step_of read_of length_in number_at word_in
read_line z who first last name at len w m is a l =
    go z who first last (step.Read name at len) kind.Read (codes "read" ∷ name ∷ decimal at ∷ decimal len ∷ []) w m
    (refl, (word_clear name is, (decimal_clear at a, (decimal_clear len l, tt))))
    (rw (word_full name is, decimal_full at a, decimal_full len l) refl)
    refl refl
    (rw (num 1048576 at a (omega arith), num 1048576 len l (omega arith), is) refl)

write_line : (z : Size) (who : List ℕ) (first last : ℕ) (name : List ℕ) (at : ℕ) (c : Content) → is_word who ≡ true → who_of (ranks_of z) who ≡ Some (first, last) → is_word name ≡ true → at ≤ 1048576 → IsScriptContent c
    → IsReadAsStep z (rank_text who (step.Write name at c)) first last (step.Write name at c)
unfolding step_form write_form step_of write_text write_hex write_fill fill_in length_in number_at word_in
write_line z who first last name at (content.Text word) w m is a c =
    go z who first last (step.Write name at (content.Text word)) kind.WriteText (codes "write" ∷ name ∷ decimal at ∷ codes "text" ∷ word ∷ []) w m
    (refl, (word_clear name is, (decimal_clear at a, (refl, (word_clear word c, tt)))))
    (rw (word_full name is, decimal_full at a, word_full word c) refl)
    refl refl
    (rw (num 1048576 at a (omega arith), is, c) refl)
write_line z who first last name at (content.Hex bytes) w m is a c =
    go z who first last (step.Write name at (content.Hex bytes)) kind.WriteHex (codes "write" ∷ name ∷ decimal at ∷ codes "hex" ∷ hex_text bytes ∷ []) w m
    (refl, (word_clear name is, (decimal_clear at a, (refl, (hex_clear bytes c.1, tt)))))
    (rw (word_full name is, decimal_full at a, hex_full bytes c.0) refl)
    refl refl
    (rw (num 1048576 at a (omega arith), hex_read bytes c.0 c.1, is) refl)
write_line z who first last name at (content.Fill seed len) w m is a c =
    go z who first last (step.Write name at (content.Fill seed len)) kind.WriteFill (codes "write" ∷ name ∷ decimal at ∷ codes "fill" ∷ decimal seed ∷ decimal len ∷ []) w m
    (refl, (word_clear name is, (decimal_clear at a, (refl, (decimal_clear seed (let s : seed ≤ 255 = c.0 in omega arith), (decimal_clear len c.1, tt))))))
    (rw (word_full name is, decimal_full at a, decimal_full seed (let s : seed ≤ 255 = c.0 in omega arith), decimal_full len c.1) refl)
    refl refl
    (rw (num 1048576 at a (omega arith), num 255 seed c.0 (omega arith), num 1048576 len c.1 (omega arith), is) refl)

pub step_line : (z : Size) (who : List ℕ) (first last : ℕ) (s : Step) → is_word who ≡ true → who_of (ranks_of z) who ≡ Some (first, last) → IsScriptStep s → IsReadAsStep z (rank_text who s) first last s
unfolding step_form bare_form validity_form valid_word start_form flags_word step_of word_in
step_line z who first last step.Need w m is = go z who first last step.Need kind.Need (codes "need" ∷ []) w m (refl, tt) refl refl refl refl
step_line z who first last step.Have w m is = go z who first last step.Have kind.Have (codes "have" ∷ []) w m (refl, tt) refl refl refl refl
step_line z who first last step.Restart w m is = go z who first last step.Restart kind.Restart (codes "restart" ∷ []) w m (refl, tt) refl refl refl refl
step_line z who first last step.Exit w m is = go z who first last step.Exit kind.Exit (codes "exit" ∷ []) w m (refl, tt) refl refl refl refl
step_line z who first last step.Finalize w m is = go z who first last step.Finalize kind.Finalize (codes "finalize" ∷ []) w m (refl, tt) refl refl refl refl
step_line z who first last (step.Complete true) w m is = go z who first last (step.Complete true) (kind.Complete true) (codes "complete" ∷ codes "valid" ∷ []) w m (refl, (refl, tt)) refl refl refl refl
step_line z who first last (step.Complete false) w m is = go z who first last (step.Complete false) (kind.Complete false) (codes "complete" ∷ codes "invalid" ∷ []) w m (refl, (refl, tt)) refl refl refl refl
step_line z who first last (step.Restarted true) w m is = go z who first last (step.Restarted true) (kind.Restarted true) (codes "restarted" ∷ codes "valid" ∷ []) w m (refl, (refl, tt)) refl refl refl refl
step_line z who first last (step.Restarted false) w m is = go z who first last (step.Restarted false) (kind.Restarted false) (codes "restarted" ∷ codes "invalid" ∷ []) w m (refl, (refl, tt)) refl refl refl refl
step_line z who first last (step.Start name flags.Ckpt) w m is = go z who first last (step.Start name flags.Ckpt) (kind.Start flags.Ckpt) (codes "start" ∷ name ∷ codes "ckpt" ∷ []) w m (refl, (word_clear name is, (refl, tt))) (rw (word_full name is) refl) refl refl (rw is refl)
step_line z who first last (step.Start name flags.Output) w m is = go z who first last (step.Start name flags.Output) (kind.Start flags.Output) (codes "start" ∷ name ∷ codes "output" ∷ []) w m (refl, (word_clear name is, (refl, tt))) (rw (word_full name is) refl) refl refl (rw is refl)
step_line z who first last (step.Start name flags.Both) w m is = go z who first last (step.Start name flags.Both) (kind.Start flags.Both) (codes "start" ∷ name ∷ codes "both" ∷ []) w m (refl, (word_clear name is, (refl, tt))) (rw (word_full name is) refl) refl refl (rw is refl)
step_line z who first last (step.Route name) w m is = go z who first last (step.Route name) kind.Route (codes "route" ∷ name ∷ []) w m (refl, (word_clear name is, tt)) (rw (word_full name is) refl) refl refl (rw is refl)
step_line z who first last (step.Read name at len) w m is = read_line z who first last name at len w m is.0 is.1 is.2
step_line z who first last (step.Write name at c) w m is = write_line z who first last name at c w m is.0 is.1 is.2
step_line z who first last step.End w m is = absurd is
