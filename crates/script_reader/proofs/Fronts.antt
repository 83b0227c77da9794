-- Lists that are read from the front.
use Rattle.std.proofs.Common.{◌≡◌, ℕ, zero, suc, Bor, ◌+◌, ◌<◌, ◌≤◌, List, [], ◌∷◌, ◌++◌, Bool, true, false, refl, sym, ap, ◌∙◌, Option, Some, None, length, get_or, drop, map, filter, append_assoc, add-one, arith}
use Rattle.std.specs.Prelude.{option_map, ◌||◌}
use Rattle.std.specs.List.{list_any, range_with_len}
use Rattle.scr_base.specs.Sets.{numbers_below}
use Rattle.script_reader.specs.Words.{texts}
use Rattle.std.proofs.lemmas.List.{append-nil, map-append}
use Rattle.std.proofs.lemmas.List.Elements.{filter-append}
use Rattle.script_reader.specs.Numbers.{hex_bytes, byte_in_hex}
use Rattle.script_reader.specs.Values.{next_place, place_list}

pub list_any-map : {A B : Type 0} (p : B → Bool) (f : A → B) (xs : List A) → list_any p (map f xs) ≡ list_any (λ x. p (f x)) xs
list_any-map p f [] = refl
list_any-map p f (x ∷ xs) = ap (λ b. p (f x) || b) (list_any-map p f xs)

-- what was read, with this before it
abbrev pub with_front : List ℕ → Option (List ℕ) → Option (List ℕ)
with_front front read = option_map (λ xs. front ++ xs) read

pub with_front-nil : (read : Option (List ℕ)) → with_front [] read ≡ read
with_front-nil None = refl
with_front-nil (Some xs) = refl

regroup : (front : List ℕ) (x : ℕ) (read : Option (List ℕ)) → with_front front (option_map (λ xs. x ∷ xs) read) ≡ with_front (front ++ x ∷ []) read
regroup front x None = refl
regroup front x (Some xs) = ap (λ (ys : List ℕ). Some ys) (simp append_assoc)

-- one more byte of a word in hexadecimal
pub hex_more : (front w : List ℕ) (x : ℕ) (total : Option (List ℕ)) → 2 ≤ length w → byte_in_hex (get_or w 0 0) (get_or w 1 0) ≡ Some x
    → with_front front (hex_bytes w) ≡ total → with_front (front ++ x ∷ []) (hex_bytes (drop 2 w)) ≡ total
unfolding hex_bytes
hex_more front [] x total le h so_far = absurd (omega arith)
hex_more front (a ∷ []) x total le h so_far = absurd (omega arith)
hex_more front (a ∷ b ∷ w) x total le h so_far =
    let one : with_front front (hex_bytes (a ∷ b ∷ w)) ≡ with_front (front ++ x ∷ []) (hex_bytes w) = rw h (regroup front x (hex_bytes w)) in
    sym one ∙ so_far

-- two bytes that are no digits
pub hex_stops : (front w : List ℕ) (total : Option (List ℕ)) → 2 ≤ length w → byte_in_hex (get_or w 0 0) (get_or w 1 0) ≡ None
    → with_front front (hex_bytes w) ≡ total → total ≡ None
unfolding hex_bytes
hex_stops front [] total le h so_far = absurd (omega arith)
hex_stops front (a ∷ []) total le h so_far = absurd (omega arith)
hex_stops front (a ∷ b ∷ w) total le h so_far =
    let one : with_front front (hex_bytes (a ∷ b ∷ w)) ≡ None = rw h refl in
    sym so_far ∙ one

-- the end of a word
pub hex_done : (front w : List ℕ) (total : Option (List ℕ)) → length w ≡ 0 → with_front front (hex_bytes w) ≡ total → total ≡ Some front
unfolding hex_bytes
hex_done front [] total e so_far = sym so_far ∙ ap (λ (ys : List ℕ). Some ys) (append-nil front)
hex_done front (a ∷ w) total e so_far = absurd (omega arith)

-- one byte is left
pub hex_odd : (front w : List ℕ) (total : Option (List ℕ)) → length w < 2 → ¬ (length w ≡ 0) → with_front front (hex_bytes w) ≡ total → total ≡ None
unfolding hex_bytes
hex_odd front [] total lt ne so_far = absurd (ne refl)
hex_odd front (a ∷ []) total lt ne so_far = sym so_far
hex_odd front (a ∷ b ∷ w) total lt ne so_far = absurd (omega arith)

-- the words at a place
words_from : (ws : List (Bor (List ℕ))) (i : ℕ) (d : Bor (List ℕ)) → i < length ws → drop i (texts ws) ≡ (get_or ws i d).now ∷ drop (suc i) (texts ws)
words_from [] i d lt = absurd (omega arith)
words_from (w ∷ ws) zero d lt = refl
words_from (w ∷ ws) (suc i) d lt = words_from ws i d (omega arith)

words_at : (ws : List (Bor (List ℕ))) (i : ℕ) (d : Bor (List ℕ)) → i < length ws → drop i (texts ws) ≡ (get_or ws i d).now ∷ drop (i + 1) (texts ws)
words_at ws i d lt = rw add-one (words_from ws i d lt)

-- one more node
pub places_more : (devices : ℕ) (before : List ℕ) (ws : List (Bor (List ℕ))) (i : ℕ) (d : Bor (List ℕ)) (n : ℕ) (total : Option (List ℕ)) → i < length ws
    → next_place devices before (get_or ws i d).now ≡ Some n
    → place_list devices before (drop i (texts ws)) ≡ total → place_list devices (before ++ n ∷ []) (drop (i + 1) (texts ws)) ≡ total
unfolding place_list
places_more devices before ws i d n total lt h so_far =
    let one : place_list devices before (drop i (texts ws)) ≡ place_list devices (before ++ n ∷ []) (drop (i + 1) (texts ws)) = rw (words_at ws i d lt, h) refl in
    sym one ∙ so_far

-- a word that is none
pub places_stop : (devices : ℕ) (before : List ℕ) (ws : List (Bor (List ℕ))) (i : ℕ) (d : Bor (List ℕ)) (total : Option (List ℕ)) → i < length ws
    → next_place devices before (get_or ws i d).now ≡ None
    → place_list devices before (drop i (texts ws)) ≡ total → total ≡ None
unfolding place_list
places_stop devices before ws i d total lt h so_far =
    let one : place_list devices before (drop i (texts ws)) ≡ None = rw (words_at ws i d lt, h) refl in
    sym so_far ∙ one
