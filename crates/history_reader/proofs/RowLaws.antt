-- Rows that are read one after another.
use Rattle.std.proofs.Common.{◌≡◌, ◌<◌, ℕ, ◌/◌, ◌%◌, true, false, length, arith, List, [], ◌∷◌, ◌++◌, map, Option, Some, None, Err, refl, ap, subst, sym, ◌∙◌, append_assoc}
use Rattle.std.specs.List.{AllByRecursion, join_with_byte}
use Rattle.std.proofs.lemmas.List.{append-nil}
use Rattle.std.proofs.lemmas.List.Concat.{flat_map-append}
use Rattle.ckpt_model.specs.Text.{hex_digit, hex_text}
use Rattle.history_reader.specs.declared.fault.Fault.{Fault}
use Rattle.history_reader.specs.declared.fault.Fault.TheVariants as fault
use Rattle.history_reader.specs.Pieces.{each_before}
use Rattle.history_reader.specs.Reading.{◌>>=◌, Gives, GivesSeen, cut_at, each_read, is_nothing, parts, read_pair, read_pairs}
use Rattle.history_reader.proofs.CutLaws.{parts_cut, parts_uncut}
use Rattle.history_reader.proofs.Joins.{joined_last}

-- what was read before, and what is still read
abbrev pub with_front : {X : Type 0} → List X → Option (List X) → Option (List X)
with_front front read = read >>= λ xs. Some (front ++ xs)

regroup : {X : Type 0} (front : List X) (x : X) (read : Option (List X)) → with_front front (read >>= λ xs. Some (x ∷ xs)) ≡ with_front (front ++ x ∷ []) read
regroup front x None = refl
regroup front x (Some xs) = ap Some (simp append_assoc)

pub goes_on : {X : Type 0} (read : List ℕ → Option X) (c : ℕ) (rest word others : List ℕ) (front : List X) (x : X) (total : Option (List X)) → cut_at c rest ≡ Some (word, others) → read word ≡ Some x
    → with_front front (each_read read (parts c rest)) ≡ total → with_front (front ++ x ∷ []) (each_read read (parts c others)) ≡ total
goes_on {X = X} read c rest word others front x total is h so_far =
    let one : with_front front (each_read read (parts c rest)) ≡ with_front (front ++ x ∷ []) (each_read read (parts c others)) =
    ap (λ (ws : List (List ℕ)). with_front front (each_read read ws)) (parts_cut c rest word others is)
    ∙ ap (λ (o : Option X). with_front front (o >>= λ y. each_read read (parts c others) >>= λ xs. Some (y ∷ xs))) h
    ∙ regroup front x (each_read read (parts c others)) in
    sym one ∙ so_far

-- where the next row isn't read, the rows aren't
stops : {X : Type 0} (read : List ℕ → Option X) (word : List ℕ) (words : List (List ℕ)) (front : List X) → read word ≡ None → with_front front (each_read read (word ∷ words)) ≡ None
stops {X = X} read word words front h = ap (λ (o : Option X). with_front front (o >>= λ y. each_read read words >>= λ xs. Some (y ∷ xs))) h

pub ends : {X Y : Type 0} (view : Y → List X) (f : Fault) (read : List ℕ → Option X) (c : ℕ) (rest word others : List ℕ) (front : List X) (total : Option (List X)) → cut_at c rest ≡ Some (word, others) → Gives (Err f) (read word)
    → with_front front (each_read read (parts c rest)) ≡ total → GivesSeen view (Err f) total
ends view fault.Memory read c rest word others front total is h so_far = tt
ends view fault.Bad read c rest word others front total is h so_far =
    sym so_far ∙ ap (λ (ws : List (List ℕ)). with_front front (each_read read ws)) (parts_cut c rest word others is) ∙ stops read word (parts c others) front h

pub ends_last : {X Y : Type 0} (view : Y → List X) (f : Fault) (read : List ℕ → Option X) (c : ℕ) (rest : List ℕ) (front : List X) (total : Option (List X)) → cut_at c rest ≡ None → Gives (Err f) (read rest)
    → with_front front (each_read read (parts c rest)) ≡ total → GivesSeen view (Err f) total
ends_last view fault.Memory read c rest front total is h so_far = tt
ends_last view fault.Bad read c rest front total is h so_far =
    sym so_far ∙ ap (λ (ws : List (List ℕ)). with_front front (each_read read ws)) (parts_uncut c rest is) ∙ stops read rest [] front h

pub all_read : {X : Type 0} (read : List ℕ → Option X) (c : ℕ) (rest : List ℕ) (front : List X) (x : X) (all : List X) (total : Option (List X)) → cut_at c rest ≡ None → read rest ≡ Some x → all ≡ front ++ x ∷ []
    → with_front front (each_read read (parts c rest)) ≡ total → total ≡ Some all
all_read {X = X} read c rest front x all total is h whole so_far =
    sym so_far
    ∙ ap (λ (ws : List (List ℕ)). with_front front (each_read read ws)) (parts_uncut c rest is)
    ∙ ap (λ (o : Option X). with_front front (o >>= λ y. Some (y ∷ []))) h
    ∙ ap Some (sym whole)

pub joined : {X : Type 0} (c : ℕ) (text : X → List ℕ) (bytes rest : List ℕ) (rows : List X) (last : X) (all : List X) → bytes ≡ each_before c text rows ++ rest → rest ≡ text last → all ≡ rows ++ last ∷ [] → bytes ≡ join_with_byte c (map text all)
joined {X = X} c text bytes rest rows last all p q r =
    p
    ∙ ap (λ (tail : List ℕ). each_before c text rows ++ tail) q
    ∙ sym (joined_last c text rows last)
    ∙ ap (λ (xs : List X). join_with_byte c (map text xs)) (sym r)

-- one row more, read from the front of the rest
pub moved : {X : Type 0} (c : ℕ) (text : X → List ℕ) (bytes rest word others : List ℕ) (rows : List X) (x : X) → bytes ≡ each_before c text rows ++ rest → rest ≡ word ++ c ∷ others → word ≡ text x → bytes ≡ each_before c text (rows ++ x ∷ []) ++ others
moved {X = X} c text bytes rest word others rows x p q r =
    p
    ∙ ap (λ (tail : List ℕ). each_before c text rows ++ tail) (q ∙ ap (λ (w : List ℕ). w ++ c ∷ others) r ∙ sym (append_assoc (text x) (c ∷ []) others))
    ∙ sym (append_assoc (each_before c text rows) (text x ++ c ∷ []) others)
    ∙ ap (λ (front : List ℕ). front ++ others) (sym (flat_map-append (λ (y : X). text y ++ c ∷ []) rows (x ∷ []) ∙ ap (λ (tail : List ℕ). each_before c text rows ++ tail) (append-nil (text x ++ c ∷ []))))

-- ---- bytes of two digits each

pub hex_moved : (digits rest : List ℕ) (high low : ℕ) (others front : List ℕ) (byte : ℕ) (all : List ℕ) → digits ≡ hex_text front ++ rest → rest ≡ high ∷ low ∷ others → hex_text (byte ∷ []) ≡ high ∷ low ∷ [] → all ≡ front ++ byte ∷ [] → digits ≡ hex_text all ++ others
hex_moved digits rest high low others front byte all p q r whole =
    p
    ∙ ap (λ (tail : List ℕ). hex_text front ++ tail) (q ∙ ap (λ (pair : List ℕ). pair ++ others) (sym r))
    ∙ sym (append_assoc (hex_text front) (hex_text (byte ∷ [])) others)
    ∙ ap (λ (bytes : List ℕ). bytes ++ others) (sym (flat_map-append (λ (b : ℕ). hex_digit (b / 16) ∷ hex_digit (b % 16) ∷ []) front (byte ∷ [])))
    ∙ ap (λ (bytes : List ℕ). hex_text bytes ++ others) (sym whole)

pub pairs_go_on : (rest : List ℕ) (high low : ℕ) (others front : List ℕ) (byte : ℕ) (total : Option (List ℕ)) → rest ≡ high ∷ low ∷ others → read_pair high low ≡ Some byte
    → with_front front (read_pairs rest) ≡ total → with_front (front ++ byte ∷ []) (read_pairs others) ≡ total
unfolding read_pairs
pairs_go_on rest high low others front byte total is h so_far =
    let one : with_front front (read_pairs rest) ≡ with_front (front ++ byte ∷ []) (read_pairs others) =
    rw (is, h) (regroup front byte (read_pairs others)) in
    sym one ∙ so_far

pub pairs_stop : (rest : List ℕ) (high low : ℕ) (others front : List ℕ) (total : Option (List ℕ)) → rest ≡ high ∷ low ∷ others → read_pair high low ≡ None
    → with_front front (read_pairs rest) ≡ total → total ≡ None
unfolding read_pairs
pairs_stop rest high low others front total is h so_far =
    let one : with_front front (read_pairs rest) ≡ None = rw (is, h) refl in
    sym so_far ∙ one

pub pairs_all : (rest front all : List ℕ) (total : Option (List ℕ)) → is_nothing rest ≡ true → all ≡ front
    → with_front front (read_pairs rest) ≡ total → total ≡ Some all
unfolding read_pairs
pairs_all [] front all total empty whole so_far = sym so_far ∙ ap Some (append-nil front ∙ sym whole)
pairs_all (b ∷ bs) front all total empty whole so_far = absurd cc

pub pairs_odd : (rest front : List ℕ) (total : Option (List ℕ)) → is_nothing rest ≡ false → length rest < 2
    → with_front front (read_pairs rest) ≡ total → total ≡ None
unfolding read_pairs
pairs_odd [] front total empty short so_far = absurd cc
pairs_odd (b ∷ []) front total empty short so_far = sym so_far
pairs_odd (b ∷ d ∷ bs) front total empty short so_far = absurd (omega arith)

-- ---- what the fields may be

fits_more : {X : Type 0} (P : X → Type 0) (xs : List X) (x : X) → AllByRecursion P xs → P x → AllByRecursion P (xs ++ x ∷ [])
fits_more P [] x all p = (p, tt)
fits_more P (y ∷ ys) x all p = (all.0, fits_more P ys x all.1 p)

pub fits_push : {X : Type 0} (P : X → Type 0) (xs : List X) (x : X) (more : List X) → AllByRecursion P xs → P x → more ≡ xs ++ x ∷ [] → AllByRecursion P more
fits_push {X = X} P xs x more all p is = subst (λ (ys : List X). AllByRecursion P ys) (sym is) (fits_more P xs x all p)
