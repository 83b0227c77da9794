-- Reading line after line.
use Rattle.std.proofs.Common.{◌≡◌, ℕ, ◌+◌, ◌<◌, ◌≤◌, List, [], ◌∷◌, Bool, true, false, refl, ap, subst, ◌∙◌, Option, Some, None, Result, Ok, Err, length, take, drop, arith, cond}
use Rattle.std.specs.Prelude.{◌==◌, position, nat_lt}
use Rattle.std.specs.List.{position_or_len}
use Rattle.std.proofs.lemmas.Bool.{ltb-true, ltb-false}
use Rattle.std.proofs.lemmas.Option.{cond_some}
use Rattle.std.proofs.lemmas.List.Elements.{All-from_get_or}
use Rattle.std.proofs.lemmas.List.Sums.{fails_before_first}
use Rattle.std.proofs.lemmas.List.Splits.{slice_split_first, slice_split_none}
use Rattle.script_reader.specs.declared.reason.LineError.{LineError}
use Rattle.script_reader.specs.declared.reason.LineError.TheVariants as errors
use Rattle.script_reader.specs.Reasons.{◌>>=◌, Fails}
use Rattle.script_reader.specs.Words.{pieces_of}
use Rattle.script_reader.specs.Progress.{Progress, after_line}
use Rattle.script_reader.specs.Grammar.{Job, Fault, at_line, lines_read, IsFault, error_at}

none_false : {A : Type 0} (b : Bool) (x : A) → cond b (Some x) None ≡ None → b ≡ false
none_false true x e = cc
none_false false x e = refl

-- the first line of a text, where one ends
first_line : (bs : List ℕ) (i : ℕ) → position (λ b. b == 10) bs ≡ Some i → pieces_of 10 bs ≡ take i bs ∷ pieces_of 10 (drop (i + 1) bs)
unfolding pieces_of
first_line bs i e =
    let p = cond_some (nat_lt (position_or_len (λ b. b == 10) bs) (length bs)) (position_or_len (λ b. b == 10) bs) i e in
    let found : position_or_len (λ b. b == 10) bs < length bs = ltb-true _ _ p.0 in
    rw (← p.1) (slice_split_first (λ b. b == 10) bs 0 found)

-- a text in which no line ends
no_line : (bs : List ℕ) → position (λ b. b == 10) bs ≡ None → pieces_of 10 bs ≡ bs ∷ []
unfolding pieces_of
no_line bs e =
    let p = none_false (nat_lt (position_or_len (λ b. b == 10) bs) (length bs)) (position_or_len (λ b. b == 10) bs) e in
    let far : length bs ≤ position_or_len (λ b. b == 10) bs = ltb-false _ _ p in
    slice_split_none (λ b. b == 10) bs (All-from_get_or (λ b. (b == 10) ≡ false) bs 0 (λ k lt. fails_before_first (λ b. b == 10) bs k 0 (omega arith)))

-- ## Pieces

-- there is always a first piece
pub record Pieces (bs : List ℕ) : Type 0 where
  pub first : List ℕ
  pub others : List (List ℕ)
  pub are : pieces_of 10 bs ≡ first ∷ others

pieces_at : (bs : List ℕ) (o : Option ℕ) → position (λ b. b == 10) bs ≡ o → Pieces bs
pieces_at bs None e = record { first = bs; others = []; are = no_line bs e }
pieces_at bs (Some i) e = record { first = take i bs; others = pieces_of 10 (drop (i + 1) bs); are = first_line bs i e }

pieces : (bs : List ℕ) → Pieces bs
pieces bs = pieces_at bs (position (λ b. b == 10) bs) refl

-- a line and what is behind it
one_line : (number : ℕ) (p : Progress) (line behind : List ℕ) → lines_read number p (line ∷ pieces_of 10 behind) ≡ (at_line number (after_line p line) >>= λ q. lines_read (number + 1) q (pieces_of 10 behind))
unfolding lines_read
one_line number p line behind = let w = pieces behind in rw w.are refl

-- a line was read
pub line_taken : (number : ℕ) (p q : Progress) (bs : List ℕ) (i : ℕ) (total : Result Job Fault) → position (λ b. b == 10) bs ≡ Some i → after_line p (take i bs) ≡ Ok q
    → total ≡ lines_read number p (pieces_of 10 bs) → total ≡ lines_read (number + 1) q (pieces_of 10 (drop (i + 1) bs))
line_taken number p q bs i total found taken so_far =
    let one : lines_read number p (pieces_of 10 bs) ≡ lines_read (number + 1) q (pieces_of 10 (drop (i + 1) bs)) = rw (first_line bs i found, one_line number p (take i bs) (drop (i + 1) bs), taken) refl in
    so_far ∙ one

-- a line was refused
pub line_fails : (e : LineError) (number : ℕ) (p : Progress) (bs : List ℕ) (i : ℕ) (total : Result Job Fault) → position (λ b. b == 10) bs ≡ Some i → Fails e (after_line p (take i bs))
    → total ≡ lines_read number p (pieces_of 10 bs) → IsFault (error_at number e) total
line_fails errors.Memory number p bs i total found fails so_far = tt
line_fails (errors.Refused why) number p bs i total found fails so_far =
    let one : lines_read number p (pieces_of 10 bs) ≡ Err (record { line = number; reason = why }) = rw (first_line bs i found, one_line number p (take i bs) (drop (i + 1) bs), fails) refl in
    rw (so_far, one) (refl, refl)

-- no further line ends
pub lines_done : (number : ℕ) (p : Progress) (bs : List ℕ) (total : Result Job Fault) → position (λ b. b == 10) bs ≡ None
    → total ≡ lines_read number p (pieces_of 10 bs) → total ≡ lines_read number p (bs ∷ [])
lines_done number p bs total none so_far = so_far ∙ ap (lines_read number p) (no_line bs none)

-- where a line ends there is a byte
pub place_within : (bs : List ℕ) (i : ℕ) → position (λ b. b == 10) bs ≡ Some i → i < length bs
place_within bs i e =
    let p = cond_some (nat_lt (position_or_len (λ b. b == 10) bs) (length bs)) (position_or_len (λ b. b == 10) bs) i e in
    subst (λ (j : ℕ). j < length bs) p.1 (ltb-true _ _ p.0)
