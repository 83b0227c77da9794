-- The lines of a history, one after another.
use Rattle.std.proofs.Common.{◌≡◌, ℕ, suc, ◌+◌, ◌<◌, List, [], ◌∷◌, ◌++◌, All, length, Option, Some, None, Err, refl, sym, ap, subst, ◌∙◌, append_assoc, arith, length-append}
use Rattle.std.specs.List.{AllByRecursion}
use Rattle.std.proofs.lemmas.List.{append-nil}
use Rattle.std.proofs.lemmas.List.Concat.{flat_map-append}
use Rattle.std.proofs.lemmas.List.Elements.{All-push, recursion_from_All}
use Rattle.std.proofs.lemmas.Option.{some_pair_parts}
use Rattle.ckpt_model.specs.declared.event.Event.{Event}
use Rattle.ckpt_model.specs.Text.{text_of, history_text}
use Rattle.history_reader.specs.declared.fault.Fault.{Fault}
use Rattle.history_reader.specs.declared.fault.Fault.TheVariants as fault
use Rattle.history_reader.specs.declared.parsing.HistoryError.{HistoryError}
use Rattle.history_reader.specs.declared.parsing.HistoryError.TheVariants as errors
use Rattle.history_reader.specs.Parsed.{Answers, AnswersBad, IsBadAfter, IsBadAt, IsErrorOf}
use Rattle.history_reader.specs.Reading.{Gives, read_line}
use Rattle.history_reader.specs.Spelled.{Fits, IsSpelled, IsPrintable}
use Rattle.history_reader.proofs.AgainEvents.{line_again}

history_more : (events : List Event) (e : Event) → history_text (events ++ e ∷ []) ≡ history_text events ++ (text_of e ++ 10 ∷ [])
history_more events e =
    flat_map-append (λ (x : Event). text_of x ++ 10 ∷ []) events (e ∷ [])
    ∙ ap (λ (tail : List ℕ). history_text events ++ tail) (append-nil (text_of e ++ 10 ∷ []))

history_first : (e : Event) (events : List Event) → history_text (e ∷ events) ≡ text_of e ++ 10 ∷ history_text events
history_first e events = append_assoc (text_of e) (10 ∷ []) (history_text events)

-- ---- what is read is the text so far

pub one_line_more : (bytes rest others : List ℕ) (events all : List Event) (e : Event) → bytes ≡ history_text events ++ rest → rest ≡ text_of e ++ 10 ∷ others → all ≡ events ++ e ∷ [] → bytes ≡ history_text all ++ others
one_line_more bytes rest others events all e p q r =
    p
    ∙ ap (λ (tail : List ℕ). history_text events ++ tail) (q ∙ sym (append_assoc (text_of e) (10 ∷ []) others))
    ∙ sym (append_assoc (history_text events) (text_of e ++ 10 ∷ []) others)
    ∙ ap (λ (front : List ℕ). front ++ others) (sym (history_more events e))
    ∙ ap (λ (es : List Event). history_text es ++ others) (sym r)

pub one_more_printable : (events all : List Event) (e : Event) → All IsPrintable events → IsSpelled e → Fits e → all ≡ events ++ e ∷ [] → All IsPrintable all
one_more_printable events all e printable spelled fits r = subst (λ (es : List Event). All IsPrintable es) (sym r) (All-push IsPrintable events e printable (spelled, fits))

-- ---- any history of this text begins with what was read, and goes on as the rest does

pub record GoesOn (all read : List Event) (rest : List ℕ) : Type 0 where
  pub tail : List Event
  pub whole : all ≡ read ++ tail
  pub printable : AllByRecursion IsPrintable tail
  pub text : rest ≡ history_text tail

abbrev pub Follows : List ℕ → List Event → List ℕ → Type 0
Follows bytes read rest = (all : List Event) → All IsPrintable all → bytes ≡ history_text all → GoesOn all read rest

pub at_first : (bytes : List ℕ) → Follows bytes [] bytes
at_first bytes all printable is = record { tail = all; whole = refl; printable = recursion_from_All IsPrintable all printable; text = is }

-- the first line of a text is its first event's
first_line : (e : Event) (events : List Event) (rest : List ℕ) → IsPrintable e → rest ≡ history_text (e ∷ events) → read_line rest ≡ Some (e, history_text events)
first_line e events rest p is = ap read_line (is ∙ history_first e events) ∙ line_again e (history_text events) p.0 p.1

step_on : (all read more tail : List Event) (rest others : List ℕ) (e : Event) → 0 < length rest → read_line rest ≡ Some (e, others) → more ≡ read ++ e ∷ [] → all ≡ read ++ tail → AllByRecursion IsPrintable tail → rest ≡ history_text tail → GoesOn all more others
step_on all read more [] rest others e some h r whole printable text = absurd (omega (arith, ap (length {A = ℕ}) text))
step_on all read more (first ∷ tail) rest others e some h r whole printable text =
    let q = some_pair_parts first e (history_text tail) others (sym (first_line first tail rest printable.0 text) ∙ h) in
    record {
      tail = tail;
      whole = whole ∙ ap (λ (x : Event). read ++ x ∷ tail) q.0 ∙ sym (append_assoc read (e ∷ []) tail) ∙ ap (λ (front : List Event). front ++ tail) (sym r);
      printable = printable.1;
      text = sym q.1;
    }

pub follows_on : (bytes rest others : List ℕ) (read more : List Event) (e : Event) → Follows bytes read rest → 0 < length rest → read_line rest ≡ Some (e, others) → more ≡ read ++ e ∷ [] → Follows bytes more others
follows_on bytes rest others read more e follows some h r all printable is =
    let g = follows all printable is in
    step_on all read more g.tail rest others e some h r g.whole g.printable g.text

ended : (all read tail : List Event) (rest : List ℕ) → length rest ≡ 0 → all ≡ read ++ tail → rest ≡ history_text tail → read ≡ all
ended all read [] rest none whole text = sym (whole ∙ append-nil read)
ended all read (e ∷ tail) rest none whole text = absurd (omega (arith, ap (length {A = ℕ}) (text ∙ history_first e tail), length-append (text_of e) (10 ∷ history_text tail)))

pub all_followed : (bytes rest : List ℕ) (read : List Event) → Follows bytes read rest → length rest ≡ 0 → (all : List Event) → All IsPrintable all → bytes ≡ history_text all → read ≡ all
all_followed bytes rest read follows none all printable is =
    let g = follows all printable is in
    ended all read g.tail rest none g.whole g.text

-- ---- errors

no_line : (rest : List ℕ) → read_line rest ≡ None → (e : Event) (others : List ℕ) → IsPrintable e → rest ≡ text_of e ++ 10 ∷ others → ⊥
no_line rest none e others p is = apart (e, others) (sym (ap read_line is ∙ line_again e others p.0 p.1) ∙ none)
  where
    apart : (x : Event × List ℕ) → ◌≡◌ {A = Option (Event × List ℕ)} (Some x) None → ⊥
    apart x h = cc

pub bad_is : (bytes rest : List ℕ) (read : List Event) (f : Fault) (error : HistoryError) → bytes ≡ history_text read ++ rest → All IsPrintable read → 0 < length rest → Gives (Err f) (read_line rest) → IsErrorOf f (length read) error → IsBadAt bytes error
bad_is bytes rest read fault.Memory error before printable more h is = rw is tt
bad_is bytes rest read fault.Bad error before printable more h is =
    rw is (read, rest, record { before = before; printable = printable; more = more; no_event = no_line rest h; line_is = refl })

not_read : (all read tail : List Event) (rest : List ℕ) → 0 < length rest → read_line rest ≡ None → all ≡ read ++ tail → AllByRecursion IsPrintable tail → rest ≡ history_text tail → ⊥
not_read all read [] rest some none whole printable text = absurd (omega (arith, ap (length {A = ℕ}) text))
not_read all read (e ∷ tail) rest some none whole printable text = no_line rest none e (history_text tail) printable.0 (text ∙ history_first e tail)

pub only_memory : (bytes rest : List ℕ) (read : List Event) (f : Fault) (error : HistoryError) → Follows bytes read rest → 0 < length rest → Gives (Err f) (read_line rest) → IsErrorOf f (length read) error → (all : List Event) → All IsPrintable all → bytes ≡ history_text all → Answers all (Err error)
only_memory bytes rest read fault.Memory error follows some h is all printable text = rw is tt
only_memory bytes rest read fault.Bad error follows some h is all printable text =
    let g = follows all printable text in
    absurd (not_read all read g.tail rest some h g.whole g.printable g.text)

-- ---- the first bad line

first_in : (e : Event) (events : List Event) (rest bytes : List ℕ) → IsPrintable e → bytes ≡ history_text (e ∷ events) ++ rest → read_line bytes ≡ Some (e, history_text events ++ rest)
first_in e events rest bytes p is =
    ap read_line (is ∙ ap (λ (front : List ℕ). front ++ rest) (history_first e events) ∙ append_assoc (text_of e) (10 ∷ history_text events) rest)
    ∙ line_again e (history_text events ++ rest) p.0 p.1

starts_with_line : (e : Event) (events : List Event) (rest bytes : List ℕ) → bytes ≡ history_text (e ∷ events) ++ rest → bytes ≡ text_of e ++ 10 ∷ (history_text events ++ rest)
starts_with_line e events rest bytes is = is ∙ ap (λ (front : List ℕ). front ++ rest) (history_first e events) ∙ append_assoc (text_of e) (10 ∷ history_text events) rest

-- nothing that is the line of an event stands at the front
abbrev pub NoLine : List ℕ → Type 0
NoLine rest = (e : Event) (others : List ℕ) → IsPrintable e → rest ≡ text_of e ++ 10 ∷ others → ⊥

-- two texts that are one go on badly behind as many lines
as_many : (es fs : List Event) (bytes r q : List ℕ) → AllByRecursion IsPrintable es → AllByRecursion IsPrintable fs → bytes ≡ history_text es ++ r → bytes ≡ history_text fs ++ q → NoLine r → NoLine q → length es ≡ length fs
as_many [] [] bytes r q all every p k bad worse = refl
as_many [] (f ∷ fs) bytes r q all every p k bad worse = absurd (bad f (history_text fs ++ q) every.0 (sym p ∙ starts_with_line f fs q bytes k))
as_many (e ∷ es) [] bytes r q all every p k bad worse = absurd (worse e (history_text es ++ r) all.0 (sym k ∙ starts_with_line e es r bytes p))
as_many (e ∷ es) (f ∷ fs) bytes r q all every p k bad worse =
    let h = some_pair_parts e f (history_text es ++ r) (history_text fs ++ q) (sym (first_in e es r bytes all.0 p) ∙ first_in f fs q bytes every.0 k) in
    ap suc (as_many es fs (history_text es ++ r) r q all.1 every.1 refl h.1 bad worse)

-- a history's text goes on badly nowhere
never_bad : (es fs : List Event) (bytes q : List ℕ) → AllByRecursion IsPrintable es → AllByRecursion IsPrintable fs → bytes ≡ history_text es → bytes ≡ history_text fs ++ q → 0 < length q → NoLine q → ⊥
never_bad [] fs bytes q all every p k more bad = absurd (omega (arith, ap (length {A = ℕ}) (sym p ∙ k), length-append (history_text fs) q))
never_bad (e ∷ es) [] bytes q all every p k more bad = bad e (history_text es) all.0 (sym k ∙ p ∙ history_first e es)
never_bad (e ∷ es) (f ∷ fs) bytes q all every p k more bad =
    let h = some_pair_parts e f (history_text es) (history_text fs ++ q) (sym (first_line e es bytes all.0 p) ∙ first_in f fs q bytes every.0 k) in
    never_bad es fs (history_text es) q all.1 every.1 refl h.1 more bad

pub not_bad : (bytes rest : List ℕ) (read : List Event) → bytes ≡ history_text read ++ rest → length rest ≡ 0 → All IsPrintable read → (line : ℕ) → IsBadAt bytes (errors.Bad line) → ⊥
not_bad bytes rest read text none printable line bad =
    let b : IsBadAfter bytes bad.0 bad.1 line = bad.2 in
    never_bad read bad.0 bytes bad.1 (recursion_from_All IsPrintable read printable) (recursion_from_All IsPrintable bad.0 b.printable) (text ∙ no_more (history_text read) rest none) b.before b.more b.no_event
  where
    no_more : (front rest : List ℕ) → length rest ≡ 0 → front ++ rest ≡ front
    no_more front [] h = append-nil front
    no_more front (c ∷ cs) h = absurd (omega arith)

pub same_line : (bytes : List ℕ) (error : HistoryError) → IsBadAt bytes error → (line : ℕ) → IsBadAt bytes (errors.Bad line) → AnswersBad line (Err error)
same_line bytes errors.Memory bad line other = tt
same_line bytes (errors.Bad found) bad line other =
    let b : IsBadAfter bytes bad.0 bad.1 found = bad.2 in
    let d : IsBadAfter bytes other.0 other.1 line = other.2 in
    b.line_is
    ∙ ap (λ (n : ℕ). n + 1) (as_many bad.0 other.0 bytes bad.1 other.1 (recursion_from_All IsPrintable bad.0 b.printable) (recursion_from_All IsPrintable other.0 d.printable) b.before d.before b.no_event d.no_event)
    ∙ sym d.line_is

-- ---- one spelling

spelled_once : (es fs : List Event) → AllByRecursion IsPrintable es → AllByRecursion IsPrintable fs → history_text es ≡ history_text fs → es ≡ fs
spelled_once [] [] p q h = refl
spelled_once [] (f ∷ fs) p q h = absurd (omega (arith, ap (length {A = ℕ}) (h ∙ history_first f fs), length-append (text_of f) (10 ∷ history_text fs)))
spelled_once (e ∷ es) [] p q h = absurd (omega (arith, ap (length {A = ℕ}) (sym h ∙ history_first e es), length-append (text_of e) (10 ∷ history_text es)))
spelled_once (e ∷ es) (f ∷ fs) p q h =
    let r = some_pair_parts e f (history_text es) (history_text fs) (sym (first_line e es (history_text (e ∷ es)) p.0 refl) ∙ first_line f fs (history_text (e ∷ es)) q.0 h) in
    ap (λ (x : Event). x ∷ es) r.0 ∙ ap (λ (xs : List Event). f ∷ xs) (spelled_once es fs p.1 q.1 r.1)

pub one_history : (es fs : List Event) → All IsPrintable es → All IsPrintable fs → history_text es ≡ history_text fs → es ≡ fs
one_history es fs p q h = spelled_once es fs (recursion_from_All IsPrintable es p) (recursion_from_All IsPrintable fs q) h
