-- What conditions spell is told again, and a payload that no conditions spell tells nothing.
use Rattle.std.proofs.Common.{◌≡◌, ◌≢◌, ◌<◌, ◌^◌, ℕ, Bool, true, false, cond, List, Option, None, Some, Result, Ok, Err, refl, sym, ap, ◌∙◌, ltb, bytes_eq, arith}
use Rattle.std.specs.Prelude.{◌&&◌, IfSome, IsTrue, codes, decimal, option_map, option_and_then}
use Rattle.std.specs.Str.Parse.{digits_value}
use Rattle.std.specs.declared.cmp.Ordering.TheVariants.{Less, Greater}
use Rattle.scr_base.specs.Halt.{Halt, no_halt}
use Rattle.scr_base.specs.Words.{is_name}
use Rattle.kvtree.specs.Entries.{Entries, none, key_order}
use Rattle.kvtree.specs.Lookup.{get}
use Rattle.kvtree.specs.Reading.{all_of}
use Rattle.kvtree.specs.declared.error.TreeError.{TreeError}
use Rattle.kvtree.proofs.Puts.{same_key}
use Rattle.kvtree.proofs.Laws.{all_again}
use Rattle.halt_file.specs.Payloads.{IsHalt, field, halt_tree, halt_payload, only_key, value_under, number_of, number_under, narrow, name_of, told, spelled_by, told_by, halt_of}
use Rattle.halt_file.proofs.Numbers.{same_bytes, are_same, is_below, below_is, number_again}
use Rattle.halt_file.proofs.Trees.{payload_is}

-- ## the values under the keys

past : (key sought : List ℕ) (value : Option (List ℕ)) (rest : Entries) → key_order key sought ≡ Less → get (field key value rest) sought ≡ get rest sought
past key sought None rest less = refl
past key sought (Some bytes) rest less = rw less refl

behind : (key sought : List ℕ) (value : Option (List ℕ)) (rest : Entries) → key_order key sought ≡ Greater → get (field key value rest) sought ≡ get rest sought
behind key sought None rest greater = refl
behind key sought (Some bytes) rest greater = rw greater refl

here : (key : List ℕ) (value : Option (List ℕ)) (rest : Entries) → get rest key ≡ None → value_under (field key value rest) key ≡ value
here key None rest nothing = rw nothing refl
here key (Some bytes) rest nothing = rw (same_key key) refl

-- the keys from the last one on
abbrev from_seconds : Halt → Entries
from_seconds h = field (codes "SECONDS") (option_map decimal h.seconds) none

abbrev from_reason : Halt → Entries
from_reason h = field (codes "REASON") h.reason (from_seconds h)

abbrev from_checkpoints : Halt → Entries
from_checkpoints h = field (codes "CHECKPOINTS") (option_map decimal h.checkpoints) (from_reason h)

abbrev from_before : Halt → Entries
from_before h = field (codes "BEFORE") (option_map decimal h.before) (from_checkpoints h)

seconds_in : (h : Halt) → value_under (from_seconds h) (codes "SECONDS") ≡ option_map decimal h.seconds
seconds_in h = here (codes "SECONDS") (option_map decimal h.seconds) none refl

reason_in : (h : Halt) → value_under (from_reason h) (codes "REASON") ≡ h.reason
reason_in h = here (codes "REASON") h.reason (from_seconds h) (behind (codes "SECONDS") (codes "REASON") (option_map decimal h.seconds) none refl)

checkpoints_are_in : (h : Halt) → value_under (from_checkpoints h) (codes "CHECKPOINTS") ≡ option_map decimal h.checkpoints
checkpoints_are_in h =
    here (codes "CHECKPOINTS") (option_map decimal h.checkpoints) (from_reason h)
    (behind (codes "REASON") (codes "CHECKPOINTS") h.reason (from_seconds h) refl ∙ behind (codes "SECONDS") (codes "CHECKPOINTS") (option_map decimal h.seconds) none refl)

before_in : (h : Halt) → value_under (from_before h) (codes "BEFORE") ≡ option_map decimal h.before
before_in h =
    here (codes "BEFORE") (option_map decimal h.before) (from_checkpoints h)
    (behind (codes "CHECKPOINTS") (codes "BEFORE") (option_map decimal h.checkpoints) (from_reason h) refl ∙ behind (codes "REASON") (codes "BEFORE") h.reason (from_seconds h) refl ∙ behind (codes "SECONDS") (codes "BEFORE") (option_map decimal h.seconds) none refl)

after_in : (h : Halt) → value_under (halt_tree h) (codes "AFTER") ≡ option_map decimal h.after
after_in h =
    here (codes "AFTER") (option_map decimal h.after) (from_before h)
    (behind (codes "BEFORE") (codes "AFTER") (option_map decimal h.before) (from_checkpoints h) refl ∙ behind (codes "CHECKPOINTS") (codes "AFTER") (option_map decimal h.checkpoints) (from_reason h) refl ∙ behind (codes "REASON") (codes "AFTER") h.reason (from_seconds h) refl ∙ behind (codes "SECONDS") (codes "AFTER") (option_map decimal h.seconds) none refl)

-- a key behind the first keys
behind_after : (h : Halt) (sought : List ℕ) → key_order (codes "AFTER") sought ≡ Less → get (halt_tree h) sought ≡ get (from_before h) sought
behind_after h sought less = past (codes "AFTER") sought (option_map decimal h.after) (from_before h) less

behind_before : (h : Halt) (sought : List ℕ) → key_order (codes "AFTER") sought ≡ Less → key_order (codes "BEFORE") sought ≡ Less → get (halt_tree h) sought ≡ get (from_checkpoints h) sought
behind_before h sought less more = behind_after h sought less ∙ past (codes "BEFORE") sought (option_map decimal h.before) (from_checkpoints h) more

before_told : (h : Halt) → value_under (halt_tree h) (codes "BEFORE") ≡ option_map decimal h.before
before_told h = ap (option_and_then only_key) (behind_after h (codes "BEFORE") refl) ∙ before_in h

checkpoints_are_told : (h : Halt) → value_under (halt_tree h) (codes "CHECKPOINTS") ≡ option_map decimal h.checkpoints
checkpoints_are_told h = ap (option_and_then only_key) (behind_before h (codes "CHECKPOINTS") refl refl) ∙ checkpoints_are_in h

reason_told : (h : Halt) → value_under (halt_tree h) (codes "REASON") ≡ h.reason
reason_told h = ap (option_and_then only_key) (behind_before h (codes "REASON") refl refl ∙ past (codes "CHECKPOINTS") (codes "REASON") (option_map decimal h.checkpoints) (from_reason h) refl) ∙ reason_in h

seconds_told : (h : Halt) → value_under (halt_tree h) (codes "SECONDS") ≡ option_map decimal h.seconds
seconds_told h =
    ap (option_and_then only_key) (behind_before h (codes "SECONDS") refl refl ∙ past (codes "CHECKPOINTS") (codes "SECONDS") (option_map decimal h.checkpoints) (from_reason h) refl ∙ past (codes "REASON") (codes "SECONDS") h.reason (from_seconds h) refl) ∙ seconds_in h

-- ## what the values tell

number_told : (number : Option ℕ) → IfSome number (λ n. n < 2 ^ 64) → option_and_then number_of (option_map decimal number) ≡ number
number_told None fits = refl
number_told (Some n) fits = number_again n fits

narrow_told : (number : Option ℕ) → IfSome number (λ n. n < 2 ^ 32) → option_and_then narrow (option_and_then number_of (option_map decimal number)) ≡ number
narrow_told None fits = refl
narrow_told (Some n) fits = rw (number_again n (omega arith), is_below n (2 ^ 32) fits) refl

named : (name : List ℕ) (is : Bool) → IsTrue is → cond is (Some name) None ≡ Some name
named name true is = refl
named name false is = absurd (cc is)

name_told : (name : Option (List ℕ)) → IfSome name (λ bytes. IsTrue (is_name bytes)) → option_and_then name_of name ≡ name
name_told None is = refl
name_told (Some bytes) is = named bytes (is_name bytes) is

pub same_halt : (h : Halt) (checkpoints before after seconds : Option ℕ) (reason : Option (List ℕ)) → checkpoints ≡ h.checkpoints → before ≡ h.before → after ≡ h.after → seconds ≡ h.seconds → reason ≡ h.reason
    → record { checkpoints = checkpoints; before = before; after = after; seconds = seconds; reason = reason } ≡ h
same_halt h checkpoints before after seconds reason p q r s t = rw (p, q, r, s, t) refl

told_again : (h : Halt) → IsHalt h → told (halt_tree h) ≡ h
told_again h is = same_halt h _ _ _ _ _
    (ap (λ (v : Option (List ℕ)). option_and_then narrow (option_and_then number_of v)) (checkpoints_are_told h) ∙ narrow_told h.checkpoints is.checkpoints)
    (ap (option_and_then number_of) (before_told h) ∙ number_told h.before is.before)
    (ap (option_and_then number_of) (after_in h) ∙ number_told h.after is.after)
    (ap (option_and_then number_of) (seconds_told h) ∙ number_told h.seconds is.seconds)
    (ap (option_and_then name_of) (reason_told h) ∙ name_told h.reason is.reason)

-- ## payloads

pub spelled_is : (h : Halt) (payload : List ℕ) → halt_payload h ≡ payload → spelled_by payload h ≡ h
unfolding spelled_by
spelled_is h payload is = rw (same_bytes (halt_payload h) payload is) refl

pub halt_again : (h : Halt) → IsHalt h → halt_of (halt_payload h) ≡ h
halt_again h is =
    ap (told_by (halt_payload h)) (all_again (halt_payload h) (halt_tree h) (payload_is h is)) ∙ ap (spelled_by (halt_payload h)) (told_again h is) ∙ spelled_is h (halt_payload h) refl

spelled_not : (h : Halt) (payload : List ℕ) → bytes_eq (halt_payload h) payload ≡ false → spelled_by payload h ≡ no_halt
unfolding spelled_by
spelled_not h payload is = rw is refl

-- a payload whose tree tells conditions that it spells
pub halt_spelled : (h : Halt) (payload : List ℕ) (t : Entries) (spelled list : List ℕ) (same : Bool) → all_of payload ≡ Ok t → h ≡ told t → spelled ≡ halt_payload h → list ≡ spelled → same ≡ bytes_eq list payload → same ≡ true → h ≡ halt_of payload
halt_spelled h payload t spelled list same reads tells is listed tests eq =
    sym (ap (told_by payload) reads ∙ ap (spelled_by payload) (sym tells) ∙ spelled_is h payload (sym is ∙ sym listed ∙ are_same list payload (sym tests ∙ eq)))

-- and one whose tree tells others
pub halt_unspelled : (h nothing : Halt) (payload : List ℕ) (t : Entries) (spelled list : List ℕ) (same : Bool) → all_of payload ≡ Ok t → h ≡ told t → spelled ≡ halt_payload h → list ≡ spelled → same ≡ bytes_eq list payload → same ≡ false → nothing ≡ no_halt → nothing ≡ halt_of payload
halt_unspelled h nothing payload t spelled list same reads tells is listed tests differ unset =
    unset ∙ sym (ap (told_by payload) reads ∙ ap (spelled_by payload) (sym tells) ∙ spelled_not h payload (ap (λ (x : List ℕ). bytes_eq x payload) (sym is ∙ sym listed) ∙ sym tests ∙ differ))

-- ## what any tree tells can be set

number_fits : (ds : List ℕ) → IfSome (number_of ds) (λ n. n < 2 ^ 64)
unfolding number_of
number_fits ds = by_test (bytes_eq (decimal (digits_value 10 ds)) ds) (ltb (digits_value 10 ds) (2 ^ 64)) (digits_value 10 ds) refl
  where
    by_test : (a b : Bool) (n : ℕ) → ltb n (2 ^ 64) ≡ b → IfSome (cond (a && b) (Some n) None) (λ n. n < 2 ^ 64)
    by_test true true n is = below_is n (2 ^ 64) is
    by_test true false n is = tt
    by_test false b n is = tt

number_in_fits : (value : Option (List ℕ)) → IfSome (option_and_then number_of value) (λ n. n < 2 ^ 64)
number_in_fits None = tt
number_in_fits (Some ds) = number_fits ds

narrow_fits : (number : Option ℕ) → IfSome (option_and_then narrow number) (λ n. n < 2 ^ 32)
narrow_fits None = tt
narrow_fits (Some n) = by_test (ltb n (2 ^ 32)) refl
  where
    by_test : (b : Bool) → ltb n (2 ^ 32) ≡ b → IfSome (cond b (Some n) None) (λ n. n < 2 ^ 32)
    by_test true is = below_is n (2 ^ 32) is
    by_test false is = tt

name_fits : (value : Option (List ℕ)) → IfSome (option_and_then name_of value) (λ bytes. IsTrue (is_name bytes))
name_fits None = tt
name_fits (Some bytes) = by_test (is_name bytes) refl
  where
    by_test : (b : Bool) → is_name bytes ≡ b → IfSome (cond b (Some bytes) None) (λ bytes. IsTrue (is_name bytes))
    by_test true is = is
    by_test false is = tt

told_fits : (t : Entries) → IsHalt (told t)
told_fits t = record {
  checkpoints = narrow_fits (number_under t (codes "CHECKPOINTS"));
  before = number_in_fits (value_under t (codes "BEFORE"));
  after = number_in_fits (value_under t (codes "AFTER"));
  seconds = number_in_fits (value_under t (codes "SECONDS"));
  reason = name_fits (value_under t (codes "REASON"));
}

pub unspelled_is_unset : (payload : List ℕ) → ((h : Halt) → IsHalt h → halt_payload h ≢ payload) → halt_of payload ≡ no_halt
unspelled_is_unset payload unspelled = by_reading (all_of payload)
  where
    by_test : (h : Halt) → IsHalt h → (b : Bool) → bytes_eq (halt_payload h) payload ≡ b → spelled_by payload h ≡ no_halt
    by_test h fits true is = absurd (unspelled h fits (are_same (halt_payload h) payload is))
    by_test h fits false is = spelled_not h payload is

    by_reading : (read : Result Entries TreeError) → told_by payload read ≡ no_halt
    by_reading (Ok t) = by_test (told t) (told_fits t) (bytes_eq (halt_payload (told t)) payload) refl
    by_reading (Err e) = refl
