-- The tree of the conditions is one, shallow and short.
use Rattle.std.proofs.Common.{◌≡◌, ◌<◌, ◌≤◌, ◌+◌, ◌^◌, ℕ, Bool, true, false, List, [], ◌∷◌, ◌++◌, length, Option, None, Some, Result, Ok, Err, refl, ap, ◌∙◌, arith, length-append, lit<, lit≤}
use Rattle.std.specs.Prelude.{◌&&◌, IfOk, IfSome, IsTrue, codes, decimal, nat_le, option_map}
use Rattle.std.specs.Int.{w16, w32, to_be_bytes}
use Rattle.std.specs.List.{list_all}
use Rattle.std.specs.declared.cmp.Ordering.TheVariants.{Less}
use Rattle.std.proofs.lemmas.Bool.{leb-true}
use Rattle.std.proofs.lemmas.Cmp.{nat_list_cmp_total}
use Rattle.std.proofs.lemmas.Fmt.{decimal_nonempty, length-decimal-le}
use Rattle.scr_base.specs.Halt.{Halt}
use Rattle.scr_base.specs.Words.{is_name, begins_well, is_name_byte}
use Rattle.kvtree.specs.Entries.{Entries, none, entry, width, depth, key_order, IsKey, AreAbove, IsTree}
use Rattle.kvtree.specs.Lookup.{leaf}
use Rattle.kvtree.specs.Encoding.{encoding, children_bytes, IsEncoding}
use Rattle.kvtree.proofs.Puts.{first_key}
use Rattle.halt_file.specs.Payloads.{IsHalt, field, halt_tree, halt_payload}

-- ## values

-- a value that is set has 1 to 64 bytes
abbrev pub IsValue : Option (List ℕ) → Type 0
IsValue value = IfSome value (λ bytes. (0 < length bytes) × (length bytes ≤ 64))

pub number_key : (n : ℕ) → n < 2 ^ 64 → IsKey (decimal n)
number_key n fits = (decimal_nonempty n fits, omega (arith, length-decimal-le 20 n (omega arith) (omega arith) (omega arith)))

number_value : (number : Option ℕ) → IfSome number (λ n. n < 2 ^ 64) → IsValue (option_map decimal number)
number_value None fits = tt
number_value (Some n) fits = (decimal_nonempty n fits, omega (arith, length-decimal-le 20 n (omega arith) (omega arith) (omega arith)))

short_of : (first short bytes : Bool) → IsTrue (first && short && bytes) → (first ≡ true) × (short ≡ true)
short_of true true true is = (refl, refl)
short_of true true false is = absurd (cc is)
short_of true false bytes is = absurd (cc is)
short_of false short bytes is = absurd (cc is)

not_empty : (bytes : List ℕ) → begins_well bytes ≡ true → 0 < length bytes
not_empty [] is = absurd (cc is)
not_empty (b ∷ bs) is = omega arith

name_value : (name : Option (List ℕ)) → IfSome name (λ bytes. IsTrue (is_name bytes)) → IsValue name
name_value None named = tt
name_value (Some bytes) named =
    let is = short_of (begins_well bytes) (nat_le (length bytes) 64) (list_all is_name_byte bytes) named in
    (not_empty bytes is.0, leb-true (length bytes) 64 is.1)

wide : (number : Option ℕ) → IfSome number (λ n. n < 2 ^ 32) → IfSome number (λ n. n < 2 ^ 64)
wide None fits = tt
wide (Some n) fits = omega (arith, fits)

-- the values of the five keys
pub record AreValues (h : Halt) : Type 0 where
  pub after : IsValue (option_map decimal h.after)
  pub before : IsValue (option_map decimal h.before)
  pub checkpoints : IsValue (option_map decimal h.checkpoints)
  pub reason : IsValue h.reason
  pub seconds : IsValue (option_map decimal h.seconds)

pub values_of : (h : Halt) → IsHalt h → AreValues h
values_of h is = record {
  after = number_value h.after is.after;
  before = number_value h.before is.before;
  checkpoints = number_value h.checkpoints (wide h.checkpoints is.checkpoints);
  reason = name_value h.reason is.reason;
  seconds = number_value h.seconds is.seconds;
}

-- ## depth

field_depth : (key : List ℕ) (value : Option (List ℕ)) (rest : Entries) → depth rest ≤ 3 → depth (field key value rest) ≤ 3
field_depth key None rest le = le
field_depth key (Some bytes) rest le = omega (arith, le)

pub tree_depth : (h : Halt) → depth (halt_tree h) ≤ 3
tree_depth h =
    field_depth (codes "AFTER") (option_map decimal h.after) _ (
    field_depth (codes "BEFORE") (option_map decimal h.before) _ (
    field_depth (codes "CHECKPOINTS") (option_map decimal h.checkpoints) _ (
    field_depth (codes "REASON") h.reason _ (
    field_depth (codes "SECONDS") (option_map decimal h.seconds) none (lit≤ tt)))))

-- ## length

-- the bytes of a tree's children
size : Entries → ℕ
size t = length (children_bytes t)

size_is : (t : Entries) → length (children_bytes t) ≡ size t
unfolding size
size_is t = refl

size_none : size none ≡ 0
unfolding size
size_none = refl

size_entry : (key : List ℕ) (child rest : Entries) → size (entry key child rest) ≡ 6 + length key + size child + size rest
unfolding size
size_entry key child rest =
    let head = to_be_bytes w16 (length key) in
    let count = to_be_bytes w32 (width child) in
    omega (arith, length-append (head ++ key ++ count ++ children_bytes child) (children_bytes rest), length-append (head ++ key ++ count) (children_bytes child), length-append (head ++ key) count, length-append head key)

field_size : (key : List ℕ) (value : Option (List ℕ)) (rest : Entries) → length key ≤ 11 → IsValue value → size (field key value rest) ≤ 87 + size rest
field_size key None rest short is = omega arith
field_size key (Some bytes) rest short is = omega (arith, size_entry key (leaf bytes) rest, size_entry bytes none none, size_none, short, is.1)

tree_size : (h : Halt) → AreValues h → size (halt_tree h) ≤ 435
tree_size h are =
    let seconds = field (codes "SECONDS") (option_map decimal h.seconds) none in
    let reason = field (codes "REASON") h.reason seconds in
    let checkpoints = field (codes "CHECKPOINTS") (option_map decimal h.checkpoints) reason in
    let before = field (codes "BEFORE") (option_map decimal h.before) checkpoints in
    omega (
      arith,
      size_none,
      field_size (codes "SECONDS") (option_map decimal h.seconds) none (lit≤ tt) are.seconds,
      field_size (codes "REASON") h.reason seconds (lit≤ tt) are.reason,
      field_size (codes "CHECKPOINTS") (option_map decimal h.checkpoints) reason (lit≤ tt) are.checkpoints,
      field_size (codes "BEFORE") (option_map decimal h.before) checkpoints (lit≤ tt) are.before,
      field_size (codes "AFTER") (option_map decimal h.after) before (lit≤ tt) are.after,
    )

pub payload_short : (h : Halt) → IsHalt h → length (encoding (halt_tree h)) ≤ 439
payload_short h is = omega (arith, length-append (to_be_bytes w32 (width (halt_tree h))) (children_bytes (halt_tree h)), size_is (halt_tree h), tree_size h (values_of h is))

-- ## order

weaker : (a b : List ℕ) (t : Entries) → key_order a b ≡ Less → AreAbove b t → AreAbove a t
weaker a b none less above = tt
weaker a b (entry key child rest) less above = (above.0, nat_list_cmp_total.trans a b key less above.1, above.2, above.3, above.4)

field_above : (last key : List ℕ) (value : Option (List ℕ)) (rest : Entries) → IsKey key → IsValue value → key_order last key ≡ Less → AreAbove key rest → AreAbove last (field key value rest)
field_above last key None rest is value less above = weaker last key rest less above
field_above last key (Some bytes) rest is value less above =
    let fits : IsKey bytes = (value.0, omega (arith, value.1)) in
    (is, less, lit< tt, (fits, first_key bytes fits, lit< tt, tt, tt), above)

field_width : (key : List ℕ) (value : Option (List ℕ)) (rest : Entries) → width (field key value rest) ≤ 1 + width rest
field_width key None rest = omega arith
field_width key (Some bytes) rest = omega arith

tree_width : (h : Halt) → width (halt_tree h) < 2 ^ 32
tree_width h =
    let seconds = field (codes "SECONDS") (option_map decimal h.seconds) none in
    let reason = field (codes "REASON") h.reason seconds in
    let checkpoints = field (codes "CHECKPOINTS") (option_map decimal h.checkpoints) reason in
    let before = field (codes "BEFORE") (option_map decimal h.before) checkpoints in
    omega (
      arith,
      field_width (codes "SECONDS") (option_map decimal h.seconds) none,
      field_width (codes "REASON") h.reason seconds,
      field_width (codes "CHECKPOINTS") (option_map decimal h.checkpoints) reason,
      field_width (codes "BEFORE") (option_map decimal h.before) checkpoints,
      field_width (codes "AFTER") (option_map decimal h.after) before,
    )

is_tree : (h : Halt) → AreValues h → IsTree (halt_tree h)
is_tree h are = (
  tree_width h,
  field_above [] (codes "AFTER") (option_map decimal h.after) _ (lit< tt, lit< tt) are.after refl (
      field_above (codes "AFTER") (codes "BEFORE") (option_map decimal h.before) _ (lit< tt, lit< tt) are.before refl (
      field_above (codes "BEFORE") (codes "CHECKPOINTS") (option_map decimal h.checkpoints) _ (lit< tt, lit< tt) are.checkpoints refl (
      field_above (codes "CHECKPOINTS") (codes "REASON") h.reason _ (lit< tt, lit< tt) are.reason refl (
      field_above (codes "REASON") (codes "SECONDS") (option_map decimal h.seconds) none (lit< tt, lit< tt) are.seconds refl tt)))),
)

pub payload_is : (h : Halt) → IsHalt h → IsEncoding (halt_tree h) (halt_payload h)
unfolding halt_payload
payload_is h is = record { tree = is_tree h (values_of h is); shallow = omega (arith, tree_depth h); spelled = refl }

-- ## what is encoded

pub spelled_ok : {E : Type 0} (h : Halt) (t : Entries) (result : Result (List ℕ) E) → t ≡ halt_tree h → IfOk result (λ bytes. IsEncoding t bytes) → IfOk result (λ bytes. bytes ≡ halt_payload h)
unfolding halt_payload
spelled_ok h t (Ok bytes) is spelled = spelled.spelled ∙ ap encoding is
spelled_ok h t (Err e) is spelled = tt

pub short_ok : {E : Type 0} (h : Halt) (t : Entries) (result : Result (List ℕ) E) → t ≡ halt_tree h → IsHalt h → IfOk result (λ bytes. IsEncoding t bytes) → IfOk result (λ bytes. length bytes ≤ 1048572)
short_ok h t (Ok bytes) is fits spelled = let same : bytes ≡ encoding (halt_tree h) = spelled.spelled ∙ ap encoding is in omega (arith, payload_short h fits, ap length same)
short_ok h t (Err e) is fits spelled = tt
