-- Lists of entries.
use Rattle.std.proofs.Common.{◌≡◌, ◌≢◌, ◌⊎◌, inl, inr, ◌<◌, ◌≤◌, ◌+◌, ◌^◌, ◌*◌, ℕ, zero, suc, Bool, true, false, cond, ◌||◌, not, List, [], ◌∷◌, ◌++◌, map, length, take, drop, set, get_or, sum_by, Option, None, Some, refl, sym, ◌∙◌, ap, subst, arith, zero-add, length-append, length-drop}
use Rattle.std.specs.Prelude.{vec_len, if◌then◌else◌, Result, Ok, Err, IfErr, OnErr, IsSome, is_some, Contains, unwrap_or, ◌↔◌}
use Rattle.std.specs.Cmp.Lexicographic.{slice_cmp}
use Rattle.std.specs.Ordering.{nat_cmp}
use Rattle.std.specs.Str.{bytes_eq}
use Rattle.std.specs.declared.cmp.Ordering.TheVariants.{Less}
use Rattle.std.proofs.lemmas.List.{get_or-map, map-set, length-map, set-get_or, get_or_default, length-set, get_or-set_same, get_or-set_other, length-take-le}
use Rattle.std.proofs.lemmas.List.Sums.{sum_by-cons, sum_by-set, sum_by-insert}
use Rattle.std.proofs.lemmas.Bool.{cases_eq}
use Rattle.std.proofs.Math.Path.{fun_ext}
use Rattle.std.proofs.lemmas.Slice.Eq.{bytes_eq-Decides}
use Rattle.std.proofs.lemmas.Cmp.{nat_list_cmp_total}
use Rattle.std.proofs.lemmas.Map.Text.{is_eq-slice_cmp}
use Rattle.node_device.specs.File.{File, IsKept, IsAtRest, MayLeave, IsPartlySynced, Torn, no_file, bytes_of}
use Rattle.node_device.specs.Held.{present}
use Rattle.node_device.specs.Entry.{entry_file, entry_name}
use Rattle.std.specs.Option.{option_map}
use Rattle.node_device.specs.Entries.{file_at, names_of, name_at, used_by, turn_behind, IsStopOf}
use Rattle.node_device.specs.DeviceState.{IsAscending}
use Rattle.node_device.specs.declared.entry.Entry.{Entry}
use Rattle.node_device.specs.Outcomes.{true_or_false, not_both, rest_leaves}
use Rattle.node_device.specs.declared.outcome.Outcome.TheVariants.{AsRead}

below_or_not : (k n : ℕ) → (k < n) ⊎ (n ≤ k)
below_or_not k n = grind arith

-- a name is this one or another
pub same_name_or_not : (a b : List ℕ) → ((bytes_eq a b ≡ true) × (a ≡ b)) ⊎ ((bytes_eq a b ≡ false) × (a ≢ b))
same_name_or_not a b = elim (true_or_false (bytes_eq a b)) [
  | inl same ↦ inl (same, (bytes_eq-Decides a b).0 same)
  | inr other ↦ inr (other, λ e. absurd (cc ((bytes_eq-Decides a b).1 e, other)))
]

pub bytes_eq_same : (a b : List ℕ) → a ≡ b → bytes_eq a b ≡ true
bytes_eq_same a b e = (bytes_eq-Decides a b).1 e

pub bytes_eq_other : (a b : List ℕ) → a ≢ b → bytes_eq a b ≡ false
bytes_eq_other a b ne = elim (same_name_or_not a b) [ inl same ↦ absurd (ne same.1) | inr other ↦ other.0 ]

-- a name below another is another
pub below_other : (a b : List ℕ) → slice_cmp nat_cmp a b ≡ Less → a ≢ b
below_other a b lt = λ e. absurd (cc (is_eq-slice_cmp a b, bytes_eq_same a b e, lt))

pub name_is : (es : List Entry) (i : ℕ) (e : Entry) → i < length es → e ≡ get_or es i e → name_at es i ≡ entry_name e
name_is es i e lt is = get_or-map entry_name es i e [] lt ∙ ap entry_name (sym is)

pub tail_ascending : (n : List ℕ) (ns : List (List ℕ)) → IsAscending (n ∷ ns) → IsAscending ns
tail_ascending n ns asc i j lt below = asc (suc i) (suc j) (omega arith) (omega arith)

-- what stands under the name of an entry
pub file_at_found : (es : List Entry) (i : ℕ) (d : Entry) → IsAscending (map entry_name es) → i < length es → file_at es (name_at es i) ≡ entry_file (get_or es i d)
file_at_found [] i d asc lt = absurd (omega arith)
file_at_found (e ∷ es) zero d asc lt = ap (λ b. cond b (entry_file e) (file_at es (entry_name e))) (bytes_eq_same (entry_name e) (entry_name e) refl)
file_at_found (e ∷ es) (suc i) d asc lt =
    let below = asc zero (suc i) (omega arith) (omega (arith, length-map es entry_name)) in
    ap (λ b. cond b (entry_file e) (file_at es (name_at es i))) (bytes_eq_other (entry_name e) (name_at es i) (below_other _ _ below)) ∙ file_at_found es i d (tail_ascending (entry_name e) (map entry_name es) asc) (omega arith)

-- under a name that no entry has there is no_file
pub file_at_absent : (es : List Entry) (q : List ℕ) → ((j : ℕ) → j < length es → name_at es j ≢ q) → file_at es q ≡ no_file
file_at_absent [] q none = refl
file_at_absent (e ∷ es) q none =
    ap (λ b. cond b (entry_file e) (file_at es q)) (bytes_eq_other (entry_name e) q (none zero (omega arith))) ∙ file_at_absent es q (λ j lt. none (suc j) (omega arith))

-- an entry in the place of one of the same name
pub file_at-set_same : (es : List Entry) (i : ℕ) (e : Entry) → IsAscending (map entry_name es) → i < length es → entry_name e ≡ name_at es i → file_at (set es i e) (name_at es i) ≡ entry_file e
file_at-set_same [] i e asc lt is = absurd (omega arith)
file_at-set_same (x ∷ es) zero e asc lt is = ap (λ b. cond b (entry_file e) (file_at es (entry_name x))) (bytes_eq_same (entry_name e) (entry_name x) is)
file_at-set_same (x ∷ es) (suc i) e asc lt is =
    let below = asc zero (suc i) (omega arith) (omega (arith, length-map es entry_name)) in
    ap (λ b. cond b (entry_file x) (file_at (set es i e) (name_at es i))) (bytes_eq_other (entry_name x) (name_at es i) (below_other _ _ below)) ∙ file_at-set_same es i e (tail_ascending (entry_name x) (map entry_name es) asc) (omega arith) is

pub file_at-set_other : (es : List Entry) (i : ℕ) (e : Entry) (q : List ℕ) → entry_name e ≡ name_at es i → q ≢ name_at es i → file_at (set es i e) q ≡ file_at es q
file_at-set_other [] i e q is ne = refl
file_at-set_other (x ∷ es) zero e q is ne =
    ap (λ b. cond b (entry_file e) (file_at es q)) (bytes_eq_other (entry_name e) q (λ same. ne (sym same ∙ is))) ∙ sym (ap (λ b. cond b (entry_file x) (file_at es q)) (bytes_eq_other (entry_name x) q (λ same. ne (sym same))))
file_at-set_other (x ∷ es) (suc i) e q is ne = ap (cond (bytes_eq (entry_name x) q) (entry_file x)) (file_at-set_other es i e q is ne)

-- one more entry
pub file_at-insert_other : (es : List Entry) (i : ℕ) (e : Entry) (q : List ℕ) → q ≢ entry_name e → file_at (take i es ++ e ∷ drop i es) q ≡ file_at es q
file_at-insert_other [] zero e q ne = ap (λ b. cond b (entry_file e) no_file) (bytes_eq_other (entry_name e) q (λ same. ne (sym same)))
file_at-insert_other [] (suc i) e q ne = ap (λ b. cond b (entry_file e) no_file) (bytes_eq_other (entry_name e) q (λ same. ne (sym same)))
file_at-insert_other (x ∷ es) zero e q ne = ap (λ b. cond b (entry_file e) (file_at (x ∷ es) q)) (bytes_eq_other (entry_name e) q (λ same. ne (sym same)))
file_at-insert_other (x ∷ es) (suc i) e q ne = ap (cond (bytes_eq (entry_name x) q) (entry_file x)) (file_at-insert_other es i e q ne)

pub file_at-insert_same : (es : List Entry) (i : ℕ) (e : Entry) → i ≤ length es → ((j : ℕ) → j < i → name_at es j ≢ entry_name e) → file_at (take i es ++ e ∷ drop i es) (entry_name e) ≡ entry_file e
file_at-insert_same es zero e le before = ap (λ b. cond b (entry_file e) (file_at es (entry_name e))) (bytes_eq_same (entry_name e) (entry_name e) refl)
file_at-insert_same [] (suc i) e le before = absurd (omega arith)
file_at-insert_same (x ∷ es) (suc i) e le before =
    ap (λ b. cond b (entry_file x) (file_at (take i es ++ e ∷ drop i es) (entry_name e))) (bytes_eq_other (entry_name x) (entry_name e) (before zero (omega arith))) ∙ file_at-insert_same es i e (omega arith) (λ j lt. before (suc j) (omega arith))

both : (R : File → File → Type 0) (b : Bool) {x y z w : File} → R x y → R z w → R (cond b x z) (cond b y w)
both R true h k = h
both R false h k = k

-- the entries one by one changed, each under its name
pub file_at_each : (R : File → File → Type 0) → R no_file no_file → (es fs : List Entry) → length es ≡ length fs → ((k : ℕ) (d : Entry) → k < length es → (entry_name (get_or fs k d) ≡ entry_name (get_or es k d)) × R (entry_file (get_or es k d)) (entry_file (get_or fs k d))) → (q : List ℕ) → R (file_at es q) (file_at fs q)
file_at_each R none [] [] len each q = none
file_at_each R none [] (f ∷ fs) len each q = absurd (omega arith)
file_at_each R none (e ∷ es) [] len each q = absurd (omega arith)
file_at_each R none (e ∷ es) (f ∷ fs) len each q =
    let first = each zero e (omega arith) in
    let rest = file_at_each R none es fs (omega arith) (λ k d lt. each (suc k) d (omega arith)) q in
    subst (λ (n : List ℕ). R (cond (bytes_eq (entry_name e) q) (entry_file e) (file_at es q)) (cond (bytes_eq n q) (entry_file f) (file_at fs q))) (sym first.0) (both R (bytes_eq (entry_name e) q) first.1 rest)

-- an entry in the place of one of the same name leaves the names
pub names-set : (es : List Entry) (i : ℕ) (e : Entry) → entry_name e ≡ name_at es i → map entry_name (set es i e) ≡ map entry_name es
names-set es i e is = map-set entry_name es i e ∙ ap (λ (n : List ℕ). set (map entry_name es) i n) is ∙ set-get_or (map entry_name es) i []

pub ascending-set : (es : List Entry) (i : ℕ) (e : Entry) → entry_name e ≡ name_at es i → IsAscending (map entry_name es) → IsAscending (map entry_name (set es i e))
ascending-set es i e is asc = subst (λ (ns : List (List ℕ)). IsAscending ns) (sym (names-set es i e is)) asc

pub cons_ascending : (x : List ℕ) (ns : List (List ℕ)) → ((k : ℕ) → k < length ns → slice_cmp nat_cmp x (get_or ns k []) ≡ Less) → IsAscending ns → IsAscending (x ∷ ns)
cons_ascending x ns first asc zero zero lt below = absurd (omega arith)
cons_ascending x ns first asc zero (suc j) lt below = first j (omega arith)
cons_ascending x ns first asc (suc i) zero lt below = absurd (omega arith)
cons_ascending x ns first asc (suc i) (suc j) lt below = asc i j (omega arith) (omega arith)

insert_each : (P : List ℕ → Type 0) (ns : List (List ℕ)) (i : ℕ) (n : List ℕ) → P n → ((k : ℕ) → k < length ns → P (get_or ns k [])) → (k : ℕ) → k < length (take i ns ++ n ∷ drop i ns) → P (get_or (take i ns ++ n ∷ drop i ns) k [])
insert_each P ns zero n here each zero lt = here
insert_each P ns zero n here each (suc k) lt = each k (omega arith)
insert_each P [] (suc i) n here each zero lt = here
insert_each P [] (suc i) n here each (suc k) lt = absurd (omega arith)
insert_each P (x ∷ ns) (suc i) n here each zero lt = each zero (omega arith)
insert_each P (x ∷ ns) (suc i) n here each (suc k) lt = insert_each P ns i n here (λ j below. each (suc j) (omega arith)) k (omega arith)

below_all : (n : List ℕ) (ns : List (List ℕ)) → IsAscending ns → (0 < length ns → slice_cmp nat_cmp n (get_or ns 0 []) ≡ Less) → (k : ℕ) → k < length ns → slice_cmp nat_cmp n (get_or ns k []) ≡ Less
below_all n ns asc first zero lt = first (omega arith)
below_all n ns asc first (suc k) lt = nat_list_cmp_total.trans n (get_or ns 0 []) (get_or ns (suc k) []) (first (omega arith)) (asc zero (suc k) (omega arith) lt)

insert_ascending : (ns : List (List ℕ)) (i : ℕ) (n : List ℕ) → IsAscending ns → i ≤ length ns → ((j : ℕ) → j < i → slice_cmp nat_cmp (get_or ns j []) n ≡ Less) → (i < length ns → slice_cmp nat_cmp n (get_or ns i []) ≡ Less) → IsAscending (take i ns ++ n ∷ drop i ns)
insert_ascending ns zero n asc le before after = cons_ascending n ns (below_all n ns asc after) asc
insert_ascending [] (suc i) n asc le before after = absurd (omega arith)
insert_ascending (x ∷ ns) (suc i) n asc le before after =
    cons_ascending x (take i ns ++ n ∷ drop i ns)
    (insert_each (λ (m : List ℕ). slice_cmp nat_cmp x m ≡ Less) ns i n (before zero (omega arith)) (λ k lt. asc zero (suc k) (omega arith) (omega arith)))
    (insert_ascending ns i n (tail_ascending x ns asc) (omega arith) (λ j lt. before (suc j) (omega arith)) (λ lt. after (omega arith)))

map_insert : (es : List Entry) (i : ℕ) (e : Entry) → map entry_name (take i es ++ e ∷ drop i es) ≡ take i (map entry_name es) ++ entry_name e ∷ drop i (map entry_name es)
map_insert es zero e = refl
map_insert [] (suc i) e = refl
map_insert (x ∷ es) (suc i) e = ap (λ (ns : List (List ℕ)). entry_name x ∷ ns) (map_insert es i e)

pub ascending-insert : (es : List Entry) (i : ℕ) (e : Entry) → IsAscending (map entry_name es) → i ≤ length es → ((j : ℕ) → j < i → slice_cmp nat_cmp (name_at es j) (entry_name e) ≡ Less) → (i < length es → slice_cmp nat_cmp (entry_name e) (name_at es i) ≡ Less) → IsAscending (map entry_name (take i es ++ e ∷ drop i es))
ascending-insert es i e asc le before after = subst (λ (ns : List (List ℕ)). IsAscending ns) (sym (map_insert es i e))
    (insert_ascending (map entry_name es) i (entry_name e) asc (omega (arith, length-map es entry_name)) before (λ lt. after (omega (arith, length-map es entry_name))))

-- a name that is listed is that of an entry
pub step_in : (b : Bool) (n : List ℕ) (ns : List (List ℕ)) (q : List ℕ) → Contains (cond b (n ∷ ns) ns) q → ((b ≡ true) × (n ≡ q)) ⊎ Contains ns q
step_in true n ns q (zero, lt, at) = inl (refl, at)
step_in true n ns q (suc k, lt, at) = inr (k, omega arith, at)
step_in false n ns q has = inr has

listed_entry : (es : List Entry) (q : List ℕ) → Contains (names_of es) q → (j : ℕ) × (j < length es) × (name_at es j ≡ q)
listed_entry [] q (k, lt, at) = absurd (omega arith)
listed_entry (e ∷ es) q has = elim (step_in e.there (entry_name e) (names_of es) q has) [
  | inl here ↦ (zero, omega arith, here.1)
  | inr later ↦ let found = listed_entry es q later in (suc found.0, omega (arith, found.1), found.2)
]

-- the names after the first are others
others_above : (e : Entry) (es : List Entry) → IsAscending (map entry_name (e ∷ es)) → (j : ℕ) → j < length es → entry_name e ≢ name_at es j
others_above e es asc j lt = below_other _ _ (asc zero (suc j) (omega arith) (omega (arith, length-map es entry_name)))

to_len : (es : List Entry) → IsAscending (map entry_name es) → (q : List ℕ) → Contains (names_of es) q → IsSome (file_at es q).len
to_len [] asc q (k, lt, at) = absurd (omega arith)
to_len (e ∷ es) asc q has = elim (step_in e.there (entry_name e) (names_of es) q has) [
  | inl here ↦
      subst (λ (b : Bool). IsSome (cond b (entry_file e) (file_at es q)).len) (sym (bytes_eq_same (entry_name e) q here.1)) (ap (λ (b : Bool). is_some (option_map length (present b e.bytes.items))) here.0)
  | inr later ↦
      let found = listed_entry es q later in
      subst (λ (b : Bool). IsSome (cond b (entry_file e) (file_at es q)).len) (sym (bytes_eq_other (entry_name e) q (λ same. others_above e es asc found.0 found.1 (same ∙ sym found.2))))
      (to_len es (tail_ascending (entry_name e) (map entry_name es) asc) q later)
]

pub later_in : (b : Bool) (n : List ℕ) (ns : List (List ℕ)) (q : List ℕ) → Contains ns q → Contains (cond b (n ∷ ns) ns) q
later_in true n ns q (k, lt, at) = (suc k, omega arith, at)
later_in false n ns q has = has

there_of : (b : Bool) (xs : List ℕ) → IsSome (option_map length (present b xs)) → b ≡ true
there_of true xs some = refl
there_of false xs some = absurd (cc some)

pub first_in : (b : Bool) (n : List ℕ) (ns : List (List ℕ)) (q : List ℕ) → b ≡ true → n ≡ q → Contains (cond b (n ∷ ns) ns) q
first_in true n ns q there same = (zero, omega arith, same)
first_in false n ns q there same = absurd (cc there)

from_len : (es : List Entry) (q : List ℕ) → IsSome (file_at es q).len → Contains (names_of es) q
from_len [] q some = absurd (cc some)
from_len (e ∷ es) q some = elim (same_name_or_not (entry_name e) q) [
  | inl same ↦ first_in e.there (entry_name e) (names_of es) q (there_of e.there e.bytes.items (subst (λ (b : Bool). IsSome (cond b (entry_file e) (file_at es q)).len) same.0 some)) same.1
  | inr other ↦ later_in e.there (entry_name e) (names_of es) q (from_len es q (subst (λ (b : Bool). IsSome (cond b (entry_file e) (file_at es q)).len) other.0 some))
]

-- the names are those of the files that are there
pub listed : (es : List Entry) → IsAscending (map entry_name es) → (q : List ℕ) → Contains (names_of es) q ↔ IsSome (file_at es q).len
listed es asc q = (to_len es asc q, from_len es q)

sum_by-same : (f g : List ℕ → ℕ) (ns : List (List ℕ)) → ((k : ℕ) → k < length ns → f (get_or ns k []) ≡ g (get_or ns k [])) → sum_by f ns ≡ sum_by g ns
sum_by-same f g [] same = refl
sum_by-same f g (n ∷ ns) same = let first = same zero (omega arith) in let rest = sum_by-same f g ns (λ k lt. same (suc k) (omega arith)) in sum_by-cons f n ns ∙ ap (λ m. m + sum_by f ns) first ∙ ap (λ m. g n + m) rest ∙ sym (sum_by-cons g n ns)

len_of : List Entry → List ℕ → ℕ
len_of es n = unwrap_or (file_at es n).len 0

first_sum : (b : Bool) (n : List ℕ) (ns : List (List ℕ)) (xs : List ℕ) (f : List ℕ → ℕ) → f n ≡ unwrap_or (option_map length (present b xs)) 0 → (b ≡ false → xs ≡ []) → sum_by f (cond b (n ∷ ns) ns) ≡ length xs + sum_by f ns
first_sum true n ns xs f at absent = sum_by-cons f n ns ∙ ap (λ m. m + sum_by f ns) at
first_sum false n ns xs f at absent = omega (arith, ap length (absent refl), zero-add (sum_by f ns))

-- the sum of the lengths, name by name
pub used_is : (es : List Entry) → IsAscending (map entry_name es) → sum_by (λ n. unwrap_or (file_at es n).len 0) (names_of es) ≡ used_by es
used_is [] asc = refl
used_is (e ∷ es) asc =
    let first = first_sum e.there (entry_name e) (names_of es) e.bytes.items (λ n. unwrap_or (file_at (e ∷ es) n).len 0)
    (ap (λ b. unwrap_or (cond b (entry_file e) (file_at es (entry_name e))).len 0) (bytes_eq_same (entry_name e) (entry_name e) refl)) e.sound.absent in
    let same = sum_by-same (λ n. unwrap_or (file_at (e ∷ es) n).len 0) (λ n. unwrap_or (file_at es n).len 0) (names_of es) (λ k lt.
    let found = listed_entry es (get_or (names_of es) k []) (k, lt, get_or_default (names_of es) k (get_or (names_of es) k []) [] lt) in
    ap (λ b. unwrap_or (cond b (entry_file e) (file_at es (get_or (names_of es) k []))).len 0) (bytes_eq_other (entry_name e) (get_or (names_of es) k []) (λ eq. others_above e es asc found.0 found.1 (eq ∙ sym found.2)))) in
    first ∙ ap (λ n. length e.bytes.items + n) (same ∙ used_is es (tail_ascending (entry_name e) (map entry_name es) asc)) ∙ ap (λ (n : ℕ). n + used_by es) (sym e.bytes.ok.0) ∙ sym (sum_by-cons (λ (x : Entry). vec_len x.bytes) e es)

-- the first i are changed, each as R says
pub record IsEachTo (R : ℕ → Entry → Entry → Type 0) (i : ℕ) (old new : List Entry) : Type 0 where
  pub len : length new ≡ length old
  pub passed : (k : ℕ) (d : Entry) → k < i → R k (get_or old k d) (get_or new k d)
  pub ahead : (k : ℕ) (d : Entry) → i ≤ k → get_or new k d ≡ get_or old k d

pub each_more : (R : ℕ → Entry → Entry → Type 0) (i : ℕ) (old new : List Entry) (was e : Entry) → i < length new → IsEachTo R i old new → was ≡ get_or new i was → R i was e → IsEachTo R (i + 1) old (set new i e)
each_more R i old new was e lt each is r = record {
  len = length-set new i e ∙ each.len;
  passed = λ k d below. elim (cases_eq k i) [
    | inl same ↦ subst (λ (j : ℕ). R j (get_or old j d) (get_or (set new i e) j d)) (sym same)
        (subst (λ (x : Entry). R i x (get_or (set new i e) i d)) (is ∙ get_or_default new i was d lt ∙ each.ahead i d (omega arith))
        (subst (λ (x : Entry). R i was x) (sym (get_or-set_same new i e d lt)) r))
    | inr ne ↦
        let other : k ≢ i = ne in
        subst (λ (x : Entry). R k (get_or old k d) x) (sym (get_or-set_other new i k e d other)) (each.passed k d (grind arith))
  ];
  ahead = λ k d above. get_or-set_other new i k e d (let other : k ≢ i = omega arith in other) ∙ each.ahead k d (omega arith);
}

-- one entry in the place of another of its name
module _ (es : List Entry) (asc : IsAscending (map entry_name es)) (i : ℕ) (lt : i < length es) (old new : Entry) (old_is : old ≡ get_or es i old) (name : entry_name new ≡ entry_name old) where
  named : entry_name new ≡ name_at es i
  named = name ∙ sym (name_is es i old lt old_is)

  pub replaced_ascending : IsAscending (map entry_name (set es i new))
  replaced_ascending = ascending-set es i new named asc

  pub replaced_at : (R : File → File → Type 0) → R (entry_file old) (entry_file new) → R (file_at es (name_at es i)) (file_at (set es i new) (name_at es i))
  replaced_at R r =
      subst (λ (f : File). R f (file_at (set es i new) (name_at es i))) (sym (file_at_found es i old asc lt ∙ ap entry_file (sym old_is)))
      (subst (λ (f : File). R (entry_file old) f) (sym (file_at-set_same es i new asc lt named)) r)

  pub replaced_others : (q : List ℕ) → q ≢ name_at es i → file_at (set es i new) q ≡ file_at es q
  replaced_others q ne = file_at-set_other es i new q named ne

  pub replaced_used : used_by (set es i new) + vec_len old.bytes ≡ used_by es + vec_len new.bytes
  replaced_used = ap (λ (e : Entry). used_by (set es i new) + vec_len e.bytes) old_is ∙ sum_by-set (λ (e : Entry). vec_len e.bytes) es i new old lt

-- the files are all short
lens_below : (es : List Entry) → used_by es ≤ length es * 1073741824
lens_below [] = omega arith
lens_below (e ∷ es) = omega (arith, sum_by-cons (λ (x : Entry). vec_len x.bytes) e es, e.bytes.ok.0, e.sound.now_in, e.sound.small, lens_below es)

pub lens_fit : (es : List Entry) → length es ≤ 2 ^ 33 → used_by es < 2 ^ 64
lens_fit es few = omega (arith, lens_below es)

names_of-set : (es : List Entry) (i : ℕ) (e : Entry) → entry_name e ≡ name_at es i → ((d : Entry) → e.there ≡ (get_or es i d).there) → names_of (set es i e) ≡ names_of es
names_of-set [] i e name there = refl
names_of-set (x ∷ es) zero e name there = ap (λ b. cond b (entry_name e ∷ names_of es) (names_of es)) (there x) ∙ ap (λ (n : List ℕ). cond x.there (n ∷ names_of es) (names_of es)) name
names_of-set (x ∷ es) (suc i) e name there = ap (λ (ns : List (List ℕ)). cond x.there (entry_name x ∷ ns) ns) (names_of-set es i e name there)

pub kept_itself : (f : File) → IsKept f f
kept_itself f = record { len = refl; now = refl; fluid = λ h. h; greatest = omega arith }

-- one entry in the place of another that reads alike
pub replaced_kept : (es : List Entry) (asc : IsAscending (map entry_name es)) (i : ℕ) (lt : i < length es) (old new : Entry) (old_is : old ≡ get_or es i old) (name : entry_name new ≡ entry_name old) → IsKept (entry_file old) (entry_file new) → (q : List ℕ) → IsKept (file_at es q) (file_at (set es i new) q)
replaced_kept es asc i lt old new old_is name kept q = elim (same_name_or_not q (name_at es i)) [
  | inl same ↦ subst (λ (n : List ℕ). IsKept (file_at es n) (file_at (set es i new) n)) (sym same.1) (replaced_at es asc i lt old new old_is name IsKept kept)
  | inr other ↦ subst (λ (f : File). IsKept (file_at es q) f) (sym (replaced_others es asc i lt old new old_is name q other.1)) (kept_itself (file_at es q))
]

pub replaced_names : (es : List Entry) (i : ℕ) (lt : i < length es) (old new : Entry) (old_is : old ≡ get_or es i old) (name : entry_name new ≡ entry_name old) → new.there ≡ old.there → names_of (set es i new) ≡ names_of es
replaced_names es i lt old new old_is name there = names_of-set es i new (name ∙ sym (name_is es i old lt old_is)) (λ d. there ∙ ap (λ (e : Entry). e.there) (old_is ∙ get_or_default es i old d lt))

-- an entry in the place of one that stands for the same file
pub replaced_same : (es : List Entry) (asc : IsAscending (map entry_name es)) (i : ℕ) (lt : i < length es) (old new : Entry) (old_is : old ≡ get_or es i old) (name : entry_name new ≡ entry_name old) → entry_file new ≡ entry_file old → file_at (set es i new) ≡ file_at es
replaced_same es asc i lt old new old_is name same = fun_ext (λ q. elim (same_name_or_not q (name_at es i)) [
  | inl is ↦ subst (λ (n : List ℕ). file_at (set es i new) n ≡ file_at es n) (sym is.1) (replaced_at es asc i lt old new old_is name (λ f g. g ≡ f) same)
  | inr away ↦ replaced_others es asc i lt old new old_is name q away.1
])

-- what follows from two facts of a refused call
pub on_both : {T E P Q R : Type 0} (r : Result T E) → (P → Q → R) → OnErr r P → OnErr r Q → OnErr r R
on_both (Ok x) f p q = tt
on_both (Err e) f p q = f p q

-- one more entry, under a name that none had
module _ (es : List Entry) (i : ℕ) (le : i ≤ length es) (n : List ℕ) (e : Entry) (name : entry_name e ≡ n) (before : (j : ℕ) → j < i → slice_cmp nat_cmp (name_at es j) n ≡ Less) (all : List Entry) (is : all ≡ take i es ++ e ∷ drop i es) where
  pub inserted_ascending : IsAscending (map entry_name es) → (i < length es → slice_cmp nat_cmp n (name_at es i) ≡ Less) → IsAscending (map entry_name all)
  inserted_ascending asc after = subst (λ (l : List Entry). IsAscending (map entry_name l)) (sym is)
      (ascending-insert es i e asc le (λ j lt. ap (λ (m : List ℕ). slice_cmp nat_cmp (name_at es j) m) name ∙ before j lt) (λ lt. ap (λ (m : List ℕ). slice_cmp nat_cmp m (name_at es i)) name ∙ after lt))

  found_new : file_at all n ≡ entry_file e
  found_new = ap (λ (l : List Entry). file_at l n) is
      ∙ subst (λ (m : List ℕ). file_at (take i es ++ e ∷ drop i es) m ≡ entry_file e) name (file_at-insert_same es i e le (λ j lt. below_other _ _ (ap (λ (m : List ℕ). slice_cmp nat_cmp (name_at es j) m) name ∙ before j lt)))

  pub inserted_at : (R : File → File → Type 0) → file_at es n ≡ no_file → R no_file (entry_file e) → R (file_at es n) (file_at all n)
  inserted_at R none r = subst (λ (f : File). R f (file_at all n)) (sym none) (subst (λ (f : File). R no_file f) (sym found_new) r)

  pub inserted_others : (q : List ℕ) → q ≢ n → file_at all q ≡ file_at es q
  inserted_others q ne = ap (λ (l : List Entry). file_at l q) is ∙ file_at-insert_other es i e q (λ same. ne (same ∙ name))

  pub inserted_used : used_by all ≡ used_by es + vec_len e.bytes
  inserted_used = ap (λ (l : List Entry). used_by l) is ∙ sum_by-insert (λ (x : Entry). vec_len x.bytes) es i e

  pub inserted_length : length all ≡ length es + 1
  inserted_length = ap length is ∙ omega (arith, length-append (take i es) (e ∷ drop i es), length-take-le i es le, length-drop i es)

-- between the names below and those above, no entry has the name
pub file_at_between : (es : List Entry) (i : ℕ) (q : List ℕ) → IsAscending (map entry_name es) → ((j : ℕ) → j < i → slice_cmp nat_cmp (name_at es j) q ≡ Less) → (i < length es → slice_cmp nat_cmp q (name_at es i) ≡ Less) → file_at es q ≡ no_file
file_at_between es i q asc before after = file_at_absent es q (λ j lt. elim (below_or_not j i) [
  | inl below ↦ below_other _ _ (before j below)
  | inr above ↦
      let here = after (omega arith) in
      elim (cases_eq j i) [
        | inl same ↦ λ e. below_other _ _ here (sym e ∙ ap (λ (k : ℕ). name_at es k) same)
        | inr other ↦
            let ne : j ≢ i = other in
            let later : i < j = grind arith in
            λ e. below_other _ _ (nat_list_cmp_total.trans q (name_at es i) (name_at es j) here (asc i j later (omega (arith, length-map es entry_name)))) (sym e)
      ]
])

-- what stands under the name of this entry
pub file_at_is : (es : List Entry) (i : ℕ) (q : List ℕ) (e : Entry) → IsAscending (map entry_name es) → i < length es → name_at es i ≡ q → e ≡ get_or es i e → file_at es q ≡ entry_file e
file_at_is es i q e asc lt name is = subst (λ (n : List ℕ). file_at es n ≡ entry_file e) name (file_at_found es i e asc lt ∙ ap entry_file (sym is))

pub absent_at : (es : List Entry) (q : List ℕ) (r : Result ℕ ℕ) → IsAscending (map entry_name es) → (fs : List Entry) → fs ≡ es
    → IfErr r (λ i. (i ≤ length fs) × ((j : ℕ) → j < i → slice_cmp nat_cmp (name_at fs j) q ≡ Less) × (i < length fs → slice_cmp nat_cmp q (name_at fs i) ≡ Less)) → OnErr r (file_at es q ≡ no_file)
absent_at es q (Ok i) asc fs is h = tt
absent_at es q (Err i) asc fs is h =
    let at : (i ≤ length es) × ((j : ℕ) → j < i → slice_cmp nat_cmp (name_at es j) q ≡ Less) × (i < length es → slice_cmp nat_cmp q (name_at es i) ≡ Less) =
    subst (λ (l : List Entry). (i ≤ length l) × ((j : ℕ) → j < i → slice_cmp nat_cmp (name_at l j) q ≡ Less) × (i < length l → slice_cmp nat_cmp q (name_at l i) ≡ Less)) is h in
    file_at_between es i q asc at.1 at.2

-- entries that are changed one by one, and keep their names
each_name : (es fs : List Entry) → length fs ≡ length es → ((k : ℕ) (d : Entry) → k < length es → entry_name (get_or fs k d) ≡ entry_name (get_or es k d)) → map entry_name fs ≡ map entry_name es
each_name [] [] len same = refl
each_name [] (f ∷ fs) len same = absurd (omega arith)
each_name (e ∷ es) [] len same = absurd (omega arith)
each_name (e ∷ es) (f ∷ fs) len same =
    ap (λ (n : List ℕ). n ∷ map entry_name fs) (same zero e (omega arith)) ∙ ap (λ (ns : List (List ℕ)). entry_name e ∷ ns) (each_name es fs (omega arith) (λ k d lt. same (suc k) d (omega arith)))

pub each_ascending : (es fs : List Entry) → length fs ≡ length es → ((k : ℕ) (d : Entry) → k < length es → entry_name (get_or fs k d) ≡ entry_name (get_or es k d)) → IsAscending (map entry_name es) → IsAscending (map entry_name fs)
each_ascending es fs len same asc = subst (λ (ns : List (List ℕ)). IsAscending ns) (sym (each_name es fs len same)) asc

pub each_names_of : (es fs : List Entry) → length fs ≡ length es → ((k : ℕ) (d : Entry) → k < length es → (entry_name (get_or fs k d) ≡ entry_name (get_or es k d)) × ((get_or fs k d).there ≡ (get_or es k d).there)) → names_of fs ≡ names_of es
each_names_of [] [] len same = refl
each_names_of [] (f ∷ fs) len same = absurd (omega arith)
each_names_of (e ∷ es) [] len same = absurd (omega arith)
each_names_of (e ∷ es) (f ∷ fs) len same =
    let first = same zero e (omega arith) in
    let rest = each_names_of es fs (omega arith) (λ k d lt. same (suc k) d (omega arith)) in
    ap (λ b. cond b (entry_name f ∷ names_of fs) (names_of fs)) first.1
    ∙ ap (λ (n : List ℕ). cond e.there (n ∷ names_of fs) (names_of fs)) first.0
    ∙ ap (λ (ns : List (List ℕ)). cond e.there (entry_name e ∷ ns) ns) rest

pub rest_nothing : IsAtRest no_file
rest_nothing = record { stable = refl; untouched = λ k. refl; not_fluid = refl; greatest = refl }

pub partly_nothing : IsPartlySynced no_file no_file
partly_nothing = record { outcomes = λ o may. may; touched = λ k t. t }

-- a sync of one entry leaves an outcome from before
pub partly_synced : (e f : Entry) → IsStopOf AsRead e f → IsPartlySynced (entry_file e) (entry_file f)
partly_synced e f s = record {
  outcomes = λ o may. subst (λ (p : Option (List ℕ)). MayLeave (entry_file e) p) (sym (rest_leaves (entry_file f) o s.at_rest may)) s.allowed;
  touched = λ k t. not_both ((entry_file f).touched k) t (s.at_rest.untouched k);
}

-- what is left at rest is no longer than it was
left_short : (f : File) (o : Option (List ℕ)) (n : ℕ) → MayLeave f o → n ≡ length (bytes_of o) → n ≤ f.greatest
left_short f None n may is = omega arith
left_short f (Some b) n held is = omega (arith, held.no_longer)

pub settled_kept : (e f : Entry) → IsStopOf AsRead e f → IsKept (entry_file e) (entry_file f)
settled_kept e f s = record {
  len = ap (option_map length) s.now;
  now = s.now;
  fluid = λ h. not_both (entry_file f).fluid h s.at_rest.not_fluid;
  greatest = left_short (entry_file e) (entry_file f).now (entry_file f).greatest s.allowed s.at_rest.greatest;
}

-- the first write under a name
pub torn_first : (at n : ℕ) (f g : File) → IsAtRest f → f.now ≡ None → Torn at n f g → Torn at n no_file g
torn_first at n f g rest none torn = record {
  stable = torn.stable ∙ rest.stable ∙ none;
  touched = λ k touched. elim (torn.touched k touched) [
    | inl before ↦ not_both (f.touched k) before (rest.untouched k)
    | inr inside ↦ inr inside
  ];
  fluid = λ h. inr refl;
  greatest = omega (arith, torn.greatest, rest.greatest, ap (λ o. length (bytes_of o)) none);
  there = λ some. absurd (cc some);
}

-- the turn behind one entry more
pub turn_behind-snoc : (odd : Bool) (es : List Entry) (e : Entry) → turn_behind odd (es ++ e ∷ []) ≡ (if e.there || e.was_there then not (turn_behind odd es) else turn_behind odd es)
turn_behind-snoc odd [] e = refl
turn_behind-snoc odd (x ∷ es) e = turn_behind-snoc (if x.there || x.was_there then not odd else odd) es e

pub either_ascending : (b : Bool) (n : List ℕ) (ns : List (List ℕ)) → IsAscending (n ∷ ns) → IsAscending ns → IsAscending (cond b (n ∷ ns) ns)
either_ascending true n ns with_it without = with_it
either_ascending false n ns with_it without = without

-- the names of the files that are there ascend too
pub names_ascending : (es : List Entry) → IsAscending (map entry_name es) → IsAscending (names_of es)
names_ascending [] asc = λ i j lt below. absurd (omega arith)
names_ascending (e ∷ es) asc =
    let rest = names_ascending es (tail_ascending (entry_name e) (map entry_name es) asc) in
    either_ascending e.there (entry_name e) (names_of es) (cons_ascending (entry_name e) (names_of es) (λ k lt.
    let found = listed_entry es (get_or (names_of es) k []) (k, lt, get_or_default (names_of es) k (get_or (names_of es) k []) [] lt) in
    ap (λ (n : List ℕ). slice_cmp nat_cmp (entry_name e) n) (sym found.2) ∙ asc zero (suc found.0) (omega arith) (omega (arith, found.1, length-map es entry_name))) rest) rest
