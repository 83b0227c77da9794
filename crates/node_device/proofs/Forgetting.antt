-- The entries of files that aren't there are dropped, where nothing is pending.
use Rattle.std.proofs.Common.{◌≡◌, inl, inr, ◌<◌, ◌≤◌, ◌+◌, ℕ, zero, suc, Bool, true, false, cond, List, [], ◌∷◌, map, length, get_or, vec_len, refl, sym, ◌∙◌, ap, subst, arith}
use Rattle.std.specs.List.{filter}
use Rattle.std.specs.Option.{option_map}
use Rattle.std.specs.Str.{bytes_eq}
use Rattle.std.proofs.lemmas.List.{length-map}
use Rattle.std.proofs.lemmas.List.Sums.{sum_by-cons}
use Rattle.node_device.specs.File.{File, MayLeave, IsAtRest, IsKept, IsPartlySynced, bytes_of, no_file}
use Rattle.node_device.specs.Outcomes.{not_both, rest_leaves}
use Rattle.node_device.specs.Held.{present}
use Rattle.node_device.specs.HeldFiles.{length-present, now_allowed}
use Rattle.node_device.specs.Entry.{entry_file, entry_name}
use Rattle.node_device.specs.DeviceState.{IsAscending}
use Rattle.node_device.specs.Entries.{file_at, names_of, used_by, IsStopOf, IsSettled, AreSettledOutside, IsForgotten}
use Rattle.node_device.specs.EntryLists.{same_name_or_not, below_other, file_at_absent, tail_ascending, names_ascending, rest_nothing}
use Rattle.node_device.specs.MemSound.{file_at_all}
use Rattle.node_device.specs.declared.entry.Entry.{Entry}
use Rattle.node_device.specs.declared.outcome.Outcome.TheVariants.{AsRead}

abbrev kept : List Entry → List Entry
kept es = filter (λ e. e.there) es

-- ---- the lists

names_step : (b : Bool) (e : Entry) (fs es : List Entry) → e.there ≡ b → names_of fs ≡ names_of es → names_of (cond b (e ∷ fs) fs) ≡ cond b (entry_name e ∷ names_of es) (names_of es)
names_step true e fs es is same = ap (λ b. cond b (entry_name e ∷ names_of fs) (names_of fs)) is ∙ ap (λ (ns : List (List ℕ)). entry_name e ∷ ns) same
names_step false e fs es is same = same

pub kept_names : (es : List Entry) → names_of (kept es) ≡ names_of es
kept_names [] = refl
kept_names (e ∷ es) = names_step e.there e (kept es) es refl (kept_names es)

map_step : (b : Bool) (e : Entry) (fs : List Entry) (ns : List (List ℕ)) → map entry_name fs ≡ ns → map entry_name (cond b (e ∷ fs) fs) ≡ cond b (entry_name e ∷ ns) ns
map_step true e fs ns same = ap (λ (l : List (List ℕ)). entry_name e ∷ l) same
map_step false e fs ns same = same

kept_map : (es : List Entry) → map entry_name (kept es) ≡ names_of es
kept_map [] = refl
kept_map (e ∷ es) = map_step e.there e (kept es) (names_of es) (kept_map es)

pub kept_ascending : (es : List Entry) → IsAscending (map entry_name es) → IsAscending (map entry_name (kept es))
kept_ascending es asc = subst IsAscending (sym (kept_map es)) (names_ascending es asc)

used_step : (b : Bool) (e : Entry) (fs es : List Entry) → e.there ≡ b → used_by fs ≡ used_by es → used_by (cond b (e ∷ fs) fs) ≡ used_by (e ∷ es)
used_step true e fs es is same = omega (arith, same, sum_by-cons (λ (x : Entry). vec_len x.bytes) e fs, sum_by-cons (λ (x : Entry). vec_len x.bytes) e es)
used_step false e fs es is same = omega (arith, same, ap length (e.sound.absent is), e.bytes.ok.0, sum_by-cons (λ (x : Entry). vec_len x.bytes) e es)

pub kept_used : (es : List Entry) → used_by (kept es) ≡ used_by es
kept_used [] = refl
kept_used (e ∷ es) = used_step e.there e (kept es) es refl (kept_used es)

few_step : (b : Bool) (e : Entry) (fs : List Entry) (n : ℕ) → length fs ≤ n → length (cond b (e ∷ fs) fs) ≤ n + 1
few_step true e fs n few = omega arith
few_step false e fs n few = omega arith

pub kept_few : (es : List Entry) → length (kept es) ≤ length es
kept_few [] = omega arith
kept_few (e ∷ es) = omega (arith, few_step e.there e (kept es) (length es) (kept_few es))

abbrev AllAtRest : List Entry → Type 0
AllAtRest es = (k : ℕ) (d : Entry) → k < length es → IsAtRest (entry_file (get_or es k d))

abbrev AllSettled : List Entry → Type 0
AllSettled es = (k : ℕ) (d : Entry) → k < length es → IsSettled (get_or es k d)

settled_step : (b : Bool) (e : Entry) (fs : List Entry) → e.there ≡ b → IsAtRest (entry_file e) → AllSettled fs → AllSettled (cond b (e ∷ fs) fs)
settled_step true e fs is rest each zero d lt = record { there = is; at_rest = rest }
settled_step true e fs is rest each (suc k) d lt = each k d (omega arith)
settled_step false e fs is rest each k d lt = each k d lt

all_settled : (es : List Entry) → AllAtRest es → AllSettled (kept es)
all_settled [] rest k d lt = absurd (omega arith)
all_settled (e ∷ es) rest k d lt = settled_step e.there e (kept es) refl (rest zero e (omega arith)) (all_settled es (λ j x below. rest (suc j) x (omega arith))) k d lt

pub kept_settled : (es : List Entry) → AllAtRest es → AreSettledOutside 0 0 (kept es)
kept_settled es rest = record { ordered = omega arith; inside = omega arith; each = λ k d lt out. all_settled es rest k d lt }

all_step : (b : Bool) (e : Entry) (fs es : List Entry) → b ≡ true → fs ≡ es → cond b (e ∷ fs) fs ≡ e ∷ es
all_step true e fs es is same = ap (λ (l : List Entry). e ∷ l) same
all_step false e fs es is same = absurd (cc is)

-- where all files are there, nothing is dropped
pub kept_all : (es : List Entry) → ((k : ℕ) (d : Entry) → k < length es → (get_or es k d).there ≡ true) → kept es ≡ es
kept_all [] there = refl
kept_all (e ∷ es) there = all_step e.there e (kept es) es (there zero e (omega arith)) (kept_all es (λ k d lt. there (suc k) d (omega arith)))

-- ---- the files

itself : (f : File) → IsAtRest f → IsForgotten f f
itself f rest = record { len = refl; now = refl; at_rest = rest }

either : (b : Bool) {f g h : File} → IsForgotten f f → IsForgotten g h → IsForgotten (cond b f g) (cond b f h)
either true first later = first
either false first later = later

file_step : (b : Bool) (e : Entry) (es fs : List Entry) (q : List ℕ) → e.there ≡ b → IsAtRest (entry_file e) → (entry_name e ≡ q → file_at es q ≡ no_file) → IsForgotten (file_at es q) (file_at fs q)
    → IsForgotten (file_at (e ∷ es) q) (file_at (cond b (e ∷ fs) fs) q)
file_step true e es fs q is rest none later = either (bytes_eq (entry_name e) q) (itself (entry_file e) rest) later
file_step false e es fs q is rest none later = elim (same_name_or_not (entry_name e) q) [
  | inl same ↦
      let gone = subst (λ (f : File). IsForgotten f (file_at fs q)) (none same.1) later in
      subst (λ (b : Bool). IsForgotten (cond b (entry_file e) (file_at es q)) (file_at fs q)) (sym same.0) (record {
        len = gone.len ∙ sym (ap (λ b. option_map length (present b e.bytes.items)) is);
        now = gone.now ∙ sym (ap (λ b. present b e.bytes.items) is);
        at_rest = gone.at_rest;
      })
  | inr other ↦ subst (λ (b : Bool). IsForgotten (cond b (entry_file e) (file_at es q)) (file_at fs q)) (sym other.0) later
]

pub kept_files : (es : List Entry) → IsAscending (map entry_name es) → AllAtRest es → (q : List ℕ) → IsForgotten (file_at es q) (file_at (kept es) q)
kept_files [] asc rest q = itself no_file rest_nothing
kept_files (e ∷ es) asc rest q =
    file_step e.there e es (kept es) q refl (rest zero e (omega arith))
    (λ name. file_at_absent es q (λ j lt same. below_other _ _ (asc zero (suc j) (omega arith) (omega (arith, length-map es entry_name))) (name ∙ sym same)))
    (kept_files es (tail_ascending (entry_name e) (map entry_name es) asc) (λ k d lt. rest (suc k) d (omega arith)) q)

pub forgotten_kept : (f m g : File) → IsKept f m → IsAtRest m → IsForgotten m g → IsKept f g
forgotten_kept f m g k rest forgotten = record {
  len = forgotten.len ∙ k.len;
  now = forgotten.now ∙ k.now;
  fluid = λ h. not_both g.fluid h forgotten.at_rest.not_fluid;
  greatest = omega (arith, k.greatest, rest.greatest, forgotten.at_rest.greatest, ap (λ o. length (bytes_of o)) forgotten.now);
}

pub forgotten_partly : (f m g : File) → IsPartlySynced f m → MayLeave m m.now → IsForgotten m g → IsPartlySynced f g
forgotten_partly f m g p allowed forgotten = record {
  outcomes = λ o may. p.outcomes o (subst (MayLeave m) (sym (rest_leaves g o forgotten.at_rest may ∙ forgotten.now)) allowed);
  touched = λ k t. not_both (g.touched k) t (forgotten.at_rest.untouched k);
}

pub now_is_allowed : (es : List Entry) (q : List ℕ) → MayLeave (file_at es q) (file_at es q).now
now_is_allowed es q = file_at_all (λ f. MayLeave f f.now) (inr refl) (λ e. now_allowed e.there e.was_there e.fluid e.bytes.items e.kept.items e.stable_len e.greatest e.changes e.sound) es q

-- ---- a sync leaves the lengths

rested_len : (e f : Entry) → IsStopOf AsRead e f → vec_len f.bytes ≡ vec_len e.bytes
rested_len e f s = f.bytes.ok.0 ∙ sym (length-present f.there f.bytes.items f.sound.absent) ∙ ap (λ o. length (bytes_of o)) s.now ∙ length-present e.there e.bytes.items e.sound.absent ∙ sym e.bytes.ok.0

pub rested_used : (es fs : List Entry) → length fs ≡ length es → ((k : ℕ) (d : Entry) → k < length es → IsStopOf AsRead (get_or es k d) (get_or fs k d)) → used_by fs ≡ used_by es
rested_used [] [] len each = refl
rested_used [] (f ∷ fs) len each = absurd (omega arith)
rested_used (e ∷ es) [] len each = absurd (omega arith)
rested_used (e ∷ es) (f ∷ fs) len each = omega (
  arith,
  sum_by-cons (λ (x : Entry). vec_len x.bytes) e es,
  sum_by-cons (λ (x : Entry). vec_len x.bytes) f fs,
  rested_len e f (each zero e (omega arith)),
  rested_used es fs (omega arith) (λ k d lt. each (suc k) d (omega arith)),
)
