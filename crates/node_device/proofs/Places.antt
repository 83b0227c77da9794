-- Entries by their places.
use Rattle.std.proofs.Common.{◌≡◌, ◌≢◌, inl, inr, ◌<◌, ◌≤◌, ◌+◌, ◌||◌, not, ℕ, zero, suc, Bool, true, List, [], ◌∷◌, ◌++◌, map, length, take, set, get_or, vec_len, cond, sym, ◌∙◌, ap, arith}
use Rattle.std.specs.Prelude.{if◌then◌else◌}
use Rattle.std.specs.Cmp.Lexicographic.{slice_cmp}
use Rattle.std.specs.Ordering.{nat_cmp}
use Rattle.std.specs.declared.cmp.Ordering.TheVariants.{Less}
use Rattle.std.proofs.lemmas.Bool.{cases_eq}
use Rattle.std.proofs.lemmas.Cmp.{nat_list_cmp_total}
use Rattle.std.proofs.lemmas.List.{length-map, take_more, get_or_default, get_or-set_same}
use Rattle.std.proofs.lemmas.List.Sums.{sum_by-cons}
use Rattle.node_device.specs.Entry.{entry_name}
use Rattle.node_device.specs.DeviceState.{IsAscending}
use Rattle.node_device.specs.Entries.{name_at, used_by, turn_behind}
use Rattle.node_device.specs.EntryLists.{turn_behind-snoc}
use Rattle.node_device.specs.declared.entry.Entry.{Entry}

-- all names up to one that is below
pub below_up_to : (es : List Entry) → IsAscending (map entry_name es) → (q : List ℕ) (i : ℕ) → i < length es → slice_cmp nat_cmp (name_at es i) q ≡ Less → (j : ℕ) → j < i + 1 → slice_cmp nat_cmp (name_at es j) q ≡ Less
below_up_to es asc q i lt less j below = elim (cases_eq j i) [
  | inl same ↦ ap (λ (k : ℕ). slice_cmp nat_cmp (name_at es k) q) same ∙ less
  | inr ne ↦
      let other : j ≢ i = ne in
      nat_list_cmp_total.trans (name_at es j) (name_at es i) q (asc j i (grind arith) (omega (arith, lt, length-map es entry_name))) less
]

-- one file is no longer than all together
pub len_in : (es : List Entry) (i : ℕ) (e : Entry) → i < length es → e ≡ get_or es i e → vec_len e.bytes ≤ used_by es
len_in [] i e lt is = absurd (omega arith)
len_in (x ∷ es) zero e lt is = omega (arith, ap (λ (y : Entry). vec_len y.bytes) is, sum_by-cons (λ (y : Entry). vec_len y.bytes) x es)
len_in (x ∷ es) (suc i) e lt is = omega (arith, len_in es i e (omega arith) is, sum_by-cons (λ (y : Entry). vec_len y.bytes) x es)

-- the turn behind one entry more
pub turn_more : (es : List Entry) (i : ℕ) (e : Entry) (odd known next : Bool) → i < length es → e ≡ get_or es i e → odd ≡ turn_behind true (take i es) → known ≡ (e.there || e.was_there) → next ≡ (if known then not odd else odd) → next ≡ turn_behind true (take (i + 1) es)
turn_more es i e odd known next lt is odd_is known_is next_is =
    next_is ∙ ap (λ b. cond b (not odd) odd) known_is ∙ ap (λ o. cond (e.there || e.was_there) (not o) o) odd_is
    ∙ sym (ap (λ l. turn_behind true l) (take_more es i e lt ∙ ap (λ (x : Entry). take i es ++ x ∷ []) (sym is)) ∙ turn_behind-snoc true (take i es) e)

-- the entry at a place, found twice
pub same_entry : (es : List Entry) (i : ℕ) (x y : Entry) → i < length es → x ≡ get_or es i x → y ≡ get_or es i y → vec_len x.bytes ≡ vec_len y.bytes
same_entry es i x y lt x_is y_is = ap (λ (e : Entry). vec_len e.bytes) (x_is ∙ get_or_default es i x y lt ∙ sym y_is)

-- the entry at a place where it was just put
pub put_entry : (es : List Entry) (i : ℕ) (x e : Entry) → i < length es → x ≡ get_or (set es i e) i x → vec_len x.bytes ≡ vec_len e.bytes
put_entry es i x e lt is = ap (λ (y : Entry). vec_len y.bytes) (is ∙ get_or-set_same es i e x lt)
