-- What steps leave of the files that they don't change, and of the room.
use Rattle.std.proofs.Common.{◌≡◌, inl, inr, ◌<◌, ◌+◌, ◌-◌, ℕ, suc, true, List, [], ◌∷◌, Option, sum_by, refl, sym, ap, subst, ◌∙◌, arith}
use Rattle.std.specs.Prelude.{unwrap_or, Contains, IsSome}
use Rattle.std.specs.Cmp.Lexicographic.{slice_cmp}
use Rattle.std.specs.Ordering.{nat_cmp}
use Rattle.std.specs.declared.cmp.Ordering.TheVariants.{Less}
use Rattle.std.proofs.lemmas.Cmp.{nat_list_cmp_total}
use Rattle.std.proofs.lemmas.List.{get_or_default}
use Rattle.node_device.specs.File.{File, grown}
use Rattle.node_device.specs.DeviceState.{DeviceState, IsAscending, IsSound, ReadsAlike, used_of}
use Rattle.node_device.specs.EntryLists.{below_other, tail_ascending, step_in, later_in}
use Rattle.node_device.specs.Answers.{Passes}
use Rattle.gated_record.specs.Frames.{IsNoWorse, ChangesPair, KeepsLengths}

no_worse_then : (f g h : File) → IsNoWorse f g → IsNoWorse g h → IsNoWorse f h
no_worse_then f g h one two = record {
  len = two.len ∙ one.len;
  now = two.now ∙ one.now;
  outcomes = λ o may. one.outcomes o (two.outcomes o may);
  touched = λ k is. one.touched k (two.touched k is);
}

-- one change to a pair, and then another
pub pair_then : (stem : List ℕ) (c d e : DeviceState) → ChangesPair stem c d → ChangesPair stem d e → ChangesPair stem c e
pair_then stem c d e one two = record {
  tells = two.tells ∙ one.tells;
  capacity = two.capacity ∙ one.capacity;
  others = λ q n0 n1. no_worse_then (c.file q) (d.file q) (e.file q) (one.others q n0 n1) (two.others q n0 n1);
}

-- ## names

-- two ascending lists with the same names are one
same_names : (ns ms : List (List ℕ)) → IsAscending ns → IsAscending ms → ((q : List ℕ) → Contains ns q → Contains ms q) → ((q : List ℕ) → Contains ms q → Contains ns q) → ns ≡ ms
same_names [] [] left right there back = refl
same_names [] (m ∷ ms) left right there back = absurd (let has = back m (0, omega arith, refl) in omega (arith, has.1))
same_names (n ∷ ns) [] left right there back = absurd (let has = there n (0, omega arith, refl) in omega (arith, has.1))
same_names (n ∷ ns) (m ∷ ms) left right there back =
    let first : n ≡ m = elim (step_in true m ms n (there n (0, omega arith, refl))) [
      | inl same ↦ sym same.1
      | inr later ↦ elim (step_in true n ns m (back m (0, omega arith, refl))) [
        | inl same ↦ same.1
        | inr other ↦ absurd (cc (nat_list_cmp_total.antisymm m n, behind m ms right n later, behind n ns left m other))
      ]
    ] in
    let rest : ns ≡ ms = same_names ns ms (tail_ascending n ns left) (tail_ascending m ms right)
    (λ q has. elim (step_in true m ms q (there q (later_in true n ns q has))) [ inl same ↦ absurd (below_other n q (behind n ns left q has) (first ∙ same.1)) | inr later ↦ later ])
    (λ q has. elim (step_in true n ns q (back q (later_in true m ms q has))) [ inl same ↦ absurd (below_other m q (behind m ms right q has) (sym first ∙ same.1)) | inr later ↦ later ]) in
    ap (λ (x : List ℕ). x ∷ ns) first ∙ ap (λ (l : List (List ℕ)). m ∷ l) rest
  where
    behind : (x : List ℕ) (xs : List (List ℕ)) → IsAscending (x ∷ xs) → (q : List ℕ) → Contains xs q → slice_cmp nat_cmp x q ≡ Less
    behind x xs ascending q has = subst (λ (y : List ℕ). slice_cmp nat_cmp x y ≡ Less) (get_or_default xs has.0 [] q has.1 ∙ has.2) (ascending 0 (suc has.0) (omega arith) (omega (arith, has.1)))

-- ## room

-- the names and the lengths are the same, and so is what is used
used_same : (d e : DeviceState) → e.names ≡ d.names → KeepsLengths d e → used_of e ≡ used_of d
used_same d e names lengths =
    let lens : (λ name. unwrap_or (e.file name).len 0) ≡ (λ name. unwrap_or (d.file name).len 0) = λ i name. ap (λ len. unwrap_or len 0) (lengths name) i in
    ap (λ names. sum_by (λ name. unwrap_or (e.file name).len 0) names) names ∙ ap (λ (f : List ℕ → ℕ). sum_by f d.names) lens

pub used_alike : (d e : DeviceState) → ReadsAlike d e → used_of e ≡ used_of d
used_alike d e alike = used_same d e alike.names (λ q. (alike.files q).len)

pub used_kept : (d e : DeviceState) → IsSound d → IsSound e → KeepsLengths d e → used_of e ≡ used_of d
used_kept d e sound_d sound_e lengths =
    used_same d e
    (same_names e.names d.names sound_e.ascending sound_d.ascending
    (λ q has. (sound_d.listed q).1 (subst IsSome (lengths q) ((sound_e.listed q).0 has)))
    (λ q has. (sound_e.listed q).1 (subst IsSome (sym (lengths q)) ((sound_d.listed q).0 has))))
    lengths

abbrev PassesBy : Option ℕ → ℕ → ℕ → ℕ → ℕ → Type 0
PassesBy len used capacity at n = (0 < grown len at n - unwrap_or len 0) × (capacity < used + (grown len at n - unwrap_or len 0))

-- a write that passes the capacity before does so after
pub passes_kept : (d e : DeviceState) → KeepsLengths d e → used_of e ≡ used_of d → e.capacity ≡ d.capacity → (name : List ℕ) (at n : ℕ) → Passes (d.file name) (used_of d) d.capacity at n → Passes (e.file name) (used_of e) e.capacity at n
passes_kept d e lengths used_is capacity_is name at n passes =
    subst (λ (len : Option ℕ). PassesBy len (used_of e) e.capacity at n) (sym (lengths name))
    (subst (λ (used : ℕ). PassesBy (d.file name).len used e.capacity at n) (sym used_is)
    (subst (λ (capacity : ℕ). PassesBy (d.file name).len (used_of d) capacity at n) (sym capacity_is) passes))

pub passes_alike : (d e : DeviceState) → ReadsAlike d e → (name : List ℕ) (at n : ℕ) → Passes (d.file name) (used_of d) d.capacity at n → Passes (e.file name) (used_of e) e.capacity at n
passes_alike d e alike = passes_kept d e (λ q. (alike.files q).len) (used_alike d e alike) alike.capacity
