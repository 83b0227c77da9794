use Rattle.std.proofs.Common.{◌≡◌, ◌≢◌, ◌⊎◌, inl, inr, ◌<◌, ◌+◌, ℕ, List, Some, bytes_eq, true, false, Bool, get_or, refl, sym, ap, ◌∙◌, subst, arith, slice_get}
use Rattle.std.proofs.lemmas.Option.{slice_get_within, slice_get-get_or, get_or_from_slice_get}
use Rattle.std.proofs.lemmas.Slice.Eq.{bytes_eq-Decides}
use Rattle.prefix_index.specs.declared.entry.Entry.{Entry}
use Rattle.prefix_index.proofs.adding.taken_by.Goals as goal

same_of : (xs ys : List ℕ) (r : Bool) → r ≡ bytes_eq xs ys → r ≡ true → xs ≡ ys
same_of xs ys r is holds = (bytes_eq-Decides xs ys).0 (sym is ∙ holds)

other_of : (xs ys : List ℕ) (r : Bool) → r ≡ bytes_eq xs ys → r ≡ false → xs ≢ ys
other_of xs ys r is fails same = absurd (cc (is, fails, (bytes_eq-Decides xs ys).1 same))

one_more : (xs : List Entry) (name : List ℕ) (index : ℕ) (entry : Entry) → entry ≡ get_or xs index entry → entry.desc.name ≢ name → ((k : ℕ) (e : Entry) → k < index → slice_get xs k ≡ Some e → e.desc.name ≢ name)
    → (k : ℕ) (e : Entry) → k < index + 1 → slice_get xs k ≡ Some e → e.desc.name ≢ name
one_more xs name index entry is other before k e lt at = pick (split k index lt)
  where
    split : (u v : ℕ) → u < v + 1 → (u < v) ⊎ (u ≡ v)
    split u v lt = grind (arith, lt)

    pick : (k < index) ⊎ (k ≡ index) → e.desc.name ≢ name
    pick (inl below) = before k e below at
    pick (inr here) = subst (λ (x : Entry). x.desc.name ≢ name) (is ∙ get_or_from_slice_get xs index e entry (ap (slice_get xs) (sym here) ∙ at)) other

pub loop-entry-preserved : goal.loop-entry-preserved
loop-entry-preserved c =
    one_more c.args.entries.now c.args.name.now c.loop-entry.entry-index c.entry-item.result c.entry-item.is
    (λ same. other_of c.bytes.result.now c.bytes-in-loop-entry.result.now c.eq.result c.eq.ensures c.if-eq.false (c.bytes.ensures.value ∙ same ∙ sym c.bytes-in-loop-entry.ensures.value)) c.loop-entry.invariant

pub returns-then-eq : goal.returns-then-eq
returns-then-eq c = (
  c.loop-entry.entry-index,
  c.entry-item.result,
  slice_get-get_or c.args.entries.now c.loop-entry.entry-index c.entry-item.result c.loop-entry-test.true ∙ ap Some (sym c.entry-item.is),
  sym c.bytes.ensures.value ∙ same_of c.bytes.result.now c.bytes-in-loop-entry.result.now c.eq.result c.eq.ensures c.if-eq.true ∙ c.bytes-in-loop-entry.ensures.value,
  refl,
)

pub returns : goal.returns
returns c = λ k e at. c.loop-entry.invariant k e (omega (arith, slice_get_within c.args.entries.now k e at, c.loop-entry-test.false)) at
