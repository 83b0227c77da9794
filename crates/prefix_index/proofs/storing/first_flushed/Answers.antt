use Rattle.std.proofs.Common.{◌≡◌, ◌⊎◌, inl, inr, ◌<◌, ◌+◌, ℕ, Bool, true, false, List, Some, get_or, refl, sym, ap, ◌∙◌, subst, arith, slice_get}
use Rattle.std.proofs.lemmas.Option.{slice_get_within, slice_get-get_or, get_or_from_slice_get}
use Rattle.prefix_index.specs.declared.entry.Entry.{Entry}
use Rattle.prefix_index.proofs.storing.first_flushed.Goals.{else-entry-id-via-then-entry-id+else-not-entry, else-entry-id-via-else-entry-id}
use Rattle.prefix_index.proofs.storing.first_flushed.Goals as goal

one_more : (xs : List Entry) (id index : ℕ) (entry : Entry) → entry ≡ get_or xs index entry → (entry.desc.which.id ≡ id → entry.failed ≡ true) → ((k : ℕ) (e : Entry) → k < index → slice_get xs k ≡ Some e → e.desc.which.id ≡ id → e.failed ≡ true)
    → (k : ℕ) (e : Entry) → k < index + 1 → slice_get xs k ≡ Some e → e.desc.which.id ≡ id → e.failed ≡ true
one_more xs id index entry is failed before k e lt at = pick (split k index lt)
  where
    split : (u v : ℕ) → u < v + 1 → (u < v) ⊎ (u ≡ v)
    split u v lt = grind (arith, lt)

    pick : (k < index) ⊎ (k ≡ index) → e.desc.which.id ≡ id → e.failed ≡ true
    pick (inl below) = before k e below at
    pick (inr here) = subst (λ (x : Entry). x.desc.which.id ≡ id → x.failed ≡ true) (is ∙ get_or_from_slice_get xs index e entry (ap (slice_get xs) (sym here) ∙ at)) failed

pub returns-then-not-entry : goal.returns-then-not-entry
returns-then-not-entry c = record {
  place = c.loop-entry.entry-index;
  entry = c.entry-item.result;
  at = slice_get-get_or c.args.entries.now c.loop-entry.entry-index c.entry-item.result c.loop-entry-test.true ∙ ap Some (sym c.entry-item.is);
  is = refl;
  has = c.if-entry-id.true;
  flushed = c.if-not-entry.true;
  before = c.loop-entry.invariant;
}

pub loop-entry-preserved : goal.loop-entry-preserved
loop-entry-preserved c = one_more c.args.entries.now c.args.id c.loop-entry.entry-index c.entry-item.result c.entry-item.is (elim c.else-entry-id.branch [ else-entry-id-via-then-entry-id+else-not-entry w ↦ (λ same. w.if-not-entry.false) | else-entry-id-via-else-entry-id w ↦ (λ same. absurd (w.if-entry-id.false same)) ]) c.loop-entry.invariant

pub returns : goal.returns
returns c = λ k e at. c.loop-entry.invariant k e (omega (arith, slice_get_within c.args.entries.now k e at, c.loop-entry-test.false)) at
