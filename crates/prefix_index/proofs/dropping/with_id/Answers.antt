use Rattle.std.proofs.Common.{◌≡◌, ◌≢◌, ◌⊎◌, inl, inr, ◌<◌, ◌+◌, ℕ, List, Some, get_or, refl, sym, ap, ◌∙◌, subst, arith, slice_get}
use Rattle.std.proofs.lemmas.Option.{slice_get_within, slice_get-get_or, get_or_from_slice_get}
use Rattle.prefix_index.specs.declared.entry.Entry.{Entry}
use Rattle.prefix_index.proofs.dropping.with_id.Goals as goal

one_more : (xs : List Entry) (id index : ℕ) (entry : Entry) → entry ≡ get_or xs index entry → entry.desc.which.id ≢ id → ((k : ℕ) (e : Entry) → k < index → slice_get xs k ≡ Some e → e.desc.which.id ≢ id)
    → (k : ℕ) (e : Entry) → k < index + 1 → slice_get xs k ≡ Some e → e.desc.which.id ≢ id
one_more xs id index entry is other before k e lt at = pick (split k index lt)
  where
    split : (u v : ℕ) → u < v + 1 → (u < v) ⊎ (u ≡ v)
    split u v lt = grind (arith, lt)

    pick : (k < index) ⊎ (k ≡ index) → e.desc.which.id ≢ id
    pick (inl below) = before k e below at
    pick (inr here) = subst (λ (x : Entry). x.desc.which.id ≢ id) (is ∙ get_or_from_slice_get xs index e entry (ap (slice_get xs) (sym here) ∙ at)) other

pub loop-entry-preserved : goal.loop-entry-preserved
loop-entry-preserved c = one_more c.args.entries.now c.args.id c.loop-entry.entry-index c.entry-item.result c.entry-item.is (λ same. absurd (omega (arith, same, c.if-entry-id.false))) c.loop-entry.invariant

pub returns-then-entry-id : goal.returns-then-entry-id
returns-then-entry-id c = record {
  place = c.loop-entry.entry-index;
  at = slice_get-get_or c.args.entries.now c.loop-entry.entry-index c.entry-item.result c.loop-entry-test.true ∙ ap Some (sym c.entry-item.is);
  has = c.if-entry-id.true;
  before = c.loop-entry.invariant;
}

pub returns : goal.returns
returns c = λ k e at. c.loop-entry.invariant k e (omega (arith, slice_get_within c.args.entries.now k e at, c.loop-entry-test.false)) at
