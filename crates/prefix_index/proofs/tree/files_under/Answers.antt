use Rattle.std.proofs.Common.{◌≡◌, ◌∙◌, ℕ, Bool, true, false, not, List, refl, sym, ap, codes}
use Rattle.std.specs.Prelude.{bytes_eq}
use Rattle.std.proofs.lemmas.Slice.Eq.{bytes_eq-Decides}
use Rattle.kvtree.specs.Entries.{Entries, none, entry}
use Rattle.kvtree.specs.Lookup.{leaf}
use Rattle.prefix_index.proofs.Keys.{five_entries}
use Rattle.prefix_index.proofs.tree.files_under.Goals as goal

not_false : (b : Bool) → false ≡ not b → b ≡ true
not_false true e = refl
not_false false e = absurd (cc e)

one_key : (key one : List ℕ) → false ≡ not (bytes_eq key one) → one ≡ codes "1" → key ≡ codes "1"
one_key key one e is = (bytes_eq-Decides key one).0 (not_false (bytes_eq key one) e) ∙ is

pub returns-clause-keys : goal.returns-clause-keys
returns-clause-keys c = record {
  dset = c.in_ok-_dset._dset.now;
  scheme = c.in_ok-_scheme._scheme.now;
  shape = c.in_ok-_shape._shape.now;
  is = five_entries c.args.tree.now (codes "DSET") (codes "FILES") (codes "FORMAT") (codes "SCHEME") (codes "SHAPE") c.in_ok-_dset._dset.now c.in_ok-files.files.now c.in_ok-format.format.now c.in_ok-_scheme._scheme.now c.in_ok-_shape._shape.now
      (sym c.in_ok-_dset.ensures) (sym c.in_ok-files.ensures) (sym c.in_ok-format.ensures) (sym c.in_ok-_scheme.ensures) (sym c.in_ok-_shape.ensures) (sym c.width.ensures ∙ c.if-width-ne5.false)
      ∙ ap (λ (x : Entries). entry (codes "DSET") c.in_ok-_dset._dset.now (entry (codes "FILES") c.in_ok-files.files.now (entry (codes "FORMAT") x (entry (codes "SCHEME") c.in_ok-_scheme._scheme.now (entry (codes "SHAPE") c.in_ok-_shape._shape.now none))))) (c.in_ok-key.ensures ∙ ap leaf (one_key c.in_ok-key.key.now c.as_slice.result.now c.if-ne.ensures c.as_slice.ensures));
}
