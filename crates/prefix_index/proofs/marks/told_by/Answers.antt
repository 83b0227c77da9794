use Rattle.std.proofs.Common.{◌∙◌, sym, ap, codes, decimal}
use Rattle.kvtree.specs.Entries.{Entries, none, entry}
use Rattle.kvtree.specs.Lookup.{leaf}
use Rattle.kvtree.proofs.ByPlace.{two_entries}
use Rattle.prefix_index.proofs.marks.told_by.Goals as goal

pub returns-clause-told : goal.returns-clause-told
returns-clause-told c =
    two_entries c.args.tree.now (codes "ID") (codes "RUN") c.in_ok-under_id.under_id.now c.in_ok-under_run.under_run.now (sym c.in_ok-under_id.ensures) (sym c.in_ok-under_run.ensures) (sym c.width.ensures ∙ c.if-width-ne2.false)
    ∙ ap (λ (x : Entries). entry (codes "ID") x (entry (codes "RUN") c.in_ok-under_run.under_run.now none)) c.in_ok-id.ensures
    ∙ ap (λ (x : Entries). entry (codes "ID") (leaf (decimal c.in_ok-id.id)) (entry (codes "RUN") x none)) c.in_ok-run.ensures
