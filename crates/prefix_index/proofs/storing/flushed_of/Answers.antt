use Rattle.std.proofs.Common.{List, subst}
use Rattle.std.specs.Prelude.{MatchOption}
use Rattle.prefix_index.specs.Storing.{NoneIsFlushed, FirstIsFlushed}
use Rattle.prefix_index.specs.declared.entry.Entry.{Entry}
use Rattle.prefix_index.proofs.StoresMark.{found_flushed}
use Rattle.prefix_index.proofs.storing.flushed_of.Goals as goal

pub returns-clause-found : goal.returns-clause-found
returns-clause-found g c = λ tells.
    found_flushed (g.D.Device.state c.args.dev.now) c.in_ok-known.known.items c.args.id c.first_flushed.result (c.in_ok-known.ensures.entries tells)
    (subst (λ (l : List Entry). MatchOption c.first_flushed.result (NoneIsFlushed l c.args.id) (FirstIsFlushed l c.args.id)) c.deref.ensures.value c.first_flushed.ensures)
