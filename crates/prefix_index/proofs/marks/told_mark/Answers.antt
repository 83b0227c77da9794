use Rattle.prefix_index.proofs.SoFar.{unchanged}
use Rattle.prefix_index.proofs.Marked.{is_mark}
use Rattle.prefix_index.proofs.marks.told_mark.Goals as goal

pub returns-clause-mark : goal.returns-clause-mark
returns-clause-mark g c = λ tells.
    let old = g.D.Device.state c.args.dev.now in
    let mid = g.D.Device.state c.stored.new.dev in
    is_mark old mid c.in_ok-found.found c.marked_among.result c.in_ok-known.known.items c.deref.result.now (unchanged old mid c.in_ok-found.ensures.same c.in_ok-found.ensures.cause) tells (c.in_ok-found.ensures.stored tells) c.in_ok-known.ensures.entries c.deref.ensures.value c.marked_among.ensures
