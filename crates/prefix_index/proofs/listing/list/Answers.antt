use Rattle.std.proofs.Common.{sym, subst, Err}
use Rattle.std.specs.Prelude.{Vec}
use Rattle.std.specs.declared.alloc.Global.{Global}
use Rattle.prefix_index.specs.declared.entry.Entry.{Entry}
use Rattle.prefix_index.specs.Calls.{Lists}
use Rattle.prefix_index.specs.declared.error.IndexError.{IndexError}
use Rattle.prefix_index.proofs.Told.{fault_cause, reading_fault}
use Rattle.prefix_index.proofs.listing.list.Goals as goal

pub returns-in-Err : goal.returns-in-Err
returns-in-Err g c =
    let old = g.D.Device.state c.args.dev.now in
    let new = g.D.Device.state c.entries.new.dev in
    subst (λ (r : IndexError). Lists (Err r) old new) (sym c.of.ensures) (record {
      answer = reading_fault (Vec Entry Global) (Vec Entry Global) new c.in-Err.fault c.in-Err.ensures.answer;
      entries = λ tells. tt;
      same = c.in-Err.ensures.same;
      cause = fault_cause (Vec Entry Global) (Vec Entry Global) old new c.in-Err.fault c.in-Err.ensures.cause;
    })
