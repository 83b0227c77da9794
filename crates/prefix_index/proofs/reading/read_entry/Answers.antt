use Rattle.std.proofs.Common.{subst}
use Rattle.gated_record.specs.Loads.{HoldsRecord}
use Rattle.prefix_index.proofs.Readings.{ok_is, record_is}
use Rattle.prefix_index.proofs.reading.read_entry.Goals as goal

pub returns-in-Some-clause-reads : goal.returns-in-Some-clause-reads
returns-in-Some-clause-reads g c = λ tells.
    let file = ((g.D.Device.state c.args.dev.now).file c.args.name.now).now in
    ok_is c.args.name.now file c.in-Some.record c.entry_of_record.result (subst (HoldsRecord file) c.in-Some.is (c.in_ok-read_record.ensures.«record» tells)) c.entry_of_record.ensures.reads

pub returns-in-Some-clause-only : goal.returns-in-Some-clause-only
returns-in-Some-clause-only g c = λ tells e reads.
    let file = ((g.D.Device.state c.args.dev.now).file c.args.name.now).now in
    c.entry_of_record.ensures.only e (record_is c.args.name.now file c.in-Some.record e (subst (HoldsRecord file) c.in-Some.is (c.in_ok-read_record.ensures.«record» tells)) reads)
