use Rattle.std.proofs.Common.{subst}
use Rattle.gated_record.specs.Loads.{HoldsRecord}
use Rattle.member_store.proofs.Readings.{ok_reads, record_reads}
use Rattle.member_store.proofs.reading.read_member.Goals as goal

pub returns-in-Some-clause-reads : goal.returns-in-Some-clause-reads
returns-in-Some-clause-reads g c = λ tells.
    let file = ((g.D.Device.state c.args.dev.now).file c.args.name.now).now in
    ok_reads c.args.shape c.args.name.now file c.in-Some.record c.member_of_record.result (subst (HoldsRecord file) c.in-Some.is (c.in_ok-read_record.ensures.«record» tells)) c.member_of_record.ensures.reads

pub returns-in-Some-clause-only : goal.returns-in-Some-clause-only
returns-in-Some-clause-only g c = λ tells m reads.
    let file = ((g.D.Device.state c.args.dev.now).file c.args.name.now).now in
    c.member_of_record.ensures.only m (record_reads c.args.shape c.args.name.now file c.in-Some.record m (subst (HoldsRecord file) c.in-Some.is (c.in_ok-read_record.ensures.«record» tells)) reads)
