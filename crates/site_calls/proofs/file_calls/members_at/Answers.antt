use Rattle.std.specs.Prelude.{Vec}
use Rattle.member_store.specs.declared.member.Member.{Member}
use Rattle.std.specs.declared.alloc.Global.{Global}
use Rattle.std.proofs.Common.{Err}
use Rattle.node_device.specs.Rack.{states_of}
use Rattle.site_calls.proofs.RefusedCalls.{read_refused}
use Rattle.site_calls.proofs.Telling.{alike_only}
use Rattle.site_calls.proofs.RefusedCalls.{unchanged_tells}
use Rattle.site_calls.proofs.Sparing.{spared_at}
use Rattle.node_device.proofs.Sparing.{unchanged_spared}
use Rattle.site_calls.proofs.file_calls.members_at.Goals as goal

pub returns-in-Err-clause-refused : goal.returns-in-Err-clause-refused
returns-in-Err-clause-refused g c =
    let old = states_of g.D.Device.state c.args.bay.now in
    let new = states_of g.D.Device.state c.scan_at.new.bay in
    record {
      here = read_refused (old c.args.place) (new c.args.place) c.in-Err.ensures.here.same;
      others = c.in-Err.ensures.others;
    }

pub returns-in-Ok-clause-tells : goal.returns-in-Ok-clause-tells
returns-in-Ok-clause-tells g c =
    let old = states_of g.D.Device.state c.args.bay.now in
    let new = states_of g.D.Device.state c.scan_at.new.bay in
    alike_only c.args.place old new c.scan_at.ensures.others (unchanged_tells (old c.args.place) (new c.args.place) c.scan_at.ensures.here.same)

pub returns-in-Err-clause-tells : goal.returns-in-Err-clause-tells
returns-in-Err-clause-tells g c =
    let old = states_of g.D.Device.state c.args.bay.now in
    let new = states_of g.D.Device.state c.scan_at.new.bay in
    alike_only c.args.place old new c.scan_at.ensures.others (unchanged_tells (old c.args.place) (new c.args.place) c.scan_at.ensures.here.same)

pub returns-in-Err-clause-spared : goal.returns-in-Err-clause-spared
returns-in-Err-clause-spared g c =
    let old = states_of g.D.Device.state c.args.bay.now in
    let new = states_of g.D.Device.state c.scan_at.new.bay in
    spared_at (Vec Member Global) (c.args.place) old new c.in-Err.error c.trouble_at.result c.in-Err.ensures.others (unchanged_spared {T = (Vec Member Global)} (old (c.args.place)) (new (c.args.place)) (Err c.in-Err.error) c.in-Err.ensures.here.same c.in-Err.ensures.here.cause) c.trouble_at.ensures
