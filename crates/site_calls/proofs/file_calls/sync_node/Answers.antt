use Rattle.node_device.specs.Rack.{states_of}
use Rattle.node_device.proofs.Racks.{states_of-sound}
use Rattle.site_calls.proofs.RefusedCalls.{sync_refused}
use Rattle.site_calls.proofs.Telling.{alike_only}
use Rattle.site_calls.proofs.Sparing.{spared_at, sync_spared}
use Rattle.site_calls.proofs.file_calls.sync_node.Goals as goal

pub returns-in-Err-clause-refused : goal.returns-in-Err-clause-refused
returns-in-Err-clause-refused g c =
    let old = states_of g.D.Device.state c.args.bay.now in
    let new = states_of g.D.Device.state c.sync_at.new.self in
    record {
      here = sync_refused {T = Unit {0}} (old c.args.place) (new c.args.place) c.in-Err.error (states_of-sound g.D.Device.state g.met.D.Device.sound c.sync_at.new.self c.args.place) c.in-Err.ensures.here;
      others = c.in-Err.ensures.others;
    }

pub returns-in-Ok-clause-tells : goal.returns-in-Ok-clause-tells
returns-in-Ok-clause-tells g c =
    let old = states_of g.D.Device.state c.args.bay.now in
    let new = states_of g.D.Device.state c.sync_at.new.self in
    alike_only c.args.place old new c.sync_at.ensures.others c.sync_at.ensures.here.alike.tells

pub returns-in-Err-clause-tells : goal.returns-in-Err-clause-tells
returns-in-Err-clause-tells g c =
    let old = states_of g.D.Device.state c.args.bay.now in
    let new = states_of g.D.Device.state c.sync_at.new.self in
    alike_only c.args.place old new c.sync_at.ensures.others c.sync_at.ensures.here.alike.tells

pub returns-in-Err-clause-spared : goal.returns-in-Err-clause-spared
returns-in-Err-clause-spared g c =
    let old = states_of g.D.Device.state c.args.bay.now in
    let new = states_of g.D.Device.state c.sync_at.new.self in
    spared_at (Unit {0}) c.args.place old new c.in-Err.error c.trouble_at.result c.in-Err.ensures.others (sync_spared (Unit {0}) (old c.args.place) (new c.args.place) c.in-Err.error c.in-Err.ensures.here.answer) c.trouble_at.ensures
