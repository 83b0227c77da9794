use Rattle.gated_record.specs.declared.pair.PairValue.{PairValue}
use Rattle.std.proofs.Common.{Option, Err}
use Rattle.node_device.specs.Rack.{states_of}
use Rattle.site_calls.proofs.RefusedCalls.{read_refused}
use Rattle.site_calls.proofs.Telling.{alike_only}
use Rattle.site_calls.proofs.RefusedCalls.{unchanged_tells}
use Rattle.site_calls.proofs.Sparing.{spared_at}
use Rattle.node_device.proofs.Sparing.{unchanged_spared}
use Rattle.site_calls.proofs.file_calls.last_run.Goals as goal

pub returns-in-Err-clause-refused : goal.returns-in-Err-clause-refused
returns-in-Err-clause-refused g c =
    let old = states_of g.D.Device.state c.args.bay.now in
    let new = states_of g.D.Device.state c.load_number.new.bay in
    record {
      here = read_refused (old 32) (new 32) c.in-Err.ensures.here.same;
      others = c.in-Err.ensures.others;
    }

pub returns-in-Ok-None-clause-tells : goal.returns-in-Ok-None-clause-tells
returns-in-Ok-None-clause-tells g c =
    let old = states_of g.D.Device.state c.args.bay.now in
    let new = states_of g.D.Device.state c.load_number.new.bay in
    alike_only 32 old new c.load_number.ensures.others (unchanged_tells (old 32) (new 32) c.load_number.ensures.here.same)

pub returns-in-Ok-Some-clause-tells : goal.returns-in-Ok-Some-clause-tells
returns-in-Ok-Some-clause-tells g c =
    let old = states_of g.D.Device.state c.args.bay.now in
    let new = states_of g.D.Device.state c.load_number.new.bay in
    alike_only 32 old new c.load_number.ensures.others (unchanged_tells (old 32) (new 32) c.load_number.ensures.here.same)

pub returns-in-Err-clause-tells : goal.returns-in-Err-clause-tells
returns-in-Err-clause-tells g c =
    let old = states_of g.D.Device.state c.args.bay.now in
    let new = states_of g.D.Device.state c.load_number.new.bay in
    alike_only 32 old new c.load_number.ensures.others (unchanged_tells (old 32) (new 32) c.load_number.ensures.here.same)

pub returns-in-Err-clause-spared : goal.returns-in-Err-clause-spared
returns-in-Err-clause-spared g c =
    let old = states_of g.D.Device.state c.args.bay.now in
    let new = states_of g.D.Device.state c.load_number.new.bay in
    spared_at (Option PairValue) (32) old new c.in-Err.error c.trouble_at.result c.in-Err.ensures.others (unchanged_spared {T = (Option PairValue)} (old (32)) (new (32)) (Err c.in-Err.error) c.in-Err.ensures.here.same c.in-Err.ensures.here.cause) c.trouble_at.ensures
