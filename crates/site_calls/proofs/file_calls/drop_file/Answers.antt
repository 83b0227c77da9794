use Rattle.std.proofs.Common.{Bool, Err, sym, subst}
use Rattle.node_device.specs.Rack.{states_of}
use Rattle.site_calls.specs.Causes.{CallCause}
use Rattle.site_calls.specs.Writes.{IsNoWrite}
use Rattle.site_calls.specs.declared.trouble.Trouble.{Trouble}
use Rattle.site_calls.proofs.CallCauses.{refused}
use Rattle.site_calls.proofs.RefusedCalls.{file_dropped, drop_refused, read_refused, leaving-same}
use Rattle.site_calls.proofs.Telling.{alike_only}
use Rattle.site_calls.proofs.RefusedCalls.{unchanged_tells, dropped_tells}
use Rattle.site_calls.proofs.Sparing.{spared_at}
use Rattle.node_device.proofs.Sparing.{unchanged_spared}
use Rattle.site_calls.proofs.file_calls.drop_file.Goals as goal

pub returns-in-Ok-clause-dropped : goal.returns-in-Ok-clause-dropped
returns-in-Ok-clause-dropped g c =
    let old = states_of g.D.Device.state c.args.bay.now in
    let new = states_of g.D.Device.state c.drop_file_at.new.bay in
    let r = c.args.removal.now in
    record {
      here = file_dropped r.which r.node c.in-Ok.over r.changes c.drop_file_at.new.removal.changes (old c.args.place) (new c.args.place) c.in-Ok.ensures.drops.here;
      others = c.in-Ok.ensures.drops.others;
    }

pub returns-in-Err-clause-stays : goal.returns-in-Err-clause-stays
returns-in-Err-clause-stays g c = leaving-same c.args.removal.now c.drop_file_at.new.removal c.drop_file_at.ensures.which c.drop_file_at.ensures.node c.in-Err.ensures.drops.here.refused.0

pub returns-in-Err-clause-cause : goal.returns-in-Err-clause-cause
returns-in-Err-clause-cause g c =
    let old = states_of g.D.Device.state c.args.bay.now in
    let new = states_of g.D.Device.state c.drop_file_at.new.bay in
    let r = c.args.removal.now in
    let why = drop_refused c.args.place r.which r.node r.changes c.drop_file_at.new.removal.changes (old c.args.place) (new c.args.place) c.in-Err.error c.in-Err.ensures.drops.here in
    subst (λ (e : Trouble). CallCause {T = Bool} IsNoWrite old new (Err e)) (sym c.trouble_at.ensures) (refused c.args.place old new c.in-Err.ensures.drops.others Bool Bool _ c.in-Err.error c.in-Err.ensures.drops.here.cause why)

pub returns-in-Err-clause-refused : goal.returns-in-Err-clause-refused
returns-in-Err-clause-refused g c =
    let old = states_of g.D.Device.state c.args.bay.now in
    let new = states_of g.D.Device.state c.drop_file_at.new.bay in
    record {
      here = read_refused (old c.args.place) (new c.args.place) c.in-Err.ensures.drops.here.refused.1;
      others = c.in-Err.ensures.drops.others;
    }

pub returns-in-Ok-clause-tells : goal.returns-in-Ok-clause-tells
returns-in-Ok-clause-tells g c =
    let old = states_of g.D.Device.state c.args.bay.now in
    let new = states_of g.D.Device.state c.drop_file_at.new.bay in
    let r = c.args.removal.now in
    alike_only c.args.place old new c.in-Ok.ensures.drops.others (dropped_tells r.which r.node (old c.args.place) (new c.args.place) c.in-Ok.ensures.drops.here.at_most)

pub returns-in-Err-clause-tells : goal.returns-in-Err-clause-tells
returns-in-Err-clause-tells g c =
    let old = states_of g.D.Device.state c.args.bay.now in
    let new = states_of g.D.Device.state c.drop_file_at.new.bay in
    alike_only c.args.place old new c.in-Err.ensures.drops.others (unchanged_tells (old c.args.place) (new c.args.place) c.in-Err.ensures.drops.here.refused.1)

pub returns-in-Err-clause-spared : goal.returns-in-Err-clause-spared
returns-in-Err-clause-spared g c =
    let old = states_of g.D.Device.state c.args.bay.now in
    let new = states_of g.D.Device.state c.drop_file_at.new.bay in
    spared_at Bool (c.args.place) old new c.in-Err.error c.trouble_at.result c.in-Err.ensures.drops.others (unchanged_spared {T = Bool} (old (c.args.place)) (new (c.args.place)) (Err c.in-Err.error) c.in-Err.ensures.drops.here.refused.1 c.in-Err.ensures.drops.here.cause) c.trouble_at.ensures
