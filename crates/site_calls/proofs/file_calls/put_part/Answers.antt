use Rattle.std.proofs.Common.{Err, length, sym, subst}
use Rattle.node_device.specs.Rack.{states_of}
use Rattle.site_calls.specs.Causes.{CallCause}
use Rattle.site_calls.specs.Writes.{IsWrite}
use Rattle.site_calls.specs.declared.trouble.Trouble.{Trouble}
use Rattle.site_calls.proofs.CallCauses.{refused, part_refused}
use Rattle.member_store.specs.Names.{part_name}
use Rattle.site_calls.proofs.RefusedCalls.{write_refused}
use Rattle.site_calls.proofs.Telling.{alike_only}
use Rattle.site_calls.proofs.Sparing.{spared_at}
use Rattle.site_calls.proofs.file_calls.put_part.Goals as goal

pub returns-in-Err-clause-cause : goal.returns-in-Err-clause-cause
returns-in-Err-clause-cause g c =
    let old = states_of g.D.Device.state c.args.bay.now in
    let new = states_of g.D.Device.state c.write_part_at.new.bay in
    let why = part_refused c.args.place c.args.which c.args.node c.args.part c.args.at c.args.bytes.now (old c.args.place) (new c.args.place) c.in-Err.error c.in-Err.ensures.here in
    subst (λ (e : Trouble). CallCause {T = Unit {0}} (IsWrite c.args.place (part_name c.args.which c.args.node c.args.part) c.args.at (length c.args.bytes.now)) old new (Err e)) (sym c.trouble_at.ensures) (refused c.args.place old new c.in-Err.ensures.others (Unit {0}) (Unit {0}) _ c.in-Err.error c.in-Err.ensures.here.cause why)

pub returns-in-Err-clause-refused : goal.returns-in-Err-clause-refused
returns-in-Err-clause-refused g c =
    let old = states_of g.D.Device.state c.args.bay.now in
    let new = states_of g.D.Device.state c.write_part_at.new.bay in
    record {
      here = write_refused (part_name c.args.which c.args.node c.args.part) (old c.args.place) (new c.args.place) c.in-Err.ensures.here.refused c.in-Err.ensures.here.only;
      others = c.in-Err.ensures.others;
    }

pub returns-in-Ok-clause-tells : goal.returns-in-Ok-clause-tells
returns-in-Ok-clause-tells g c =
    let old = states_of g.D.Device.state c.args.bay.now in
    let new = states_of g.D.Device.state c.write_part_at.new.bay in
    alike_only c.args.place old new c.write_part_at.ensures.others c.write_part_at.ensures.here.only.tells

pub returns-in-Err-clause-tells : goal.returns-in-Err-clause-tells
returns-in-Err-clause-tells g c =
    let old = states_of g.D.Device.state c.args.bay.now in
    let new = states_of g.D.Device.state c.write_part_at.new.bay in
    alike_only c.args.place old new c.write_part_at.ensures.others c.write_part_at.ensures.here.only.tells

pub returns-in-Err-clause-spared : goal.returns-in-Err-clause-spared
returns-in-Err-clause-spared g c =
    let old = states_of g.D.Device.state c.args.bay.now in
    let new = states_of g.D.Device.state c.write_part_at.new.bay in
    spared_at (Unit {0}) (c.args.place) old new c.in-Err.error c.trouble_at.result c.in-Err.ensures.others c.in-Err.ensures.here.spared c.trouble_at.ensures
