use Rattle.std.proofs.Common.{Err, length, ◌+◌, sym, subst}
use Rattle.node_device.specs.Rack.{states_of}
use Rattle.site_calls.specs.Causes.{CallCause}
use Rattle.site_calls.specs.Writes.{IsWrite}
use Rattle.site_calls.specs.declared.trouble.Trouble.{Trouble}
use Rattle.site_calls.proofs.CallCauses.{refused, record_refused, recorded, calm_at}
use Rattle.member_store.specs.Names.{record_name}
use Rattle.member_store.specs.Members.{member_body}
use Rattle.site_calls.proofs.RefusedCalls.{record_unwritten}
use Rattle.site_calls.proofs.Telling.{alike_only}
use Rattle.site_calls.proofs.Sparing.{spared_at}
use Rattle.site_calls.proofs.file_calls.put_member.Goals as goal

pub returns-in-Ok-clause-recorded : goal.returns-in-Ok-clause-recorded
returns-in-Ok-clause-recorded g c =
    let old = states_of g.D.Device.state c.args.bay.now in
    let new = states_of g.D.Device.state c.write_member_at.new.bay in
    record {
      here = recorded c.args.node c.args.desc.now c.args.files.now (old c.args.place) (new c.args.place) c.in-Ok.field-0 c.in-Ok.ensures.here;
      others = c.in-Ok.ensures.others;
    }

pub returns-in-Ok-clause-cause : goal.returns-in-Ok-clause-cause
returns-in-Ok-clause-cause g c = calm_at c.args.place (states_of g.D.Device.state c.args.bay.now) (states_of g.D.Device.state c.write_member_at.new.bay) c.in-Ok.ensures.others c.in-Ok.ensures.here.cause

pub returns-in-Err-clause-cause : goal.returns-in-Err-clause-cause
returns-in-Err-clause-cause g c =
    let old = states_of g.D.Device.state c.args.bay.now in
    let new = states_of g.D.Device.state c.write_member_at.new.bay in
    let why = record_refused c.args.place c.args.node c.args.desc.now c.args.files.now (old c.args.place) (new c.args.place) c.in-Err.error c.in-Err.ensures.here in
    subst (λ (e : Trouble). CallCause {T = Unit {0}} (IsWrite c.args.place (record_name c.args.desc.now.which c.args.node) 8 (8 + length (member_body c.args.desc.now c.args.node c.args.files.now))) old new (Err e)) (sym c.trouble_at.ensures) (refused c.args.place old new c.in-Err.ensures.others (Unit {0}) (Unit {0}) _ c.in-Err.error c.in-Err.ensures.here.cause why)

pub returns-in-Err-clause-refused : goal.returns-in-Err-clause-refused
returns-in-Err-clause-refused g c =
    let old = states_of g.D.Device.state c.args.bay.now in
    let new = states_of g.D.Device.state c.write_member_at.new.bay in
    record {
      here = record_unwritten {T = Unit {0}} (record_name c.args.desc.now.which c.args.node) (member_body c.args.desc.now c.args.node c.args.files.now) c.in-Err.error (old c.args.place) (new c.args.place) c.in-Err.ensures.here;
      others = c.in-Err.ensures.others;
    }

pub returns-in-Ok-clause-tells : goal.returns-in-Ok-clause-tells
returns-in-Ok-clause-tells g c =
    let old = states_of g.D.Device.state c.args.bay.now in
    let new = states_of g.D.Device.state c.write_member_at.new.bay in
    alike_only c.args.place old new c.write_member_at.ensures.others c.write_member_at.ensures.here.only.tells

pub returns-in-Err-clause-tells : goal.returns-in-Err-clause-tells
returns-in-Err-clause-tells g c =
    let old = states_of g.D.Device.state c.args.bay.now in
    let new = states_of g.D.Device.state c.write_member_at.new.bay in
    alike_only c.args.place old new c.write_member_at.ensures.others c.write_member_at.ensures.here.only.tells

pub returns-in-Err-clause-spared : goal.returns-in-Err-clause-spared
returns-in-Err-clause-spared g c =
    let old = states_of g.D.Device.state c.args.bay.now in
    let new = states_of g.D.Device.state c.write_member_at.new.bay in
    spared_at (Unit {0}) (c.args.place) old new c.in-Err.error c.trouble_at.result c.in-Err.ensures.others c.in-Err.ensures.here.spared c.trouble_at.ensures
