use Rattle.std.proofs.Common.{◌≡◌, true, Err, sym, subst}
use Rattle.node_device.specs.Rack.{states_of}
use Rattle.node_device.proofs.Racks.{states_of-sound}
use Rattle.member_store.specs.Names.{record_name}
use Rattle.member_store.specs.Calls.{gate_number, gate_byte}
use Rattle.site_calls.specs.Causes.{CallCause, is_device_fault}
use Rattle.site_calls.specs.Writes.{IsWrite}
use Rattle.site_calls.specs.declared.trouble.Trouble.{Trouble}
use Rattle.site_calls.proofs.CallCauses.{refused, gate_refused, turned, fault_alone}
use Rattle.site_calls.proofs.RefusedCalls.{gate_unturned}
use Rattle.site_calls.proofs.Telling.{alike_only}
use Rattle.site_calls.proofs.Sparing.{spared_at}
use Rattle.site_calls.proofs.file_calls.put_gate.Goals as goal

pub returns-in-Ok-clause-turned : goal.returns-in-Ok-clause-turned
returns-in-Ok-clause-turned g c =
    let old = states_of g.D.Device.state c.args.bay.now in
    let new = states_of g.D.Device.state c.open_gate_at.new.bay in
    record {
      here = turned c.args.which c.args.node c.args.gate (old c.args.place) (new c.args.place) c.in-Ok.field-0 (states_of-sound g.D.Device.state g.met.D.Device.sound c.args.bay.now c.args.place) c.in-Ok.ensures.here;
      others = c.in-Ok.ensures.others;
    }

pub returns-in-Err-clause-cause : goal.returns-in-Err-clause-cause
returns-in-Err-clause-cause g c =
    let old = states_of g.D.Device.state c.args.bay.now in
    let new = states_of g.D.Device.state c.open_gate_at.new.bay in
    let why = gate_refused c.args.place c.args.which c.args.node c.args.gate true (old c.args.place) (new c.args.place) c.in-Err.error c.in-Err.ensures.here in
    subst (λ (e : Trouble). CallCause {T = Unit {0}} (IsWrite c.args.place (record_name c.args.which c.args.node) (gate_number c.args.gate) 1) old new (Err e)) (sym c.trouble_at.ensures) (refused c.args.place old new c.in-Err.ensures.others (Unit {0}) (Unit {0}) _ c.in-Err.error c.in-Err.ensures.here.cause why)

pub returns-in-Err-clause-refused : goal.returns-in-Err-clause-refused
returns-in-Err-clause-refused g c =
    let old = states_of g.D.Device.state c.args.bay.now in
    let new = states_of g.D.Device.state c.open_gate_at.new.bay in
    record {
      here = gate_unturned {T = Unit {0}} (record_name c.args.which c.args.node) (gate_number c.args.gate) (gate_byte true) c.in-Err.error (old c.args.place) (new c.args.place) c.in-Err.ensures.here;
      others = c.in-Err.ensures.others;
    }

pub returns-in-Ok-clause-tells : goal.returns-in-Ok-clause-tells
returns-in-Ok-clause-tells g c =
    let old = states_of g.D.Device.state c.args.bay.now in
    let new = states_of g.D.Device.state c.open_gate_at.new.bay in
    alike_only c.args.place old new c.open_gate_at.ensures.others c.open_gate_at.ensures.here.only.tells

pub returns-in-Err-clause-tells : goal.returns-in-Err-clause-tells
returns-in-Err-clause-tells g c =
    let old = states_of g.D.Device.state c.args.bay.now in
    let new = states_of g.D.Device.state c.open_gate_at.new.bay in
    alike_only c.args.place old new c.open_gate_at.ensures.others c.open_gate_at.ensures.here.only.tells

pub returns-in-Err-clause-spared : goal.returns-in-Err-clause-spared
returns-in-Err-clause-spared g c =
    let old = states_of g.D.Device.state c.args.bay.now in
    let new = states_of g.D.Device.state c.open_gate_at.new.bay in
    spared_at (Unit {0}) (c.args.place) old new c.in-Err.error c.trouble_at.result c.in-Err.ensures.others c.in-Err.ensures.here.spared c.trouble_at.ensures

pub returns-in-Err-clause-alone : goal.returns-in-Err-clause-alone
returns-in-Err-clause-alone g c = λ place. subst (λ (e : Trouble). is_device_fault e ≡ true) (sym c.trouble_at.ensures) (fault_alone (Unit {0}) c.args.place (states_of g.D.Device.state c.open_gate_at.new.bay c.args.place) c.in-Err.error (c.in-Err.ensures.here.failed_alone place))
