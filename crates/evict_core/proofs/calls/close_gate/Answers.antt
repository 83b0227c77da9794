use Rattle.std.proofs.Common.{false, Err, refl, sym, subst}
use Rattle.node_device.specs.Rack.{states_of}
use Rattle.node_device.proofs.Racks.{states_of-sound}
use Rattle.member_store.specs.Names.{record_name}
use Rattle.member_store.specs.declared.gates.MemberGate.TheVariants.{Sealed}
use Rattle.site_calls.specs.Causes.{CallCause}
use Rattle.site_calls.specs.Writes.{IsWrite}
use Rattle.site_calls.specs.declared.trouble.Trouble.{Trouble}
use Rattle.site_calls.proofs.CallCauses.{refused, gate_refused, has_place}
use Rattle.site_calls.proofs.RefusedCalls.{gate_unturned}
use Rattle.site_calls.proofs.Telling.{alike_only}
use Rattle.site_calls.proofs.Sparing.{spared_at}
use Rattle.evict_core.proofs.calls.close_gate.Goals as goal

pub returns-in-Ok-clause-closed : goal.returns-in-Ok-clause-closed
returns-in-Ok-clause-closed g c =
    let old = states_of g.D.Device.state c.args.bay.now in
    let name = record_name c.args.which c.args.node in
    let sound = states_of-sound g.D.Device.state g.met.D.Device.sound c.args.bay.now c.args.place in
    let w = c.in-Ok.ensures.here in
    record {
      here = record { now = λ told long. w.now (has_place ((old c.args.place).file name) ((old c.args.place).file name).now 1 refl (sound.lengths told name) long) told; torn = w.torn; only = w.only };
      others = c.in-Ok.ensures.others;
    }

pub returns-in-Err-clause-cause : goal.returns-in-Err-clause-cause
returns-in-Err-clause-cause g c =
    let old = states_of g.D.Device.state c.args.bay.now in
    let new = states_of g.D.Device.state c.close_gate_at.new.bay in
    let why = gate_refused c.args.place c.args.which c.args.node Sealed false (old c.args.place) (new c.args.place) c.in-Err.error c.in-Err.ensures.here in
    subst (λ (e : Trouble). CallCause {T = Unit {0}} (IsWrite c.args.place (record_name c.args.which c.args.node) 1 1) old new (Err e)) (sym c.trouble_at.ensures) (refused c.args.place old new c.in-Err.ensures.others (Unit {0}) (Unit {0}) _ c.in-Err.error c.in-Err.ensures.here.cause why)

pub returns-in-Err-clause-refused : goal.returns-in-Err-clause-refused
returns-in-Err-clause-refused g c =
    let old = states_of g.D.Device.state c.args.bay.now in
    let new = states_of g.D.Device.state c.close_gate_at.new.bay in
    record {
      here = gate_unturned {T = Unit {0}} (record_name c.args.which c.args.node) 1 0 c.in-Err.error (old c.args.place) (new c.args.place) c.in-Err.ensures.here;
      others = c.in-Err.ensures.others;
    }

pub returns-in-Ok-clause-tells : goal.returns-in-Ok-clause-tells
returns-in-Ok-clause-tells g c =
    let old = states_of g.D.Device.state c.args.bay.now in
    let new = states_of g.D.Device.state c.close_gate_at.new.bay in
    alike_only c.args.place old new c.close_gate_at.ensures.others c.close_gate_at.ensures.here.only.tells

pub returns-in-Err-clause-tells : goal.returns-in-Err-clause-tells
returns-in-Err-clause-tells g c =
    let old = states_of g.D.Device.state c.args.bay.now in
    let new = states_of g.D.Device.state c.close_gate_at.new.bay in
    alike_only c.args.place old new c.close_gate_at.ensures.others c.close_gate_at.ensures.here.only.tells

pub returns-in-Err-clause-spared : goal.returns-in-Err-clause-spared
returns-in-Err-clause-spared g c =
    let old = states_of g.D.Device.state c.args.bay.now in
    let new = states_of g.D.Device.state c.close_gate_at.new.bay in
    spared_at (Unit {0}) (c.args.place) old new c.in-Err.error c.trouble_at.result c.in-Err.ensures.others c.in-Err.ensures.here.spared c.trouble_at.ensures
