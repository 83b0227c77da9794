use Rattle.std.proofs.Common.{Bool, ◌∙◌, subst, ℕ, codes, Err}
use Rattle.node_device.specs.declared.device.DevError.{DevError}
use Rattle.node_device.specs.Rack.{states_of}
use Rattle.gated_record.specs.PairSteps.{StepsPair}
use Rattle.site_calls.specs.Writes.{PassesOn}
use Rattle.site_calls.proofs.CallCauses.{alike_use, calm_at}
use Rattle.site_calls.proofs.Fits.{way_fits, way_full}
use Rattle.site_calls.proofs.Telling.{alike_only}
use Rattle.site_calls.proofs.Sparing.{spared_at}
use Rattle.site_calls.proofs.file_calls.store_number.Goals as goal

pub returns-in-Ok-clause-fits : goal.returns-in-Ok-clause-fits
returns-in-Ok-clause-fits g c = λ p at count name writes passes.
    let old = states_of g.D.Device.state c.args.bay.now in
    let new = states_of g.D.Device.state c.step_number.new.bay in
    let way = c.args.storing.now in
    way_fits way.want c.step_number.new.storing.changes (old 32) (new 32) c.in-Ok.over way.changes c.in-Ok.ensures.steps.here name at count writes.1 (subst (λ (x : ℕ). PassesOn old x name at count) writes.0 passes)

pub returns-in-Err-Full-clause-cause : goal.returns-in-Err-Full-clause-cause
returns-in-Err-Full-clause-cause g c =
    let old = states_of g.D.Device.state c.args.bay.now in
    let new = states_of g.D.Device.state c.step_number.new.bay in
    let way = c.args.storing.now in
    let w = subst (λ (e : DevError). StepsPair (codes "run") way.want (Err e) way.changes c.step_number.new.storing.changes (old 32) (new 32)) c.in-Err-Full.field-0-is c.in-Err-Full.ensures.steps.here in
    let kept = alike_use (old 32) (new 32) w.alike in
    record {
      used_is = c.used_at-used.ensures;
      capacity_is = c.capacity_at.ensures ∙ kept.capacity;
      passes = way_full way.want c.step_number.new.storing.changes (old 32) (new 32) way.changes w;
      calm = calm_at 32 old new c.in-Err-Full.ensures.steps.others w.cause;
    }

pub returns-in-Err-Full-clause-refused : goal.returns-in-Err-Full-clause-refused
returns-in-Err-Full-clause-refused g c = record {
  here = record { leaves = λ value stage. (c.in-Err-Full.ensures.steps.here.goes value stage).leaves; only = c.in-Err-Full.ensures.steps.here.only };
  others = c.in-Err-Full.ensures.steps.others;
}

pub returns-in-Err-clause-refused : goal.returns-in-Err-clause-refused
returns-in-Err-clause-refused g c = record {
  here = record { leaves = λ value stage. (c.in-Err.ensures.steps.here.goes value stage).leaves; only = c.in-Err.ensures.steps.here.only };
  others = c.in-Err.ensures.steps.others;
}

pub returns-in-Ok-clause-tells : goal.returns-in-Ok-clause-tells
returns-in-Ok-clause-tells g c =
    let old = states_of g.D.Device.state c.args.bay.now in
    let new = states_of g.D.Device.state c.step_number.new.bay in
    alike_only 32 old new c.step_number.ensures.steps.others c.step_number.ensures.steps.here.only.tells

pub returns-in-Err-clause-tells : goal.returns-in-Err-clause-tells
returns-in-Err-clause-tells g c =
    let old = states_of g.D.Device.state c.args.bay.now in
    let new = states_of g.D.Device.state c.step_number.new.bay in
    alike_only 32 old new c.step_number.ensures.steps.others c.step_number.ensures.steps.here.only.tells

pub returns-in-Err-Full-clause-tells : goal.returns-in-Err-Full-clause-tells
returns-in-Err-Full-clause-tells g c =
    let old = states_of g.D.Device.state c.args.bay.now in
    let new = states_of g.D.Device.state c.step_number.new.bay in
    alike_only 32 old new c.step_number.ensures.steps.others c.step_number.ensures.steps.here.only.tells

pub returns-in-Err-clause-spared : goal.returns-in-Err-clause-spared
returns-in-Err-clause-spared g c =
    let old = states_of g.D.Device.state c.args.bay.now in
    let new = states_of g.D.Device.state c.step_number.new.bay in
    spared_at Bool (32) old new c.in-Err.error c.trouble_at.result c.in-Err.ensures.steps.others c.in-Err.ensures.steps.here.spared c.trouble_at.ensures
