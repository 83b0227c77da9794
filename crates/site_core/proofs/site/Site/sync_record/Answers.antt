use Rattle.site_state.specs.declared.run_state.RunState.{RunState}
use Rattle.site_state.specs.Waiting.{is_over}
use Rattle.std.proofs.Common.{Some, List, ap, ◌≡◌, sym, subst, refl}
use Rattle.node_device.specs.Rack.{states_of}
use Rattle.site_state.specs.declared.run_state.RunStage.{RunStage}
use Rattle.site_state.specs.declared.run_state.SaveStep.TheVariants as work
use Rattle.site_core.specs.Holds.{IsSaving, Leads}
use Rattle.site_core.proofs.Saving.{staged}
use Rattle.site_core.proofs.Works.{saves_now, record_after, opened_is}
use Rattle.ckpt_model.specs.Track.{Track}
use Rattle.ckpt_model.specs.declared.event.Event.{Event}
use Rattle.site_state.specs.Cores.{dropping_core}
use Rattle.site_calls.proofs.Telling.{on_ok}
use Rattle.site_core.proofs.LocalSteps.{lead_on}
use Rattle.site_core.proofs.Refusals.{told_faults}
use Rattle.site_core.proofs.Removing.{carried_sync}
use Rattle.site_state.specs.declared.cache.Manifest.{Manifest}
use Rattle.site_state.proofs.AheadCores.{record_done, record_sync_over}
use Rattle.site_core.proofs.Sparing.{spared_by, memory_is_calm}
use Rattle.site_core.specs.Follows.{may_refuse}
use Rattle.site_core.proofs.Placing.{placed_early, placed_drop, after_on}
use Rattle.site_core.proofs.site.Site.sync_record.Goals as goal

pub returns-in-Ok-clause-run : goal.returns-in-Ok-clause-run
returns-in-Ok-clause-run g c = λ tells first base f.
    let s = c.args.self.now in
    let old = states_of g.D.Device.state s.bay in
    let new = states_of g.D.Device.state c.sync_node.new.bay in
    let h = saves_now first s.core s.programs old s.history.events work.RecordSync c.args.node c.requires.stage f in
    let l = record_after first s.core s.programs old new s.history.events c.args.node c.in-Some.place (sym c.in-Some.ensures.place) c.in-Ok.ensures.synced h.0 h.1 in
    subst (λ (x : RunStage). Leads first (staged s.core x) s.programs new s.history.events) (sym c.after-self.ensures) l

pub returns-in-Err-clause-run : goal.returns-in-Err-clause-run
returns-in-Err-clause-run g c = on_ok c.carry.result (λ x tells first base f.
    let s = c.args.self.now in
    let state = g.D.Device.state in
    let old = states_of state s.bay in
    let new = states_of state c.sync_node.new.bay in
    let after = c.carry.new.self in
    let q = saves_now first s.core s.programs old s.history.events work.RecordSync c.args.node c.requires.stage f in
    let m = c.in-Some-opened.m in
    let one : m ≡ q.0 = opened_is first s.core s.programs old s.history.events work.RecordSync c.args.node q.0 m q.1 c.in-Some-opened.is in
    let h = subst (λ (y : Manifest). IsSaving first s.core s.programs old s.history.events work.RecordSync c.args.node y) (sym one) q.1 in
    let l = carried_sync first s.core s.programs old new s.history.events c.args.node m c.in-Some.place (sym c.in-Some.ensures.place) x.0 c.in-Some-opened.is (told_faults c.in-Err.trouble x.0 x.1) h c.in-Err.ensures.refused in
    subst (λ (es : List Event). Leads first after.core after.programs (states_of state after.bay) es) (sym (ap (λ (t : Track). t.events) c.carry.ensures.history))
    (lead_on first (dropping_core s.core m.desc.which (Some x.0)) after.core s.programs after.programs new (states_of state after.bay) s.history.events x.2 c.carry.ensures.fixed.programs (ap (states_of state) c.carry.ensures.bay) l))
    c.carry.ensures.core

pub returns-in-Ok-clause-lowers : goal.returns-in-Ok-clause-lowers
returns-in-Ok-clause-lowers g c =
    let s = c.args.self.now in
    record_done s.core (record s.core { stage = c.after-self.result }) s.programs refl refl c.args.node c.requires.stage c.after-self.ensures

pub returns-in-Err-clause-lowers : goal.returns-in-Err-clause-lowers
returns-in-Err-clause-lowers g c = c.carry.ensures.lowers (record_sync_over c.args.self.now.core c.args.node c.requires.stage)

pub returns-in-Err-clause-spared : goal.returns-in-Err-clause-spared
returns-in-Err-clause-spared g c = spared_by g.D.Device.state c.args.self.now _ c.carry.new.self c.carry.result c.in-Err.trouble c.carry.ensures.refused (memory_is_calm c.carry.result c.in-Err.trouble c.carry.ensures.memory) refl refl refl refl c.in-Err.ensures.spared

pub returns-in-Ok-clause-placed : goal.returns-in-Ok-clause-placed
returns-in-Ok-clause-placed g c = placed_early c.args.self.now.core _ (ap may_refuse c.requires.stage) (after_on _ _ _ _ _ _ c.after-self.ensures)

pub returns-in-Err-clause-placed : goal.returns-in-Err-clause-placed
returns-in-Err-clause-placed g c = placed_drop c.carry.result c.args.self.now.core c.carry.new.self.core (ap may_refuse c.requires.stage) (on_ok c.carry.result (λ k. ap (λ (x : RunState). is_over x.stage) k.2) c.carry.ensures.core)
