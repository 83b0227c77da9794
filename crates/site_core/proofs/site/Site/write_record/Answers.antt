use Rattle.site_state.specs.declared.run_state.RunState.{RunState}
use Rattle.site_state.specs.Waiting.{is_over}
use Rattle.std.proofs.Common.{refl}
use Rattle.std.proofs.Common.{Some, List, ap, ◌≡◌, sym, subst}
use Rattle.node_device.specs.Rack.{states_of}
use Rattle.site_core.specs.Holds.{IsSaving, Leads}
use Rattle.site_state.specs.declared.cache.Manifest.{Manifest}
use Rattle.site_state.specs.declared.run_state.SaveStep.TheVariants as work
use Rattle.site_core.proofs.Saving.{saving_leads}
use Rattle.site_core.proofs.SaveMoves.{recorded}
use Rattle.site_core.proofs.Works.{opened_is}
use Rattle.site_calls.proofs.Sounds.{sound_of}
use Rattle.ckpt_model.specs.Track.{Track}
use Rattle.ckpt_model.specs.declared.event.Event.{Event}
use Rattle.site_state.specs.Cores.{dropping_core}
use Rattle.site_calls.proofs.Telling.{on_ok}
use Rattle.site_core.proofs.Accounts.{tells_nothing}
use Rattle.site_core.proofs.LocalSteps.{lead_on}
use Rattle.site_core.proofs.Refusals.{told_faults, refused_for}
use Rattle.site_core.proofs.Removing.{carried_write}
use Rattle.site_state.proofs.AheadCores.{recorded_lower, record_over}
use Rattle.std.proofs.Common.{length, ◌+◌, ◌∙◌, inr}
use Rattle.member_store.specs.Names.{record_name}
use Rattle.member_store.specs.Members.{member_body}
use Rattle.scr_base.specs.declared.actor.Actor.TheVariants as actor
use Rattle.scr_base.specs.declared.answers.Reply.TheVariants as reply
use Rattle.node_device.specs.Rack.{Rack}
use Rattle.site_calls.specs.Writes.{IsWrite}
use Rattle.site_core.specs.Writes.{MayWrite}
use Rattle.site_core.specs.Follows.{carried, IsOf, IsRefusedFor}
use Rattle.site_calls.proofs.CallCauses.{cause_by}
use Rattle.site_core.proofs.Fulls.{passes_this, to_record_write, record_to_write, carry_full}
use Rattle.site_core.proofs.Sparing.{spared_by, memory_is_calm}
use Rattle.site_core.proofs.Placing.{placed_early, placed_drop, to_record_refuses}
use Rattle.site_core.proofs.site.Site.write_record.Goals as goal

pub returns-in-Ok-clause-run : goal.returns-in-Ok-clause-run
returns-in-Ok-clause-run g c = λ tells first base f.
    let s = c.args.self.now in
    let old = states_of g.D.Device.state s.bay in
    let new = states_of g.D.Device.state c.put_member.new.bay in
    let m = c.in-Some-opened.m in
    let h = c.requires.saving first f in
    let same : m ≡ h.0 = opened_is first s.core s.programs old s.history.events work.Record c.args.node h.0 m h.1 c.in-Some-opened.is in
    let saving = subst (λ (x : Manifest). IsSaving first s.core s.programs old s.history.events work.Record c.args.node x) (sym same) h.1 in
    saving_leads first s.core s.programs new s.history.events work.RecordSync c.args.node m
    (recorded first s.core s.programs old new s.history.events c.args.node m c.in-Some.place (sym c.in-Some.ensures.place) saving c.in-Ok.ensures.recorded tells (sound_of g.D.Device.state g.met.D.Device.sound c.put_member.new.bay))

pub returns-in-Err-clause-run : goal.returns-in-Err-clause-run
returns-in-Err-clause-run g c = on_ok c.carry.result (λ x tells first base f.
    let s = c.args.self.now in
    let state = g.D.Device.state in
    let old = states_of state s.bay in
    let new = states_of state c.put_member.new.bay in
    let after = c.carry.new.self in
    let m = c.in-Some-opened.m in
    let q = c.requires.saving first f in
    let one : m ≡ q.0 = opened_is first s.core s.programs old s.history.events work.Record c.args.node q.0 m q.1 c.in-Some-opened.is in
    let h = subst (λ (y : Manifest). IsSaving first s.core s.programs old s.history.events work.Record c.args.node y) (sym one) q.1 in
    let l = carried_write first s.core s.programs old new s.history.events c.args.node m c.in-Some.place (sym c.in-Some.ensures.place) x.0 c.in-Some-opened.is (told_faults c.in-Err.trouble x.0 x.1) h c.in-Err.ensures.refused in
    subst (λ (es : List Event). Leads first after.core after.programs (states_of state after.bay) es) (sym (ap (λ (t : Track). t.events) c.carry.ensures.history))
    (lead_on first (dropping_core s.core m.desc.which (Some x.0)) after.core s.programs after.programs new (states_of state after.bay) s.history.events x.2 c.carry.ensures.fixed.programs (ap (states_of state) c.carry.ensures.bay) l))
    c.carry.ensures.core

pub returns-in-Ok-clause-lowers : goal.returns-in-Ok-clause-lowers
returns-in-Ok-clause-lowers g c = recorded_lower c.args.self.now.core c.args.self.now.programs c.args.node c.in-Some-opened.m c.requires.stage c.in-Some-opened.is

pub returns-in-Err-clause-lowers : goal.returns-in-Err-clause-lowers
returns-in-Err-clause-lowers g c = c.carry.ensures.lowers (record_over c.args.self.now.core c.args.node c.in-Some-opened.m c.requires.stage c.in-Some-opened.is)

pub returns-in-Ok-clause-full : goal.returns-in-Ok-clause-full
returns-in-Ok-clause-full g c = λ p a k n w passes.
    let s = c.args.self.now in
    let m = c.in-Some-opened.m in
    let node = c.args.node in
    let this = to_record_write s.core node c.in-Some.place m p n a k c.requires.stage (sym c.in-Some.ensures.place) c.in-Some-opened.is w in
    absurd (c.in-Ok.ensures.fits (passes_this (states_of g.D.Device.state s.bay) c.in-Some.place (record_name m.desc.which node) 8 (8 + length (member_body m.desc node m.files)) p n a k this passes))

pub returns-in-Err-clause-full : goal.returns-in-Err-clause-full
returns-in-Err-clause-full g c = on_ok c.carry.result (λ x p a k n w passes.
    let s = c.args.self.now in
    let m = c.in-Some-opened.m in
    let node = c.args.node in
    let this = to_record_write s.core node c.in-Some.place m p n a k c.requires.stage (sym c.in-Some.ensures.place) c.in-Some-opened.is w in
    carry_full g.D.Device.state s c.carry.new.self c.put_member.new.bay (Unit {0}) (IsWrite c.in-Some.place (record_name m.desc.which node) 8 (8 + length (member_body m.desc node m.files))) p (λ q y z v one. one.0 ∙ sym this.0) c.in-Err.trouble x.0 x.1 c.in-Err.ensures.cause c.requires.free (ap carried x.2))
    c.carry.ensures.core

pub returns-in-Err-clause-accounted : goal.returns-in-Err-clause-accounted
returns-in-Err-clause-accounted g c = on_ok c.carry.result (λ x.
    let s = c.args.self.now in
    let old = states_of g.D.Device.state s.bay in
    let m = c.in-Some-opened.m in
    let node = c.args.node in
    let may = MayWrite actor.Encoder s.programs s.core in
    let why = cause_by (Unit {0}) (IsWrite c.in-Some.place (record_name m.desc.which node) 8 (8 + length (member_body m.desc node m.files))) may (λ p n a k this. record_to_write s.core node c.in-Some.place m p n a k c.requires.stage c.requires.asked (sym c.in-Some.ensures.place) c.in-Some-opened.is this) old (states_of g.D.Device.state c.put_member.new.bay) c.in-Err.trouble c.in-Err.ensures.cause in
    inr (record {
      refusal = x.0;
      none = c.requires.free;
      now = ap carried x.2;
      of_device = told_faults c.in-Err.trouble x.0 x.1;
      untold = ap (λ (t : Track). t.events) c.carry.ensures.history;
      cause = subst (λ (b : Rack _). IsRefusedFor may old (states_of g.D.Device.state b) (reply.Refused x.0)) (sym c.carry.ensures.bay) (refused_for (Unit {0}) may old (states_of g.D.Device.state c.put_member.new.bay) c.in-Err.trouble x.0 x.1 why);
    }))
    c.carry.ensures.core

pub returns-in-Err-clause-told : goal.returns-in-Err-clause-told
returns-in-Err-clause-told g c = on_ok c.carry.result (λ x. tells_nothing (IsOf actor.Encoder) (MayWrite actor.Encoder c.args.self.now.programs c.args.self.now.core) g.D.Device.state c.args.self.now c.carry.new.self c.carry.ensures.history) c.carry.ensures.core

pub returns-in-Err-clause-spared : goal.returns-in-Err-clause-spared
returns-in-Err-clause-spared g c = spared_by g.D.Device.state c.args.self.now _ c.carry.new.self c.carry.result c.in-Err.trouble c.carry.ensures.refused (memory_is_calm c.carry.result c.in-Err.trouble c.carry.ensures.memory) refl refl refl refl c.in-Err.ensures.spared

pub returns-in-Ok-clause-placed : goal.returns-in-Ok-clause-placed
returns-in-Ok-clause-placed g c = placed_early c.args.self.now.core _ (to_record_refuses c.args.self.now.core.stage c.args.node c.requires.stage) refl

pub returns-in-Err-clause-placed : goal.returns-in-Err-clause-placed
returns-in-Err-clause-placed g c = placed_drop c.carry.result c.args.self.now.core c.carry.new.self.core (to_record_refuses c.args.self.now.core.stage c.args.node c.requires.stage) (on_ok c.carry.result (λ k. ap (λ (x : RunState). is_over x.stage) k.2) c.carry.ensures.core)
