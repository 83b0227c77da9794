use Rattle.std.proofs.Common.{refl, ◌∙◌}
use Rattle.node_device.specs.Rack.{states_of}
use Rattle.site_calls.proofs.Telling.{same_states}
use Rattle.recover_core.proofs.Looking.{begins, refused_at, wants_memory, goes_on, ends}
use Rattle.recover_core.proofs.look.find_datasets.Goals as goal

pub loop-place-init : goal.loop-place-init
loop-place-init g c = record { same = refl; seen = λ tells. begins c.args.shape (states_of g.D.Device.state c.args.bay.now) c.new-sets.result.items c.new-sets.ensures.items }

pub returns-in-Err : goal.returns-in-Err
returns-in-Err g c =
    refused_at c.args.shape (states_of g.D.Device.state c.args.bay.now) (states_of g.D.Device.state c.loop-place.bay) (states_of g.D.Device.state c.members_at.new.bay) c.loop-place.invariant.same c.loop-place.place c.in-Err.trouble c.in-Err.ensures.refused c.in-Err.ensures.cause c.in-Err.ensures.spared c.in-Err.ensures.tells

pub returns-in_default : goal.returns-in_default
returns-in_default g c =
    wants_memory c.args.shape (states_of g.D.Device.state c.args.bay.now) (states_of g.D.Device.state c.members_at.new.bay)
    (same_states c.loop-place.place (states_of g.D.Device.state c.loop-place.bay) (states_of g.D.Device.state c.members_at.new.bay) c.in-Ok.ensures.same ∙ c.loop-place.invariant.same)

pub loop-place-preserved : goal.loop-place-preserved
loop-place-preserved g c = record {
  same = same_states c.loop-place.place (states_of g.D.Device.state c.loop-place.bay) (states_of g.D.Device.state c.members_at.new.bay) c.in-Ok.ensures.same ∙ c.loop-place.invariant.same;
  seen = λ tells. goes_on c.args.shape (states_of g.D.Device.state c.args.bay.now) (states_of g.D.Device.state c.loop-place.bay) c.loop-place.place c.in-Ok.members.items c.loop-place.sets.items c.take_members.new.sets.items c.loop-place.invariant.same c.loop-place-test.true tells c.in-Ok.ensures.members c.in-Ok-take_members.ensures (c.loop-place.invariant.seen tells);
}

pub returns-in-Ok-found_among : goal.returns-in-Ok-found_among
returns-in-Ok-found_among g c =
    ends c.args.shape (states_of g.D.Device.state c.args.bay.now) (states_of g.D.Device.state c.loop-place.bay) c.loop-place.place c.loop-place.sets.items c.in-Ok-found_among.found c.loop-place.invariant.same c.loop-place-test.false c.loop-place.auto.place-end c.in-Ok-found_among.ensures c.loop-place.invariant.seen
