use Rattle.std.proofs.Common.{sym, ◌∙◌}
use Rattle.node_device.specs.Rack.{states_of}
use Rattle.node_device.proofs.Racks.{states_of-sound}
use Rattle.evict_core.proofs.Stepping.{step_taken, none_taken, later_stage, later_removal, later_answer}
use Rattle.evict_core.proofs.evict.Evict.advance.Goals as goal

pub returns-in-Some : goal.returns-in-Some
returns-in-Some g c =
    let old = states_of g.D.Device.state c.args.bay.now in
    let new = states_of g.D.Device.state c.make-outcome.new.bay in
    step_taken c.args.self.now c.make-outcome.new.self.removal old new (states_of-sound g.D.Device.state g.met.D.Device.sound c.args.bay.now) c.in-Some.change (sym c.next.ensures.next ∙ c.in-Some.is) c.next.ensures.stage c.take.new.self c.make-outcome.result c.take.result
    c.make-outcome.ensures.makes (c.take.ensures.set ∙ c.make-outcome.ensures.set) (later_stage c.make-outcome.new.self c.args.self.now c.take.new.self.stage c.make-outcome.result c.make-outcome.ensures.set c.make-outcome.ensures.stage c.take.ensures.stage)
    (later_removal c.make-outcome.new.self c.args.self.now c.take.new.self.removal c.make-outcome.result c.make-outcome.ensures.set c.make-outcome.ensures.stage c.take.ensures.removal)
    (later_answer c.make-outcome.new.self c.args.self.now c.make-outcome.result c.take.result c.make-outcome.ensures.set c.make-outcome.ensures.stage c.take.ensures.answer)

pub returns-in-None : goal.returns-in-None
returns-in-None g c = none_taken c.args.self.now (states_of g.D.Device.state c.args.bay.now) (sym c.next.ensures.next ∙ c.in-None.is)
