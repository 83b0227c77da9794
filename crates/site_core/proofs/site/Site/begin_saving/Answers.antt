use Rattle.std.proofs.Common.{refl, inr, sym, ◌∙◌}
use Rattle.node_device.specs.Rack.{states_of}
use Rattle.site_state.specs.declared.run_state.RunStage.TheVariants as stage
use Rattle.site_core.proofs.Works.{begins_at}
use Rattle.site_core.proofs.Accounts.{none_at}
use Rattle.site_core.proofs.site.Site.begin_saving.Goals as goal

pub write_record-requires : goal.write_record-requires
write_record-requires g c = record {
  saving = λ first f.
      let s = c.args.self.now in
      begins_at first s.core s.programs (states_of g.D.Device.state s.bay) s.history.events c.requires.stage (c.in_ok-asked.ensures.round c.in-true.is) (c.in_ok-asked.ensures.opened c.in-true.is) f;
  stage = inr (c.requires.stage, refl);
  asked = λ serving. sym c.in_ok-asked.ensures.exact ∙ c.in-true.is;
  free = none_at stage.Serving c.args.self.now.core refl c.requires.stage;
}
