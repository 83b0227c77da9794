use Rattle.std.proofs.Common.{◌∙◌, ap, inl, refl}
use Rattle.node_device.specs.Rack.{states_of}
use Rattle.site_state.specs.declared.run_state.RunStage.TheVariants as stage
use Rattle.site_state.specs.declared.run_state.SaveStep.{SaveStep}
use Rattle.site_state.specs.declared.run_state.SaveStep.TheVariants as work
use Rattle.site_core.proofs.Works.{saves_now}
use Rattle.site_core.proofs.Accounts.{none_at}
use Rattle.site_core.proofs.site.Site.save.Goals as goal

pub write_record-requires : goal.write_record-requires
write_record-requires g c = record {
  saving = λ first f.
      let s = c.args.self.now in
      saves_now first s.core s.programs (states_of g.D.Device.state s.bay) s.history.events work.Record c.args.node (c.requires.stage ∙ ap (λ (w : SaveStep). stage.Saving w c.args.node) c.in-Record.is) f;
  stage = inl (c.requires.stage ∙ ap (λ (w : SaveStep). stage.Saving w c.args.node) c.in-Record.is);
  asked = λ serving. absurd (cc (serving, c.requires.stage));
  free = none_at (stage.Saving work.Record c.args.node) c.args.self.now.core refl (c.requires.stage ∙ ap (λ (w : SaveStep). stage.Saving w c.args.node) c.in-Record.is);
}
