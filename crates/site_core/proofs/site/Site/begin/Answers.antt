use Rattle.std.proofs.Common.{refl, ap, ap₂, sym, subst, ◌∙◌, ◌*◌}
use Rattle.scr_base.specs.declared.shape.Shape.{Shape}
use Rattle.scr_base.specs.declared.shape.Config.{Config}
use Rattle.ckpt_model.specs.Machine.{Setup}
use Rattle.ckpt_model.specs.Steps.{is_between}
use Rattle.ckpt_model.specs.Track.{Track}
use Rattle.model_proper.specs.Fair.{IsFair}
use Rattle.model_proper.proofs.Fair.Passes.{between_fair}
use Rattle.node_device.specs.Rack.{states_of}
use Rattle.site_core.proofs.Resting.{begun_leads}
use Rattle.site_state.proofs.InOrder.{fresh_order}
use Rattle.site_state.specs.declared.run_state.RunStage.TheVariants as stage
use Rattle.site_core.proofs.Accounts.{none_at}
use Rattle.site_core.proofs.Faults.{begun_accounts}
use Rattle.site_core.proofs.site.Site.begin.Goals as goal

pub returns-clause-follows : goal.returns-clause-follows
returns-clause-follows g c = λ first tells stands begins.
    let s : Setup = record { shape = c.args.shape; config = c.args.config } in
    let same = ap₂ (λ (shape : Shape) (config : Config). let x : Setup = record { shape = shape; config = config } in x) c.in-Ok.ensures.shape_is c.in-Ok.ensures.config_is in
    record {
      tells = tells;
      fair = subst (λ (x : Setup). IsFair x first) (sym same) (between_fair s first (ap is_between begins.between) stands.shows.proper c.requires.fits);
      leads = begun_leads first c.args.shape c.args.config c.in-Ok.core c.of.result (states_of g.D.Device.state c.args.bay) c.reserve.new.self.events c.in-Ok.ensures (c.reserve.ensures.events ∙ ap (λ (t : Track). t.events) c.new-history.ensures) begins;
    }

pub returns-clause-order : goal.returns-clause-order
returns-clause-order g c = fresh_order c.of.result (c.args.shape.nodes * c.args.shape.ranks) c.in-Ok.core.ranks c.in-Ok.ensures.ranks

pub returns-clause-accounts : goal.returns-clause-accounts
returns-clause-accounts g c =
    begun_accounts g.D.Device.state c.args.bay (record { alloc = c.args.alloc; core = c.in-Ok.core; programs = c.of.result; bay = c.args.bay; history = c.reserve.new.self; moves = 0 }) refl (c.reserve.ensures.events ∙ ap (λ (t : Track). t.events) c.new-history.ensures) (none_at stage.Begun c.in-Ok.core refl c.in-Ok.ensures.stage_is)
