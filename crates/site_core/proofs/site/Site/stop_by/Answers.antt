use Rattle.site_state.proofs.AheadCores.{cut_lower}
use Rattle.std.proofs.Common.{refl}
use Rattle.site_state.specs.declared.run_state.RunStage.TheVariants as stage
use Rattle.site_core.proofs.site.Site.stop_by.Goals as goal

pub returns-clause-lowers : goal.returns-clause-lowers
returns-clause-lowers g c = λ on.
    let s = c.args.self.now in
    cut_lower s.core (record s.core { stage = stage.Over }) s.programs on refl refl refl
