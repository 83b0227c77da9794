use Rattle.std.proofs.Common.{◌<◌, List, length, ap, ◌∙◌, sym, subst}
use Rattle.scr_base.specs.declared.content.Step.{Step}
use Rattle.site_state.specs.Asking.{lengthened}
use Rattle.node_device.proofs.ChangeLists.{on_err}
use Rattle.site_state.proofs.Appending.{put_same, put_longer}
use Rattle.site_state.proofs.programs.Programs.ask.Goals as goal

pub returns-in_err-push-clause-refused : goal.returns-in_err-push-clause-refused
returns-in_err-push-clause-refused c =
    on_err c.from_residual.result (put_same (λ program. program.items) c.self.inside.ranks.items c.args.rank c.index_mut-steps.result.now c.push.new.self c.index_mut-steps.ensures.value c.in_err-push.ensures.items ∙ c.self.view_is)

pub returns-clause-asked : goal.returns-clause-asked
returns-clause-asked c =
    let low = subst (λ (p : List (List Step)). c.args.rank < length p) (sym c.self.view_is) c.requires in
    put_longer (λ program. program.items) c.self.inside.ranks.items c.args.rank c.index_mut-steps.result.now c.push.new.self c.args.step low c.index_mut-steps.ensures.value c.in_ok-push.ensures.items
    ∙ ap (λ (p : List (List Step)). lengthened p c.args.rank c.args.step) c.self.view_is
