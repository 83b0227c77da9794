use Rattle.std.proofs.Common.{◌≡◌, Option, false, IfSome, sym, subst, ◌∙◌}
use Rattle.ckpt_model.specs.Answers.{is_fault}
use Rattle.node_device.specs.Rack.{states_of}
use Rattle.scr_base.specs.declared.answers.Refusal.{Refusal}
use Rattle.scr_base.specs.declared.answers.Reply.TheVariants as reply
use Rattle.site_core.proofs.LocalSteps.{may_refuse}
use Rattle.site_core.proofs.site.Site.local.Goals as goal

pub tell_local-requires-clause-steps : goal.tell_local-requires-clause-steps
tell_local-requires-clause-steps g c = λ tells first follows seat here.
    let s = c.args.self.now in
    may_refuse first s.core s.programs (states_of g.D.Device.state s.bay) s.history.events c.args.rank c.args.step c.in-Some.refusal seat c.requires.stage c.requires.next
    (sym c.in_ok-verdict.ensures.verdict ∙ c.in-Some.is)
    (subst (λ (o : Option Refusal). IfSome o (λ (r : Refusal). is_fault (reply.Refused r) ≡ false)) c.in-Some.is c.in_ok-verdict.ensures.no_fault) follows here

pub tell_local-requires-clause-calm : goal.tell_local-requires-clause-calm
tell_local-requires-clause-calm g c = subst (λ (o : Option Refusal). IfSome o (λ (r : Refusal). is_fault (reply.Refused r) ≡ false)) c.in-Some.is c.in_ok-verdict.ensures.no_fault
