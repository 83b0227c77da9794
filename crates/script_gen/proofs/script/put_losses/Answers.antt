use Rattle.std.proofs.Common.{sym, string_bytes}
use Rattle.script_gen.specs.Draws.{draw}
use Rattle.script_gen.specs.Script.{lose_line}
use Rattle.script_gen.proofs.Steps.{losses_step, after_none, nothing_yet}
use Rattle.script_gen.proofs.script.put_losses.Goals as goal

pub loop-index-preserved : goal.loop-index-preserved
loop-index-preserved c =
    losses_step
    c.args.draws.now.state
    c.loop-index.index
    c.loop-index.draws.state
    c.below-node.new.self.state
    c.below-node.result
    (string_bytes c.args.out.now)
    (string_bytes c.loop-index.out)
    (string_bytes c.put_loss.new.out)
    c.loop-index.invariant.0
    c.below-node.ensures.state
    c.below-node.ensures.number
    c.loop-index.invariant.1
    c.in_ok-put_loss.ensures

pub loop-index-init : goal.loop-index-init
loop-index-init c = (sym (after_none c.args.draws.now.state), nothing_yet (λ n. lose_line (draw n 8 c.args.draws.now.state)) (string_bytes c.args.out.now))
