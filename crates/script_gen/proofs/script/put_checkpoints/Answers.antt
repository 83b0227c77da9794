use Rattle.std.proofs.Common.{ℕ, ◌+◌, ◌-◌, ◌*◌, sym, ap, string_bytes}
use Rattle.script_gen.specs.Draws.{draw}
use Rattle.script_gen.specs.Script.{checkpoint_lines}
use Rattle.script_gen.proofs.Steps.{checkpoints_step, after_none, nothing_yet}
use Rattle.script_gen.proofs.script.put_checkpoints.Goals as goal

pub loop-index-preserved : goal.loop-index-preserved
loop-index-preserved c =
    checkpoints_step
    c.args.run
    c.args.draws.now.state
    c.loop-index.index
    c.loop-index.draws.state
    c.below-seed.new.self.state
    c.below-len.new.self.state
    c.below-seed.result
    (1 + c.below-len.result)
    (string_bytes c.args.out.now)
    (string_bytes c.loop-index.out)
    (string_bytes c.put_checkpoint.new.out)
    c.loop-index.invariant.0
    c.below-seed.ensures.state
    c.below-len.ensures.state
    c.below-seed.ensures.number
    (ap (λ (n : ℕ). 1 + n) c.below-len.ensures.number)
    c.loop-index.invariant.1
    c.in_ok-put_checkpoint.ensures

pub loop-index-init : goal.loop-index-init
loop-index-init c =
    let x = c.args.draws.now.state in (
      sym (after_none x),
      nothing_yet (λ n. checkpoint_lines c.args.run n (draw (2 * n - 1) 256 x) (1 + draw (2 * n) 20000 x)) (string_bytes c.args.out.now),
    )
