use Rattle.std.proofs.Common.{string_bytes}
use Rattle.std.proofs.lemmas.Result.{on_ok_weaker}
use Rattle.script_gen.proofs.Steps.{AreDrawn, run_state, run_text}
use Rattle.script_gen.proofs.script.put_run.Goals as goal

drawn : (c : goal.After-put_losses) → AreDrawn
    c.args.draws.now.state
    c.below-count.new.self.state
    c.below-count.result
    c.put_checkpoints.new.draws.state
    c.below-outcome.new.self.state
    c.below-outcome.result
    c.below-moves.new.self.state
    c.below-moves.result
    c.below-lost.new.self.state
    c.below-lost.result
drawn c = record {
  counted = c.below-count.ensures.state;
  count = c.below-count.ensures.number;
  kept = c.in_ok-put_checkpoints.ensures.state;
  stopped = c.below-outcome.ensures.state;
  outcome = c.below-outcome.ensures.number;
  moved = c.below-moves.ensures.state;
  moves = c.below-moves.ensures.number;
  lost = c.below-lost.ensures.state;
  losses = c.below-lost.ensures.number;
}

pub returns-clause-text : goal.returns-clause-text
returns-clause-text c =
    on_ok_weaker
    c.put_losses.result
    (λ e.
    run_text
    c.args.run
    c.args.draws.now.state
    c.below-count.new.self.state
    c.below-count.result
    c.put_checkpoints.new.draws.state
    c.below-outcome.new.self.state
    c.below-outcome.result
    c.below-moves.new.self.state
    c.below-moves.result
    c.below-lost.new.self.state
    c.below-lost.result
    (string_bytes c.args.out.now)
    (string_bytes c.push_str.new.self)
    (string_bytes c.put_checkpoints.new.out)
    (string_bytes c.put_stop.new.out)
    (string_bytes c.put_losses.new.out)
    (drawn c)
    c.in_ok-push_str.ensures.bytes
    c.in_ok-put_checkpoints.ensures.text
    c.in_ok-put_stop.ensures
    e)
    c.put_losses.ensures.text

pub returns-clause-state : goal.returns-clause-state
returns-clause-state c =
    on_ok_weaker
    c.put_losses.result
    (λ e.
    run_state
    c.args.draws.now.state
    c.below-count.new.self.state
    c.below-count.result
    c.put_checkpoints.new.draws.state
    c.below-outcome.new.self.state
    c.below-outcome.result
    c.below-moves.new.self.state
    c.below-moves.result
    c.below-lost.new.self.state
    c.below-lost.result
    c.put_losses.new.draws.state
    (drawn c)
    e)
    c.put_losses.ensures.state
