use Rattle.std.proofs.Common.{ℕ, List, arith, ap, ◌∙◌, subst, take, length, length-drop}
use Rattle.scr_base.specs.Streams.{Joins}
use Rattle.scr_replay.proofs.Fronts.{joins_more, front_joined, behind}
use Rattle.scr_replay.proofs.output.put_all.Goals as goal

pub returns-in-Err-clause-put : goal.returns-in-Err-clause-put
returns-in-Err-clause-put g c = front_joined _ _ _ c.args.bytes.now c.loop-done.done c.loop-done.invariant.out c.in-Err.ensures.failed

pub loop-done-preserved : goal.loop-done-preserved
loop-done-preserved g c =
    record {
      within = omega (arith, ap (length {A = ℕ}) (behind c.args.bytes.now c.loop-done.done), length-drop c.loop-done.done c.args.bytes.now, c.in-Ok.ensures.within);
      out = joins_more _ _ _ c.args.bytes.now c.loop-done.done _ c.loop-done.invariant.out (subst (λ (rest : List ℕ). Joins (g.K.Sink.held c.loop-done.sink) (g.K.Sink.held c.put.new.self) (take c.in-Ok.count rest)) (behind c.args.bytes.now c.loop-done.done) c.in-Ok.ensures.put);
      calm = c.in-Ok.ensures.cause.done ∙ c.loop-done.invariant.calm;
    }
