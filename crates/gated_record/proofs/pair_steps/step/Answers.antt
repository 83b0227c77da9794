use Rattle.std.proofs.Common.{sym, Ok, Err}
use Rattle.gated_record.specs.Pair.{pair_body}
use Rattle.gated_record.proofs.PairSteps.{may_make_next, made_next, made_none}
use Rattle.gated_record.proofs.pair_steps.step.Goals as goal

pub make-requires : goal.make-requires
make-requires g c = may_make_next c.args.stage.now (pair_body c.args.want.now) c.in-Some.change.now (sym c.in-Some.ensures) c.requires

pub returns-in-None-clause-made : goal.returns-in-None-clause-made
returns-in-None-clause-made g c = made_none c.args.stage.now (pair_body c.args.want.now) (g.D.Device.state c.args.dev.now) (sym c.in-None.ensures)

pub returns-in-Ok-clause-made : goal.returns-in-Ok-clause-made
returns-in-Ok-clause-made g c = made_next c.args.stage.now (pair_body c.args.want.now) (g.D.Device.state c.args.dev.now) (g.D.Device.state c.make.new.dev) (Ok (tt {0})) c.in-Some.change.now (sym c.in-Some.ensures) c.in-Ok.ensures

pub returns-in-Err-clause-made : goal.returns-in-Err-clause-made
returns-in-Err-clause-made g c = made_next c.args.stage.now (pair_body c.args.want.now) (g.D.Device.state c.args.dev.now) (g.D.Device.state c.make.new.dev) (Err c.in-Err.fault) c.in-Some.change.now (sym c.in-Some.ensures) c.in-Err.ensures
