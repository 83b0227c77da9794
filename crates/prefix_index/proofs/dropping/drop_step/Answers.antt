use Rattle.std.proofs.Common.{Ok, Err, sym, subst}
use Rattle.prefix_index.specs.Drops.{Drops}
use Rattle.prefix_index.specs.declared.error.IndexError.{IndexError}
use Rattle.prefix_index.proofs.DropBegins.{later_call}
use Rattle.prefix_index.proofs.dropping.drop_step.Goals as goal

pub returns-in-Ok : goal.returns-in-Ok
returns-in-Ok g c =
    later_call c.args.id (g.D.Device.state c.args.dev.now) (g.D.Device.state c.make_next.new.dev) (g.met.D.Device.sound c.args.dev.now) c.args.stage.now c.make_next.new.stage (Ok c.in-Ok.over)
    (sym c.if-is_new.ensures) c.requires c.in-Ok.ensures.made c.in-Ok.ensures.passed c.in-Ok.ensures.over tt

pub returns-in-Err : goal.returns-in-Err
returns-in-Err g c =
    subst (λ (r : IndexError). Drops c.args.id (Err r) c.args.stage.now c.make_next.new.stage (g.D.Device.state c.args.dev.now) (g.D.Device.state c.make_next.new.dev)) (sym c.of.ensures)
    (later_call c.args.id (g.D.Device.state c.args.dev.now) (g.D.Device.state c.make_next.new.dev) (g.met.D.Device.sound c.args.dev.now) c.args.stage.now c.make_next.new.stage (Err c.in-Err.fault)
    (sym c.if-is_new.ensures) c.requires c.in-Err.ensures.made tt tt c.in-Err.ensures.refused)
