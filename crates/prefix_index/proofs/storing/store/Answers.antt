use Rattle.std.proofs.Common.{rules, Ok, Err, refl, ap}
use Rattle.prefix_index.specs.declared.error.IndexError.{IndexError}
use Rattle.prefix_index.proofs.StoresMark.{told_step}
use Rattle.prefix_index.proofs.storing.store.Goals as goal

pub returns-in-Ok : goal.returns-in-Ok
returns-in-Ok g c = told_step c.args.which (Ok c.in-Ok.over) (Ok c.in-Ok.over) c.args.stage.now c.put_mark.new.stage (g.D.Device.state c.args.dev.now) (g.D.Device.state c.put_mark.new.dev) (search rules, search rules) refl c.in-Ok.ensures

pub returns-in-Err : goal.returns-in-Err
returns-in-Err g c = told_step c.args.which (Err c.in-Err.fault) (Err c.of.result) c.args.stage.now c.put_mark.new.stage (g.D.Device.state c.args.dev.now) (g.D.Device.state c.put_mark.new.dev) (search rules, search rules) (ap (λ (e : IndexError). Err e) c.of.ensures) c.in-Err.ensures
