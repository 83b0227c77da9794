use Rattle.std.proofs.Common.{◌∙◌, ap, refl, Err}
use Rattle.prefix_index.proofs.Told.{opens_told}
use Rattle.prefix_index.proofs.gates.opened.Goals as goal

pub returns-in-Ok : goal.returns-in-Ok
returns-in-Ok g c = opens_told c.args.which c.args.gate c.bytes.result.now _ _ (g.D.Device.state c.args.dev.now) (g.D.Device.state c.turn.new.dev) (c.bytes.ensures ∙ c.of-name.ensures.name) c.in-Ok.ensures refl

pub returns-in-Err : goal.returns-in-Err
returns-in-Err g c = opens_told c.args.which c.args.gate c.bytes.result.now _ _ (g.D.Device.state c.args.dev.now) (g.D.Device.state c.turn.new.dev) (c.bytes.ensures ∙ c.of-name.ensures.name) c.in-Err.ensures (ap Err c.of.ensures)
