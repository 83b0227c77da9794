use Rattle.std.proofs.Common.{refl, ap, Err}
use Rattle.prefix_index.proofs.Adds.{name_free, name_taken, taken, wrote}
use Rattle.prefix_index.proofs.adding.add_to.Goals as goal

pub returns-in-Some : goal.returns-in-Some
returns-in-Some g c =
    let d = g.D.Device.state c.args.dev.now in
    taken _ c.args.desc.now c.args.files.now d d c.in-Some.which (λ tells. name_taken d c.args.known.now c.args.desc.now.name c.in-Some.which (c.requires.known tells) c.in-Some.ensures) refl

pub returns-in-Ok : goal.returns-in-Ok
returns-in-Ok g c =
    let d = g.D.Device.state c.args.dev.now in
    wrote _ c.args.desc.now c.args.files.now d (g.D.Device.state c.put_body.new.dev) _ _ refl (λ tells. name_free d c.args.known.now c.args.desc.now.name (c.requires.known tells) c.in_default.ensures) c.in-Ok.ensures

pub returns-in-Err : goal.returns-in-Err
returns-in-Err g c =
    let d = g.D.Device.state c.args.dev.now in
    wrote _ c.args.desc.now c.args.files.now d (g.D.Device.state c.put_body.new.dev) _ _ (ap Err c.of.ensures) (λ tells. name_free d c.args.known.now c.args.desc.now.name (c.requires.known tells) c.in_default.ensures) c.in-Err.ensures
