use Rattle.gated_record.proofs.PairBegins.{first_may, first_ok, first_err}
use Rattle.gated_record.proofs.pair_steps.begin.Goals as goal

pub step-requires : goal.step-requires
step-requires g c = first_may c.args.stem.now c.args.want.now c.requires.stem c.requires.short c.requires.version c.requires.fits (g.D.Device.state c.args.dev.now) (g.met.D.Device.sound c.args.dev.now) c.args.changes.items c.args.stage.now c.begin.new.self c.requires.new c.begin.ensures.begun c.begin.ensures.fewer c.requires.found

pub returns-in-Ok : goal.returns-in-Ok
returns-in-Ok g c = first_ok c.args.stem.now c.args.want.now c.requires.stem c.requires.short c.requires.version c.requires.fits (g.D.Device.state c.args.dev.now) (g.met.D.Device.sound c.args.dev.now) c.args.changes.items c.args.stage.now c.begin.new.self c.requires.new c.begin.ensures.begun c.begin.ensures.fewer c.requires.found
    (g.D.Device.state c.step.new.dev) c.step.new.stage c.is_over-over.result c.in-Ok.ensures.made c.in-Ok.ensures.passed c.is_over-over.ensures

pub returns-in-Err : goal.returns-in-Err
returns-in-Err g c = first_err c.args.stem.now c.args.want.now c.requires.stem c.requires.short c.requires.version c.requires.fits (g.D.Device.state c.args.dev.now) (g.met.D.Device.sound c.args.dev.now) c.args.changes.items c.args.stage.now c.begin.new.self c.requires.new c.begin.ensures.begun c.begin.ensures.fewer c.requires.found
    (g.D.Device.state c.step.new.dev) c.in-Err.fault c.in-Err.ensures.made
