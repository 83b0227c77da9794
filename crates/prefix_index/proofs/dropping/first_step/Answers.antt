use Rattle.std.proofs.Common.{List, Option, Err, sym, subst}
use Rattle.scr_base.specs.declared.change.Change.{Change}
use Rattle.prefix_index.specs.DropParts.{FindsDrop}
use Rattle.prefix_index.specs.Drops.{Drops}
use Rattle.prefix_index.specs.declared.error.IndexError.{IndexError}
use Rattle.prefix_index.proofs.DropBegins.{found_may, call_done, call_refused}
use Rattle.prefix_index.proofs.dropping.first_step.Goals as goal

pub make_next-requires : goal.make_next-requires
make_next-requires g c = found_may c.args.id (g.D.Device.state c.args.dev.now) c.in-Ok-Some.begun (subst (λ (o : Option (Option (List Change))). FindsDrop c.args.id (g.D.Device.state c.args.dev.now) o) c.in-Ok-Some.field-0-is c.in-Ok-Some.ensures.found)

pub returns-in-Ok : goal.returns-in-Ok
returns-in-Ok g c =
    call_done c.args.id (g.D.Device.state c.args.dev.now) (g.D.Device.state c.begun.new.dev) (g.D.Device.state c.make_next.new.dev) (g.met.D.Device.sound c.args.dev.now) c.args.stage.now c.requires c.in-Ok-Some.ensures.same c.in-Ok-Some.ensures.cause
    c.in-Ok-Some.begun c.make_next.new.stage c.in-Ok.over (subst (λ (o : Option (Option (List Change))). FindsDrop c.args.id (g.D.Device.state c.args.dev.now) o) c.in-Ok-Some.field-0-is c.in-Ok-Some.ensures.found) c.in-Ok.ensures.made c.in-Ok.ensures.passed c.in-Ok.ensures.over

pub returns-in-Err-make_next : goal.returns-in-Err-make_next
returns-in-Err-make_next g c =
    subst (λ (r : IndexError). Drops c.args.id (Err r) c.args.stage.now c.args.stage.now (g.D.Device.state c.args.dev.now) (g.D.Device.state c.make_next.new.dev)) (sym c.of-in-Err-make_next.ensures)
    (call_refused c.args.id (g.D.Device.state c.args.dev.now) (g.D.Device.state c.begun.new.dev) (g.D.Device.state c.make_next.new.dev) (g.met.D.Device.sound c.args.dev.now) c.args.stage.now c.requires c.in-Ok-Some.ensures.same c.in-Ok-Some.ensures.cause
    c.in-Ok-Some.begun c.in-Err-make_next.fault (subst (λ (o : Option (Option (List Change))). FindsDrop c.args.id (g.D.Device.state c.args.dev.now) o) c.in-Ok-Some.field-0-is c.in-Ok-Some.ensures.found) c.in-Err-make_next.ensures.made)
