use Rattle.std.proofs.Common.{◌-◌, Err, ap}
use Rattle.reed_solomon.proofs.Complete.{column_factors}
use Rattle.reed_solomon.proofs.factors.Goals as goal

pub unreachable-requires-in-Err-Repeated : goal.unreachable-requires-in-Err-Repeated
unreachable-requires-in-Err-Repeated c =
    let r = (c.in-Err-Repeated.ensures.repeated c.in-Err-Repeated.field-0-0).0 (ap (λ e. Err e) c.in-Err-Repeated.field-0-is) in
    c.requires.distinct r.earlier c.in-Err-Repeated.field-0-0 r.before r.within r.same

pub returns-in-Ok : goal.returns-in-Ok
returns-in-Ok c =
    column_factors (c.args.n - c.args.k) c.args.n c.args.places.now c.args.target c.in-Ok.factors c.requires.count c.requires.within c.requires.below c.in-Ok.ensures.ok
