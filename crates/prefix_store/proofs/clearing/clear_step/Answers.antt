use Rattle.std.proofs.Common.{◌≡◌, sym, ap, subst, Bool}
use Rattle.std.specs.Prelude.{Result, Ok, Err, IsErr, IsErrAnd}
use Rattle.node_device.specs.declared.device.DevError.{DevError}
use Rattle.prefix_store.specs.Calls.{Clears}
use Rattle.prefix_store.proofs.Clears.{later_may, later, first_may, first_done, first_refused}
use Rattle.prefix_store.proofs.clearing.clear_step.Goals as goal

pub remove_next-requires : goal.remove_next-requires
remove_next-requires g c =
    later_may c.args.name.now c.args.stage.now (sym c.if-not-is_new.ensures) c.requires

pub returns-then-not-is_new : goal.returns-then-not-is_new
returns-then-not-is_new g c =
    later c.args.name.now (g.D.Device.state c.args.dev.now) (g.D.Device.state c.remove_next.new.dev) c.args.stage.now c.remove_next.new.stage c.remove_next.result
    (sym c.if-not-is_new.ensures) c.requires c.remove_next.ensures.made c.remove_next.ensures.passed c.remove_next.ensures.over c.remove_next.ensures.refused

pub remove_next-requires-2 : goal.remove_next-requires-2
remove_next-requires-2 g c =
    first_may c.args.name.now (g.D.Device.state c.args.dev.now) (g.D.Device.state c.removals_under.new.dev) (g.D.Device.state c.removals_under.new.dev) c.args.stage.now c.begin.new.self (sym c.if-not-is_new.ensures)
    c.in_ok-removals_under.field-0.items c.begin.ensures.begun c.begin.ensures.fewer c.in_ok-removals_under.ensures.found c.in_ok-removals_under.ensures.same c.in_ok-removals_under.ensures.cause

-- what `?` hands on is the error itself
handed_on : (result : Result Bool DevError) (fault : DevError) → IsErr result → IsErrAnd result (λ other. other ≡ fault) → result ≡ Err fault
handed_on (Ok over) fault is same = absurd (cc is)
handed_on (Err other) fault is same = ap Err same

pub returns-in_err-over : goal.returns-in_err-over
returns-in_err-over g c =
    subst (λ (r : Result Bool DevError). Clears c.args.name.now r c.args.stage.now c.args.stage.now (g.D.Device.state c.args.dev.now) (g.D.Device.state c.remove_next-2.new.dev))
    (sym (handed_on c.from_residual-in_err-over.result c.in_err-over.field-0.0 c.from_residual-in_err-over.ensures.0 c.from_residual-in_err-over.ensures.1))
    (first_refused c.args.name.now (g.D.Device.state c.args.dev.now) (g.D.Device.state c.removals_under.new.dev) (g.D.Device.state c.remove_next-2.new.dev) c.args.stage.now c.begin.new.self (sym c.if-not-is_new.ensures)
    c.in_ok-removals_under.field-0.items c.begin.ensures.begun c.begin.ensures.fewer c.in_ok-removals_under.ensures.found c.in_ok-removals_under.ensures.same c.in_ok-removals_under.ensures.cause c.in_err-over.field-0.0 c.in_err-over.ensures.made)

pub returns : goal.returns
returns g c =
    first_done c.args.name.now (g.D.Device.state c.args.dev.now) (g.D.Device.state c.removals_under.new.dev) (g.D.Device.state c.remove_next-2.new.dev) c.args.stage.now c.begin.new.self (sym c.if-not-is_new.ensures)
    c.in_ok-removals_under.field-0.items c.begin.ensures.begun c.begin.ensures.fewer c.in_ok-removals_under.ensures.found c.in_ok-removals_under.ensures.same c.in_ok-removals_under.ensures.cause
    c.remove_next-2.new.stage c.in_ok-over.over c.in_ok-over.ensures.made c.in_ok-over.ensures.passed c.in_ok-over.ensures.over
