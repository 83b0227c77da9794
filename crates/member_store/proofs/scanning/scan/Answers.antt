use Rattle.std.proofs.Common.{rules, ◌≡◌, ◌∙◌, ◌<◌, ◌≤◌, [], sym, subst, ap, List, ℕ, length, arith, get_or}
use Rattle.std.proofs.lemmas.List.{get_or_default}
use Rattle.node_device.specs.DeviceState.{DeviceState}
use Rattle.member_store.specs.Calls.{Scans}
use Rattle.member_store.proofs.SoFar.{unchanged, none_met, next_met, all_met}
use Rattle.member_store.proofs.scanning.scan.Goals as goal

pub loop-name-init : goal.loop-name-init
loop-name-init g c = record {
  state_is = unchanged (g.D.Device.state c.args.dev.now) (g.D.Device.state c.names.new.self) c.in_ok-names.ensures.same c.in_ok-names.ensures.cause;
  met = λ tells. none_met c.args.shape (g.D.Device.state c.args.dev.now) (g.D.Device.state c.args.dev.now).names c.new-members.result.items c.new-members.ensures.items;
}

pub returns-in_err-take_file : goal.returns-in_err-take_file
returns-in_err-take_file g c =
    subst (λ (s : DeviceState). Scans c.args.shape c.from_residual-in_err-take_file.result s (g.D.Device.state c.take_file.new.dev)) c.loop-name.invariant.state_is
    (record { answer = search rules; members = λ tells. search rules; same = c.in_err-take_file.ensures.same; cause = search rules })

pub loop-name-preserved : goal.loop-name-preserved
loop-name-preserved g c =
    let d = g.D.Device.state c.args.dev.now in
    let s = g.D.Device.state c.loop-name.dev in
    let k = c.loop-name.name-index in
    let names_are = c.deref-name-items.ensures.value ∙ c.in_ok-names.ensures.names in
    let lt : k < length d.names = omega (arith, c.loop-name-test.true, ap (λ (names : List (List ℕ)). length names) names_are) in
    record {
      state_is = unchanged s (g.D.Device.state c.take_file.new.dev) c.in_ok-take_file.ensures.same c.in_ok-take_file.ensures.cause ∙ c.loop-name.invariant.state_is;
      met = λ tells. next_met c.args.shape d s c.list.result.now c.loop-name.members.items c.take_file.new.members.items k c.loop-name.invariant.state_is tells (g.met.D.Device.sound c.args.dev.now).ascending lt
          (c.list.ensures ∙ c.name-item.is ∙ ap (λ (names : List (List ℕ)). get_or names k c.name-item.result) names_are ∙ get_or_default d.names k c.name-item.result [] lt) (c.loop-name.invariant.met tells) c.in_ok-take_file.ensures.met;
    }

pub returns : goal.returns
returns g c =
    let d = g.D.Device.state c.args.dev.now in
    let names_are = c.deref-name-items.ensures.value ∙ c.in_ok-names.ensures.names in
    let end : length d.names ≤ c.loop-name.name-index = omega (arith, c.loop-name-test.false, ap (λ (names : List (List ℕ)). length names) names_are) in
    record {
      answer = tt;
      members = λ tells. all_met c.args.shape d c.loop-name.name-index c.loop-name.members.items (g.met.D.Device.sound c.args.dev.now) tells end (c.loop-name.invariant.met tells);
      same = subst (λ (s : DeviceState). s ≡ record d { faults = s.faults }) (sym c.loop-name.invariant.state_is) (search rules);
      cause = ap (λ (s : DeviceState). s.faults) c.loop-name.invariant.state_is;
    }
