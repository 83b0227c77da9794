use Rattle.std.proofs.Common.{rules, ◌≡◌, ◌∙◌, ◌<◌, ◌≤◌, [], sym, subst, ap, List, ℕ, length, arith, get_or}
use Rattle.std.proofs.lemmas.List.{get_or_default}
use Rattle.node_device.specs.DeviceState.{DeviceState, IsUnchanged}
use Rattle.node_device.specs.Answers.{HasDeviceCause}
use Rattle.prefix_index.proofs.SoFar.{unchanged, none_met, device_named, next_met, all_met}
use Rattle.prefix_index.proofs.listing.entries.Goals as goal

pub loop-name-init : goal.loop-name-init
loop-name-init g c = record {
  state_is = unchanged (g.D.Device.state c.args.dev.now) (g.D.Device.state c.names.new.self) c.in_ok-names.ensures.same c.in_ok-names.ensures.cause;
  met = λ tells. none_met (g.D.Device.state c.args.dev.now) (g.D.Device.state c.args.dev.now).names c.new-entries.result.items c.new-entries.ensures.items;
}

pub take_file-requires : goal.take_file-requires
take_file-requires g c =
    let d = g.D.Device.state c.args.dev.now in
    let k = c.loop-name.name-index in
    let names_are = c.deref-name-items.ensures.value ∙ c.in_ok-names.ensures.names in
    let lt : k < length d.names = omega (arith, c.loop-name-test.true, ap (λ (names : List (List ℕ)). length names) names_are) in
    device_named d c.list.result.now k (g.met.D.Device.sound c.args.dev.now) lt (c.list.ensures ∙ c.name-item.is ∙ ap (λ (names : List (List ℕ)). get_or names k c.name-item.result) names_are ∙ get_or_default d.names k c.name-item.result [] lt)

pub returns-in_err-take_file-clause-same : goal.returns-in_err-take_file-clause-same
returns-in_err-take_file-clause-same g c =
    subst (λ (s : DeviceState). IsUnchanged s (g.D.Device.state c.take_file.new.dev)) c.loop-name.invariant.state_is c.in_err-take_file.ensures.same

pub returns-in_err-take_file-clause-cause : goal.returns-in_err-take_file-clause-cause
returns-in_err-take_file-clause-cause g c =
    subst (λ (s : DeviceState). HasDeviceCause s (g.D.Device.state c.take_file.new.dev) c.from_residual-in_err-take_file.result) c.loop-name.invariant.state_is (search rules)

pub loop-name-preserved : goal.loop-name-preserved
loop-name-preserved g c =
    let d = g.D.Device.state c.args.dev.now in
    let s = g.D.Device.state c.loop-name.dev in
    let k = c.loop-name.name-index in
    let names_are = c.deref-name-items.ensures.value ∙ c.in_ok-names.ensures.names in
    let lt : k < length d.names = omega (arith, c.loop-name-test.true, ap (λ (names : List (List ℕ)). length names) names_are) in
    record {
      state_is = unchanged s (g.D.Device.state c.take_file.new.dev) c.in_ok-take_file.ensures.same c.in_ok-take_file.ensures.cause ∙ c.loop-name.invariant.state_is;
      met = λ tells. next_met d s c.list.result.now c.loop-name.entries.items c.take_file.new.entries.items k c.loop-name.invariant.state_is tells (g.met.D.Device.sound c.args.dev.now).ascending lt
          (c.list.ensures ∙ c.name-item.is ∙ ap (λ (names : List (List ℕ)). get_or names k c.name-item.result) names_are ∙ get_or_default d.names k c.name-item.result [] lt) (c.loop-name.invariant.met tells) c.in_ok-take_file.ensures.met;
    }

pub returns : goal.returns
returns g c =
    let d = g.D.Device.state c.args.dev.now in
    let names_are = c.deref-name-items.ensures.value ∙ c.in_ok-names.ensures.names in
    let end : length d.names ≤ c.loop-name.name-index = omega (arith, c.loop-name-test.false, ap (λ (names : List (List ℕ)). length names) names_are) in
    record {
      answer = tt;
      entries = λ tells. all_met d c.loop-name.name-index c.loop-name.entries.items (g.met.D.Device.sound c.args.dev.now) tells end (c.loop-name.invariant.met tells);
      same = subst (λ (s : DeviceState). s ≡ record d { faults = s.faults }) (sym c.loop-name.invariant.state_is) (search rules);
      cause = ap (λ (s : DeviceState). s.faults) c.loop-name.invariant.state_is;
    }
