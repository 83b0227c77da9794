use Rattle.std.proofs.Common.{◌≡◌, ◌<◌, length, ap, sym, ◌∙◌, subst, arith}
use Rattle.node_device.specs.Calls.{Crashes}
use Rattle.node_device.specs.Rack.{Rack}
use Rattle.node_device.proofs.Racks.{at_device, at_each, IsStopBy, nowhere_crashes, none_done, one_more_done}
use Rattle.node_device.proofs.bay.Bay.stop.Goals as goal

pub loop-i-init : goal.loop-i-init
loop-i-init g c = record {
  nodes = none_done g.D.Device.state (IsStopBy (g.D.Device.leaves c.args.pick)) _ _ (ap (λ (r : Rack g.row.D.Denot). r.nodes) c.self.view_is);
  prefix = ap (λ (r : Rack g.row.D.Denot). r.prefix) c.self.view_is;
}

pub loop-i-preserved : goal.loop-i-preserved
loop-i-preserved g c =
    let nodes = c.loop-i.self-inside.nodes in
    let full : length c.args.self.now.nodes ≡ 32 = sym (ap (λ (r : Rack g.row.D.Denot). length r.nodes) c.self.view_is) ∙ c.self.invariant in
    let lt : c.loop-i.i < length nodes.items = omega (arith, c.loop-i.invariant.nodes.len, full, c.loop-i-test.true, c.len-i-end.ensures, c.self.invariant, c.self.inside.nodes.ok.0) in
    record {
      nodes = one_more_done g.D.Device.state (IsStopBy (g.D.Device.leaves c.args.pick)) c.loop-i.i c.args.self.now.nodes nodes.items c.index_mut.result.now c.crash.new.self lt c.index_mut.ensures.value c.loop-i.invariant.nodes
          (record { crashes = record { tells = c.crash.ensures.tells; outcome = c.crash.ensures.outcome; at_rest = c.crash.ensures.at_rest }; leaves = c.crash.ensures.picked });
      prefix = c.loop-i.invariant.prefix;
    }

pub returns-clause-picked : goal.returns-clause-picked
returns-clause-picked g c =
    let i = c.loop-i.invariant in
    let full : length c.args.self.now.nodes ≡ 32 = sym (ap (λ (r : Rack g.row.D.Denot). length r.nodes) c.self.view_is) ∙ c.self.invariant in
    at_device g.D.Device.state c.args.self.now (record { nodes = c.loop-i.self-inside.nodes.items; prefix = c.crash-2.new.self }) (g.D.Device.leaves c.args.pick) full (i.nodes.len ∙ full)
    (λ k lt d. (i.nodes.passed k (omega (arith, lt, c.loop-i-test.false, c.len-i-end.ensures, c.self.invariant, c.self.inside.nodes.ok.0)) d).leaves)
    (subst (λ p. g.D.Device.leaves c.args.pick (g.D.Device.state p) (g.D.Device.state c.crash-2.new.self)) i.prefix c.crash-2.ensures.picked)

pub returns-clause-each : goal.returns-clause-each
returns-clause-each g c =
    let i = c.loop-i.invariant in
    let full : length c.args.self.now.nodes ≡ 32 = sym (ap (λ (r : Rack g.row.D.Denot). length r.nodes) c.self.view_is) ∙ c.self.invariant in
    at_each g.D.Device.state c.args.self.now (record { nodes = c.loop-i.self-inside.nodes.items; prefix = c.crash-2.new.self }) Crashes full (i.nodes.len ∙ full)
    (λ k lt d. (i.nodes.passed k (omega (arith, lt, c.loop-i-test.false, c.len-i-end.ensures, c.self.invariant, c.self.inside.nodes.ok.0)) d).crashes)
    (subst (λ p. Crashes (g.D.Device.state p) (g.D.Device.state c.crash-2.new.self)) i.prefix (record { tells = c.crash-2.ensures.tells; outcome = c.crash-2.ensures.outcome; at_rest = c.crash-2.ensures.at_rest }))
    nowhere_crashes
