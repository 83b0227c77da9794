use Rattle.std.proofs.Common.{ℕ, List, ◌∙◌, subst}
use Rattle.gated_record.specs.Calls.{WritesBody}
use Rattle.prefix_index.specs.Names.{entry_name}
use Rattle.prefix_index.proofs.adding.put_body.Goals as goal

pub returns : goal.returns
returns g c =
    subst (λ (b : List ℕ). WritesBody (entry_name c.args.desc.now.which) b c.fill.result (g.D.Device.state c.args.dev.now) (g.D.Device.state c.fill.new.dev)) (c.list.ensures ∙ c.in_ok-body.ensures.body)
    (subst (λ (n : List ℕ). WritesBody n c.list.result.now c.fill.result (g.D.Device.state c.args.dev.now) (g.D.Device.state c.fill.new.dev)) (c.bytes.ensures ∙ c.of-name.ensures.name) c.fill.ensures)
