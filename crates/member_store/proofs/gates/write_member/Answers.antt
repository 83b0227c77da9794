use Rattle.std.proofs.Common.{ℕ, List, ◌∙◌, subst}
use Rattle.gated_record.specs.Calls.{WritesBody}
use Rattle.member_store.specs.Names.{record_name}
use Rattle.member_store.proofs.gates.write_member.Goals as goal

pub returns : goal.returns
returns g c =
    subst (λ (b : List ℕ). WritesBody (record_name c.args.which c.args.node) b c.fill.result (g.D.Device.state c.args.dev.now) (g.D.Device.state c.fill.new.dev)) (c.list.ensures ∙ c.in_ok-body.ensures.body)
    (subst (λ (n : List ℕ). WritesBody n c.list.result.now c.fill.result (g.D.Device.state c.args.dev.now) (g.D.Device.state c.fill.new.dev)) (c.bytes.ensures ∙ c.of_record-name.ensures.name) c.fill.ensures)
