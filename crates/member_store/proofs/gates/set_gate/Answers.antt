use Rattle.std.proofs.Common.{ℕ, List, ◌∙◌, subst}
use Rattle.gated_record.specs.Calls.{TurnsGate}
use Rattle.member_store.specs.Names.{record_name}
use Rattle.member_store.specs.Calls.{gate_byte}
use Rattle.member_store.proofs.gates.set_gate.Goals as goal

pub returns : goal.returns
returns g c =
    subst (λ (k : ℕ). TurnsGate (record_name c.args.which c.args.node) k (gate_byte c.args.up) c.turn.result (g.D.Device.state c.args.dev.now) (g.D.Device.state c.turn.new.dev)) c.number.ensures.is
    (subst (λ (n : List ℕ). TurnsGate n c.number.result (gate_byte c.args.up) c.turn.result (g.D.Device.state c.args.dev.now) (g.D.Device.state c.turn.new.dev)) (c.bytes.ensures ∙ c.of_record-name.ensures.name) c.turn.ensures)
