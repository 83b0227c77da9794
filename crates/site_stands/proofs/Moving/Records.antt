-- What the device's clauses on the write of one byte give: the rest of the record stays.
use Rattle.std.proofs.Common.{◌≡◌, ◌≢◌, ◌⊎◌, inl, inr, ◌<◌, ◌≤◌, ℕ, List, length, set, Option, Some, None, refl, sym, ◌∙◌, ap, subst, arith}
use Rattle.std.specs.Prelude.{is_some}
use Rattle.std.specs.Option.{option_map}
use Rattle.scr_base.specs.declared.shape.DataId.{DataId}
use Rattle.node_device.specs.File.{File, MayLeave, MayHold, Torn, byte_at}
use Rattle.node_device.specs.DeviceState.{DeviceState}
use Rattle.gated_record.specs.Record.{HasBody, IsOpen, KeepsBody}
use Rattle.gate_outcomes.specs.Leaves.{HasByte}
use Rattle.gate_outcomes.proofs.Bytes.{left_before, other_byte}
use Rattle.gate_outcomes.proofs.Stays.{torn_open, torn_body}
use Rattle.member_store.specs.Names.{record_name}
use Rattle.site_stands.specs.Gate.{Gate, GateIs}
use Rattle.site_stands.specs.MemberMoves.{WritesGate, ReadsTurned}

-- the other gates stay as they are, also those that were turned and aren't synced: the file need not be at rest
pub other_gate : (k j : ℕ) (f g : File) (t : Gate) → j ≢ k → HasByte f k → Torn k 1 f g → ReadsTurned k f g → GateIs f j t → GateIs g j t
other_gate k j f g Gate.Shut other there torn now is = λ o may opens.
    let before = left_before k f g o there torn may in
    is before.old before.may (sym (other_byte k j before.byte before.old other) ∙ ap (λ (p : Option (List ℕ)). byte_at p j) (sym before.is) ∙ opens)
other_gate k j f g Gate.Loose other there torn now is = tt
other_gate k j f g Gate.Turning other there torn (inl same) is = subst (λ (o : Option (List ℕ)). IsOpen o j) (sym same) is
other_gate k j f g Gate.Turning other there torn (inr turned) is = ap (λ (p : Option (List ℕ)). byte_at p j) turned.1 ∙ other_byte k j turned.0 f.now other ∙ is
other_gate k j f g Gate.Closing other there torn (inl same) is = subst (λ (o : Option (List ℕ)). IsOpen o j → ⊥) (sym same) is
other_gate k j f g Gate.Closing other there torn (inr turned) is = λ opens. is (sym (other_byte k j turned.0 f.now other) ∙ ap (λ (p : Option (List ℕ)). byte_at p j) (sym turned.1) ∙ opens)
other_gate k j f g Gate.Open other there torn now is = torn_open k j f g other there torn is

-- so a gate write of a record is one of WritesGate
pub gate_written : (which : DataId) (node gate : ℕ) (old new : DeviceState) → gate < 8 → ((q : List ℕ) → q ≢ record_name which node → new.file q ≡ old.file q) → HasByte (old.file (record_name which node)) gate
    → Torn gate 1 (old.file (record_name which node)) (new.file (record_name which node)) → ReadsTurned gate (old.file (record_name which node)) (new.file (record_name which node)) → WritesGate which node gate old new
gate_written which node gate old new lt others there torn now = record {
  others = others;
  body = λ body has. torn_body gate (old.file (record_name which node)) (new.file (record_name which node)) body lt there torn has;
  gates = λ k t other is. other_gate gate k (old.file (record_name which node)) (new.file (record_name which node)) t other there torn now is;
}

-- a file with a body is there, and longer than its gates
body_long : (o : Option (List ℕ)) (body : List ℕ) → HasBody o body → (b : List ℕ) × (o ≡ Some b) × (16 ≤ length b)
body_long None body has = absurd (omega (arith, has.whole))
body_long (Some b) body has = (b, refl, omega (arith, has.whole))

pub record_there : (f : File) (body : List ℕ) (k : ℕ) → k < 8 → MayLeave f f.now → KeepsBody f body → HasByte f k
record_there f body k lt law has =
    let now = body_long f.now body (has f.now law) in
    let held : MayHold f now.0 = subst (λ (o : Option (List ℕ)). MayLeave f o) now.1 law in
    record { there = ap is_some now.1; long = omega (arith, held.no_longer, now.2) }
