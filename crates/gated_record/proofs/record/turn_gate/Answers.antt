use Rattle.std.proofs.Common.{Some, ap, ◌∙◌}
use Rattle.std.proofs.lemmas.Result.{on_ok_weaker}
use Rattle.node_device.specs.File.{bytes_of}
use Rattle.node_device.specs.DeviceState.{used_of}
use Rattle.node_device.specs.Outcomes.{told_longer}
use Rattle.gated_record.proofs.Records.{gate_keeps_body, written_byte, gate_alone, gate_len}
use Rattle.gated_record.proofs.record.turn_gate.Goals as goal

pub returns-clause-turns : goal.returns-clause-turns
returns-clause-turns g c =
    let d = g.D.Device.state c.args.dev.now in
    let name = c.args.name.now in
    record {
      answer = c.write.ensures.answer;
      failed_alone = gate_alone (d.file name) (used_of d) d.capacity c.args.gate c.write.result c.requires.gate c.write.ensures.answer;
      len = gate_len d (g.D.Device.state c.write.new.self) name c.args.gate c.write.result c.write.ensures.len c.write.ensures.refused;
      now = λ has_place tells.
          let there = told_longer (d.file name) c.args.gate ((g.met.D.Device.sound c.args.dev.now).lengths tells name) has_place in
          on_ok_weaker c.write.result (λ now. now ∙ ap Some (written_byte (bytes_of (d.file name).now) c.args.gate c.args.byte there.1)) (c.write.ensures.now tells);
      torn = c.write.ensures.torn;
      refused = c.write.ensures.refused;
      spared = c.write.ensures.spared;
      only = c.write.ensures.only;
      cause = c.write.ensures.cause;
    }

pub returns-clause-kept : goal.returns-clause-kept
returns-clause-kept g c = λ rest body has. gate_keeps_body c.args.gate ((g.D.Device.state c.args.dev.now).file c.args.name.now) _ body c.requires.gate rest c.write.ensures.torn has
