use Rattle.std.proofs.Common.{List, Option, ℕ, length, ◌+◌, sym, ◌∙◌, ap, subst, arith, length-append}
use Rattle.std.proofs.lemmas.Result.{on_ok_weaker}
use Rattle.std.specs.Int.{to_be_bytes, w64}
use Rattle.node_device.specs.File.{Torn, bytes_of}
use Rattle.gated_record.specs.Record.{HasBody}
use Rattle.gated_record.proofs.Records.{written_body, stays_shut}
use Rattle.gated_record.proofs.record.write_body.Goals as goal

pub returns-clause-body : goal.returns-clause-body
returns-clause-body g c = λ tells.
    let old = bytes_of ((g.D.Device.state c.args.dev.now).file c.args.name.now).now in
    let body = c.args.body.now in
    on_ok_weaker c.write.result
    (λ now. subst (λ (o : Option (List ℕ)). HasBody o body) (sym now) (written_body old body c.deref.result.now (omega (arith, c.requires.size)) (c.deref.ensures.value ∙ c.in_ok-all.ensures)))
    (c.write.ensures.now tells)

pub returns-clause-shut : goal.returns-clause-shut
returns-clause-shut g c = λ shut.
    let d = g.D.Device.state c.args.dev.now in
    let name = c.args.name.now in
    stays_shut (8 + length c.args.body.now) (d.file name) ((g.D.Device.state c.write.new.self).file name) shut ((g.met.D.Device.sound c.args.dev.now).stable_allowed name)
    (subst (λ (n : ℕ). Torn 8 n (d.file name) ((g.D.Device.state c.write.new.self).file name))
    (ap (λ (l : List ℕ). length l) (c.deref.ensures.value ∙ c.in_ok-all.ensures) ∙ length-append (to_be_bytes w64 (length c.args.body.now)) c.args.body.now) c.write.ensures.torn)
