use Rattle.std.proofs.Common.{◌∙◌, ◌++◌, ◌∷◌, [], sym}
use Rattle.member_store.specs.Scanning.{AreMet, PutsMember}
use Rattle.member_store.proofs.Readings.{there}
use Rattle.member_store.proofs.SoFar.{met_none, met_one, on_ok}
use Rattle.member_store.proofs.scanning.take_file.Goals as goal

pub returns-in-None-clause-met : goal.returns-in-None-clause-met
returns-in-None-clause-met g c = λ tells names fresh met.
    met_none c.args.shape (g.D.Device.state c.args.dev.now) names c.args.name.now c.args.members.now.items (λ m reads. absurd (cc (c.in-None.is, c.in_ok-read_member.ensures.only tells m reads))) met

pub returns-in-Some-clause-met : goal.returns-in-Some-clause-met
returns-in-Some-clause-met g c = λ tells names fresh met.
    let d = g.D.Device.state c.args.dev.now in
    let reads = there _ c.in_ok-read_member.field-0 c.in-Some.member c.in-Some.is (c.in_ok-read_member.ensures.reads tells) in
    on_ok (PutsMember c.args.members.now.items c.in-Some.member c.put_in_order.new.members.items) (AreMet c.args.shape d (names ++ c.args.name.now ∷ []) c.put_in_order.new.members.items) c.put_in_order.result
    (λ puts. met_one c.args.shape d names c.args.name.now c.args.members.now.items c.put_in_order.new.members.items c.in-Some.member reads (λ x its. sym c.in-Some.is ∙ c.in_ok-read_member.ensures.only tells x its) fresh puts met) (c.put_in_order.ensures.put met.ascending)
