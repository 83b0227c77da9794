use Rattle.std.proofs.Common.{◌∙◌, ◌++◌, ◌∷◌, [], sym}
use Rattle.prefix_index.specs.Listing.{AreAscending, AreMet, PutsEntry}
use Rattle.prefix_index.proofs.Readings.{there}
use Rattle.prefix_index.proofs.SoFar.{met_none, met_one, on_ok}
use Rattle.prefix_index.proofs.listing.take_file.Goals as goal

pub returns-in-None-clause-met : goal.returns-in-None-clause-met
returns-in-None-clause-met g c = λ tells names fresh met.
    met_none (g.D.Device.state c.args.dev.now) names c.args.name.now c.args.entries.now.items (λ m reads. absurd (cc (c.in-None.is, c.in_ok-read_entry.ensures.only tells m reads))) met

pub returns-in-Some-clause-met : goal.returns-in-Some-clause-met
returns-in-Some-clause-met g c = λ tells names fresh met.
    let d = g.D.Device.state c.args.dev.now in
    let reads = there _ c.in_ok-read_entry.field-0 c.in-Some.entry c.in-Some.is (c.in_ok-read_entry.ensures.reads tells) in
    on_ok (AreAscending c.args.entries.now.items → PutsEntry c.args.entries.now.items c.in-Some.entry c.put_in_order.new.entries.items) (AreMet d (names ++ c.args.name.now ∷ []) c.put_in_order.new.entries.items) c.put_in_order.result
    (λ puts. met_one d names c.args.name.now c.args.entries.now.items c.put_in_order.new.entries.items c.in-Some.entry reads (λ x its. sym c.in-Some.is ∙ c.in_ok-read_entry.ensures.only tells x its) fresh (puts met.ascending) met) c.put_in_order.ensures.put
