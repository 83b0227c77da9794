use Rattle.std.proofs.Common.{ap, sym, rules, List, ◌∙◌, Option, Bor, ℕ}
use Rattle.std.specs.Prelude.{option_map}
use Rattle.history_reader.proofs.CutLaws.{cut_at_place, cut_nowhere, lacks_all}
use Rattle.history_reader.proofs.cuts.cut.Goals as goal

pub returns-in_err-place-clause-gives : goal.returns-in_err-place-clause-gives
returns-in_err-place-clause-gives c =
    ap (λ (o : Option (Bor (List ℕ) × Bor (List ℕ))). option_map (λ parts. (parts.0.now, parts.1.now)) o) c.from_residual.ensures
    ∙ sym (cut_nowhere c.args.byte c.args.bytes.now (lacks_all c.args.byte c.args.bytes.now c.in_err-place.ensures.none))

pub returns-clause-gives : goal.returns-clause-gives
returns-clause-gives c =
    cut_at_place
    c.args.byte
    c.args.bytes.now
    c.split_at.result.0.now
    c.split_at-2.result.1.now
    c.in_ok-place.place
    (search rules)
    (search rules)
    c.in_ok-place.ensures.first
