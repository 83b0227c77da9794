use Rattle.std.proofs.Common.{◌∙◌, ap, decimal}
use Rattle.std.proofs.lemmas.Result.{on_ok_weaker}
use Rattle.ckpt_model.specs.Text.{numbers_joined}
use Rattle.history_reader.specs.Pieces.{each_after}
use Rattle.history_reader.proofs.Joins.{joined_is}
use Rattle.history_text.proofs.Joins.{in_two}
use Rattle.history_text.proofs.pieces.put_numbers.Goals as goal

pub returns-in_ok-put_number-in-Some : goal.returns-in_ok-put_number-in-Some
returns-in_ok-put_number-in-Some c =
    let s = c.args.separator in
    let first = c.in-Some.first.now in
    let others = c.in-Some.others.now in
    on_ok_weaker
    c.put_more_numbers.result
    (λ e.
    in_two
    c.args.out.now.items
    c.put_number.new.out.items
    c.put_more_numbers.new.out.items
    (decimal first)
    (each_after s decimal others)
    (numbers_joined s c.args.numbers.now)
    c.in_ok-put_number-in-Some.ensures
    e
    (ap (numbers_joined s) c.in-Some.ensures.cases.0 ∙ joined_is s decimal (decimal first) others))
    c.put_more_numbers.ensures
