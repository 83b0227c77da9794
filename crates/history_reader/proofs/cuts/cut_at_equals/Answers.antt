use Rattle.std.proofs.Common.{sym, ◌∙◌}
use Rattle.history_reader.proofs.Wholes.{around_is}
use Rattle.history_reader.proofs.cuts.cut_at_equals.Goals as goal

pub returns-then-is_empty-2-clause-text : goal.returns-then-is_empty-2-clause-text
returns-then-is_empty-2-clause-text c =
    around_is
    c.args.bytes.now
    c.in_ok-front.front.now
    c.in_ok-front.behind.now
    c.in_ok-front-2.front.now
    c.in_ok-front-2.after.now
    c.in_ok-before.before.now
    c.in_ok-before.behind.now
    c.in_ok-front.ensures.text
    c.in_ok-front-2.ensures.text
    (sym c.is_empty.ensures ∙ c.if-is_empty.true)
    c.in_ok-before.ensures.text
    (sym c.is_empty-then-is_empty.ensures ∙ c.if-is_empty-2.true)
