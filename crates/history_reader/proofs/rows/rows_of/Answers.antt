use Rattle.std.proofs.Common.{Global, Vec, List, ◌++◌, ap, sym, ◌∙◌}
use Rattle.std.proofs.lemmas.Result.{err_from_is_err_and}
use Rattle.history_reader.specs.Pieces.{each_before}
use Rattle.history_reader.specs.Reading.{each_read, parts}
use Rattle.history_reader.proofs.RowLaws.{goes_on, ends, ends_last, fits_push, all_read, joined, moved}
use Rattle.history_reader.proofs.rows.rows_of.Goals as goal

pub returns-in_err-of-clause-gives : goal.returns-in_err-of-clause-gives
returns-in_err-of-clause-gives g c =
    let p = err_from_is_err_and c.from_residual.result c.from_residual.ensures.1 in
    rw (p.1, p.2) (
    ends
    (λ (rows : Vec g.row.R.Denot Global). rows.items)
    c.in_err-of.field-0.0
    g.R.Row.read
    c.args.separator
    c.loop-word.rest.now
    c.in-Some.word.now
    c.in-Some.others.now
    c.loop-word.rows.items
    (each_read g.R.Row.read (parts c.args.separator c.args.bytes.now))
    (sym c.in-Some.ensures.gives)
    c.in_err-of.ensures.gives
    c.loop-word.invariant.gives
    )

pub loop-word-preserved : goal.loop-word-preserved
loop-word-preserved g c = record {
  text =
      moved
      c.args.separator
      g.R.Row.text
      c.args.bytes.now
      c.loop-word.rest.now
      c.in-Some.word.now
      c.in-Some.others.now
      c.loop-word.rows.items
      c.in_ok-of.field-0
      c.loop-word.invariant.text
      c.in-Some.ensures.text
      c.in_ok-of.ensures.text
      ∙ ap (λ (rows : List g.row.R.Denot). each_before c.args.separator g.R.Row.text rows ++ c.in-Some.others.now) (sym c.in_ok-push.ensures.items);
  fits = fits_push g.R.Row.fits c.loop-word.rows.items c.in_ok-of.field-0 c.push.new.self.items c.loop-word.invariant.fits c.in_ok-of.ensures.fits c.in_ok-push.ensures.items;
  gives = rw c.in_ok-push.ensures.items (
      goes_on
      g.R.Row.read
      c.args.separator
      c.loop-word.rest.now
      c.in-Some.word.now
      c.in-Some.others.now
      c.loop-word.rows.items
      c.in_ok-of.field-0
      (each_read g.R.Row.read (parts c.args.separator c.args.bytes.now))
      (sym c.in-Some.ensures.gives)
      c.in_ok-of.ensures.gives
      c.loop-word.invariant.gives
      );
}

pub returns-in_err-last-clause-gives : goal.returns-in_err-last-clause-gives
returns-in_err-last-clause-gives g c =
    let p = err_from_is_err_and c.from_residual-in_err-last.result c.from_residual-in_err-last.ensures.1 in
    rw (p.1, p.2) (
    ends_last
    (λ (rows : Vec g.row.R.Denot Global). rows.items)
    c.in_err-last.field-0.0
    g.R.Row.read
    c.args.separator
    c.loop-word.rest.now
    c.loop-word.rows.items
    (each_read g.R.Row.read (parts c.args.separator c.args.bytes.now))
    (sym c.in_default.ensures.gives)
    c.in_err-last.ensures.gives
    c.loop-word.invariant.gives
    )

pub returns-clause-fits : goal.returns-clause-fits
returns-clause-fits g c = fits_push g.R.Row.fits c.loop-word.rows.items c.in_ok-last.last c.push-2.new.self.items c.loop-word.invariant.fits c.in_ok-last.ensures.fits c.in_ok-push-2.ensures.items

pub returns-clause-text : goal.returns-clause-text
returns-clause-text g c =
    joined
    c.args.separator
    g.R.Row.text
    c.args.bytes.now
    c.loop-word.rest.now
    c.loop-word.rows.items
    c.in_ok-last.last
    c.push-2.new.self.items
    c.loop-word.invariant.text
    c.in_ok-last.ensures.text
    c.in_ok-push-2.ensures.items

pub returns-clause-gives : goal.returns-clause-gives
returns-clause-gives g c =
    all_read
    g.R.Row.read
    c.args.separator
    c.loop-word.rest.now
    c.loop-word.rows.items
    c.in_ok-last.last
    c.push-2.new.self.items
    (each_read g.R.Row.read (parts c.args.separator c.args.bytes.now))
    (sym c.in_default.ensures.gives)
    c.in_ok-last.ensures.gives
    c.in_ok-push-2.ensures.items
    c.loop-word.invariant.gives
