use Rattle.std.proofs.Common.{arith}
use Rattle.history_reader.proofs.Lines.{all_followed, bad_is, follows_on, not_bad, one_line_more, one_more_printable, only_memory, same_line}
use Rattle.history_reader.proofs.parsing.parse.Goals as goal

pub loop-rest-preserved : goal.loop-rest-preserved
loop-rest-preserved c = record {
  text =
      one_line_more
      c.args.bytes.now
      c.loop-rest.rest.now
      c.in-Ok.others.now
      c.loop-rest.history.events
      c.push.new.self.events
      c.in-Ok.event
      c.loop-rest.invariant.text
      c.in-Ok.ensures.text
      c.in_ok-push-in-Ok.ensures.events;
  printable =
      one_more_printable
      c.loop-rest.history.events
      c.push.new.self.events
      c.in-Ok.event
      c.loop-rest.invariant.printable
      c.in-Ok.ensures.spelled
      c.in-Ok.ensures.fits
      c.in_ok-push-in-Ok.ensures.events;
  follows =
      follows_on
      c.args.bytes.now
      c.loop-rest.rest.now
      c.in-Ok.others.now
      c.loop-rest.history.events
      c.push.new.self.events
      c.in-Ok.event
      c.loop-rest.invariant.follows
      (omega (arith, c.loop-rest-test.true))
      c.in-Ok.ensures.gives
      c.in_ok-push-in-Ok.ensures.events;
}

pub returns-in-Err-clause-only : goal.returns-in-Err-clause-only
returns-in-Err-clause-only c =
    only_memory
    c.args.bytes.now
    c.loop-rest.rest.now
    c.loop-rest.history.events
    c.in-Err.fault
    c.error_at.result
    c.loop-rest.invariant.follows
    (omega (arith, c.loop-rest-test.true))
    c.in-Err.ensures.gives
    c.error_at.ensures

pub returns-in-Err-clause-bad : goal.returns-in-Err-clause-bad
returns-in-Err-clause-bad c =
    bad_is
    c.args.bytes.now
    c.loop-rest.rest.now
    c.loop-rest.history.events
    c.in-Err.fault
    c.error_at.result
    c.loop-rest.invariant.text
    c.loop-rest.invariant.printable
    (omega (arith, c.loop-rest-test.true))
    c.in-Err.ensures.gives
    c.error_at.ensures

pub returns-in-Err-clause-first : goal.returns-in-Err-clause-first
returns-in-Err-clause-first c =
    same_line
    c.args.bytes.now
    c.error_at.result
    (
    bad_is
    c.args.bytes.now
    c.loop-rest.rest.now
    c.loop-rest.history.events
    c.in-Err.fault
    c.error_at.result
    c.loop-rest.invariant.text
    c.loop-rest.invariant.printable
    (omega (arith, c.loop-rest-test.true))
    c.in-Err.ensures.gives
    c.error_at.ensures
    )

pub returns-clause-first : goal.returns-clause-first
returns-clause-first c = not_bad c.args.bytes.now c.loop-rest.rest.now c.loop-rest.history.events c.loop-rest.invariant.text (omega (arith, c.loop-rest-test.false)) c.loop-rest.invariant.printable

pub returns-clause-only : goal.returns-clause-only
returns-clause-only c = all_followed c.args.bytes.now c.loop-rest.rest.now c.loop-rest.history.events c.loop-rest.invariant.follows (omega (arith, c.loop-rest-test.false))
