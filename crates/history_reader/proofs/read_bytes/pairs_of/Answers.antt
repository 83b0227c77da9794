use Rattle.std.proofs.Common.{◌<◌, ◌^◌, arith, ap, refl, sym, ◌∙◌, List, ℕ}
use Rattle.history_reader.specs.Reading.{read_pairs}
use Rattle.history_reader.proofs.RowLaws.{fits_push, with_front, hex_moved, pairs_go_on, pairs_stop, pairs_all, pairs_odd}
use Rattle.history_reader.proofs.read_bytes.pairs_of.Goals as goal

pub returns-in_default-byte_of-clause-gives : goal.returns-in_default-byte_of-clause-gives
returns-in_default-byte_of-clause-gives c =
    pairs_stop
    c.loop-high.rest.now
    c.in-Some.high
    c.in-Some.low
    c.in-Some.others.now
    c.loop-high.bytes.items
    (read_pairs c.args.digits.now)
    c.in-Some.ensures.some
    (sym c.in_default-byte_of.ensures.gives)
    c.loop-high.invariant.gives

pub loop-high-preserved : goal.loop-high-preserved
loop-high-preserved c = record {
  text =
      hex_moved
      c.args.digits.now
      c.loop-high.rest.now
      c.in-Some.high
      c.in-Some.low
      c.in-Some.others.now
      c.loop-high.bytes.items
      c.in-Some-byte_of.byte
      c.push.new.self.items
      c.loop-high.invariant.text
      c.in-Some.ensures.some
      c.in-Some-byte_of.ensures.text
      c.in_ok-push.ensures.items;
  fits = fits_push (λ b. b < 2 ^ 8) c.loop-high.bytes.items c.in-Some-byte_of.byte c.push.new.self.items c.loop-high.invariant.fits (omega arith) c.in_ok-push.ensures.items;
  gives =
      ap (λ (bytes : List ℕ). with_front bytes (read_pairs c.in-Some.others.now)) c.in_ok-push.ensures.items
      ∙ pairs_go_on
      c.loop-high.rest.now
      c.in-Some.high
      c.in-Some.low
      c.in-Some.others.now
      c.loop-high.bytes.items
      c.in-Some-byte_of.byte
      (read_pairs c.args.digits.now)
      c.in-Some.ensures.some
      (sym c.in-Some-byte_of.ensures.gives)
      c.loop-high.invariant.gives;
}

pub returns-then-is_empty-clause-gives : goal.returns-then-is_empty-clause-gives
returns-then-is_empty-clause-gives c = pairs_all c.loop-high.rest.now c.loop-high.bytes.items c.loop-high.bytes.items (read_pairs c.args.digits.now) (sym c.is_empty.ensures ∙ c.if-is_empty.true) refl c.loop-high.invariant.gives

pub returns-else-is_empty-clause-gives : goal.returns-else-is_empty-clause-gives
returns-else-is_empty-clause-gives c = pairs_odd c.loop-high.rest.now c.loop-high.bytes.items (read_pairs c.args.digits.now) (sym c.is_empty.ensures ∙ c.if-is_empty.false) c.in_default.ensures.none c.loop-high.invariant.gives
