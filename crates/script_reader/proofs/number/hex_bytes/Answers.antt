use Rattle.std.proofs.Common.{ap, sym, arith, rules}
use Rattle.script_reader.specs.Reasons.{or_reason}
use Rattle.script_reader.specs.declared.reason.Reason.TheVariants.{Number}
use Rattle.script_reader.proofs.Fronts.{hex_more, hex_stops, hex_done, hex_odd}
use Rattle.script_reader.proofs.number.hex_bytes.Goals as goal

pub returns-in_default : goal.returns-in_default
returns-in_default c = ap (or_reason Number) (hex_stops c.loop-rest.bytes.items c.loop-rest.rest.now _ (omega arith) (sym c.in_default.ensures) c.loop-rest.invariant)

pub loop-rest-preserved : goal.loop-rest-preserved
loop-rest-preserved c =
    rw (c.in_ok-push.ensures.items, c.split_at.ensures.back)
    (hex_more c.loop-rest.bytes.items c.loop-rest.rest.now c.in-Some.byte _ (omega arith) (sym c.in-Some.ensures) c.loop-rest.invariant)

pub returns-then-is_empty : goal.returns-then-is_empty
returns-then-is_empty c = ap (or_reason Number) (hex_done c.loop-rest.bytes.items c.loop-rest.rest.now _ (search rules) c.loop-rest.invariant)

pub returns-else-is_empty : goal.returns-else-is_empty
returns-else-is_empty c = ap (or_reason Number) (hex_odd c.loop-rest.bytes.items c.loop-rest.rest.now _ (omega arith) (search rules) c.loop-rest.invariant)
