use Rattle.std.proofs.Common.{cond, slice_index, ◌∙◌, ap, arith}
use Rattle.std.proofs.lemmas.List.{take_all}
use Rattle.node_device.specs.Changes.{one_wrote}
use Rattle.node_device.proofs.ChangeLists.{scrambled_more}
use Rattle.node_device.proofs.changes.Change.scramble_all.Goals as goal

pub loop-i-preserved : goal.loop-i-preserved
loop-i-preserved c = λ k lt.
    scrambled_more c.args.changes.now c.loop-i.i c.index-changes-i.result k (slice_index c.args.bytes.now k) (slice_index c.loop-i.bytes k) (slice_index c.scramble.new.bytes k)
    c.loop-i-test.true c.index-changes-i.is (c.loop-i.invariant k lt) (c.scramble.ensures k (omega (arith, lt, c.loop-i.auto.bytes)))

pub returns : goal.returns
returns c = λ k lt. c.loop-i.invariant k lt ∙ ap (λ l. cond (one_wrote l k) 0xA5 (slice_index c.args.bytes.now k)) (take_all c.loop-i.i c.args.changes.now c.loop-i-test.false)
