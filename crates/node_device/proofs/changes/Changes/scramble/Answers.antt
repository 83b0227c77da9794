use Rattle.std.proofs.Common.{List, cond, slice_index, ap, ◌∙◌, arith}
use Rattle.node_device.specs.Changes.{one_wrote}
use Rattle.node_device.specs.declared.changes.Change.{Change}
use Rattle.node_device.proofs.ChangeLists.{scrambled_byte}
use Rattle.node_device.proofs.changes.Changes.scramble.Goals as goal

pub returns : goal.returns
returns c = λ k lt.
    let old = slice_index c.args.bytes.now k in
    scrambled_byte c.args.self.now k old (slice_index c.scramble_all.new.bytes k) (slice_index c.scramble_first.new.bytes k)
    (c.scramble_all.ensures k lt ∙ ap (λ (l : List Change). cond (one_wrote l k) 0xA5 old) c.deref.ensures.value)
    (λ first. c.scramble_first.ensures.inside k first (omega (arith, lt, c.scramble_all.auto.bytes))) (λ rest. c.scramble_first.ensures.outside k rest)
