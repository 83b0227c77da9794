use Rattle.std.proofs.Common.{List, slice_index, inl, inr, sym, ap, ◌∙◌, arith}
use Rattle.node_device.specs.Changes.{byte_before_all}
use Rattle.node_device.specs.declared.changes.Change.{Change}
use Rattle.node_device.proofs.ChangeLists.{below_or_not, older_byte-first, older_byte-rest}
use Rattle.node_device.proofs.changes.Changes.put_back.Goals as goal

pub returns : goal.returns
returns c = λ k lt.
    let old = slice_index c.args.bytes.now k in
    elim (below_or_not k 8) [
      | inl first ↦ c.put_back_first.ensures.inside k first (omega (arith, lt, c.put_back_all.auto.bytes)) ∙ sym (older_byte-first c.args.self.now k old first)
      | inr rest ↦ c.put_back_first.ensures.outside k rest ∙ c.put_back_all.ensures k lt ∙ ap (λ (l : List Change). byte_before_all l k old) c.deref.ensures.value ∙ sym (older_byte-rest c.args.self.now k old rest)
    ]
