use Rattle.std.proofs.Common.{List, inl, inr, ap, ◌∙◌, slice_index}
use Rattle.node_device.specs.Changes.{byte_before_all}
use Rattle.node_device.specs.declared.changes.Change.{Change}
use Rattle.node_device.proofs.ChangeLists.{none_written, none_first, below_or_not, older_byte-first, older_byte-rest}
use Rattle.node_device.proofs.changes.Changes.settle.Goals as goal

pub returns-clause-written : goal.returns-clause-written
returns-clause-written c = λ k. none_written _ k (λ lt. none_first k) c.clear.ensures.items

pub returns-clause-same : goal.returns-clause-same
returns-clause-same c = λ k. elim (below_or_not k 8) [
  | inl lt ↦ older_byte-first _ k (slice_index c.args.bytes.now k) lt ∙ c.first_of-self.ensures k lt
  | inr le ↦ older_byte-rest _ k (slice_index c.args.bytes.now k) le ∙ ap (λ (l : List Change). byte_before_all l k (slice_index c.args.bytes.now k)) c.clear.ensures.items
]
