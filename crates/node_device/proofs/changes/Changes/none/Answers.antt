use Rattle.node_device.proofs.ChangeLists.{none_written, none_first}
use Rattle.node_device.proofs.changes.Changes.none.Goals as goal

pub returns : goal.returns
returns c = record { written = λ k. none_written _ k (λ lt. none_first k) c.new.ensures.items }
