use Rattle.evict_core.proofs.Frame.{holds_still}
use Rattle.evict_core.proofs.laws.what_changes_no_node_keeps_what_holds.Goals as goal

pub returns : goal.returns
returns c = λ s old new m n d e of same kept places holds. holds_still s m n d e.set of old new same kept places e.removal e.stage holds
