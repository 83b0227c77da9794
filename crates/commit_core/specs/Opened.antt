-- How far the nodes of a dataset have come, one after the other: those before a node are done, the node has come so far, and the others have not begun.
use Rattle.std.specs.Prelude.{ℕ, ◌==◌, nat_lt, if◌then◌else◌}
use Rattle.site_stands.specs.Gate.{Gate}
use Rattle.commit_core.specs.Fill.{Fill}

-- one gate of each node
abbrev pub opened_to : ℕ → Gate → ℕ → Gate
opened_to node gate i = if nat_lt i node then Gate.Open else (if i == node then gate else Gate.Shut)

-- files, shares and record of each node
abbrev pub filled_to : ℕ → Fill → ℕ → Fill
filled_to node fill i = if nat_lt i node then Fill.Stable else (if i == node then fill else Fill.Parts)
