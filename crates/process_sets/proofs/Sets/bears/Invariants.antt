use Rattle.std.proofs.Common.{◌≡◌, ℕ, ◌<◌, true, length}
use Rattle.scr_base.specs.Sets.{bears_members, lost_members}
use Rattle.process_sets.specs.Group.{members_of}
use Rattle.process_sets.proofs.Sets.bears.Given as goal

abbrev pub invariant-loop-group : goal.invariant-loop-group
invariant-loop-group l = (i : ℕ) → i < l.group
    → bears_members l.self.scheme (length (members_of l.self.nodes l.groups i)) (lost_members (members_of l.self.nodes l.groups i) l.lost.items) ≡ true
