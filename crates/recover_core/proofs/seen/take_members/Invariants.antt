use Rattle.std.proofs.Common.{◌++◌, List}
use Rattle.member_store.specs.declared.member.Member.{Member}
use Rattle.recover_core.specs.Seen.{AreOfNodes, AreSeen}
use Rattle.recover_core.proofs.seen.take_members.Given as goal

-- what the members before tell was taken up
abbrev pub invariant-loop-member : goal.invariant-loop-member
invariant-loop-member l = (all : List Member) → AreOfNodes l.nodes l.yielded → AreSeen l.nodes all l.fn.sets.items → AreSeen l.nodes (all ++ l.yielded) l.sets.items
