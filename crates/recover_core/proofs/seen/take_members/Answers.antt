use Rattle.std.proofs.Common.{rules, List, sym, subst, ◌∙◌}
use Rattle.std.proofs.lemmas.Iterator.Adapters.{YieldsList-from_vec}
use Rattle.std.proofs.lemmas.Iterator.Consumers.{YieldsList-end}
use Rattle.member_store.specs.declared.member.Member.{Member}
use Rattle.recover_core.specs.Seen.{TakesMembers}
use Rattle.recover_core.proofs.Taking.{next_taken, map_same}
use Rattle.recover_core.proofs.seen.take_members.Goals as goal

pub loop-member-preserved : goal.loop-member-preserved
loop-member-preserved c = λ all of_nodes seen. next_taken c.args.nodes all c.loop-member.yielded c.in-Some.member c.loop-member.sets.items c.take_member.new.sets.items c.in_ok-take_member.ensures of_nodes (λ before. c.loop-member.invariant all before seen)

pub returns : goal.returns
returns c =
    let end = YieldsList-end (YieldsList-from_vec {s = c.into_iter-member-iterator.result} c.args.members.items (search rules) (search rules)) c.loop-member.yielded c.loop-member.member-iterator c.loop-member.yielded_by c.next.result c.next.new.self c.in-None.is c.next.ensures.steps in
    subst (λ (l : List Member). TakesMembers c.args.nodes l c.args.sets.now.items c.loop-member.sets.items) (sym (map_same c.loop-member.yielded) ∙ end.0) c.loop-member.invariant
