use Rattle.std.proofs.Common.{Option, List, ℕ, sym, inr, refl, ◌∙◌, subst}
use Rattle.node_device.specs.File.{MayLeave}
use Rattle.node_device.specs.Entries.{file_at}
use Rattle.node_device.specs.EntryLists.{file_at_each}
use Rattle.node_device.proofs.Turns.{picked_read, picked_stable, picked_scrambled, picked_turns}
use Rattle.node_device.proofs.mem.MemDeviceDevice.crash.Goals as goal

pub forget-requires : goal.forget-requires
forget-requires c = λ k x lt. (c.leave.ensures.each k x (rw (← c.leave.ensures.len) lt)).at_rest

pub returns-clause-outcome : goal.returns-clause-outcome
returns-clause-outcome c = λ tells q.
    let es = c.args.self.now.entries.items in
    let s = c.leave.ensures in
    let left = file_at_each (λ f g. MayLeave f g.now) (inr refl) es c.leave.new.self.entries.items (sym s.len) (λ k x lt. ((s.each k x lt).name, (s.each k x lt).allowed)) q in
    subst (λ (o : Option (List ℕ)). MayLeave (file_at es q) o) (sym (c.forget.ensures.files q).now) left

pub returns-clause-at_rest : goal.returns-clause-at_rest
returns-clause-at_rest c = λ q. (c.forget.ensures.files q).at_rest

pub returns-clause-picked : goal.returns-clause-picked
returns-clause-picked c =
    let es = c.args.self.now.entries.items in
    let fs = c.leave.new.self.entries.items in
    let asc = c.args.self.now.ascending in
    let s = c.leave.ensures in
    let files = c.forget.ensures.files in
    record {
      as_read = λ is q. (files q).now ∙ picked_read c.args.pick es fs asc s.len s.each is q;
      as_stable = λ is q. (files q).now ∙ picked_stable c.args.pick es fs asc s.len s.each is q;
      as_scrambled = λ is q. (files q).now ∙ picked_scrambled c.args.pick es fs asc s.len s.each is q;
      by_turns = λ is. let turns = picked_turns c.args.pick es fs asc s.len s.each is in (turns.0, (turns.1.0, λ q. (files q).now ∙ turns.1.1 q));
    }
