use Rattle.std.proofs.Common.{refl, sym, ◌∙◌}
use Rattle.node_device.specs.File.{IsAtRest, IsKept, IsPartlySynced}
use Rattle.node_device.specs.EntryLists.{each_names_of, file_at_each, rest_nothing, partly_nothing, partly_synced, settled_kept, kept_itself}
use Rattle.node_device.proofs.Forgetting.{forgotten_kept, forgotten_partly, now_is_allowed}
use Rattle.node_device.proofs.mem.MemDevice.settle.Goals as goal

pub forget-requires : goal.forget-requires
forget-requires c = λ k x lt. (c.rest.ensures.each k x (rw (← c.rest.ensures.len) lt)).at_rest

pub returns-clause-alike : goal.returns-clause-alike
returns-clause-alike c =
    let es = c.args.self.now.entries.items in
    let fs = c.rest.new.self.entries.items in
    let s = c.rest.ensures in
    let at_rest = file_at_each (λ f g. IsAtRest g) rest_nothing es fs (sym s.len) (λ k x lt. ((s.each k x lt).name, (s.each k x lt).at_rest)) in
    let alike = file_at_each IsKept (kept_itself _) es fs (sym s.len) (λ k x lt. ((s.each k x lt).name, settled_kept _ _ (s.each k x lt))) in
    record {
      tells = refl;
      capacity = c.forget.ensures.capacity ∙ s.capacity;
      names = c.forget.ensures.names ∙ each_names_of es fs s.len (λ k x lt. ((s.each k x lt).name, (s.each k x lt).there));
      files = λ q. forgotten_kept _ _ _ (alike q) (at_rest q) (c.forget.ensures.files q);
    }

pub returns-clause-at_rest : goal.returns-clause-at_rest
returns-clause-at_rest c = λ q. (c.forget.ensures.files q).at_rest

pub returns-clause-partly : goal.returns-clause-partly
returns-clause-partly c =
    let es = c.args.self.now.entries.items in
    let fs = c.rest.new.self.entries.items in
    let s = c.rest.ensures in
    let partly = file_at_each IsPartlySynced partly_nothing es fs (sym s.len) (λ k x lt. ((s.each k x lt).name, partly_synced _ _ (s.each k x lt))) in
    λ q. forgotten_partly _ _ _ (partly q) (now_is_allowed fs q) (c.forget.ensures.files q)
