use Rattle.std.proofs.Common.{List, ℕ, length, ap, sym, ◌∙◌}
use Rattle.std.proofs.lemmas.List.{with_items_is}
use Rattle.node_device.proofs.HeldChanges.{put_back_is}
use Rattle.node_device.proofs.held.stable_of.Goals as goal

pub returns : goal.returns
returns c =
    with_items_is c.truncate.new.self c.put_back.new.bytes (c.put_back.auto.bytes ∙ ap (λ (l : List ℕ). length l) c.deref_mut.ensures.value ∙ sym c.truncate.new.self.ok.0)
    ∙ put_back_is c.args.fluid c.args.bytes.items c.args.kept.items c.deref_mut.result.now c.put_back.new.bytes c.args.stable_len c.args.changes.now c.if-fluid.false
    (c.deref_mut.ensures.value ∙ c.truncate.ensures.items) c.put_back.auto.bytes c.put_back.ensures
