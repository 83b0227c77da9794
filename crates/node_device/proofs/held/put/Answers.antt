use Rattle.std.proofs.Common.{List, ℕ, length, slice_index, ap, sym, ◌∙◌}
use Rattle.std.proofs.lemmas.List.{with_items_is}
use Rattle.node_device.proofs.HeldChanges.{put_is}
use Rattle.node_device.proofs.held.put.Goals as goal

pub returns-clause-ok : goal.returns-clause-ok
returns-clause-ok c =
    let lent = c.deref_mut.ensures.value in
    with_items_is c.grow.new.bytes c.overwrite.new.bytes (c.overwrite.auto.bytes ∙ ap (λ (l : List ℕ). length l) lent ∙ sym c.grow.new.bytes.ok.0)
    ∙ put_is c.args.bytes.now.items c.deref_mut.result.now c.overwrite.new.bytes c.args.new.now c.args.at (ap (λ (l : List ℕ). length l) lent ∙ c.in_ok-grow.ensures.len)
    (λ k. ap (λ (l : List ℕ). slice_index l k) lent ∙ c.in_ok-grow.ensures.same k) c.overwrite.auto.bytes c.overwrite.ensures.inside c.overwrite.ensures.outside
