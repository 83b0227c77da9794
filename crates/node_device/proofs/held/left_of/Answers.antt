use Rattle.std.proofs.Common.{List, ℕ, cond, length, ap, sym, ◌∙◌}
use Rattle.std.proofs.lemmas.List.{with_items_is}
use Rattle.node_device.specs.Changes.{is_written}
use Rattle.node_device.specs.Held.{scrambled, bytes_left}
use Rattle.node_device.specs.HeldFiles.{mapped_is}
use Rattle.node_device.proofs.held.left_of.Goals as goal

pub returns-in-Scrambled : goal.returns-in-Scrambled
returns-in-Scrambled c =
    with_items_is c.args.bytes c.scramble.new.bytes (c.scramble.auto.bytes ∙ ap (λ (l : List ℕ). length l) c.deref_mut.ensures.value ∙ sym c.args.bytes.ok.0)
    ∙ mapped_is (λ k byte. cond (is_written c.args.changes.now k) 0xA5 byte) c.deref_mut.result.now c.scramble.new.bytes c.scramble.auto.bytes c.scramble.ensures
    ∙ ap (λ (l : List ℕ). scrambled (is_written c.args.changes.now) l) c.deref_mut.ensures.value
    ∙ sym (ap (λ o. bytes_left o c.args.fluid c.args.bytes.items c.args.kept.items c.args.stable_len c.args.changes.now) c.in-Scrambled.is)
