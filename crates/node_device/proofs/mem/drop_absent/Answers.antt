use Rattle.std.proofs.Common.{◌≡◌, ℕ, ◌<◌, true, length, get_or, sym, subst, List, rules}
use Rattle.std.specs.Prelude.{slice_range}
use Rattle.std.proofs.lemmas.Fn.{filter_same}
use Rattle.node_device.specs.declared.entry.Entry.{Entry}
use Rattle.node_device.proofs.Forgetting.{kept_all}
use Rattle.node_device.proofs.Windows.{there_within}
use Rattle.node_device.proofs.mem.drop_absent.Goals as goal

pub returns-then-not-are_there : goal.returns-then-not-are_there
returns-then-not-are_there c = filter_same _ (λ e. e.there) _ (λ x r f k. search rules) _ _ c.retain.ensures.filtered

pub returns-else-not-are_there : goal.returns-else-not-are_there
returns-else-not-are_there c =
    let es = c.args.entries.now.items in
    let there : (k : ℕ) (d : Entry) → k < length (slice_range es c.args.start c.args.end) → (get_or (slice_range es c.args.start c.args.end) k d).there ≡ true =
    subst (λ (l : List Entry). (k : ℕ) (d : Entry) → k < length (slice_range l c.args.start c.args.end) → (get_or (slice_range l c.args.start c.args.end) k d).there ≡ true) c.deref.ensures.value (c.are_there.ensures c.if-not-are_there.false) in
    sym (kept_all es (there_within es c.args.start c.args.end c.requires there))
