use Rattle.std.proofs.Common.{◌≡◌, ◌≤◌, false, List, ℕ, Bool, Option, Vec, length, slice_index, ap, ◌∙◌, subst, sym}
use Rattle.std.specs.declared.alloc.Global.{Global}
use Rattle.node_device.specs.File.{MayLeave}
use Rattle.node_device.specs.Limits.{max_end}
use Rattle.node_device.specs.Changes.{older_byte}
use Rattle.node_device.specs.Entry.{entry_file}
use Rattle.node_device.specs.Held.{present, bytes_left, there_left}
use Rattle.node_device.proofs.HeldChanges.{settled_empty, rests, left_absent, left_small, left_is, left_allowed}
use Rattle.node_device.proofs.entry.Entry.stop.Goals as goal

pub invariant_of-self : goal.invariant_of-self
invariant_of-self c =
    let e = c.args.self.now in
    let left : c.left_of.result.items ≡ bytes_left c.args.outcome e.fluid e.bytes.items e.kept.items e.stable_len e.changes =
    c.left_of.ensures ∙ ap (λ (v : Vec ℕ Global). bytes_left c.args.outcome e.fluid v.items c.replace-kept.result.items e.stable_len e.changes) c.replace-bytes.ensures.value
    ∙ ap (λ (v : Vec ℕ Global). bytes_left c.args.outcome e.fluid e.bytes.items v.items e.stable_len e.changes) c.replace-kept.ensures.value in
    let same = λ (k : ℕ). subst (λ (l : List ℕ). older_byte c.settle.new.self k (slice_index l k) ≡ slice_index l k) c.deref.ensures.value (c.settle.ensures.same k) in
    let absent = λ (none : c.leaves_file-self.result ≡ false). left ∙ left_absent e.there e.was_there e.fluid e.bytes.items e.kept.items e.stable_len e.greatest e.changes e.sound c.args.outcome (sym c.leaves_file-self.ensures ∙ none) in
    let small = subst (λ (l : List ℕ). length l ≤ max_end) (sym left) (left_small e.there e.was_there e.fluid e.bytes.items e.kept.items e.stable_len e.greatest e.changes e.sound c.args.outcome) in
    record {
      named = e.named;
      sound = settled_empty c.leaves_file-self.result c.left_of.result.items c.settle.new.self c.settle.ensures.written same absent c.replace-kept.new.dest.items c.len-self.result c.len-self-2.result
          (ap (λ (v : Vec ℕ Global). v.items) c.replace-kept.ensures.after ∙ c.new-2.ensures.items) (c.len-self.ensures ∙ c.left_of.result.ok.0) (c.len-self-2.ensures ∙ c.left_of.result.ok.0) small;
    }

pub returns-clause-now : goal.returns-clause-now
returns-clause-now c =
    let e = c.args.self.now in
    let left : c.left_of.result.items ≡ bytes_left c.args.outcome e.fluid e.bytes.items e.kept.items e.stable_len e.changes =
    c.left_of.ensures ∙ ap (λ (v : Vec ℕ Global). bytes_left c.args.outcome e.fluid v.items c.replace-kept.result.items e.stable_len e.changes) c.replace-bytes.ensures.value
    ∙ ap (λ (v : Vec ℕ Global). bytes_left c.args.outcome e.fluid e.bytes.items v.items e.stable_len e.changes) c.replace-kept.ensures.value in
    ap (λ (b : Bool). present b c.left_of.result.items) c.leaves_file-self.ensures ∙ ap (λ (l : List ℕ). present (there_left c.args.outcome e.there e.was_there) l) left
    ∙ left_is e.there e.was_there e.fluid e.bytes.items e.kept.items e.stable_len e.greatest e.changes e.sound c.args.outcome

pub returns-clause-at_rest : goal.returns-clause-at_rest
returns-clause-at_rest c =
    let e = c.args.self.now in
    let left : c.left_of.result.items ≡ bytes_left c.args.outcome e.fluid e.bytes.items e.kept.items e.stable_len e.changes =
    c.left_of.ensures ∙ ap (λ (v : Vec ℕ Global). bytes_left c.args.outcome e.fluid v.items c.replace-kept.result.items e.stable_len e.changes) c.replace-bytes.ensures.value
    ∙ ap (λ (v : Vec ℕ Global). bytes_left c.args.outcome e.fluid e.bytes.items v.items e.stable_len e.changes) c.replace-kept.ensures.value in
    let same = λ (k : ℕ). subst (λ (l : List ℕ). older_byte c.settle.new.self k (slice_index l k) ≡ slice_index l k) c.deref.ensures.value (c.settle.ensures.same k) in
    let absent = λ (none : c.leaves_file-self.result ≡ false). left ∙ left_absent e.there e.was_there e.fluid e.bytes.items e.kept.items e.stable_len e.greatest e.changes e.sound c.args.outcome (sym c.leaves_file-self.ensures ∙ none) in
    rests c.leaves_file-self.result c.left_of.result.items c.settle.new.self c.settle.ensures.written same absent c.replace-kept.new.dest.items c.len-self.result c.len-self-2.result
    (c.len-self.ensures ∙ c.left_of.result.ok.0) (c.len-self-2.ensures ∙ c.left_of.result.ok.0)

pub returns-clause-allowed : goal.returns-clause-allowed
returns-clause-allowed c =
    let e = c.args.self.now in
    let left : c.left_of.result.items ≡ bytes_left c.args.outcome e.fluid e.bytes.items e.kept.items e.stable_len e.changes =
    c.left_of.ensures ∙ ap (λ (v : Vec ℕ Global). bytes_left c.args.outcome e.fluid v.items c.replace-kept.result.items e.stable_len e.changes) c.replace-bytes.ensures.value
    ∙ ap (λ (v : Vec ℕ Global). bytes_left c.args.outcome e.fluid e.bytes.items v.items e.stable_len e.changes) c.replace-kept.ensures.value in
    subst (λ (o : Option (List ℕ)). MayLeave (entry_file e) o)
    (sym (ap (λ (b : Bool). present b c.left_of.result.items) c.leaves_file-self.ensures ∙ ap (λ (l : List ℕ). present (there_left c.args.outcome e.there e.was_there) l) left))
    (left_allowed e.there e.was_there e.fluid e.bytes.items e.kept.items e.stable_len e.greatest e.changes e.sound c.args.outcome)
