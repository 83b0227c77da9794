use Rattle.std.proofs.Common.{◌≡◌, ◌+◌, ◌*◌, ◌++◌, ◌∷◌, [], true, false, ℕ, List, length, All, slice_index_or, sym, ap, subst, ◌∙◌, arith}
use Rattle.std.proofs.lemmas.Grind.{common_steps}
use Rattle.std.proofs.lemmas.List.{length_push}
use Rattle.node_device.specs.DeviceState.{DeviceState}
use Rattle.member_shares.specs.Layout.{holds_parity}
use Rattle.commit_core.specs.Deposits.{AreSegmentParts}
use Rattle.commit_core.specs.PieceSets.{group_streams}
use Rattle.commit_core.specs.Reads.{FilesRead}
use Rattle.commit_core.specs.Stretch.{IsStretch}
use Rattle.commit_core.proofs.Segments.{HasInputs, count_in, count_out, all_counted, inputs_in, inputs_out, sizes_in, segment_parts}
use Rattle.commit_core.proofs.set.CommitSet.segments.Goals as goal

pub loop-member-preserved-then-has_parity : goal.loop-member-preserved-then-has_parity
loop-member-preserved-then-has_parity g c =
    let was = c.loop-member.invariant in
    let n = c.args.stripes.members in
    let p = c.args.stripes.parity in
    let s = c.args.piece.stripe in
    let m = c.loop-member.member in
    let held : holds_parity n p s m ≡ true = sym c.has_parity.ensures ∙ c.if-has_parity.true in
    record {
      states = was.states;
      count = was.count ∙ sym (count_out n p s m held);
      sizes = was.sizes;
      inputs = λ shape d reads. inputs_out n p c.args.len s c.args.piece.at c.args.piece.len m (group_streams d c.args.piece.group c.args.piece.local) c.loop-member.inputs.items held (was.inputs shape d reads);
    }

pub loop-member-preserved : goal.loop-member-preserved
loop-member-preserved g c =
    let was = c.loop-member.invariant in
    let n = c.args.stripes.members in
    let p = c.args.stripes.parity in
    let s = c.args.piece.stripe in
    let m = c.loop-member.member in
    let old = c.loop-member.inputs.items in
    let bytes = c.in_ok-bytes.bytes in
    let free : holds_parity n p s m ≡ false = sym c.has_parity.ensures ∙ c.if-has_parity.false in
    let more : c.push.new.self.items ≡ old ++ bytes ∷ [] = grind (arith, common_steps) in
    record {
      states = c.in_ok-bytes.ensures.only ∙ was.states;
      count = ap (length {A = List ℕ}) more ∙ length_push old bytes ∙ ap (λ (k : ℕ). k + 1) was.count ∙ sym (count_in n p s m free);
      sizes = subst (λ (xs : List (List ℕ)). All (λ input. length input ≡ c.args.piece.len) xs) (sym more) (sizes_in c.args.piece.len old bytes was.sizes c.in_ok-bytes.ensures.size);
      inputs = λ shape d reads. subst (λ (xs : List (List ℕ)). HasInputs n p c.args.len s c.args.piece.at c.args.piece.len (m + 1) (group_streams d c.args.piece.group c.args.piece.local) xs) (sym more)
          (inputs_in n p c.args.len s c.args.piece.at c.args.piece.len m (group_streams d c.args.piece.group c.args.piece.local) old bytes free was.count
          (subst (λ (k : ℕ). IsStretch (slice_index_or (group_streams d c.args.piece.group c.args.piece.local) m []) (k * c.args.len + c.args.piece.at) c.args.piece.len bytes) c.data_place-place.ensures
          (c.in_ok-bytes.ensures.bytes shape d (subst (λ (t : ℕ → DeviceState). FilesRead c.args.self.now shape d t) (sym was.states) reads)))
          (was.inputs shape d reads));
    }

pub returns-clause-count : goal.returns-clause-count
returns-clause-count g c =
    let was = c.loop-member.invariant in
    let n = c.args.stripes.members in
    let end : c.loop-member.member ≡ n = omega (arith, c.loop-member-test.false, c.loop-member.auto.member-end) in
    let all = all_counted n c.args.stripes.parity c.args.piece.stripe c.requires.stripe (omega (arith, c.requires.parity)) in
    ap (λ (xs : List (List ℕ)). length xs + c.args.stripes.parity) c.of.ensures ∙ ap (λ (k : ℕ). k + c.args.stripes.parity) (was.count ∙ ap (λ (k : ℕ). Rattle.commit_core.specs.Deposits.input_place n c.args.stripes.parity c.args.piece.stripe k) end) ∙ all

pub returns-clause-inputs : goal.returns-clause-inputs
returns-clause-inputs g c =
    let was = c.loop-member.invariant in
    let n = c.args.stripes.members in
    let p = c.args.stripes.parity in
    let s = c.args.piece.stripe in
    let old = c.loop-member.inputs.items in
    let end : c.loop-member.member ≡ n = omega (arith, c.loop-member-test.false, c.loop-member.auto.member-end) in
    λ shape d reads.
    let streams = group_streams d c.args.piece.group c.args.piece.local in
    subst (λ (xs : List (List ℕ)). AreSegmentParts n p c.args.len s c.args.piece.at streams xs) (sym c.of.ensures)
    (segment_parts n p c.args.len s c.args.piece.at c.args.piece.len streams old c.requires.stripe c.requires.parity
    (was.count ∙ ap (λ (k : ℕ). Rattle.commit_core.specs.Deposits.input_place n p s k) end) was.sizes c.requires.within
    (subst (λ (k : ℕ). HasInputs n p c.args.len s c.args.piece.at c.args.piece.len k streams old) end (was.inputs shape d reads)))
