use Rattle.std.proofs.Common.{◌≡◌, ℕ, ◌-◌, ◌*◌, ◌<◌, ◌≤◌, true, false, [], length, map, take, min, slice_index, slice_index_or, sym, ap, subst, ◌∙◌, arith, inl, inr, ◌⊎◌}
use Rattle.std.proofs.lemmas.Grind.{common_steps}
use Rattle.std.proofs.lemmas.List.{take_all, length-map}
use Rattle.member_shares.specs.Layout.{holds_parity, data_place}
use Rattle.member_shares.proofs.Places.{data_place_none, data_all}
use Rattle.redundancy_set.specs.Known.{held_byte, is_lost}
use Rattle.redundancy_set.specs.Sums.{ArePlaces, AreFactors, AreParts, AppendsSum, AppendsCode, is_there}
use Rattle.redundancy_set.proofs.SumLemmas.{held_here, there_here, sum_completes, free_of}
use Rattle.redundancy_set.proofs.Segments.{data_step, data_length, data_same, are_held, one_there, coded, some_parity}
use Rattle.redundancy_set.proofs.recovery.rebuilt.Goals as goal
use Rattle.redundancy_set.proofs.recovery.rebuilt.Goals.{then-len+then-not-has_parity+in_ok-parts+in_ok-append_sum, else-len, else-len-via-then-len+else-not-has_parity, else-len-via-else-len}

pub factors_of-requires-clause-coded : goal.factors_of-requires-clause-coded
factors_of-requires-clause-coded c =
    let some = some_parity c.args.members.now.items c.args.stripes.members c.args.stripes.parity c.args.i c.requires.enough.count c.requires.within c.requires.lost c.requires.few in
    omega (arith, some, c.requires.enough.parity)

pub factors_of-requires-clause-places : goal.factors_of-requires-clause-places
factors_of-requires-clause-places c =
    subst (λ t. ArePlaces c.args.stripes.members (c.args.stripes.members - t) c.args.i c.as_slice-places.result.now) c.requires.enough.parity
    (held_here c.args.members.now.items c.args.stripes.members c.args.stripes.parity c.args.i c.in_ok-held.held.items c.as_slice-places.result.now c.requires.enough.count c.requires.few c.requires.lost
    c.in_ok-held.ensures c.as_slice-places.ensures.value)

pub loop-stripe-init : goal.loop-stripe-init
loop-stripe-init c =
    let stripes = c.args.stripes in
    let place : data_place stripes.members stripes.parity c.args.i 0 * stripes.len ≡ 0 =
    ap (λ t. t * stripes.len) (data_place_none stripes.members stripes.parity c.args.i) ∙ omega arith in
    record {
      size = let none : length c.in_ok-stream.stream.items ≡ 0 = ap (length {A = ℕ}) c.in_ok-stream.ensures.items in omega (arith, none, place);
      same = λ streams shares held len. c.in_ok-stream.ensures.items ∙ ap (λ t. take t (slice_index_or streams c.args.i [])) (sym place);
    }

pub held_parts-requires-clause-places : goal.held_parts-requires-clause-places
held_parts-requires-clause-places c =
    (held_here c.args.members.now.items c.args.stripes.members c.args.stripes.parity c.args.i c.in_ok-held.held.items c.as_slice-places.result.now c.requires.enough.count c.requires.few c.requires.lost
    c.in_ok-held.ensures c.as_slice-places.ensures.value).below

pub held_parts-requires-clause-there : goal.held_parts-requires-clause-there
held_parts-requires-clause-there c = λ j h.
    free_of (is_lost c.args.members.now.items (slice_index c.as_slice-places.result.now j))
    (there_here c.args.members.now.items c.args.stripes.members c.args.stripes.parity c.in_ok-held.held.items c.as_slice-places.result.now c.in_ok-held.ensures c.as_slice-places.ensures.value j h)

pub append_sum-requires : goal.append_sum-requires
append_sum-requires c =
    ap length c.list-weights.ensures ∙ c.in_ok-factors.ensures.size ∙ sym c.in_ok-parts.ensures.size ∙ length-map c.in_ok-parts.parts.items (λ part. part.now) ∙ sym (ap length c.as_slice.ensures.value)

pub loop-stripe-preserved : goal.loop-stripe-preserved
loop-stripe-preserved c =
    let stripes = c.args.stripes in
    let n = stripes.members in
    let p = stripes.parity in
    let s = c.loop-stripe.stripe in
    let members = c.args.members.now.items in
    let old = c.loop-stripe.stream.items in
    let new = c.if-len.stream.items in
    let places = c.as_slice-places.result.now in
    let weights = c.list-weights.result.now in
    let byte = held_byte n p stripes.len s members in
    elim c.if-len.branch [
      | then-len+then-not-has_parity+in_ok-parts+in_ok-append_sum w ↦
          let free : holds_parity n p s c.args.i ≡ false = sym w.if-not-has_parity.ensures in
          let taken : w.min-taken.result ≡ min stripes.len (c.args.len - length old) = omega arith in
          let parts = map (λ part. part.now) w.as_slice.result.now in
          let here = held_here c.args.members.now.items c.args.stripes.members c.args.stripes.parity c.args.i c.in_ok-held.held.items c.as_slice-places.result.now c.requires.enough.count c.requires.few c.requires.lost
          c.in_ok-held.ensures c.as_slice-places.ensures.value in
          let f : AreFactors c.args.scheme n places c.args.i weights = subst (AreFactors c.args.scheme n places c.args.i) (sym c.list-weights.ensures) c.in_ok-factors.ensures in
          let q : AreParts stripes.len byte places parts = subst (λ xs. AreParts stripes.len byte places (map (λ part. part.now) xs)) (sym w.as_slice.ensures.value) w.in_ok-parts.ensures in
          let sum : AppendsSum w.min-taken.result weights parts old new =
          subst (λ v. AppendsSum w.min-taken.result weights parts old v.items) (sym w.stream-is) w.in_ok-append_sum.ensures in
          let code : AppendsCode c.args.scheme n c.args.i w.min-taken.result (is_there members) byte old new =
          sum_completes c.args.scheme n c.args.i stripes.len w.min-taken.result (is_there members) byte places weights parts old new f q (omega arith) here.below
          (there_here members n p c.in_ok-held.held.items places c.in_ok-held.ensures c.as_slice-places.ensures.value) sum in
          record {
            size = data_length n p stripes.len s c.args.i c.args.len w.min-taken.result old new free taken c.loop-stripe.invariant.size code.size;
            same = λ streams shares held len.
                data_step c.args.scheme n p stripes.len streams shares members s c.args.i c.args.len w.min-taken.result old new
                held code c.loop-stripe-test.true c.requires.within free len taken c.loop-stripe.invariant.size (c.loop-stripe.invariant.same streams shares held len);
          }
      | else-len w ↦
          let why : (holds_parity n p s c.args.i ≡ true) ⊎ (c.args.len ≤ length old) =
          elim w.else-len.branch [
            | else-len-via-then-len+else-not-has_parity v ↦ inl (sym v.if-not-has_parity.ensures)
            | else-len-via-else-len v ↦ inr (omega arith)
          ] in
          let kept : new ≡ old = grind (arith, common_steps) in
          let still = data_same n p stripes.len s c.args.i c.args.len old why c.loop-stripe.invariant.size in
          record {
            size = ap (length {A = ℕ}) kept ∙ still.0;
            same = λ streams shares held len. kept ∙ still.1 (slice_index_or streams c.args.i []) len (c.loop-stripe.invariant.same streams shares held len);
          }
    ]

pub returns : goal.returns
returns c =
    let stripes = c.args.stripes in
    let n = stripes.members in
    let p = stripes.parity in
    let members = c.args.members.now.items in
    let top : c.loop-stripe.stripe ≡ n = omega arith in
    let few : p < n = omega (arith, stripes.data) in
    let all : data_place n p c.args.i c.loop-stripe.stripe * stripes.len ≡ (n - p) * stripes.len =
    ap (λ t. data_place n p c.args.i t * stripes.len) top ∙ ap (λ t. t * stripes.len) (data_all n p c.args.i c.requires.within (omega arith)) in
    let some : 1 ≤ p = some_parity members n p c.args.i c.requires.enough.count c.requires.within c.requires.lost c.requires.few in
    let codes = coded c.args.scheme p c.requires.enough.parity some in
    let there = one_there members n p c.requires.enough.count c.requires.few few in
    record {
      size = ap (length {A = ℕ}) c.of.ensures ∙ omega (arith, c.loop-stripe.invariant.size, all, c.requires.covers);
      same = λ streams own segments len.
          let held = are_held c.args.scheme n p stripes.len streams members there.0 c.requires.enough.count c.requires.enough.parity c.requires.enough.set codes.0 codes.1 segments own there.1 there.2 in
          c.of.ensures ∙ c.loop-stripe.invariant.same streams held.0 held.1 len
          ∙ ap (λ t. take t (slice_index_or streams c.args.i [])) all
          ∙ take_all ((n - p) * stripes.len) (slice_index_or streams c.args.i []) (omega (arith, len, c.requires.covers));
    }
