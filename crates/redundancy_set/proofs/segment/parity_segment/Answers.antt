use Rattle.std.proofs.Common.{◌≡◌, ◌-◌, length, map, sym, ap, subst, ◌∙◌, arith}
use Rattle.std.proofs.lemmas.List.{length-map}
use Rattle.member_shares.proofs.Places.{holds_some}
use Rattle.redundancy_set.specs.Sums.{ArePlaces, AreFactors, AreParts, AppendsCode, IsCodeSegment, has_data, data_byte}
use Rattle.redundancy_set.proofs.SumLemmas.{data_here, data_places_have, data_count, sum_completes, code_segment}
use Rattle.redundancy_set.proofs.segment.parity_segment.Goals as goal

pub factors_of-requires-clause-coded : goal.factors_of-requires-clause-coded
factors_of-requires-clause-coded c =
    let s = c.args.stripes in
    omega (arith, holds_some s.members s.parity c.args.stripe c.args.target c.requires.stripe c.requires.within (omega (arith, s.data)) c.requires.held, c.requires.parity)

pub factors_of-requires-clause-places : goal.factors_of-requires-clause-places
factors_of-requires-clause-places c =
    let s = c.args.stripes in
    subst (λ t. ArePlaces s.members (s.members - t) c.args.target c.as_slice-places.result.now) c.requires.parity
    (data_here s.members s.parity c.args.stripe c.args.target c.in_ok-holders.holders.items c.as_slice-places.result.now c.requires.stripe (omega (arith, s.data)) c.requires.held
    c.in_ok-holders.ensures c.as_slice-places.ensures.value)

pub data_parts-requires-clause-count : goal.data_parts-requires-clause-count
data_parts-requires-clause-count c =
    let s = c.args.stripes in
    data_count s.members s.parity c.args.stripe (length c.args.segments.now) c.as_slice-places.result.now c.requires.stripe (omega (arith, s.data))
    (c.as_slice-places.ensures.value ∙ c.in_ok-holders.ensures) c.requires.count

pub data_parts-requires-clause-places : goal.data_parts-requires-clause-places
data_parts-requires-clause-places c = c.as_slice-places.ensures.value ∙ c.in_ok-holders.ensures

pub append_sum-requires : goal.append_sum-requires
append_sum-requires c =
    ap length c.list.ensures ∙ c.in_ok-factors.ensures.size ∙ sym c.in_ok-parts.ensures.size ∙ length-map c.in_ok-parts.parts.items (λ part. part.now) ∙ sym (ap length c.as_slice.ensures.value)

pub returns : goal.returns
returns c =
    let s = c.args.stripes in
    let there = has_data s.members s.parity c.args.stripe in
    let byte = data_byte s.members s.parity c.args.stripe c.args.segments.now in
    let places = c.as_slice-places.result.now in
    let parts = map (λ part. part.now) c.as_slice.result.now in
    let own : places ≡ c.in_ok-holders.holders.items = c.as_slice-places.ensures.value in
    let here = data_here s.members s.parity c.args.stripe c.args.target c.in_ok-holders.holders.items places c.requires.stripe (omega (arith, s.data)) c.requires.held c.in_ok-holders.ensures own in
    let f : AreFactors c.args.scheme s.members places c.args.target c.list.result.now =
    subst (AreFactors c.args.scheme s.members places c.args.target) (sym c.list.ensures) c.in_ok-factors.ensures in
    let p : AreParts s.len byte places parts = subst (λ xs. AreParts s.len byte places (map (λ part. part.now) xs)) (sym c.as_slice.ensures.value) c.in_ok-parts.ensures in
    let new = c.append_sum.new.out.items in
    let code : AppendsCode c.args.scheme s.members c.args.target s.len there byte c.in_ok-segment.segment.items new =
    sum_completes c.args.scheme s.members c.args.target s.len s.len there byte places c.list.result.now parts c.in_ok-segment.segment.items new f p (omega arith) here.below
    (data_places_have s.members s.parity c.args.stripe places c.requires.stripe (omega (arith, s.data)) (own ∙ c.in_ok-holders.ensures)) c.in_ok-append_sum.ensures in
    subst (IsCodeSegment c.args.scheme s.members c.args.target s.len there byte) (sym c.of.ensures)
    (code_segment c.args.scheme s.members c.args.target s.len there byte c.in_ok-segment.segment.items new c.in_ok-segment.ensures.items code)
