use Rattle.std.proofs.Common.{◌≡◌, ℕ, ◌+◌, ◌-◌, ◌*◌, vec_len, [], length, map, take, add-one, slice_index_or, sym, ap, ap₂, subst, ◌∙◌, arith}
use Rattle.std.specs.Int.{div_ceil}
use Rattle.std.proofs.lemmas.List.{length-map}
use Rattle.std.proofs.lemmas.Grind.{common_steps}
use Rattle.member_shares.specs.Layout.{parity_place}
use Rattle.member_shares.specs.Shares.{IsSet, parity_count, segment_length, longest}
use Rattle.member_shares.proofs.Places.{parity_place_out, parity_place_none}
use Rattle.member_shares.proofs.Filled.{some_list}
use Rattle.redundancy_set.specs.Known.{stream_byte}
use Rattle.redundancy_set.specs.Sums.{AppendsCode, has_data}
use Rattle.redundancy_set.proofs.Segments.{shares_of, parity_step, segment_length_is, share_is}
use Rattle.redundancy_set.proofs.member.parity_share.Goals as goal
use Rattle.redundancy_set.proofs.member.parity_share.Goals.{then-has_parity+in_ok-append_parity, else-has_parity}

pub loop-stripe-init : goal.loop-stripe-init
loop-stripe-init c = λ shares right.
    let nothing : 0 ≡ 0 * c.of-stripes.result.len = omega arith in
    c.in_ok-share.ensures.items
    ∙ ap (λ t. take t (slice_index_or shares c.args.i [])) nothing
    ∙ ap (λ t. take (t * c.of-stripes.result.len) (slice_index_or shares c.args.i [])) (sym (parity_place_none c.of-stripes.result.members c.of-stripes.result.parity c.args.i))

pub loop-stripe-preserved : goal.loop-stripe-preserved
loop-stripe-preserved c = λ shares right.
    let stripes = c.of-stripes.result in
    let streams = c.args.streams.now.items in
    let count : stripes.members ≡ length streams = omega (arith, c.of-stripes.ensures.members) in
    let of = shares_of c.args.scheme stripes.members stripes.parity stripes.len streams shares count c.of-stripes.ensures.parity right in
    elim c.if-has_parity.branch [
      | then-has_parity+in_ok-append_parity w ↦
          parity_step c.args.scheme stripes.members stripes.parity stripes.len streams shares c.loop-stripe.stripe c.args.i
          c.loop-stripe.share.items c.if-has_parity.share.items of
          (subst (λ v. AppendsCode c.args.scheme stripes.members c.args.i stripes.len (has_data stripes.members stripes.parity c.loop-stripe.stripe)
          (stream_byte stripes.members stripes.parity stripes.len c.loop-stripe.stripe streams) c.loop-stripe.share.items v.items) (sym w.share-is) w.in_ok-append_parity.ensures) c.loop-stripe-test.true (omega arith) (omega (arith, stripes.data))
          (sym w.if-has_parity.ensures) (c.loop-stripe.invariant shares right)
      | else-has_parity w ↦
          let same : parity_place stripes.members stripes.parity c.args.i (c.loop-stripe.stripe + 1) ≡ parity_place stripes.members stripes.parity c.args.i c.loop-stripe.stripe =
          rw add-one (parity_place_out stripes.members stripes.parity c.args.i c.loop-stripe.stripe (sym w.if-has_parity.ensures)) in
          let old : c.if-has_parity.share.items ≡ c.loop-stripe.share.items = grind (arith, common_steps) in
          old ∙ c.loop-stripe.invariant shares right ∙ ap (λ t. take (t * stripes.len) (slice_index_or shares c.args.i [])) (sym same)
    ]

pub returns : goal.returns
returns c =
    let stripes = c.of-stripes.result in
    let streams = c.args.streams.now.items in
    let lengths = map (length {A = ℕ}) streams in
    let count : stripes.members ≡ length streams = omega (arith, c.of-stripes.ensures.members) in
    let top : c.loop-stripe.stripe ≡ stripes.members = omega arith in
    let set : IsSet c.args.scheme (length streams) = subst (IsSet c.args.scheme) (let e : vec_len c.args.streams.now ≡ length streams = omega arith in e) c.requires.set in
    let size : stripes.len ≡ div_ceil (longest lengths) (stripes.members - parity_count c.args.scheme) =
    c.of-stripes.ensures.len ∙ ap₂ (λ t m. div_ceil t (m - parity_count c.args.scheme)) c.longest_stream.ensures.longest (sym c.of-stripes.ensures.members) in
    let len : segment_length c.args.scheme lengths ≡ stripes.len =
    segment_length_is c.args.scheme lengths stripes.members stripes.len (count ∙ sym (length-map streams (length {A = ℕ}))) size in
    let some = some_list c.args.scheme stripes.len streams set c.longest_stream.ensures.bytes in
    share_is c.args.scheme stripes.members stripes.parity stripes.len c.args.i streams some.0 c.of.result count c.of-stripes.ensures.parity (omega (arith, stripes.data)) (omega arith)
    len some.1
    (c.of.ensures ∙ c.loop-stripe.invariant some.0 some.1
    ∙ ap (λ t. take (parity_place stripes.members stripes.parity c.args.i t * stripes.len) (slice_index_or some.0 c.args.i [])) top)
