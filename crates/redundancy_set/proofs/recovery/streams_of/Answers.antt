use Rattle.std.proofs.Common.{◌≡◌, ℕ, ◌-◌, ◌*◌, ◌<◌, [], length, map, slice_index, sym, ap, ap₂, ◌∙◌, arith}
use Rattle.std.specs.Int.{div_ceil}
use Rattle.std.proofs.Math.ListN.{get_or-map}
use Rattle.std.proofs.lemmas.List.{ext_get_or, length-map, get_or_read_under}
use Rattle.member_shares.specs.Shares.{parity_count, longest, segment_length}
use Rattle.redundancy_set.proofs.Segments.{segments_cover, segment_length_is}
use Rattle.redundancy_set.proofs.recovery.streams_of.Goals as goal

pub stream_for-requires-clause-covers : goal.stream_for-requires-clause-covers
stream_for-requires-clause-covers c =
    let stripes = c.of-stripes.result in
    let lengths = c.args.lengths.now.items in
    let n = stripes.members in
    let i = c.loop-i.i in
    let low : i < length lengths = omega (arith, c.of-stripes.ensures.members) in
    let size : stripes.len ≡ div_ceil (longest lengths) (n - parity_count c.args.scheme) =
    c.of-stripes.ensures.len ∙ ap₂ (λ t m. div_ceil t (m - parity_count c.args.scheme)) c.longest_of.ensures (sym c.of-stripes.ensures.members) in
    let read : c.index.result.now ≡ slice_index lengths i = get_or_read_under lengths i (length lengths) c.index.result.now 0 c.index.ensures low (omega arith) in
    let cover = segments_cover c.args.scheme lengths n i stripes.len (omega (arith, stripes.data, c.of-stripes.ensures.parity)) low size in
    let parity : (n - parity_count c.args.scheme) * stripes.len ≡ (n - stripes.parity) * stripes.len = ap (λ t. (n - t) * stripes.len) (sym c.of-stripes.ensures.parity) in
    omega (arith, read, cover, parity)

pub returns-clause-lengths : goal.returns-clause-lengths
returns-clause-lengths c =
    let streams = c.loop-i.streams.items in
    let lengths = c.args.lengths.now.items in
    let size = length-map streams (length {A = ℕ}) in
    let top : c.loop-i.i ≡ length lengths = omega (arith, c.of-stripes.ensures.members) in
    ext_get_or 0 (map (length {A = ℕ}) streams) lengths (omega (arith, size))
    (λ k h. get_or-map (length {A = ℕ}) streams k [] ∙ (c.loop-i.invariant.each k (omega (arith, size))).size)

pub returns-clause-originals : goal.returns-clause-originals
returns-clause-originals c = λ streams own same.
    let stripes = c.of-stripes.result in
    let answer = c.loop-i.streams.items in
    let lengths = c.args.lengths.now.items in
    let top : c.loop-i.i ≡ length lengths = omega (arith, c.of-stripes.ensures.members) in
    let size : stripes.len ≡ div_ceil (longest (map (length {A = ℕ}) streams)) (stripes.members - parity_count c.args.scheme) =
    c.of-stripes.ensures.len
    ∙ ap₂ (λ t m. div_ceil t (m - parity_count c.args.scheme)) (c.longest_of.ensures ∙ ap longest (sym same)) (sym c.of-stripes.ensures.members) in
    let segments : segment_length c.args.scheme (map (length {A = ℕ}) streams) ≡ stripes.len =
    segment_length_is c.args.scheme (map (length {A = ℕ}) streams) stripes.members stripes.len
    (omega (arith, c.of-stripes.ensures.members, own.count, length-map streams (length {A = ℕ}))) size in
    ext_get_or [] answer streams (omega (arith, own.count))
    (λ k h.
    (c.loop-i.invariant.each k (omega arith)).same streams own segments (sym (get_or-map (length {A = ℕ}) streams k []) ∙ ap (λ xs. slice_index xs k) same))
