use Rattle.std.proofs.Common.{◌≡◌, ℕ, ◌-◌, ◌*◌, ◌<◌, List, [], length, map, slice_index, slice_index_or, sym, ap, ap₂, ◌∙◌, arith}
use Rattle.std.specs.Int.{div_ceil}
use Rattle.std.proofs.Math.ListN.{get_or-map}
use Rattle.std.proofs.lemmas.List.{length-map, get_or_read_under}
use Rattle.std.proofs.lemmas.Result.{IfOk-weaker}
use Rattle.member_shares.specs.Shares.{parity_count, longest, segment_length, AreMembers}
use Rattle.redundancy_set.specs.Recovered.{IsGivenBack}
use Rattle.redundancy_set.proofs.Segments.{segments_cover, segment_length_is}
use Rattle.redundancy_set.proofs.recovery.own_stream.Goals as goal

pub stream_for-requires-clause-covers : goal.stream_for-requires-clause-covers
stream_for-requires-clause-covers c =
    let stripes = c.of-stripes.result in
    let lengths = c.args.lengths.now.items in
    let n = stripes.members in
    let i = c.args.i in
    let low : i < length lengths = omega (arith, c.of-stripes.ensures.members) in
    let size : stripes.len ≡ div_ceil (longest lengths) (n - parity_count c.args.scheme) =
    c.of-stripes.ensures.len ∙ ap₂ (λ t m. div_ceil t (m - parity_count c.args.scheme)) c.longest_of.ensures (sym c.of-stripes.ensures.members) in
    let read : c.index.result.now ≡ slice_index lengths i = get_or_read_under lengths i (length lengths) c.index.result.now 0 c.index.ensures low (omega arith) in
    let cover = segments_cover c.args.scheme lengths n i stripes.len (omega (arith, stripes.data, c.of-stripes.ensures.parity)) low size in
    let parity : (n - parity_count c.args.scheme) * stripes.len ≡ (n - stripes.parity) * stripes.len = ap (λ t. (n - t) * stripes.len) (sym c.of-stripes.ensures.parity) in
    omega (arith, read, cover, parity)

pub returns-clause-original : goal.returns-clause-original
returns-clause-original c =
    let stripes = c.of-stripes.result in
    let lengths = c.args.lengths.now.items in
    let members = c.args.members.now.items in
    let i = c.args.i in
    let low : i < length lengths = omega (arith, c.of-stripes.ensures.members) in
    let read : c.index.result.now ≡ slice_index lengths i = get_or_read_under lengths i (length lengths) c.index.result.now 0 c.index.ensures low (omega arith) in
    IfOk-weaker c.stream_for.result (IsGivenBack c.args.scheme members stripes.len i c.index.result.now)
    (λ answer. (streams : List (List ℕ)) → AreMembers c.args.scheme streams members → map length streams ≡ lengths → answer ≡ slice_index_or streams i [])
    (λ answer h. λ streams own same.
    let size : stripes.len ≡ div_ceil (longest (map (length {A = ℕ}) streams)) (stripes.members - parity_count c.args.scheme) =
    c.of-stripes.ensures.len
    ∙ ap₂ (λ t m. div_ceil t (m - parity_count c.args.scheme)) (c.longest_of.ensures ∙ ap longest (sym same)) (sym c.of-stripes.ensures.members) in
    let segments : segment_length c.args.scheme (map (length {A = ℕ}) streams) ≡ stripes.len =
    segment_length_is c.args.scheme (map (length {A = ℕ}) streams) stripes.members stripes.len
    (omega (arith, c.of-stripes.ensures.members, own.count, length-map streams (length {A = ℕ}))) size in
    h.same streams own segments (sym (get_or-map (length {A = ℕ}) streams i []) ∙ ap (λ xs. slice_index xs i) same ∙ sym read)) c.stream_for.ensures
