use Rattle.std.proofs.Common.{◌≡◌, ◌*◌, ◌+◌, [], ◌∷◌, length, map, slice_index, slice_index_or, ap, ◌∙◌, arith}
use Rattle.std.proofs.lemmas.List.{map-append, get_or_read_under}
use Rattle.redundancy_set.specs.Known.{stream_byte}
use Rattle.redundancy_set.proofs.SumLemmas.{part_more, parts_all}
use Rattle.redundancy_set.proofs.parts.stream_parts.Goals as goal

pub loop-j-preserved : goal.loop-j-preserved
loop-j-preserved c =
    let s = c.args.stripes in
    let streams = c.args.streams.now.items in
    let m = slice_index c.args.places.now c.loop-j.j in
    let read : c.list.result.now ≡ slice_index_or streams m [] =
    c.list.ensures
    ∙ get_or_read_under streams m (length streams) c.index.result.now [] c.index.ensures (omega (arith, c.requires.places c.loop-j.j c.loop-j-test.true, c.requires.count)) (omega arith) in
    part_more s.len (stream_byte s.members s.parity s.len c.args.stripe streams) c.args.places.now c.loop-j.j
    (map (λ part. part.now) c.loop-j.parts.items) (map (λ part. part.now) c.push.new.self.items) c.part_at.result.now c.loop-j.invariant
    (record {
      value = λ b l.
          c.part_at.ensures.value b l
          ∙ ap (λ xs. slice_index xs (c.data_place-place.result * s.len + b)) read
          ∙ ap (λ t. slice_index (slice_index_or streams m []) (t * s.len + b)) c.data_place-place.ensures;
      small = c.part_at.ensures.small;
    })
    (ap (λ xs. map (λ part. part.now) xs) c.in_ok-push.ensures.items ∙ map-append (λ part. part.now) c.loop-j.parts.items (c.part_at.result ∷ []))

pub returns : goal.returns
returns c =
    let s = c.args.stripes in
    parts_all s.len (stream_byte s.members s.parity s.len c.args.stripe c.args.streams.now.items) c.args.places.now c.loop-j.j
    (map (λ part. part.now) c.loop-j.parts.items) c.loop-j.invariant (omega arith)
