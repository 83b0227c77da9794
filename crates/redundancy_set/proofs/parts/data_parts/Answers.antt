use Rattle.std.proofs.Common.{◌≡◌, ◌*◌, ◌+◌, [], ◌∷◌, length, map, slice_index, slice_index_or, ap, ◌∙◌, arith}
use Rattle.std.proofs.lemmas.List.{map-append, get_or_read_under}
use Rattle.redundancy_set.specs.Sums.{data_byte}
use Rattle.redundancy_set.proofs.SumLemmas.{part_more, parts_all, ranked_here}
use Rattle.redundancy_set.proofs.parts.data_parts.Goals as goal

pub loop-j-preserved : goal.loop-j-preserved
loop-j-preserved c =
    let s = c.args.stripes in
    let segments = c.args.segments.now in
    let j = c.loop-j.j in
    let read : c.list.result.now ≡ slice_index_or segments j [] =
    c.list.ensures ∙ get_or_read_under segments j (length segments) c.index-segments-j.result [] c.index-segments-j.is (omega (arith, c.requires.count)) (omega arith) in
    part_more s.len (data_byte s.members s.parity c.args.stripe segments) c.args.places.now j (map (λ part. part.now) c.loop-j.parts.items) (map (λ part. part.now) c.push.new.self.items)
    c.part_at.result.now c.loop-j.invariant
    (record {
      value = λ b l.
          let first : 0 * s.len + b ≡ b = omega arith in
          c.part_at.ensures.value b l
          ∙ ap (λ xs. slice_index xs (0 * s.len + b)) read
          ∙ ap (slice_index (slice_index_or segments j [])) first
          ∙ ranked_here s.members s.parity c.args.stripe j segments c.args.places.now b c.requires.places c.loop-j-test.true;
      small = c.part_at.ensures.small;
    })
    (ap (λ xs. map (λ part. part.now) xs) c.in_ok-push.ensures.items ∙ map-append (λ part. part.now) c.loop-j.parts.items (c.part_at.result ∷ []))

pub returns : goal.returns
returns c =
    let s = c.args.stripes in
    parts_all s.len (data_byte s.members s.parity c.args.stripe c.args.segments.now) c.args.places.now c.loop-j.j (map (λ part. part.now) c.loop-j.parts.items) c.loop-j.invariant (omega arith)
