use Rattle.std.proofs.Common.{[], ◌∷◌, map, ap, ◌∙◌, arith}
use Rattle.std.proofs.lemmas.List.{map-append}
use Rattle.redundancy_set.specs.Known.{held_byte}
use Rattle.redundancy_set.proofs.SumLemmas.{part_more, parts_all}
use Rattle.redundancy_set.proofs.parts.held_parts.Goals as goal

pub loop-j-preserved : goal.loop-j-preserved
loop-j-preserved c =
    let s = c.args.stripes in
    part_more s.len (held_byte s.members s.parity s.len c.args.stripe c.args.members.now.items) c.args.places.now c.loop-j.j
    (map (λ part. part.now) c.loop-j.parts.items) (map (λ part. part.now) c.push.new.self.items) c.held_part.result.now c.loop-j.invariant c.held_part.ensures
    (ap (λ xs. map (λ part. part.now) xs) c.in_ok-push.ensures.items ∙ map-append (λ part. part.now) c.loop-j.parts.items (c.held_part.result ∷ []))

pub returns : goal.returns
returns c =
    let s = c.args.stripes in
    parts_all s.len (held_byte s.members s.parity s.len c.args.stripe c.args.members.now.items) c.args.places.now c.loop-j.j
    (map (λ part. part.now) c.loop-j.parts.items) c.loop-j.invariant (omega arith)
