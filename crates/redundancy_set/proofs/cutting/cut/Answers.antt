use Rattle.std.proofs.Common.{◌≡◌, ◌*◌, ◌+◌, ◌-◌, ◌++◌, take, drop, replicate, length, vec_len, ap, arith, ◌∙◌}
use Rattle.redundancy_set.proofs.CutLemmas.{padded}
use Rattle.redundancy_set.proofs.cutting.cut.Goals as goal

pub returns : goal.returns
returns c =
    let bytes = c.args.bytes.now in
    let from = c.min-from.result in
    let taken = c.min-taken.result in
    let span : from + taken - from ≡ taken = omega arith in
    let front : c.extend_from_slice.new.self.items ≡ take taken (drop from bytes) =
    c.in_ok-extend_from_slice.ensures.items ∙ ap (λ xs. xs ++ take (from + taken - from) (drop from bytes)) c.in_ok-segment.ensures.items ∙ ap (λ t. take t (drop from bytes)) span in
    let whole =
    c.of.ensures ∙ c.in_ok-resize.ensures.items ∙ ap (λ xs. take c.args.len xs ++ replicate (c.args.len - vec_len c.extend_from_slice.new.self) 0) front in
    record {
      size = omega (arith, ap length c.of.ensures, c.in_ok-resize.ensures.len);
      bytes = λ b h.
          padded bytes c.of.result c.args.len (c.args.place * c.args.len) from taken (c.args.len - vec_len c.extend_from_slice.new.self) b whole
          (omega arith) (omega arith) h;
    }
