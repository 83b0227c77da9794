use Rattle.std.proofs.Common.{◌+◌, ℕ, List, [], map, slice_index, slice_index_or, sym, ap, ◌∙◌, arith}
use Rattle.std.proofs.lemmas.List.{get_or-map}
use Rattle.gf256.specs.Field.{add, mul}
use Rattle.lane_kernels.proofs.Weighing.{no_source, one_source, four_sources, with_four_same}
use Rattle.lane_kernels.proofs.weigh.weigh_into.Goals as goal

pub loop-j-init : goal.loop-j-init
loop-j-init c = (omega arith, λ b h. no_source c.args.weights.now (map (λ source. source.now) c.args.sources.now) b (slice_index c.args.dst.now b))

pub loop-j-preserved : goal.loop-j-preserved
loop-j-preserved c = (
  omega arith,
  λ b h.
      let weights = c.args.weights.now in
      let lent = c.args.sources.now in
      let sources = map (λ source. source.now) lent in
      let j = c.loop-j.j in
      let old = c.loop-j.dst in
      let times : (k : ℕ) → List ℕ → ℕ = λ k xs. mul (slice_index weights k) (slice_index xs b) in
      four_sources weights sources b j (slice_index c.args.dst.now b) (slice_index old b) (slice_index c.weigh_four.new.dst b) (c.loop-j.invariant.1 b (omega arith))
      (c.weigh_four.ensures b (omega arith)
      ∙ with_four_same (slice_index old b) _ (times j (slice_index_or sources j [])) _ (times (j + 1) (slice_index_or sources (j + 1) [])) _
      (times (j + 2) (slice_index_or sources (j + 2) [])) _ (times (j + 3) (slice_index_or sources (j + 3) []))
      (ap (times j) (sym (get_or-map (λ source. source.now) lent j _ [] (omega arith))))
      (ap (times (j + 1)) (sym (get_or-map (λ source. source.now) lent (j + 1) _ [] (omega arith))))
      (ap (times (j + 2)) (sym (get_or-map (λ source. source.now) lent (j + 2) _ [] (omega arith))))
      (ap (times (j + 3)) (sym (get_or-map (λ source. source.now) lent (j + 3) _ [] (omega arith))))),
)

pub loop-i-preserved : goal.loop-i-preserved
loop-i-preserved c = λ b h.
    one_source c.args.weights.now (map (λ source. source.now) c.args.sources.now) b c.loop-i.i (slice_index c.args.dst.now b) (slice_index c.loop-i.dst b) (slice_index c.add_weighed.new.dst b)
    (c.loop-i.invariant b (omega arith)) (c.add_weighed.ensures b (omega arith)
    ∙ ap (λ t. add (slice_index c.loop-i.dst b) (mul (slice_index c.args.weights.now c.loop-i.i) (slice_index t b)))
    (sym (get_or-map (λ source. source.now) c.args.sources.now c.loop-i.i _ [] c.loop-i-test.true)))
