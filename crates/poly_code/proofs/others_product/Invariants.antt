use Rattle.std.proofs.Common.{◌≡◌, slice_index}
use Rattle.poly_code.specs.Lagrange.{others_product}
use Rattle.poly_code.proofs.others_product.Given as goal

abbrev pub invariant-loop-i : goal.invariant-loop-i
invariant-loop-i l = l.product ≡ others_product (slice_index l.points) l.skipped l.i l.x
