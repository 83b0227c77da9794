-- Numbers of nodes, ranks and datasets.
use Rattle.std.proofs.Common.{◌*◌, ◌<◌, ◌≤◌, arith}
use Rattle.std.specs.Prelude.{IsTrue}
use Rattle.std.proofs.lemmas.Bool.Decides.{nat_tests}
use Rattle.scr_base.specs.declared.shape.DataId.{DataId}
use Rattle.scr_base.specs.declared.shape.Shape.{Shape}
use Rattle.scr_base.specs.declared.shape.Config.{Config}
use Rattle.dataset_desc.specs.Ranges.{is_desc}

-- a dataset's description is within its ranges
pub desc_ranges : (shape : Shape) (config : Config) (which : DataId) → 1 ≤ which.id → which.id ≤ 4294967295 → 1 ≤ which.run → which.run ≤ 4294967295 → IsTrue (is_desc which shape.nodes shape.ranks config.scheme config.size)
desc_ranges shape config which a b c d = grind (arith, nat_tests, shape.limits, config.ranges, a, b, c, d)

pub few_ranks : (shape : Shape) → shape.nodes * shape.ranks ≤ 64
few_ranks shape = grind (arith, nat_tests, shape.limits)

pub few_nodes : (shape : Shape) → shape.nodes ≤ 16
few_nodes shape = grind (arith, nat_tests, shape.limits)

pub some_ranks : (shape : Shape) → 0 < shape.ranks
some_ranks shape = grind (arith, nat_tests, shape.limits)
