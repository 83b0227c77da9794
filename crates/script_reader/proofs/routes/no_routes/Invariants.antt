use Rattle.std.proofs.Common.{◌≡◌}
use Rattle.script_reader.specs.Routes.{no_routes}
use Rattle.script_reader.proofs.routes.no_routes.Given as goal

abbrev pub invariant-loop-rank : goal.invariant-loop-rank
invariant-loop-rank l = l.routes.items ≡ no_routes l.rank
