use Rattle.std.proofs.Common.{◌≡◌, ◌≤◌, ◌++◌, take, drop, length}
use Rattle.script_reader.specs.Routes.{after_start, after_route}
use Rattle.script_reader.proofs.routes.forget_routes.Given as goal

-- the ranks so far are changed, and with those behind them give what all give
abbrev pub invariant-loop-rank : goal.invariant-loop-rank
invariant-loop-rank l = record {
  so_far : take l.rank l.routes.items ++ after_start l.first l.last l.rank (drop l.rank l.routes.items) ≡ after_start l.first l.last 0 l.initial.routes.items;
  whole : length l.routes.items ≡ length l.initial.routes.items;
}
