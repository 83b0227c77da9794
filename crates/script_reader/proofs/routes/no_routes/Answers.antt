use Rattle.std.proofs.Common.{ℕ, [], sym, arith}
use Rattle.std.proofs.lemmas.List.FromFn.{map-range_with_len_more}
use Rattle.script_reader.specs.Routes.{Files}
use Rattle.script_reader.proofs.routes.no_routes.Goals as goal

pub loop-rank-preserved : goal.loop-rank-preserved
loop-rank-preserved c =
    let none = λ (rank : ℕ). (let files : Files = [] in files) in
    rw (c.in_ok-push.ensures.items, c.loop-rank.invariant, c.new-names.ensures.items)
    (sym (map-range_with_len_more none 0 c.loop-rank.rank c.loop-rank.rank (omega arith)))
