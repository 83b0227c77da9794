use Rattle.std.proofs.Common.{◌≡◌, ◌<◌, [], true, false, length, sym, ap, ◌∙◌, refl, arith}
use Rattle.std.proofs.Math.ListN.{length-set}
use Rattle.script_reader.specs.Routes.{Files, is_meant, with_route}
use Rattle.script_reader.proofs.RankFiles.{meant_yes, meant_no}
use Rattle.script_reader.proofs.routes.add_routes.Goals as goal
use Rattle.script_reader.proofs.routes.add_routes.Goals.{then-is_place_meant+in_ok-add_route, else-is_place_meant}

pub loop-rank-preserved : goal.loop-rank-preserved
loop-rank-preserved c =
    let lt : c.loop-rank.rank < length c.loop-rank.routes.items = omega arith in
    elim c.if-is_place_meant.branch [
      | then-is_place_meant+in_ok-add_route w ↦ record {
        so_far = meant_yes (with_route c.args.name.now) c.args.first c.args.last c.loop-rank.rank c.loop-rank.routes.items _ w.index_mut.result.now _ _ _ lt
            (sym c.is_place_meant.ensures ∙ w.if-is_place_meant.true) w.index_mut.ensures.value w.in_ok-add_route.ensures (ap (λ v. v.items) w.routes-is) c.loop-rank.invariant.so_far;
        whole = rw w.routes-is (length-set c.loop-rank.routes.items c.loop-rank.rank _ ∙ c.loop-rank.invariant.whole);
      }
      | else-is_place_meant w ↦ record {
        so_far = rw w.routes-is (meant_no (with_route c.args.name.now) c.args.first c.args.last c.loop-rank.rank c.loop-rank.routes.items _ lt
            (sym c.is_place_meant.ensures ∙ w.if-is_place_meant.false) c.loop-rank.invariant.so_far);
        whole = rw w.routes-is c.loop-rank.invariant.whole;
      }
    ]
