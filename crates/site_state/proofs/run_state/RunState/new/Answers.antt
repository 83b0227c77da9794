use Rattle.std.proofs.Common.{◌<◌, length, slice_index_or, ap, arith}
use Rattle.std.proofs.lemmas.List.FromFn.{length-range_with_len, get_or-range_with_len}
use Rattle.site_state.proofs.Shapes.{few_nodes}
use Rattle.site_state.proofs.run_state.RunState.new.Goals as goal

pub of-requires : goal.of-requires
of-requires c = λ k d lt.
    let nodes = c.args.shape.nodes in
    let below : k < nodes = omega (arith, lt, ap length c.requires, length-range_with_len 0 nodes) in
    omega (arith, ap (λ l. slice_index_or l k d) c.requires, get_or-range_with_len 0 nodes k d below, below, few_nodes c.args.shape)
