use Rattle.std.proofs.Common.{length}
use Rattle.scr_base.specs.Sets.{group_count, nodes_of_group, fits_set}
use Rattle.process_sets.proofs.Groups.{all_numbers}
use Rattle.process_sets.proofs.Sets.new.Goals as goal

pub invariant_of-result-clause-fits : goal.invariant_of-result-clause-fits
invariant_of-result-clause-fits c =
    all_numbers (λ group. fits_set c.args.scheme (length (nodes_of_group c.args.shape.nodes c.args.size group))) (group_count c.args.shape.nodes c.args.size)
    (λ i h. c.in-None.ensures.none i h)
