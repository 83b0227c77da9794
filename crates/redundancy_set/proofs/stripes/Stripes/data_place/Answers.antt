use Rattle.std.proofs.Common.{arith}
use Rattle.member_shares.proofs.Places.{both_places}
use Rattle.redundancy_set.proofs.stripes.Stripes.data_place.Goals as goal

pub overflow_sub-result : goal.overflow_sub-result
overflow_sub-result c = omega (arith, both_places c.args.self.members c.args.self.parity c.args.member c.args.stripe)

pub returns : goal.returns
returns c = omega (arith, both_places c.args.self.members c.args.self.parity c.args.member c.args.stripe)
