use Rattle.std.proofs.Common.{arith}
use Rattle.member_shares.proofs.Places.{parity_place_is}
use Rattle.redundancy_set.proofs.stripes.Stripes.parity_place.Goals as goal

pub returns : goal.returns
returns c =
    omega (
      arith,
      parity_place_is c.args.self.members c.args.self.parity c.args.member c.args.stripe c.requires.member (omega (arith, c.args.self.data)) (omega (arith, c.requires.stripe)),
      c.args.self.data,
    )
