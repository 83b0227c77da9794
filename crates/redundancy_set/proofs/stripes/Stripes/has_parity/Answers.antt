use Rattle.std.proofs.Common.{arith}
use Rattle.redundancy_set.proofs.PlaceLemmas.{held_is}
use Rattle.redundancy_set.proofs.stripes.Stripes.has_parity.Goals as goal
use Rattle.redundancy_set.proofs.stripes.Stripes.has_parity.Goals.{then-stripe-member, else-stripe-member}

pub returns : goal.returns
returns c =
    held_is c.args.self.members c.args.self.parity c.args.stripe c.args.member c.if-stripe-member.ahead c.requires.stripe c.requires.member (omega (arith, c.args.self.data))
    (λ up. elim c.if-stripe-member.branch [ then-stripe-member w ↦ omega arith | else-stripe-member w ↦ omega arith ])
    (λ low. elim c.if-stripe-member.branch [ then-stripe-member w ↦ omega arith | else-stripe-member w ↦ omega arith ])
