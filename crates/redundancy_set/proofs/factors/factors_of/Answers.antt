use Rattle.std.proofs.Common.{◌≡◌, ◌-◌, length, replicate, sym, subst, arith}
use Rattle.std.proofs.lemmas.Grind.{common_steps}
use Rattle.std.proofs.lemmas.Result.{IfOk-weaker}
use Rattle.reed_solomon.specs.Stripe.{AreFactors as ColumnFactors}
use Rattle.member_shares.specs.Shares.{parity_count}
use Rattle.redundancy_set.specs.Sums.{ArePlaces, AreFactors}
use Rattle.redundancy_set.proofs.XorFactors.{ones_are_factors}
use Rattle.redundancy_set.proofs.SumLemmas.{rs_factors, differ}
use Rattle.redundancy_set.proofs.factors.factors_of.Goals as goal

pub returns-in_ok-vec-in-Xor : goal.returns-in_ok-vec-in-Xor
returns-in_ok-vec-in-Xor c =
    let a = c.args in
    let ones : c.of.result ≡ replicate (length a.places.now) 1 = grind (arith, common_steps) in
    subst (λ s. AreFactors s a.members a.places.now a.target c.of.result) (sym c.in-Xor.is)
    (ones_are_factors a.members a.target a.places.now c.of.result c.requires.within
    (subst (λ s. ArePlaces a.members (a.members - parity_count s) a.target a.places.now) c.in-Xor.is c.requires.places) ones)

pub factors-requires-clause-count : goal.factors-requires-clause-count
factors-requires-clause-count c = subst (λ s. length c.args.places.now ≡ c.args.members - parity_count s) c.in-Rs.is c.requires.places.size

pub factors-requires-clause-distinct : goal.factors-requires-clause-distinct
factors-requires-clause-distinct c = differ c.args.members (c.args.members - parity_count c.args.scheme) c.args.target c.args.places.now c.requires.places

pub factors-requires-clause-below : goal.factors-requires-clause-below
factors-requires-clause-below c = c.requires.places.below

pub returns-in-Rs : goal.returns-in-Rs
returns-in-Rs c =
    let a = c.args in
    IfOk-weaker c.factors.result (ColumnFactors (a.members - c.in-Rs.shares) a.members a.places.now a.target) (AreFactors a.scheme a.members a.places.now a.target)
    (λ fs h. subst (λ s. AreFactors s a.members a.places.now a.target fs) (sym c.in-Rs.is) (rs_factors a.members c.in-Rs.shares a.target a.places.now fs h)) c.factors.ensures
