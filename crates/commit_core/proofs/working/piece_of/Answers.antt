use Rattle.std.proofs.Common.{IsTrue, subst}
use Rattle.commit_core.specs.Claims.{is_claim}
use Rattle.commit_core.proofs.ClaimFacts.{some_shares}
use Rattle.commit_core.proofs.working.piece_of.Goals as goal

pub parity_piece-requires-in-Rs-clause-some : goal.parity_piece-requires-in-Rs-clause-some
parity_piece-requires-in-Rs-clause-some c =
    let claim = c.args.claim.now in
    some_shares c.in-Rs.shares claim.stripe claim.target claim.inputs
    (subst (λ scheme. IsTrue (is_claim scheme claim.stripe claim.target claim.inputs)) c.in-Rs.is claim.fits)
