use Rattle.commit_core.proofs.OnePiece.{one_piece}
use Rattle.commit_core.proofs.Parts.{deposit_part}
use Rattle.commit_core.proofs.laws.deposits_are_shares.Goals as goal

pub returns-clause-parts : goal.returns-clause-parts
returns-clause-parts c = λ deposit streams held inputs own.
    deposit_part deposit.claim.scheme deposit.claim streams held.share deposit.bytes deposit.claim.fits deposit.right.copied deposit.right.completed inputs own.share

pub returns-clause-one : goal.returns-clause-one
returns-clause-one c = λ claim xs ys small left right.
    one_piece claim.scheme claim.stripe claim.target claim.inputs xs ys claim.fits small left.copied left.completed right.copied right.completed
