use Rattle.commit_core.proofs.Claimable.{set_claim, dataset_claim}
use Rattle.commit_core.proofs.laws.pieces_fit_claims.Goals as goal

pub returns-clause-of_set : goal.returns-clause-of_set
returns-clause-of_set c = λ scheme local group lengths piece inputs set among count sizes. set_claim scheme local group lengths piece inputs set among count sizes

pub returns-clause-of_dataset : goal.returns-clause-of_dataset
returns-clause-of_dataset c = λ scheme nodes ranks size lengths piece inputs some few fits among count sizes.
    dataset_claim scheme nodes ranks size lengths piece inputs some few fits among count sizes
