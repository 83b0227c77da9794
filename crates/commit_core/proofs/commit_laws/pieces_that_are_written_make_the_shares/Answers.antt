use Rattle.commit_core.proofs.SharePieces.{deposit_written, pieces_done}
use Rattle.commit_core.proofs.commit_laws.pieces_that_are_written_make_the_shares.Goals as goal

pub returns-clause-one : goal.returns-clause-one
returns-clause-one c = λ shape d fits old new places all pieces done node place local home small writes i piece bytes there own len part now holds. deposit_written shape d fits old new places all pieces done node place local home small writes i piece bytes there own len part now holds

pub returns-clause-all : goal.returns-clause-all
returns-clause-all c = pieces_done
