use Rattle.commit_core.proofs.Tiles.{of_member, pieces_follow, same_place}
use Rattle.commit_core.proofs.laws.pieces_are_kept.Goals as goal

pub returns-clause-own : goal.returns-clause-own
returns-clause-own c = λ scheme nodes ranks size local group i lengths l g low. of_member scheme nodes ranks size local group i lengths l g low

pub returns-clause-tile : goal.returns-clause-tile
returns-clause-tile c = λ scheme local group i streams held set low own. pieces_follow scheme local group i streams held.share set low own.share

pub returns-clause-place : goal.returns-clause-place
returns-clause-place c = λ claim piece streams s t a. same_place claim piece streams s t a
