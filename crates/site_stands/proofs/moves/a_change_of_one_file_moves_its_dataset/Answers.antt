use Rattle.site_stands.proofs.Moving.Files.{change_moves, change_else, change_beside}
use Rattle.site_stands.proofs.moves.a_change_of_one_file_moves_its_dataset.Goals as goal

pub returns-clause-moves : goal.returns-clause-moves
returns-clause-moves c = change_moves

pub returns-clause-elsewhere : goal.returns-clause-elsewhere
returns-clause-elsewhere c = change_else

pub returns-clause-beside : goal.returns-clause-beside
returns-clause-beside c = change_beside
