use Rattle.prefix_store.proofs.Names.{one_folder, flushed_under, one_file, under_slash}
use Rattle.prefix_store.proofs.laws.distinct_folders.Goals as goal

pub returns-clause-folders : goal.returns-clause-folders
returns-clause-folders c = one_folder

pub returns-clause-under : goal.returns-clause-under
returns-clause-under c = flushed_under

pub returns-clause-files : goal.returns-clause-files
returns-clause-files c = one_file

pub returns-clause-records : goal.returns-clause-records
returns-clause-records c = under_slash
