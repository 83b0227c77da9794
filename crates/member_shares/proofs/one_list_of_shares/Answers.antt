use Rattle.member_shares.proofs.Columns.{one_list}
use Rattle.member_shares.proofs.Filled.{some_list}
use Rattle.member_shares.proofs.one_list_of_shares.Goals as goal

pub returns-clause-some : goal.returns-clause-some
returns-clause-some c = some_list

pub returns-clause-one : goal.returns-clause-one
returns-clause-one c = one_list
