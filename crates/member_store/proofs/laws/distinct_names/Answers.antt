use Rattle.member_store.proofs.PartNames.{part_no_record}
use Rattle.member_store.proofs.Distinct.{one_member, one_part}
use Rattle.member_store.proofs.laws.distinct_names.Goals as goal

pub returns-clause-members : goal.returns-clause-members
returns-clause-members c = one_member

pub returns-clause-parts : goal.returns-clause-parts
returns-clause-parts c = one_part

pub returns-clause-record : goal.returns-clause-record
returns-clause-record c = part_no_record
