use Rattle.site_stands.proofs.Changes.Nodes.{file_read}
use Rattle.site_stands.proofs.records.a_file_of_a_member_reads.Goals as goal

pub returns : goal.returns
returns c = file_read
