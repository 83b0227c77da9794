use Rattle.std.proofs.Common.{◌∙◌, sym}
use Rattle.kvtree.specs.Entries.{Entries}
use Rattle.kvtree.specs.Encoding.{IsEncoding}
use Rattle.member_store.specs.Trees.{Says}
use Rattle.member_store.proofs.Readings.{there, encoding_of, says_member, named_reads, named_only}
use Rattle.member_store.proofs.reading.member_of_record.Goals as goal

pub returns-in_default-clause-only : goal.returns-in_default-clause-only
returns-in_default-clause-only c = λ m reads. absurd (cc (c.in_default.is, c.in_ok-tree.ensures.only _ (encoding_of c.args.shape c.args.name.now c.list.result.now c.args.held m c.list.ensures reads)))

pub returns-in-None-clause-only : goal.returns-in-None-clause-only
returns-in-None-clause-only c = λ m reads.
    absurd (cc (c.in-None.is, c.in_ok-found_in.ensures.only _ (says_member c.args.shape c.in-Some.tree c.args.name.now c.args.held m (sym c.in-Some.is ∙ c.in_ok-tree.ensures.only _ (encoding_of c.args.shape c.args.name.now c.list.result.now c.args.held m c.list.ensures reads)) reads)))

pub returns-clause-reads : goal.returns-clause-reads
returns-clause-reads c =
    named_reads c.args.shape c.in-Some.tree c.args.name.now c.list.result.now c.args.held c.in-Some-2.found c.named_member.result c.list.ensures (there (λ (t : Entries). IsEncoding t c.list.result.now) c.in_ok-tree.field-0 c.in-Some.tree c.in-Some.is c.in_ok-tree.ensures.found)
    (there (Says c.args.shape c.in-Some.tree) c.in_ok-found_in.field-0 c.in-Some-2.found c.in-Some-2.is c.in_ok-found_in.ensures.says) c.named_member.ensures.some

pub returns-clause-only : goal.returns-clause-only
returns-clause-only c = λ m reads.
    named_only c.args.shape c.args.name.now c.args.held c.in-Some-2.found m c.named_member.result
    (sym c.in-Some-2.is ∙ c.in_ok-found_in.ensures.only _ (says_member c.args.shape c.in-Some.tree c.args.name.now c.args.held m (sym c.in-Some.is ∙ c.in_ok-tree.ensures.only _ (encoding_of c.args.shape c.args.name.now c.list.result.now c.args.held m c.list.ensures reads)) reads))
    reads c.named_member.ensures.some c.named_member.ensures.none
