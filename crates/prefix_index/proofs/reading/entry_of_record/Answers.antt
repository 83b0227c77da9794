use Rattle.std.proofs.Common.{◌∙◌, sym}
use Rattle.kvtree.specs.Entries.{Entries}
use Rattle.kvtree.specs.Encoding.{IsEncoding}
use Rattle.prefix_index.specs.Trees.{Says}
use Rattle.prefix_index.proofs.Readings.{there, encoding_of, says_entry, named_reads, named_only, odd}
use Rattle.prefix_index.proofs.reading.entry_of_record.Goals as goal

pub returns-in_default-clause-only : goal.returns-in_default-clause-only
returns-in_default-clause-only c = λ e reads. absurd (cc (c.in_default.is, c.in_ok-tree.ensures.only _ (encoding_of c.args.name.now c.list.result.now c.args.held e c.list.ensures reads)))

pub returns-in-None-clause-only : goal.returns-in-None-clause-only
returns-in-None-clause-only c = λ e reads.
    absurd (cc (c.in-None.is, c.in_ok-found_in.ensures.only _ (says_entry c.in-Some.tree c.args.name.now c.args.held e (sym c.in-Some.is ∙ c.in_ok-tree.ensures.only _ (encoding_of c.args.name.now c.list.result.now c.args.held e c.list.ensures reads)) reads)))

pub returns-clause-reads : goal.returns-clause-reads
returns-clause-reads c =
    named_reads c.in-Some.tree c.args.name.now c.list.result.now c.args.held c.in-Some-2.found c.named_entry.result (odd c.args.held.gates c.if-held-eq0.false) c.list.ensures (there (λ (t : Entries). IsEncoding t c.list.result.now) c.in_ok-tree.field-0 c.in-Some.tree c.in-Some.is c.in_ok-tree.ensures.found)
    (there (Says c.in-Some.tree) c.in_ok-found_in.field-0 c.in-Some-2.found c.in-Some-2.is c.in_ok-found_in.ensures.says) c.named_entry.ensures.some

pub returns-clause-only : goal.returns-clause-only
returns-clause-only c = λ e reads.
    named_only c.args.name.now c.args.held c.in-Some-2.found e c.named_entry.result
    (sym c.in-Some-2.is ∙ c.in_ok-found_in.ensures.only _ (says_entry c.in-Some.tree c.args.name.now c.args.held e (sym c.in-Some.is ∙ c.in_ok-tree.ensures.only _ (encoding_of c.args.name.now c.list.result.now c.args.held e c.list.ensures reads)) reads))
    reads c.named_entry.ensures.some c.named_entry.ensures.none
