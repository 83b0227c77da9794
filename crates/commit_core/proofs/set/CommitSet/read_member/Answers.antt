use Rattle.std.proofs.Common.{◌*◌, ◌+◌, ℕ, List, sym, subst}
use Rattle.std.specs.Result.{IfOk}
use Rattle.node_device.specs.Rack.{states_of}
use Rattle.filemap.specs.declared.rows.FileRow.{FileRow}
use Rattle.ckpt_model.specs.Dataset.{files_of}
use Rattle.commit_core.specs.Reads.{RankReads}
use Rattle.commit_core.specs.Stretch.{IsStretch}
use Rattle.commit_core.proofs.SetReads.{rank_reads, member_stream}
use Rattle.commit_core.proofs.set.CommitSet.read_member.Goals as goal

pub returns-clause-bytes : goal.returns-clause-bytes
returns-clause-bytes g c =
    let set = c.args.self.now in
    let piece = c.args.piece in
    let node = c.node_of-node.result in
    let old = states_of g.D.Device.state c.args.bay.now in
    λ shape d reads.
    subst (λ (xs : List ℕ). IfOk c.read_stream.result (IsStretch xs c.args.from piece.len)) (sym (member_stream set shape d piece.group piece.local c.args.member node reads.describes c.requires.member c.node_of-node.ensures.is))
    (c.read_stream.ensures.bytes (files_of d (node * set.desc.ranks + piece.local))
    (subst (λ (rows : List FileRow). RankReads (old c.place_of.result) set.desc.which node piece.local rows (files_of d (node * set.desc.ranks + piece.local))) (sym c.rows.ensures.value)
    (rank_reads set shape d old c.place_of.result node piece.local reads c.place_of.ensures.place c.place_of.ensures.low c.requires.local)))
