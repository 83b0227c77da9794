use Rattle.std.proofs.Common.{◌≡◌, ◌∷◌, [], ℕ, List, slice_index_or, sym, subst, ◌∙◌, arith}
use Rattle.std.proofs.lemmas.Grind.{common_steps}
use Rattle.partner_copy.specs.Partner.{share_of}
use Rattle.commit_core.specs.Deposits.{IsPartAt}
use Rattle.commit_core.specs.PieceSets.{group_streams}
use Rattle.commit_core.specs.Pieces.{set_lengths}
use Rattle.commit_core.specs.Sets.{stream_lengths}
use Rattle.commit_core.proofs.SetReads.{lengths_are, streams_count, stream_part}
use Rattle.commit_core.proofs.set.CommitSet.stream_before.Goals as goal

pub returns-clause-inputs : goal.returns-clause-inputs
returns-clause-inputs g c =
    let set = c.args.self.now in
    let piece = c.args.piece in
    let bytes = c.in_ok-bytes.bytes in
    let is : c.of.result ≡ bytes ∷ [] = grind (arith, common_steps) in
    λ shape d reads.
    let streams = group_streams d piece.group piece.local in
    subst (λ (xs : List (List ℕ)). IsPartAt piece.at (share_of streams piece.target) (slice_index_or xs 0 [])) (sym is)
    (stream_part streams (set_lengths set.desc.nodes set.desc.ranks set.desc.size piece.group piece.local (stream_lengths set.files)) piece.target c.args.members piece.at piece.len bytes (lengths_are set shape d piece.group piece.local reads.describes)
    (c.requires.members ∙ sym (streams_count set shape d piece.group piece.local reads.describes)) c.requires.target c.requires.within (c.in_ok-bytes.ensures.bytes shape d reads))
