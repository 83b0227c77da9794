use Rattle.std.proofs.Common.{◌≡◌, ◌⊎◌, inl, inr, ℕ, List, length, sym, ap, subst, ◌∙◌, arith}
use Rattle.scr_base.specs.declared.shape.Scheme.{Scheme}
use Rattle.scr_base.specs.declared.shape.Scheme.TheVariants.{Single, Partner, Xor, Rs}
use Rattle.member_shares.specs.Shares.{IsSet, longest, segment_length}
use Rattle.commit_core.specs.Deposits.{AreSegmentParts}
use Rattle.commit_core.specs.PieceSets.{group_streams, AreInputsFor}
use Rattle.commit_core.specs.Pieces.{set_lengths}
use Rattle.commit_core.specs.Sets.{stream_lengths}
use Rattle.commit_core.proofs.Listed.{segment_is}
use Rattle.commit_core.proofs.SetReads.{lengths_are, streams_count, coded_within, coded_inputs, set_of, if_ok}
use Rattle.commit_core.proofs.SetLengths.{length-lengths}
use Rattle.commit_core.proofs.set.CommitSet.inputs_of.Goals as goal

-- the arm of the codes is no other
coded_other : (scheme : Scheme) → (scheme ≡ Xor) ⊎ ((shares : ℕ) × (scheme ≡ Rs shares)) → scheme ≡ Partner → ⊥
coded_other scheme (inl is) e = cc (is, e)
coded_other scheme (inr is) e = let rs = is.1 in cc (rs, e)

coded_single : (scheme : Scheme) → (scheme ≡ Xor) ⊎ ((shares : ℕ) × (scheme ≡ Rs shares)) → scheme ≡ Single → ⊥
coded_single scheme (inl is) e = cc (is, e)
coded_single scheme (inr is) e = let rs = is.1 in cc (rs, e)

pub overflow_cast-members : goal.overflow_cast-members
overflow_cast-members g c =
    let set = c.args.self.now in
    let piece = c.args.piece in
    let few = (set_of set piece.group piece.local c.requires.piece.group_in c.requires.fits).few in
    let count : c.len-members.result ≡ length (set_lengths set.desc.nodes set.desc.ranks set.desc.size piece.group piece.local (stream_lengths set.files)) = c.len-members.ensures ∙ c.in-Ok.lengths.ok.0 ∙ ap (length {A = ℕ}) c.in-Ok.ensures in
    omega (arith, few, count)

pub of-stripes-requires : goal.of-stripes-requires
of-stripes-requires g c =
    let set = c.args.self.now in
    let piece = c.args.piece in
    let count : c.len-members.result ≡ length (set_lengths set.desc.nodes set.desc.ranks set.desc.size piece.group piece.local (stream_lengths set.files)) = c.len-members.ensures ∙ c.in-Ok.lengths.ok.0 ∙ ap (length {A = ℕ}) c.in-Ok.ensures in
    subst (λ (n : ℕ). IsSet set.desc.scheme n) (sym count) (set_of set piece.group piece.local c.requires.piece.group_in c.requires.fits)

pub stream_before-requires-clause-few : goal.stream_before-requires-clause-few
stream_before-requires-clause-few g c =
    let set = c.args.self.now in
    let piece = c.args.piece in
    let few = (set_of set piece.group piece.local c.requires.piece.group_in c.requires.fits).few in
    let count : c.len-members.result ≡ length (set_lengths set.desc.nodes set.desc.ranks set.desc.size piece.group piece.local (stream_lengths set.files)) = c.len-members.ensures ∙ c.in-Ok.lengths.ok.0 ∙ ap (length {A = ℕ}) c.in-Ok.ensures in
    omega (arith, few, count)

pub segments-requires-clause-within : goal.segments-requires-clause-within
segments-requires-clause-within g c =
    let set = c.args.self.now in
    let piece = c.args.piece in
    let own : List ℕ = set_lengths set.desc.nodes set.desc.ranks set.desc.size piece.group piece.local (stream_lengths set.files) in
    let count : c.len-members.result ≡ length own = c.len-members.ensures ∙ c.in-Ok.lengths.ok.0 ∙ ap (length {A = ℕ}) c.in-Ok.ensures in
    let most : c.longest_of-longest.result ≡ longest own = c.longest_of-longest.ensures ∙ ap longest (c.as_slice.ensures.value ∙ c.in-Ok.ensures) in
    let size : c.of-stripes.result.len ≡ segment_length set.desc.scheme own = segment_is set.desc.scheme own c.longest_of-longest.result c.len-members.result c.of-stripes.result.len most count c.of-stripes.ensures.len in
    omega (arith, coded_within set.desc.scheme own piece (λ e. coded_other set.desc.scheme c.in-Xor.is e) c.requires.piece.within, size)

pub returns-clause-inputs : goal.returns-clause-inputs
returns-clause-inputs g c =
    let set = c.args.self.now in
    let piece = c.args.piece in
    let own : List ℕ = set_lengths set.desc.nodes set.desc.ranks set.desc.size piece.group piece.local (stream_lengths set.files) in
    let count : c.len-members.result ≡ length own = c.len-members.ensures ∙ c.in-Ok.lengths.ok.0 ∙ ap (length {A = ℕ}) c.in-Ok.ensures in
    let most : c.longest_of-longest.result ≡ longest own = c.longest_of-longest.ensures ∙ ap longest (c.as_slice.ensures.value ∙ c.in-Ok.ensures) in
    let size : c.of-stripes.result.len ≡ segment_length set.desc.scheme own = segment_is set.desc.scheme own c.longest_of-longest.result c.len-members.result c.of-stripes.result.len most count c.of-stripes.ensures.len in
    λ shape d reads.
    let streams = group_streams d piece.group piece.local in
    if_ok c.segments.result (AreSegmentParts c.of-stripes.result.members c.of-stripes.result.parity c.of-stripes.result.len piece.stripe piece.at streams) (AreInputsFor set.desc.scheme streams piece)
    (λ inputs parts. coded_inputs set.desc.scheme streams inputs piece c.of-stripes.result.members c.of-stripes.result.parity c.of-stripes.result.len (λ e. coded_single set.desc.scheme c.in-Xor.is e) (λ e. coded_other set.desc.scheme c.in-Xor.is e)
    (c.of-stripes.ensures.members ∙ count ∙ length-lengths set.desc.nodes set.desc.ranks set.desc.size piece.group piece.local (stream_lengths set.files) ∙ sym (streams_count set shape d piece.group piece.local reads.describes))
    c.of-stripes.ensures.parity (size ∙ ap (segment_length set.desc.scheme) (lengths_are set shape d piece.group piece.local reads.describes)) parts)
    (c.segments.ensures.inputs shape d reads)
