use Rattle.std.proofs.Common.{◌≡◌, ℕ, ◌+◌, ◌*◌, [], length, slice_index, slice_index_or, Some, None, true, ◌<◌, refl, sym, ap, subst, ◌∙◌, arith}
use Rattle.std.specs.Option.{IfSome}
use Rattle.std.proofs.lemmas.List.{get_or_read_under}
use Rattle.std.proofs.lemmas.Result.{IfOk-weaker}
use Rattle.scr_base.specs.Sets.{bears_members}
use Rattle.partner_copy.specs.Partner.{AreBothLost}
use Rattle.member_shares.specs.Shares.{AreMembers, IsMember}
use Rattle.redundancy_set.specs.Known.{IsCut}
use Rattle.redundancy_set.specs.Recovered.{lost_places, IsGivenBack}
use Rattle.redundancy_set.proofs.CutLemmas.{cut_whole}
use Rattle.redundancy_set.proofs.Segments.{spared, partner_stream}
use Rattle.redundancy_set.proofs.recovery.stream_for.Goals as goal

pub stream_of-requires-clause-borne : goal.stream_of-requires-clause-borne
stream_of-requires-clause-borne c =
    let n = c.args.stripes.members in
    spared c.args.members.now.items n c.args.i c.requires.enough.count c.requires.within
    (subst (λ s. bears_members s n (lost_places c.args.members.now.items) ≡ true) c.in-Partner.is c.requires.enough.borne)

pub returns-in-Partner : goal.returns-in-Partner
returns-in-Partner c =
    let n = c.args.stripes.members in
    let members = c.args.members.now.items in
    let borne : ¬ AreBothLost members c.args.i =
    spared members n c.args.i c.requires.enough.count c.requires.within (subst (λ s. bears_members s n (lost_places members) ≡ true) c.in-Partner.is c.requires.enough.borne) in
    IfOk-weaker c.cut.result (IsCut c.args.len (λ b. slice_index c.list.result.now (0 * c.args.len + b)))
    (IsGivenBack c.args.scheme members c.args.stripes.len c.args.i c.args.len)
    (λ stream h. record {
      size = h.size;
      same = λ streams own segments len.
          let whole : c.stream_of.result.now ≡ slice_index_or streams c.args.i [] =
          partner_stream streams members c.args.i c.stream_of.result.now (subst (λ s. AreMembers s streams members) c.in-Partner.is own) (omega (arith, c.requires.enough.count, c.requires.within)) borne
          c.stream_of.ensures in
          let read : c.list.result.now ≡ slice_index_or streams c.args.i [] = c.list.ensures ∙ whole in
          cut_whole c.list.result.now stream c.args.len h (ap (length {A = ℕ}) read ∙ len) ∙ read;
    }) c.cut.ensures

pub returns-in-Some : goal.returns-in-Some
returns-in-Some c =
    let members = c.args.members.now.items in
    let i = c.args.i in
    let low : i < length members = omega (arith, c.requires.enough.count, c.requires.within) in
    let there : slice_index_or members i None ≡ Some c.in-Some.held =
    sym (get_or_read_under members i (length members) c.index.result.now None c.index.ensures low refl) ∙ c.in-Some.is in
    IfOk-weaker c.cut-in-Some.result (IsCut c.args.len (λ b. slice_index c.list-in-Some.result.now (0 * c.args.len + b)))
    (IsGivenBack c.args.scheme members c.args.stripes.len i c.args.len)
    (λ stream h. record {
      size = h.size;
      same = λ streams own segments len.
          let held : IsMember c.args.scheme streams i c.in-Some.held = subst (λ o. IfSome o (IsMember c.args.scheme streams i)) there (own.each i low) in
          let read : c.list-in-Some.result.now ≡ slice_index_or streams i [] = c.list-in-Some.ensures ∙ held.stream in
          cut_whole c.list-in-Some.result.now stream c.args.len h (ap (length {A = ℕ}) read ∙ len) ∙ read;
    }) c.cut-in-Some.ensures
