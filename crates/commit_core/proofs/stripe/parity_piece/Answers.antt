use Rattle.std.proofs.Common.{◌≡◌, ◌+◌, ℕ, true, List, [], length, slice_index_or, sym, ap, subst, arith, ◌∙◌}
use Rattle.std.proofs.lemmas.List.{get_or_read_under}
use Rattle.member_shares.specs.Layout.{holds_parity}
use Rattle.member_shares.specs.Shares.{IsSet}
use Rattle.redundancy_set.specs.Known.{IsCompleted}
use Rattle.redundancy_set.specs.Sums.{IsCodeSegment, has_data, data_byte}
use Rattle.commit_core.specs.Claims.{input_length}
use Rattle.commit_core.specs.Deposits.{known_of}
use Rattle.commit_core.proofs.ClaimFacts.{coded}
use Rattle.commit_core.proofs.Known.{completes}
use Rattle.commit_core.proofs.stripe.parity_piece.Goals as goal

pub parity_segment-requires-clause-set : goal.parity_segment-requires-clause-set
parity_segment-requires-clause-set c =
    let claim = c.args.claim.now in
    let claimed = coded claim.scheme c.args.parity claim.stripe claim.target claim.inputs c.requires.parity c.requires.some claim.fits in
    subst (λ xs. IsSet claim.scheme (length xs + c.args.parity)) (sym c.list-inputs.ensures) claimed.set

pub parity_segment-requires-clause-held : goal.parity_segment-requires-clause-held
parity_segment-requires-clause-held c =
    let claim = c.args.claim.now in
    let claimed = coded claim.scheme c.args.parity claim.stripe claim.target claim.inputs c.requires.parity c.requires.some claim.fits in
    subst (λ xs. holds_parity (length xs + c.args.parity) c.args.parity claim.stripe claim.target ≡ true) (sym c.list-inputs.ensures) claimed.of_stripe.parity

pub returns : goal.returns
returns c =
    let claim = c.args.claim.now in
    let p = c.args.parity in
    let inputs = claim.inputs in
    let segment = c.in_ok-parity_segment.field-0 in
    let len : ℕ = length c.list.result.now in
    let claimed = coded claim.scheme p claim.stripe claim.target inputs c.requires.parity c.requires.some claim.fits in
    let size : input_length inputs ≡ len =
    ap (length {A = ℕ})
    (ap (λ xs. slice_index_or xs 0 []) (sym c.list-inputs.ensures)
    ∙ sym
    (c.list.ensures
    ∙ get_or_read_under c.list-inputs.result.now 0 (length c.list-inputs.result.now) c.index-inputs-0.result [] c.index-inputs-0.is
    (omega (arith, ap (length {A = List ℕ}) c.list-inputs.ensures, claimed.of_stripe.some)) (omega arith))) in
    let own : IsCodeSegment claim.scheme (length inputs + p) claim.target len (has_data (length inputs + p) p claim.stripe) (data_byte (length inputs + p) p claim.stripe inputs) segment =
    subst (λ xs. IsCodeSegment claim.scheme (length xs + p) claim.target len (has_data (length xs + p) p claim.stripe) (data_byte (length xs + p) p claim.stripe xs) segment) c.list-inputs.ensures
    c.in_ok-parity_segment.ensures in
    let whole = completes claim.scheme (length inputs + p) p claim.stripe claim.target len inputs segment claimed.of_stripe.stripe_in (omega arith) (omega arith) claimed.one (sym size) own in
    subst (λ t. IsCompleted claim.scheme (known_of (length inputs + t) t claim.stripe inputs) claim.target (input_length inputs) segment) c.requires.parity whole
