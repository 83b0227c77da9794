use Rattle.std.proofs.Common.{◌≡◌, ◌+◌, ◌-◌, ◌++◌, ◌∷◌, ◌^◌, [], true, ℕ, List, length, Some, sym, ap, subst, ◌∙◌, arith}
use Rattle.std.proofs.lemmas.Bool.{lt-ltb}
use Rattle.std.proofs.lemmas.Grind.{common_steps}
use Rattle.commit_core.specs.Committing.{Committing}
use Rattle.commit_core.specs.Claiming.{IsCommitting, next_piece, handed_out}
use Rattle.commit_core.specs.LedgerBook.{Book, may_number, after_taking}
use Rattle.commit_core.specs.Sets.{stream_lengths}
use Rattle.commit_core.specs.declared.claim.Claim.{Claim}
use Rattle.commit_core.proofs.Claimable.{dataset_claim}
use Rattle.commit_core.proofs.ClaimHolds.{next_claims, next_among, handed_keeps, hands_out}
use Rattle.commit_core.proofs.SetReads.{few_nodes, some_nodes}
use Rattle.commit_core.proofs.commit.Commit.hand_out.Goals as goal

pub claim_of-claim-requires-clause-fits : goal.claim_of-claim-requires-clause-fits
claim_of-claim-requires-clause-fits c =
    let v : Committing = record { set = c.self.inside.set; stage = c.self.inside.stage; book = c.self.inside.ledger; outs = c.self.inside.outs.items } in
    let next : next_piece v ≡ Some c.args.piece = subst (λ (x : Committing). next_piece x ≡ Some c.args.piece) (sym c.self.view_is) c.requires.next in
    let count = subst (λ (x : Committing). length c.args.inputs ≡ Rattle.commit_core.specs.PieceClaims.input_count x.set.desc.scheme (length (Rattle.scr_base.specs.Sets.nodes_of_group x.set.desc.nodes x.set.desc.size c.args.piece.group))) (sym c.self.view_is) c.requires.count in
    dataset_claim v.set.desc.scheme v.set.desc.nodes v.set.desc.ranks v.set.desc.size (stream_lengths v.set.files) c.args.piece c.args.inputs (some_nodes v.set.desc) (few_nodes v.set.desc) c.self.invariant.fits
    (next_among v c.args.piece c.self.invariant (next_claims v c.args.piece next).1) count c.requires.sizes

pub invariant_of-self-2 : goal.invariant_of-self-2
invariant_of-self-2 c =
    let v : Committing = record { set = c.self.inside.set; stage = c.self.inside.stage; book = c.self.inside.ledger; outs = c.self.inside.outs.items } in
    let next : next_piece v ≡ Some c.args.piece = subst (λ (x : Committing). next_piece x ≡ Some c.args.piece) (sym c.self.view_is) c.requires.next in
    let kept = c.in_ok-kept.kept in
    let same : kept ≡ c.claim_of-claim.result = c.in_ok-kept.ensures in
    let outs : c.push_reserved.new.self.items ≡ v.outs ++ kept ∷ [] = grind (arith, common_steps) in
    let may : may_number v.book ≡ true = lt-ltb v.book.given (2 ^ 64 - 1) (omega (arith, c.given-given.ensures)) in
    subst (λ (b : Book). IsCommitting (record { set = v.set; stage = v.stage; book = b; outs = c.push_reserved.new.self.items })) (sym c.take.ensures.after)
    (subst (λ (xs : List Claim). IsCommitting (record { set = v.set; stage = v.stage; book = after_taking v.book; outs = xs })) (sym outs)
    (subst (λ (k : Claim). IsCommitting (handed_out v k)) (sym same)
    (handed_keeps v c.args.piece c.claim_of-claim.result next may (c.claim_of-claim.ensures.number ∙ ap (λ (n : ℕ). n + 1) c.given-given.ensures) c.claim_of-claim.ensures.claim (λ p n out. (c.numbers_differ.ensures.given p n out).1) c.self.invariant)))

pub returns-clause-claim : goal.returns-clause-claim
returns-clause-claim c =
    let v : Committing = record { set = c.self.inside.set; stage = c.self.inside.stage; book = c.self.inside.ledger; outs = c.self.inside.outs.items } in
    let kept = c.in_ok-kept.kept in
    let same : kept ≡ c.claim_of-claim.result = c.in_ok-kept.ensures in
    let outs : c.push_reserved.new.self.items ≡ v.outs ++ kept ∷ [] = grind (arith, common_steps) in
    hands_out v c.args.self.now c.args.piece c.claim_of-claim.result c.take.new.self c.push_reserved.new.self.items c.self.view_is c.requires.next (c.claim_of-claim.ensures.number ∙ ap (λ (n : ℕ). n + 1) c.given-given.ensures) c.claim_of-claim.ensures.claim
    c.take.ensures.after (outs ∙ ap (λ (k : Claim). v.outs ++ k ∷ []) same)
