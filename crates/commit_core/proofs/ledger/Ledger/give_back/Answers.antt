use Rattle.std.proofs.Common.{◌≡◌, ℕ, false, List, slice_set, vec_capacity, min, subst, sym, ap, ◌∙◌, arith}
use Rattle.std.specs.List.{list_any, remove}
use Rattle.std.proofs.lemmas.Grind.{common_steps}
use Rattle.commit_core.specs.declared.outs.OutAt.{OutAt}
use Rattle.commit_core.specs.declared.standing.Standing.{Standing}
use Rattle.commit_core.specs.declared.standing.Standing.TheVariants.{Unclaimed}
use Rattle.commit_core.specs.LedgerBook.{Book, is_under, after_moving}
use Rattle.commit_core.specs.LedgerIndex.{IsKept}
use Rattle.commit_core.proofs.Index.{moved_is, moved_none, any_none}
use Rattle.commit_core.proofs.Kept.{kept_back}
use Rattle.commit_core.proofs.ledger.Ledger.give_back.Goals as goal

pub invariant_of-self : goal.invariant_of-self
invariant_of-self c =
    let l = c.self.inside in
    let found = c.in-Some.ensures.found in
    let standings = slice_set l.standings.items c.in-Some.place Unclaimed in
    let least : c.min-self-inside.result ≡ min l.first c.in-Some.place = grind (arith, common_steps) in
    subst (λ (xs : List OutAt). IsKept l.pieces.items standings xs l.given c.min-self-inside.result l.done (vec_capacity c.take_out.new.outs)) (sym found.rest)
    (subst (λ (room : ℕ). IsKept l.pieces.items standings (remove l.outs.items found.had.at) l.given c.min-self-inside.result l.done room) (sym c.take_out.ensures.room)
    (kept_back l.pieces.items l.standings.items l.outs.items l.given l.first l.done (vec_capacity l.outs) c.self.invariant c.args.number c.in-Some.place found.had c.min-self-inside.result least))

pub returns-in-Some-clause-after : goal.returns-in-Some-clause-after
returns-in-Some-clause-after c =
    let l = c.self.inside in
    let book : List Standing → Book = λ standings. record { pieces = l.pieces.items; standings = standings; given = l.given } in
    ap book (moved_is l.standings.items l.given l.outs.items c.self.invariant.index c.args.number c.in-Some.place c.in-Some.ensures.found.had Unclaimed)
    ∙ ap (after_moving c.args.number Unclaimed) c.self.view_is

pub returns-in-None-clause-found : goal.returns-in-None-clause-found
returns-in-None-clause-found c =
    let l = c.self.inside in
    subst (λ (b : Book). false ≡ list_any (is_under c.args.number) b.standings) c.self.view_is
    (sym (any_none l.standings.items l.given l.outs.items c.self.invariant.index c.args.number c.in-None.ensures.none))

pub returns-in-None-clause-after : goal.returns-in-None-clause-after
returns-in-None-clause-after c =
    let l = c.self.inside in
    let book : List Standing → Book = λ standings. record { pieces = l.pieces.items; standings = standings; given = l.given } in
    ap book (moved_none l.standings.items l.given l.outs.items c.self.invariant.index c.args.number c.in-None.ensures.none Unclaimed)
    ∙ ap (after_moving c.args.number Unclaimed) c.self.view_is
