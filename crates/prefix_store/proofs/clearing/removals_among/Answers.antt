use Rattle.std.proofs.Common.{◌≡◌, ℕ, List, [], ◌∷◌, ◌++◌, map, length, get_or, sym, ap, ◌∙◌, subst, arith}
use Rattle.std.proofs.lemmas.List.{map-append, get_or_default}
use Rattle.scr_base.specs.declared.change.Change.{Change}
use Rattle.scr_base.specs.declared.change.Change.TheVariants.{Remove}
use Rattle.prefix_store.specs.Names.{IsUnder}
use Rattle.prefix_store.specs.ClearSteps.{Picks}
use Rattle.prefix_store.proofs.Picks.{picks_none, picks_skip, picks_back}
use Rattle.prefix_store.proofs.clearing.removals_among.Goals.{then-is_under+in_ok-name+in_ok-push_back, else-is_under}
use Rattle.prefix_store.proofs.clearing.removals_among.Goals as goal

pub loop-name-init : goal.loop-name-init
loop-name-init c = ([], c.new-changes.ensures.items, picks_none c.args.folder.now c.args.names.now)

pub loop-name-preserved : goal.loop-name-preserved
loop-name-preserved c =
    let folder = c.args.folder.now in
    let names = c.args.names.now in
    let n = c.loop-name.name-index in
    let x = get_or c.args.names.now c.loop-name.name-index [] in
    let held = c.loop-name.invariant in
    let picked = held.0 in
    let here : c.name-item.result ≡ get_or c.args.names.now c.loop-name.name-index [] = c.name-item.is ∙ sym (get_or_default c.args.names.now c.loop-name.name-index [] c.name-item.result c.loop-name-test.true) in
    elim c.if-is_under.branch [
      | then-is_under+in_ok-name+in_ok-push_back w ↦ (
        picked ++ x ∷ [],
        ap (λ v. v.items) w.changes-is ∙ w.in_ok-push_back.ensures.items ∙ ap (λ (l : List Change). l ++ Remove w.in_ok-name.name ∷ []) held.1
            ∙ ap (λ (b : List ℕ). map Remove picked ++ Remove b ∷ []) (w.in_ok-name.ensures ∙ here) ∙ sym (map-append Remove picked (x ∷ [])),
        picks_back folder names n picked c.requires c.loop-name-test.true (subst (λ (b : List ℕ). IsUnder c.args.folder.now b) (c.list.ensures ∙ here) (c.is_under.ensures.0 w.if-is_under.true)) held.2,
      )
      | else-is_under w ↦ (
        picked,
        ap (λ v. v.items) w.changes-is ∙ held.1,
        picks_skip folder names n picked (λ under. absurd (cc (c.is_under.ensures.1 (subst (λ (b : List ℕ). IsUnder c.args.folder.now b) (sym (c.list.ensures ∙ here)) under), w.if-is_under.false))) held.2,
      )
    ]

pub returns : goal.returns
returns c =
    let end : c.loop-name.name-index ≡ length c.args.names.now = omega (arith, c.loop-name-test.false, c.loop-name.auto.name-index-end) in
    let held = c.loop-name.invariant in
    (held.0, held.1, subst (λ (n : ℕ). Picks c.args.folder.now c.args.names.now n held.0) end held.2)
