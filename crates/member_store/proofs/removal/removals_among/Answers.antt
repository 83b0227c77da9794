use Rattle.std.proofs.Common.{◌≡◌, inl, inr, ℕ, List, [], ◌∷◌, ◌++◌, map, length, get_or, sym, ap, ◌∙◌, subst, arith}
use Rattle.std.proofs.lemmas.List.{map-append, get_or_default}
use Rattle.std.proofs.lemmas.Bool.Decides.{Decides-eqb}
use Rattle.std.proofs.lemmas.Slice.Eq.{slice_eq-Decides}
use Rattle.scr_base.specs.declared.change.Change.{Change}
use Rattle.scr_base.specs.declared.change.Change.TheVariants.{Remove}
use Rattle.member_store.specs.Names.{IsNameOf, record_name}
use Rattle.member_store.specs.DropSteps.{Picks}
use Rattle.member_store.proofs.PartNames.{IsPartName}
use Rattle.member_store.proofs.Picks.{picks_none, picks_skip, picks_front, picks_back}
use Rattle.member_store.proofs.removal.removals_among.Goals.{then-eq+in_ok-name+in_ok-push_back, else-eq+then-is_part_name+in_ok-name-2+in_ok-push_front, else-eq+else-is_part_name}
use Rattle.member_store.proofs.removal.removals_among.Goals as goal

pub loop-name-init : goal.loop-name-init
loop-name-init c = ([], c.new-changes.ensures.items, picks_none c.args.which c.args.node c.args.names.now)

pub loop-name-preserved : goal.loop-name-preserved
loop-name-preserved c =
    let which = c.args.which in
    let node = c.args.node in
    let names = c.args.names.now in
    let n = c.loop-name.name-index in
    let x = get_or c.args.names.now c.loop-name.name-index [] in
    let held = c.loop-name.invariant in
    let picked = held.0 in
    let here : c.name-item.result ≡ get_or c.args.names.now c.loop-name.name-index [] = c.name-item.is ∙ sym (get_or_default c.args.names.now c.loop-name.name-index [] c.name-item.result c.loop-name-test.true) in
    let record_is : c.bytes.result.now ≡ record_name c.args.which c.args.node = c.bytes.ensures ∙ c.of_record-record.ensures.name in
    let compared = slice_eq-Decides Decides-eqb c.list.result.now c.bytes.result.now c.eq.result c.eq.ensures in
    elim c.if-eq.branch [
      | then-eq+in_ok-name+in_ok-push_back w ↦
          let is : get_or c.args.names.now c.loop-name.name-index [] ≡ record_name c.args.which c.args.node = sym here ∙ sym c.list.ensures ∙ compared.0 w.if-eq.true ∙ record_is in (
            picked ++ x ∷ [],
            ap (λ v. v.items) w.changes-is ∙ w.in_ok-push_back.ensures.items ∙ ap (λ (l : List Change). l ++ Remove w.in_ok-name.name ∷ []) held.1
                ∙ ap (λ (b : List ℕ). map Remove picked ++ Remove b ∷ []) (w.in_ok-name.ensures ∙ here) ∙ sym (map-append Remove picked (x ∷ [])),
            picks_back which node names n picked c.requires c.loop-name-test.true (inl is) is held.2,
          )
      | else-eq+then-is_part_name+in_ok-name-2+in_ok-push_front w ↦ (
        x ∷ picked,
        ap (λ v. v.items) w.changes-is ∙ w.in_ok-push_front.ensures.items ∙ ap (λ (l : List Change). Remove w.in_ok-name-2.name ∷ l) held.1
            ∙ ap (λ (b : List ℕ). Remove b ∷ map Remove picked) (w.in_ok-name-2.ensures ∙ here),
        picks_front which node names n picked c.requires c.loop-name-test.true
            (subst (λ (b : List ℕ). IsNameOf c.args.which c.args.node b) (w.list-else-eq.ensures ∙ here) (inr (w.is_part_name.ensures.0 w.if-is_part_name.true)))
            (λ is. absurd (cc (compared.1 (c.list.ensures ∙ here ∙ is ∙ sym record_is), w.if-eq.false)))
            held.2,
      )
      | else-eq+else-is_part_name w ↦ (
        picked,
        ap (λ v. v.items) w.changes-is ∙ held.1,
        picks_skip which node names n picked
            (λ named. elim named [
              | inl is ↦ absurd (cc (compared.1 (c.list.ensures ∙ here ∙ is ∙ sym record_is), w.if-eq.false))
              | inr part ↦ absurd (cc (w.is_part_name.ensures.1 (subst (λ (b : List ℕ). IsPartName c.args.which c.args.node b) (sym (w.list-else-eq.ensures ∙ here)) part), w.if-is_part_name.false))
            ])
            held.2,
      )
    ]

pub returns : goal.returns
returns c =
    let end : c.loop-name.name-index ≡ length c.args.names.now = omega (arith, c.loop-name-test.false, c.loop-name.auto.name-index-end) in
    let held = c.loop-name.invariant in
    (held.0, held.1, subst (λ (n : ℕ). Picks c.args.which c.args.node c.args.names.now n held.0) end held.2)
