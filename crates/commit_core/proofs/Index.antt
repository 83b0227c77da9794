-- The list of the numbers that are out, after each step of a book.
use Rattle.std.proofs.Common.{◌≡◌, ◌≢◌, ℕ, ◌+◌, ◌-◌, ◌<◌, ◌≤◌, true, false, if◌then◌else◌, List, [], ◌∷◌, ◌++◌, length, map, slice_set, refl, sym, ap, subst, ◌∙◌, arith, inl, inr}
use Rattle.std.specs.List.{remove, list_any}
use Rattle.std.proofs.lemmas.Bool.{cases_lt, cases_eq, cases_order, eq-eqb, eqb-true, false_from_ne_true}
use Rattle.std.proofs.lemmas.List.{length-set, length-map, length_push, get_or-set_same, get_or-set_other, get_or_append_left, get_or_push, get_or_past, get_or_default, get_or-map, ext_get_or}
use Rattle.std.proofs.lemmas.List.Edits.{length-remove, get_or-remove_below, get_or-remove_above}
use Rattle.std.proofs.lemmas.List.Elements.{All-from_get_or}
use Rattle.std.proofs.lemmas.List.Folds.{list_any_at, list_any_none}
use Rattle.std.proofs.lemmas.List.Quantifiers.{all_pairs_push, all_pairs_remove}
use Rattle.commit_core.specs.declared.outs.OutAt.{OutAt}
use Rattle.commit_core.specs.declared.standing.Standing.{Standing}
use Rattle.commit_core.specs.declared.standing.Standing.TheVariants.{Unclaimed, Out, Done}
use Rattle.commit_core.specs.LedgerBook.{is_under, moved}
use Rattle.commit_core.specs.LedgerIndex.{out_at, standing_at, Ascend, HasOut, IsIndex}

abbrev pub none_out : OutAt
none_out = record { number = 0; place = 0 }

abbrev number_of : Standing → ℕ
number_of Unclaimed = 0
number_of (Out number) = number
number_of Done = 0

out_once : (m n : ℕ) → Out m ≡ Out n → m ≡ n
out_once m n e = ap number_of e

pub unclaimed_out : (n : ℕ) → Unclaimed ≡ Out n → ⊥
unclaimed_out n e = cc

pub done_out : (n : ℕ) → Done ≡ Out n → ⊥
done_out n e = cc

pub out_within : (standings : List Standing) (place number : ℕ) → standing_at standings place ≡ Out number → place < length standings
out_within standings place number e =
    elim (cases_lt place (length standings)) [
      | inl low ↦ low
      | inr past ↦ absurd (unclaimed_out number (sym (get_or_past standings place Unclaimed past) ∙ e))
    ]

pub under_is : (number : ℕ) (s : Standing) → is_under number s ≡ true → s ≡ Out number
under_is number Unclaimed e = cc
under_is number (Out n) e = ap Out (eqb-true n number e)
under_is number Done e = cc

-- one number, one place
same_place : (outs : List OutAt) (i j : ℕ) → Ascend outs → i < length outs → j < length outs → (out_at outs i).number ≡ (out_at outs j).number → i ≡ j
same_place outs i j up h l same =
    elim (cases_order i j) [
      | inl e ↦ e
      | inr (inl low) ↦ absurd (omega (arith, up i j none_out low l, same))
      | inr (inr high) ↦ absurd (omega (arith, up j i none_out high h, same))
    ]

module _ (standings : List Standing) (given : ℕ) (outs : List OutAt) (i : IsIndex standings given outs) where
  pub only_place : (p q number : ℕ) → standing_at standings p ≡ Out number → standing_at standings q ≡ Out number → p ≡ q
  only_place p q number e f =
      let a = i.each p number e in
      let b = i.each q number f in
      let same = same_place outs a.at b.at i.ascend a.within b.within (a.number_is ∙ sym b.number_is) in
      sym a.place_is ∙ ap (λ k. (out_at outs k).place) same ∙ b.place_is

  pub was_given : (p number : ℕ) → standing_at standings p ≡ Out number → (1 ≤ number) × (number ≤ given)
  was_given p number e =
      let a = i.each p number e in
      (omega (arith, i.some a.at a.within, a.number_is), omega (arith, i.few a.at a.within, a.number_is))

  -- ---- the next number
  module _ (place : ℕ) (low : place < length standings) (free : standing_at standings place ≡ Unclaimed) where
    abbrev top : OutAt
    top = record { number = given + 1; place = place }

    at_old : (k : ℕ) → k < length outs → out_at (outs ++ top ∷ []) k ≡ out_at outs k
    at_old k h = get_or_append_left outs (top ∷ []) none_out k h

    at_top : (k : ℕ) → k ≡ length outs → out_at (outs ++ top ∷ []) k ≡ top
    at_top k e = get_or_push outs top none_out k (sym e)

    -- what is so of the old ones and of the new one
    on_each : (P : OutAt → Type 0) → ((k : ℕ) → k < length outs → P (out_at outs k)) → P top → (k : ℕ) → k < length (outs ++ top ∷ []) → P (out_at (outs ++ top ∷ []) k)
    on_each P old new k h =
        elim (cases_lt k (length outs)) [
          | inl before ↦ subst P (sym (at_old k before)) (old k before)
          | inr last ↦ subst P (sym (at_top k (omega (arith, h, length_push outs top)))) new
        ]

    pub index_taken : IsIndex (slice_set standings place (Out (given + 1))) (given + 1) (outs ++ record { number = given + 1; place = place } ∷ [])
    index_taken = record {
      ascend = all_pairs_push (λ left right. left.number < right.number) outs top i.ascend
          (λ k d h. subst (λ o. o.number < given + 1) (sym (get_or_default outs k d none_out h)) (let few = i.few k h in omega (arith, few)));
      there = on_each (λ o. standing_at (slice_set standings place (Out (given + 1))) o.place ≡ Out o.number)
          (λ k h.
          let apart : (out_at outs k).place ≢ place = λ e. unclaimed_out (out_at outs k).number (sym free ∙ ap (standing_at standings) (sym e) ∙ i.there k h) in
          get_or-set_other standings place (out_at outs k).place (Out (given + 1)) Unclaimed apart ∙ i.there k h)
          (get_or-set_same standings place (Out (given + 1)) Unclaimed low);
      each = λ p n e.
          elim (cases_eq p place) [
            | inl same ↦
                let now : Out (given + 1) ≡ Out n =
                sym (get_or-set_same standings place (Out (given + 1)) Unclaimed low) ∙ ap (standing_at (slice_set standings place (Out (given + 1)))) (sym same) ∙ e in
                record {
                  at = length outs;
                  within = omega (arith, length_push outs top);
                  number_is = ap (λ o. o.number) (at_top (length outs) refl) ∙ out_once (given + 1) n now;
                  place_is = ap (λ o. o.place) (at_top (length outs) refl) ∙ sym same;
                }
            | inr other ↦
                let old = i.each p n (sym (get_or-set_other standings place p (Out (given + 1)) Unclaimed other) ∙ e) in
                record {
                  at = old.at;
                  within = omega (arith, old.within, length_push outs top);
                  number_is = ap (λ o. o.number) (at_old old.at old.within) ∙ old.number_is;
                  place_is = ap (λ o. o.place) (at_old old.at old.within) ∙ old.place_is;
                }
          ];
      some = on_each (λ o. 1 ≤ o.number) i.some (omega arith);
      few = on_each (λ o. o.number ≤ given + 1) (λ k h. let few = i.few k h in omega (arith, few)) (omega arith);
    }

  -- ---- a number that comes back
  module _ (number place : ℕ) (had : HasOut outs number place) where
    abbrev rest : List OutAt
    rest = remove outs had.at

    pub stands : standing_at standings place ≡ Out number
    stands = ap (standing_at standings) (sym had.place_is) ∙ i.there had.at had.within ∙ ap Out had.number_is

    -- an entry of the rest is another one of the list
    record IsOld (k : ℕ) : Type 0 where
      from : ℕ
      within : from < length outs
      apart : from ≢ had.at
      is : out_at rest k ≡ out_at outs from

    old_of : (k : ℕ) → k < length rest → IsOld k
    old_of k h =
        elim (cases_lt k had.at) [
          | inl below ↦
              record { from = k; within = omega (arith, had.within, below); apart = λ e. omega (arith, below, e); is = get_or-remove_below outs had.at none_out k below had.within }
          | inr above ↦
              record {
                from = k + 1;
                within = omega (arith, h, length-remove outs had.at had.within);
                apart = λ e. omega (arith, above, e);
                is = get_or-remove_above outs had.at none_out k above had.within;
              }
        ]

    on_rest : (P : OutAt → Type 0) → ((k : ℕ) → k < length outs → P (out_at outs k)) → (k : ℕ) → k < length rest → P (out_at rest k)
    on_rest P old k h = let o = old_of k h in subst P (sym o.is) (old o.from o.within)

    still : (p n : ℕ) → p ≢ place → (old : HasOut outs n p) → HasOut rest n p
    still p n other old =
        elim (cases_order old.at had.at) [
          | inl same ↦ absurd (other (sym old.place_is ∙ ap (λ k. (out_at outs k).place) same ∙ had.place_is))
          | inr (inl below) ↦
              let e = get_or-remove_below outs had.at none_out old.at below had.within in
              record {
                at = old.at;
                within = omega (arith, below, had.within, length-remove outs had.at had.within);
                number_is = ap (λ o. o.number) e ∙ old.number_is;
                place_is = ap (λ o. o.place) e ∙ old.place_is;
              }
          | inr (inr above) ↦
              let back : old.at - 1 + 1 ≡ old.at = omega (arith, above) in
              let e : out_at rest (old.at - 1) ≡ out_at outs old.at = get_or-remove_above outs had.at none_out (old.at - 1) (omega (arith, above)) had.within ∙ ap (out_at outs) back in
              record {
                at = old.at - 1;
                within = omega (arith, above, old.within, length-remove outs had.at had.within);
                number_is = ap (λ o. o.number) e ∙ old.number_is;
                place_is = ap (λ o. o.place) e ∙ old.place_is;
              }
        ]

    pub index_ended : (to : Standing) → ((n : ℕ) → to ≡ Out n → ⊥) → IsIndex (slice_set standings place to) given (remove outs had.at)
    index_ended to free = record {
      ascend = all_pairs_remove (λ left right. left.number < right.number) outs had.at had.within i.ascend;
      there = λ k h.
          let o = old_of k h in
          let apart : (out_at outs o.from).place ≢ place = λ e.
          o.apart
          (same_place outs o.from had.at i.ascend o.within had.within
          (out_once (out_at outs o.from).number (out_at outs had.at).number
          (sym (i.there o.from o.within) ∙ ap (standing_at standings) (e ∙ sym had.place_is) ∙ i.there had.at had.within))) in
          subst (λ x. standing_at (slice_set standings place to) x.place ≡ Out x.number) (sym o.is)
          (get_or-set_other standings place (out_at outs o.from).place to Unclaimed apart ∙ i.there o.from o.within);
      each = λ p n e.
          elim (cases_eq p place) [
            | inl same ↦
                absurd
                (free n
                (sym (get_or-set_same standings place to Unclaimed (out_within standings place number stands)) ∙ ap (standing_at (slice_set standings place to)) (sym same) ∙ e))
            | inr other ↦ still p n other (i.each p n (sym (get_or-set_other standings place p to Unclaimed other) ∙ e))
          ];
      some = on_rest (λ o. 1 ≤ o.number) i.some;
      few = on_rest (λ o. o.number ≤ given) i.few;
    }

    not_under : (k : ℕ) → k ≢ place → is_under number (standing_at standings k) ≡ false
    not_under k other =
        false_from_ne_true (is_under number (standing_at standings k))
        (λ e. other (only_place k place number (under_is number (standing_at standings k) e) stands))

    pub moved_is : (to : Standing) → slice_set standings place to ≡ map (moved number to) standings
    moved_is to =
        ext_get_or Unclaimed (slice_set standings place to) (map (moved number to) standings) (length-set standings place to ∙ sym (length-map standings (moved number to)))
        (λ k l.
        let h : k < length standings = omega (arith, l, length-set standings place to) in
        let image = get_or-map (moved number to) standings k Unclaimed Unclaimed h in
        elim (cases_eq k place) [
          | inl same ↦
              let own : moved number to (Out number) ≡ to = ap (λ b. if b then to else Out number) (eq-eqb number number refl) in
              ap (standing_at (slice_set standings place to)) same ∙ get_or-set_same standings place to Unclaimed (out_within standings place number stands)
              ∙ sym own ∙ ap (moved number to) (sym (ap (standing_at standings) same ∙ stands)) ∙ sym image
          | inr other ↦
              get_or-set_other standings place k to Unclaimed other
              ∙ sym (ap (λ b. if b then to else standing_at standings k) (not_under k other)) ∙ sym image
        ])

    pub some_under : list_any (is_under number) standings ≡ true
    some_under =
        list_any_at (is_under number) standings place Unclaimed (out_within standings place number stands)
        (ap (is_under number) stands ∙ eq-eqb number number refl)

  -- ---- a number that isn't out
  module _ (number : ℕ) (none : (k : ℕ) → k < length outs → (out_at outs k).number ≢ number) where
    none_under : (k : ℕ) → is_under number (standing_at standings k) ≡ false
    none_under k =
        false_from_ne_true (is_under number (standing_at standings k))
        (λ e. let a = i.each k number (under_is number (standing_at standings k) e) in none a.at a.within a.number_is)

    pub any_none : list_any (is_under number) standings ≡ false
    any_none =
        list_any_none (is_under number) standings (All-from_get_or (λ s. is_under number s ≡ false) standings Unclaimed (λ k h. none_under k))

    pub moved_none : (to : Standing) → standings ≡ map (moved number to) standings
    moved_none to =
        ext_get_or Unclaimed standings (map (moved number to) standings) (sym (length-map standings (moved number to)))
        (λ k h.
        sym (ap (λ b. if b then to else standing_at standings k) (none_under k)) ∙ sym (get_or-map (moved number to) standings k Unclaimed Unclaimed h))
