-- Each step on the board keeps its rule.
use Rattle.std.proofs.Common.{◌≡◌, ◌⊎◌, ℕ, ◌≤◌, List, [], ◌∷◌, ◌++◌, length, set, get_or, refl, ap, sym, subst, ◌∙◌, inl, inr, ⊎_elim, arith, length-set, get_or-set_same}
use mathlib.Core.List.{IsPrefix}
use mathlib.Core.Option.{none}
use native.Mathlib.Decide.{dec_le}
use Rattle.atomic_table.specs.Table.{State, Me, step, keeps, Allows, Splits, Joins}
use Rattle.atomic_table.proofs.Lists.{at_set, at_snoc, set_else}
use Rattle.status_board.specs.declared.status.Status.{Status}
use Rattle.status_board.specs.declared.rule.View.{View}
use Rattle.status_board.specs.Statuses.{nothing_yet, status_of, EndsWith}
use Rattle.status_board.specs.Published.{sees, together, IsOf, AreOf, IsPublished, appends, looks, settles}
use Rattle.status_board.proofs.Beginnings.{begins_itself, begins_through, begins_longer}

of_further : (xs ys : List Status) (views : List View) → IsPrefix xs ys → AreOf xs views → AreOf ys views
of_further xs ys views p all seat v at = let of = all seat v at in record { seen = begins_through v.seen xs ys of.seen p; also = begins_through v.also xs ys of.also p }

of_set : (xs : List Status) (views : List View) (seat : ℕ) (w : View) → IsOf xs w → AreOf xs views → AreOf xs (set views seat w)
of_set xs views seat w new all j v at = ⊎_elim (λ t. subst (λ (u : View). IsOf xs u) t.1 new) (λ t. all j v t.1) (at_set views seat j w v at)

of_snoc : (xs : List Status) (views : List View) (w : View) → IsOf xs w → AreOf xs views → AreOf xs (views ++ w ∷ [])
of_snoc xs views w new all j v at = ⊎_elim (λ t. all j v t) (λ t. subst (λ (u : View). IsOf xs u) t new) (at_snoc views w v j at)

of_all : (xs : List Status) → IsOf xs (sees xs)
of_all xs = record { seen = begins_itself xs; also = (xs, refl) }

-- the word stays or ends a longer list, and one seat sees something else of it
moves : (s : State (Unit {0}) View) (held : IsPublished s) (longer : List Status) (n : ℕ) (seat : ℕ) (w : View) → IsPrefix held.published longer → EndsWith longer (status_of n) → IsOf longer w
    → IsPublished (record { words = set s.words 0 n; homes = s.homes; views = set s.views seat w })
moves s held longer n seat w further ends of = record {
  published = longer;
  begins = begins_through (nothing_yet ∷ []) held.published longer held.begins further;
  one_word = length-set s.words 0 n ∙ held.one_word;
  ends = subst (λ (k : ℕ). EndsWith longer (status_of k)) (sym (get_or-set_same s.words 0 n 0 (omega (arith, held.one_word)))) ends;
  seats = of_set longer s.views seat w of (of_further held.published longer s.views further held.seats);
}

pub append_keeps : (slots seat : ℕ) (me : Me (Unit {0}) View) (new : ℕ) → Allows IsPublished slots seat me 0 (λ _. new) (appends (step slots 0 new 0 none) me)
append_keeps slots seat me new s held homes at small =
    let old = held.published in
    let longer = old ++ status_of new ∷ [] in
    let seen = (held.seats seat me.0 at).seen in (
      sees longer,
      keeps,
      tt,
      moves s held longer new seat (sees longer) (status_of new ∷ [], refl) (record { before = old; whole = refl }) (of_all longer),
      record {
        between = seen.0;
        view = ap (λ xs. sees (xs ++ status_of new ∷ [])) (sym seen.1);
        begins = begins_through (nothing_yet ∷ []) old longer held.begins (status_of new ∷ [], refl);
        slots = refl;
      },
    )

pub look_keeps : (slots seat : ℕ) (me : Me (Unit {0}) View) → Allows IsPublished slots seat me 0 (λ n. n) (looks (step slots 0 0 0 none) me)
look_keeps slots seat me s held homes at small =
    let old = held.published in (
      sees old,
      keeps,
      tt,
      moves s held old (get_or s.words 0 0) seat (sees old) (begins_itself old) held.ends (of_all old),
      record { onward = (held.seats seat me.0 at).seen; ends = held.ends; begins = held.begins; alone = refl; slots = refl },
    )

-- of two beginnings one begins the other
longer_of : (xs ys zs : List Status) → IsPrefix xs zs → IsPrefix ys zs → Dec (length xs ≤ length ys)
    → (ws : List Status) × ((ws ≡ xs) ⊎ (ws ≡ ys)) × IsPrefix xs ws × IsPrefix ys ws × IsPrefix ws zs
longer_of xs ys zs p q (yes le) = (ys, inr refl, begins_longer xs ys zs p q le, begins_itself ys, q)
longer_of xs ys zs p q (no gt) = (xs, inl refl, begins_itself xs, begins_longer ys xs zs q p (omega arith), p)

pub settle_keeps : (slots seat : ℕ) (me : Me (Unit {0}) View) → Allows IsPublished slots seat me 0 (λ n. n) (settles (step slots 0 0 0 none) me)
settle_keeps slots seat me s held homes at small =
    let old = held.published in
    let of = held.seats seat me.0 at in
    let t = longer_of me.0.seen me.0.also old of.seen of.also (dec_le (length me.0.seen) (length me.0.also)) in (
      sees t.0,
      keeps,
      tt,
      moves s held old (get_or s.words 0 0) seat (sees t.0) (begins_itself old) held.ends (record { seen = t.4; also = (old, refl) }),
      record { either = t.1; seen = t.2; also = t.3; alone = refl; slots = refl },
    )

pub fork_keeps : (seat : ℕ) (v : View) → Splits IsPublished seat v v v
fork_keeps seat v s held at =
    let of = held.seats seat v at in record {
      published = held.published;
      begins = held.begins;
      one_word = held.one_word;
      ends = held.ends;
      seats = of_snoc held.published (set s.views seat v) v of (of_set held.published s.views seat v of held.seats);
    }

pub merge_keeps : (seat : ℕ) (v : View) (other : ℕ) (w : View) → Joins IsPublished seat v other w (together v w) (sees [])
merge_keeps seat v other w s held at apart there =
    let xs = held.published in
    let one = held.seats seat v at in
    let two = held.seats other w (sym (set_else s.views seat other (together v w) apart) ∙ there) in
    let both : IsOf xs (together v w) = record { seen = one.seen; also = two.seen } in
    let spent : IsOf xs (sees []) = record { seen = (xs, refl); also = (xs, refl) } in record {
      published = xs;
      begins = held.begins;
      one_word = held.one_word;
      ends = held.ends;
      seats = of_set xs (set s.views seat (together v w)) other (sees []) spent (of_set xs s.views seat (together v w) both held.seats);
    }

pub opens : IsPublished (record { words = 0 ∷ []; homes = []; views = sees (nothing_yet ∷ []) ∷ [] })
opens = record {
  published = nothing_yet ∷ [];
  begins = begins_itself (nothing_yet ∷ []);
  one_word = refl;
  ends = record { before = []; whole = refl };
  seats = of_snoc (nothing_yet ∷ []) [] (sees (nothing_yet ∷ [])) (of_all (nothing_yet ∷ [])) (λ seat v at. absurd cc);
}
