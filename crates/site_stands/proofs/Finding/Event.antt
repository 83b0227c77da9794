-- The event found.
use Rattle.std.proofs.Common.{◌≡◌, ◌≢◌, ◌<◌, ℕ, Bool, true, false, List, [], ◌∷◌, map, Option, Some, refl, sym, ◌∙◌, ap, subst, arith}
use Rattle.std.specs.Prelude.{IsTrue, ◌||◌, ◌&&◌, is_some, unwrap_or, slice_get, nat_lt, fold, if◌then◌else◌}
use Rattle.std.specs.List.{list_any}
use Rattle.scr_base.specs.declared.shape.DataId.{DataId}
use Rattle.scr_base.specs.Sets.{is_among}
use Rattle.node_device.specs.File.{MayLeave}
use Rattle.node_device.specs.DeviceState.{DeviceState}
use Rattle.ckpt_model.specs.declared.event.FoundRow.{FoundRow}
use Rattle.ckpt_model.specs.declared.event.EntryRow.{EntryRow}
use Rattle.ckpt_model.specs.Machine.{Machine, Setup, Kept}
use Rattle.ckpt_model.specs.Loss.{kept_without_all, kept_found, looked, kept_taken_up}
use Rattle.ckpt_model.specs.Proper.{IsProper}
use Rattle.ckpt_model.specs.Questions.{is_kept, is_id_of}
use Rattle.ckpt_model.specs.Steps.{outside, kept_after_look, after_found, after_loss, may_list, are_rows_of, is_begun}
use Rattle.ckpt_model.proofs.ShowsLemmas.{mapped_at}
use Rattle.site_stands.specs.Cells.{cells_of, physical_nodes}
use Rattle.site_stands.specs.View.{Opens, Seals}
use Rattle.site_stands.specs.Members.{KeptStands, NoneSealed, IsBare}
use Rattle.site_stands.specs.Site.{NodesStand}
use Rattle.site_stands.specs.Frame.{LeavesNoMore}
use Rattle.site_stands.specs.Look.{IsUntouched, IsList}
use Rattle.site_stands.proofs.Lists.{kept_at, any_there}
use Rattle.site_stands.proofs.Safety.Nodes.{has_all}
use Rattle.site_stands.proofs.Rise.{proper_rises}
use Rattle.site_stands.proofs.Losing.Node.{nodes_off, proper_off}
use Rattle.site_stands.proofs.Finding.Kept.{unseen_unsealed, unseen_may_leave, seen_may_find, found_stands, taken_stands, taken_dataset}
use Rattle.site_stands.proofs.Finding.Rows.{MayLook, LooksAs, may_look}

module _ (s : Setup) (states : ℕ → DeviceState) (law : (p : ℕ) (q : List ℕ) → MayLeave ((states p).file q) ((states p).file q).now) (m : Machine) (proper : IsProper s m) (stands : NodesStand s states m)
    (untouched : (k : Kept) (i : ℕ) → slice_get m.kept i ≡ Some k → IsUntouched s.shape states k.dataset.which) (rows : List FoundRow) (list : IsList s.shape (cells_of states) rows) where
  -- what is shown sealed is kept
  sealed_kept : (p : ℕ) (which : DataId) (node : ℕ) → Seals s.shape (cells_of states) p which node → (k : Kept) × (i : ℕ) × (slice_get m.kept i ≡ Some k) × (which ≡ k.dataset.which)
  sealed_kept p which node seals = split (is_kept m which) refl
    where
      split : (b : Bool) → is_kept m which ≡ b → (k : Kept) × (i : ℕ) × (slice_get m.kept i ≡ Some k) × (which ≡ k.dataset.which)
      split true is = let k = kept_at which m.kept is in (k.0, k.1, k.2, sym k.3)
      split false is = absurd (stands.others which is p node seals.opens.place (cells_of states p (Rattle.member_store.specs.Names.record_name which node)) (law p (Rattle.member_store.specs.Names.record_name which node)) seals.opens.reads seals.opens.whole seals.sealed)

  -- the list may be looked up
  may_be_looked : MayLook rows m.kept
  may_be_looked = record {
    rows_rise = list.rise;
    kept_rise = proper_rises s m proper;
    of_kept = λ row l at. let seen = (list.shown row l at).2 in sealed_kept seen.0 row.which seen.1 seen.2;
    find = λ row l k i at there same. let shown = list.shown row l at in seen_may_find s.shape states law k (stands.kept i k there) row same (has_all s m proper i k there) shown.1 shown.0;
    leave = λ k i there none. unseen_may_leave s.shape states law k (stands.kept i k there) (λ p node seals. let row = list.whole p k.dataset.which node seals in none row.0 row.1 row.2 row.3);
  }

  pub look_some : (out : List Kept) × (looked rows m.kept ≡ Some out) × LooksAs rows m.kept out
  look_some = may_look rows m.kept may_be_looked

  -- what the look leaves, taken up, is what the devices hold
  pub look_stands : (out : List Kept) → LooksAs rows m.kept out → (new : Machine) → new.kept ≡ map (kept_taken_up m.places) out → new.run ≡ m.run → NodesStand s states new
  look_stands out looks new is run_is = record {
    kept = λ i x at.
        let taken = mapped_at (kept_taken_up m.places) out i x (subst (λ (xs : List Kept). slice_get xs i ≡ Some x) is at) in
        let of = looks.from taken.0 i taken.1 in
        let shown = list.shown of.0 of.1 of.4 in
        subst (λ (y : Kept). KeptStands s.shape states y) (sym taken.2) (taken_stands s.shape states m.places taken.0 (subst (λ (y : Kept). KeptStands s.shape states y) (sym of.7)
        (found_stands s.shape states law of.2 (stands.kept of.3 of.2 of.5) (untouched of.2 of.3 of.5) of.0.lost (λ node p lost opens. shown.0.gone node p lost (subst (λ (w : DataId). Opens s.shape (cells_of states) p w node) (sym of.6) opens)))));
    others = λ which not. split which (sym (any_taken which out) ∙ ap (λ (xs : List Kept). list_any (is_id_of which) xs) (sym is) ∙ not) (is_kept m which) refl;
    later = λ which later. stands.later which (subst (λ (n : ℕ). n < which.run) run_is later);
  }
    where
      any_taken : (which : DataId) (xs : List Kept) → list_any (is_id_of which) (map (kept_taken_up m.places) xs) ≡ list_any (is_id_of which) xs
      any_taken which [] = refl
      any_taken which (x ∷ xs) = rw (taken_dataset m.places x) (ap (λ (b : Bool). is_id_of which x || b) (any_taken which xs))

      split : (which : DataId) → list_any (is_id_of which) out ≡ false → (b : Bool) → is_kept m which ≡ b → NoneSealed s.shape states which
      split which not false not_kept = stands.others which not_kept
      split which not true there =
          let k = kept_at which m.kept there in
          subst (λ (w : DataId). NoneSealed s.shape states w) k.3 (unseen_unsealed s.shape states k.0.dataset.which (untouched k.0 k.1 k.2) (λ p node seals.
          let row = list.whole p k.0.dataset.which node seals in
          let listed = looks.onto row.0 row.1 k.0 k.1 row.2 k.2 row.3 in
          let is_there : list_any (is_id_of k.0.dataset.which) out ≡ true = any_there (kept_found row.0.lost k.0) out listed.0 listed.1 in
          let gone : list_any (is_id_of k.0.dataset.which) out ≡ false = subst (λ (w : DataId). list_any (is_id_of w) out ≡ false) (sym k.3) not in
          absurd (cc (is_there, gone))))

-- ## The outside nodes are lost first

same_states : (states : ℕ → DeviceState) (s : Setup) (lost p : ℕ) (q : List ℕ) → p < physical_nodes s.shape → p ≢ lost → LeavesNoMore ((states p).file q) ((states p).file q)
same_states states s lost p q low other o may = may

-- the state after all outside nodes are lost
pub outside_off : (s : Setup) (states : ℕ → DeviceState) (ps : List ℕ) (m : Machine) → ((p : ℕ) → IsTrue (is_among p ps) → IsBare s.shape (states p)) → IsProper s m → NodesStand s states m
    → IsProper s (fold after_loss m ps) × NodesStand s states (fold after_loss m ps)
outside_off s states [] m bare proper stands = (proper, stands)
outside_off s states (p ∷ ps) m bare proper stands =
    outside_off s states ps (after_loss m p) (λ q is. bare q (later q (Rattle.std.specs.Prelude.◌==◌ p q) is)) (proper_off s m p proper) (nodes_off s states states m p (bare p (first p)) (λ x q low other. same_states states s p x q low other) stands)
  where
    first : (x : ℕ) → IsTrue (is_among x (x ∷ ps))
    first x = here (Rattle.std.specs.Prelude.◌==◌ x x) (grind (arith, Rattle.std.proofs.lemmas.Bool.Decides.nat_tests))
      where
        here : (b : Bool) → IsTrue b → IsTrue (b || is_among x ps)
        here true is = refl
        here false is = absurd (cc is)

    later : (q : ℕ) (b : Bool) → IsTrue (is_among q ps) → IsTrue (b || is_among q ps)
    later q true is = refl
    later q false is = is

kept_off : (ps : List ℕ) (m : Machine) → (fold after_loss m ps).kept ≡ map (kept_without_all ps) m.kept
kept_off [] m = sym (Rattle.std.proofs.lemmas.List.map-id m.kept)
kept_off (p ∷ ps) m = kept_off ps (after_loss m p) ∙ twice m.kept
  where
    twice : (ks : List Kept) → map (kept_without_all ps) (map (Rattle.ckpt_model.specs.Loss.kept_without p) ks) ≡ map (kept_without_all (p ∷ ps)) ks
    twice [] = refl
    twice (k ∷ ks) = ap (λ (rest : List Kept). kept_without_all ps (Rattle.ckpt_model.specs.Loss.kept_without p k) ∷ rest) (twice ks)

rest_off : (ps : List ℕ) (m : Machine) → ((fold after_loss m ps).run ≡ m.run) × ((fold after_loss m ps).places ≡ m.places)
rest_off [] m = (refl, refl)
rest_off (p ∷ ps) m = rest_off ps (after_loss m p)

same_sets : (ps : List ℕ) (m : Machine) (k : Kept) (i : ℕ) → slice_get (fold after_loss m ps).kept i ≡ Some k → (o : Kept) × (slice_get m.kept i ≡ Some o) × (k.dataset ≡ o.dataset)
same_sets [] m k i at = (k, at, refl)
same_sets (p ∷ ps) m k i at =
    let rest = same_sets ps (after_loss m p) k i at in
    let one = mapped_at (Rattle.ckpt_model.specs.Loss.kept_without p) m.kept i rest.0 rest.1 in
    (one.0, one.1, rest.2 ∙ ap (λ (x : Kept). x.dataset) one.2)

-- Where the outside nodes are bare and the records of the kept datasets at rest, the list that is made of what reads give is one that the
-- machine may find, and the devices stand for the state after it.
pub found_event : (s : Setup) (states : ℕ → DeviceState) (m : Machine) (rows : List FoundRow) (entries : List EntryRow) → ((p : ℕ) (q : List ℕ) → MayLeave ((states p).file q) ((states p).file q).now)
    → ((p : ℕ) → IsTrue (is_among p (outside s m)) → IsBare s.shape (states p)) → IsProper s m → NodesStand s states m
    → ((k : Kept) (i : ℕ) → slice_get m.kept i ≡ Some k → IsUntouched s.shape states k.dataset.which) → IsList s.shape (cells_of states) rows → IsTrue (is_begun m.stage) → IsTrue (are_rows_of entries m.index)
    → IsTrue (may_list s m rows entries) × NodesStand s states (after_found s m rows)
found_event s states m rows entries law bare proper stands untouched list begun of_index =
    let ps = outside s m in
    let off = outside_off s states ps m bare proper stands in
    let n = fold after_loss m ps in
    let calm : (k : Kept) (i : ℕ) → slice_get (fold after_loss m ps).kept i ≡ Some k → IsUntouched s.shape states k.dataset.which = λ k i at. let o = same_sets ps m k i at in subst (λ (w : DataId). IsUntouched s.shape states w) (ap (λ (d : Rattle.ckpt_model.specs.Dataset.Dataset). d.which) (sym o.2)) (untouched o.0 i o.1) in
    let look = look_some s states law n off.0 off.1 calm rows list in
    let is : kept_after_look s m rows ≡ Some look.0 = ap (looked rows) (sym (kept_off ps m)) ∙ look.1 in
    let kept : (after_found s m rows).kept ≡ map (kept_taken_up n.places) look.0 = ap (λ (o : Option (List Kept)). map (kept_taken_up m.places) (unwrap_or o [])) is ∙ ap (λ (places : List ℕ). map (kept_taken_up places) look.0) (sym (rest_off ps m).1) in
    (three _ _ _ begun (subst (λ (o : Option (List Kept)). IsTrue (is_some o)) (sym is) refl) of_index, look_stands s states law n off.0 off.1 calm rows list look.0 look.2 (after_found s m rows) kept (sym (rest_off ps m).0))
  where
    three : (a b c : Bool) → IsTrue a → IsTrue b → IsTrue c → IsTrue (a && b && c)
    three true true true x y z = refl
    three true true false x y z = absurd (cc z)
    three true false c x y z = absurd (cc y)
    three false b c x y z = absurd (cc x)
