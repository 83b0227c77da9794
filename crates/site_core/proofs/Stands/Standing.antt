-- Devices that stand for a state as a run begins from it stand for it in the words of all runs, where no index record reads and there is no mark.
use Rattle.std.proofs.Common.{◌≡◌, ◌⊎◌, inl, inr, ◌<◌, ◌≤◌, ℕ, zero, suc, true, List, [], ◌∷◌, map, Option, Some, None, refl, sym, ◌∙◌, ap, subst, arith}
use Rattle.std.specs.Prelude.{slice_get, slice_index, option_map, ◌/◌, codes}
use Rattle.std.proofs.lemmas.List.{get_or_past}
use Rattle.std.proofs.lemmas.List.FromFn.{length-range_with_len}
use Rattle.scr_base.specs.Sets.{numbers_below}
use Rattle.scr_base.specs.declared.shape.DataId.{DataId}
use Rattle.scr_base.specs.declared.shape.Shape.{Shape}
use Rattle.node_device.specs.File.{IsAtRest, MayLeave, byte_at}
use Rattle.node_device.specs.DeviceState.{DeviceState}
use Rattle.gated_record.specs.Record.{IsOpen, HasBody}
use Rattle.gated_record.specs.Pair.{pair_value}
use Rattle.gate_outcomes.specs.Gates.{StaysOpen}
use Rattle.member_store.specs.Names.{record_name}
use Rattle.member_store.specs.Members.{member_body}
use Rattle.ckpt_model.specs.Machine.{Machine, Setup, Entry}
use Rattle.ckpt_model.specs.Proper.{IsProper}
use Rattle.site_state.specs.declared.cache.Cached.{Cached}
use Rattle.site_state.specs.declared.cache.Manifest.{Manifest}
use Rattle.site_core.specs.Stored.{cells_of, place_of_rank, file_name, FileStands, IsOfSite}
use Rattle.site_core.specs.Left.{LeavesWhole, LeavesKept, NoLater}
use Rattle.site_core.specs.Holds.{CanBegin, IsOneOf, settled_set}
use Rattle.site_state.proofs.Shapes.{few_nodes}
use Rattle.site_core.proofs.Puts.{place_is}
use Rattle.site_stands.specs.Cells.{prefix_place, physical_nodes, IsQuiet}
use Rattle.site_stands.specs.Entry.{ReadsEntry, entry_name, mark_in}
use Rattle.site_stands.specs.Described.{is_single}
use Rattle.site_stands.specs.View.{Reads, Names}
use Rattle.site_stands.specs.Site.{Stands, NodesStand}
use Rattle.site_stands.proofs.Lists.{physical_low, below_or_not}
use Rattle.site_stands.proofs.Safety.Nodes.{nodes_show}
use Rattle.site_stands.proofs.Safety.AtRest.{at_rest}
use Rattle.site_stands.proofs.Safety.Index.{test_is}
use Rattle.site_core.proofs.Stands.Cache.{home_is, home_below, cache_stands}
use Rattle.site_core.proofs.Stands.Prefix.{same_run}

-- ## What is known of the cache before a run

-- a dataset as a run leaves it
record IsSettledSet (sets : List Manifest) (i : ℕ) (x : Cached) : Type 0 where
  pub set : Manifest
  pub at : slice_get sets i ≡ Some set
  pub is : settled_set set ≡ x

some_same : {X : Type 0} (x y : X) → Some x ≡ Some y → x ≡ y
some_same x y e = cc

set_at : (sets : List Manifest) (i : ℕ) (x : Cached) → slice_get (map settled_set sets) i ≡ Some x → IsSettledSet sets i x
set_at [] i x at = absurd (cc at)
set_at (y ∷ ys) zero x at = record { set = y; at = refl; is = some_same (settled_set y) x at }
set_at (y ∷ ys) (suc i) x at = let s = set_at ys i x at in record { set = s.set; at = s.at; is = s.is }

set_there : (sets : List Manifest) (i : ℕ) (y : Manifest) → slice_get sets i ≡ Some y → slice_get (map settled_set sets) i ≡ Some (settled_set y)
set_there [] i y at = absurd (cc at)
set_there (z ∷ zs) zero y at = ap (λ (o : Option Manifest). option_map settled_set o) at
set_there (z ∷ zs) (suc i) y at = set_there zs i y at

-- no place is the prefix
low_place : (shape : Shape) (k : ℕ) → slice_index (numbers_below shape.nodes) k < 32
low_place shape k = pick (below_or_not k shape.nodes) where
  pick : (k < shape.nodes) ⊎ (shape.nodes ≤ k) → slice_index (numbers_below shape.nodes) k < 32
  pick (inl lt) = omega (arith, place_is shape (numbers_below shape.nodes) k refl lt, lt, few_nodes shape)
  pick (inr le) = omega (arith, get_or_past (numbers_below shape.nodes) k 0 (omega (arith, le, length-range_with_len 0 shape.nodes)))

module _ (s : Setup) (states : ℕ → DeviceState) (m : Machine) (stands : CanBegin s states m) where
  abbrev places : List ℕ
  places = numbers_below s.shape.nodes

  rest : (p : ℕ) (q : List ℕ) → p < 32 → IsAtRest ((states p).file q)
  rest p q low = stands.quiet p q (omega (arith, low))

  home_low : (node p : ℕ) → slice_get places node ≡ Some p → p < 32
  home_low node p home = omega (arith, home_is s.shape.nodes node p home, home_below s.shape.nodes node p home, few_nodes s.shape)

  whole : (x : Manifest) → IsOneOf stands.sets x → LeavesWhole places s.shape.ranks states x
  whole x one = record {
    records = λ node p home.
        let f = (states p).file (record_name x.desc.which node) in
        let is = stands.store.records x one node p home in
        record {
          is_open = at_rest (λ o. IsOpen o 0) f (rest p (record_name x.desc.which node) (home_low node p home)) (test_is f.now 0 is.whole_is);
          has = at_rest (λ o. HasBody o (member_body x.desc node x.files)) f (rest p (record_name x.desc.which node) (home_low node p home)) is.body;
        };
    files = λ rank j row at.
        let p = place_of_rank places s.shape.ranks rank in
        let q = file_name x.desc.which s.shape.ranks rank j in
        at_rest (λ o. FileStands o row × (o ≡ cells_of states p q)) ((states p).file q) (rest p q (low_place s.shape (rank / s.shape.ranks))) (stands.store.files x one rank j row at, refl);
  }

  sealed : (x : Manifest) → IsOneOf stands.sets x → (node p : ℕ) → slice_get places node ≡ Some p → StaysOpen ((states p).file (record_name x.desc.which node)) 1
  sealed x one node p home =
      let f = (states p).file (record_name x.desc.which node) in
      at_rest (λ o. IsOpen o 1) f (rest p (record_name x.desc.which node) (home_low node p home)) (test_is f.now 1 (stands.store.records x one node p home).sealed_is)

  not_open : (o : Option (List ℕ)) → o ≡ None → IsOpen o 1 → ⊥
  not_open o none opens = absurd (omega (arith, opens, ap (λ (x : Option (List ℕ)). byte_at x 1) none))

  -- the datasets in cache are left so by every stop
  pub kept_left : LeavesKept s places states m
  kept_left = record {
    sets = map settled_set stands.sets;
    kept = stands.kept;
    places_are = refl;
    of_site = λ i x at. let t = set_at stands.sets i x at in subst (λ (y : Cached). IsOfSite s.shape m.run y.manifest) t.is (stands.store.sets_are t.set (i, t.at));
    rise = stands.store.rise;
    index = stands.index;
    cache = record {
      whole = λ i x at. let t = set_at stands.sets i x at in subst (λ (y : Cached). LeavesWhole places s.shape.ranks states y.manifest) t.is (whole t.set (i, t.at));
      sealed = λ i x at sure node p home. let t = set_at stands.sets i x at in subst (λ (y : Cached). StaysOpen ((states p).file (record_name y.manifest.desc.which node)) 1) t.is (sealed t.set (i, t.at) node p home);
      away = λ i x at p node low place off. at_rest (λ o. o ≡ None) ((states p).file (record_name x.manifest.desc.which node)) (rest p (record_name x.manifest.desc.which node) low) (stands.store.others p x.manifest.desc.which node low place (λ y one same home. off home));
      others = λ p which node low place none. at_rest (λ o. IsOpen o 1 → ⊥) ((states p).file (record_name which node)) (rest p (record_name which node) low)
          (not_open (cells_of states p (record_name which node)) (stands.store.others p which node low place (λ y one same home. none one.0 (settled_set y) (set_there stands.sets one.0 y one.1) same)));
    };
  }

  -- and no record of a later run is left
  pub later_left : NoLater states m.run
  later_left p which node low place later = at_rest (λ o. o ≡ None) ((states p).file (record_name which node)) (rest p (record_name which node) low)
      (stands.store.others p which node low place (λ y one same home. absurd (omega (arith, later, (stands.store.sets_are y one).run_is, ap (λ (w : DataId). w.run) same))))

-- ## The state that they stand for

module _ (s : Setup) (states : ℕ → DeviceState) (m : Machine) (law : (p : ℕ) (q : List ℕ) → MayLeave ((states p).file q) ((states p).file q).now) (stands : CanBegin s states m) (proper : IsProper s m)
    (no_entry : (which : DataId) → ReadsEntry (cells_of states prefix_place (entry_name which)) which → ⊥) (no_mark : mark_in (pair_value (codes "cur") (cells_of states prefix_place)) ≡ None)
    (plain : (x : Manifest) → IsOneOf stands.sets x → is_single x.desc.scheme ≡ true) where
  nodes : NodesStand s states m
  unfolding kept_left
  nodes = cache_stands s states m (kept_left s states m stands) law (λ i x at. let t = set_at stands.sets i x at in subst (λ (y : Cached). is_single y.manifest.desc.scheme ≡ true) t.is (plain t.set (i, t.at))) (later_left s states m stands)

  quiet : IsQuiet s.shape states
  quiet = record { nodes = λ p q low. stands.quiet p q (omega (arith, low, physical_low s.shape)); prefix = λ q. stands.quiet prefix_place q (omega arith) }

  no_later : (run : ℕ) → Names s.shape (cells_of states) run → run ≤ m.run
  no_later run (which, same, there) = pick (below_or_not m.run which.run) there
    where
      pick : (m.run < which.run) ⊎ (which.run ≤ m.run) → ((p : ℕ) × (node : ℕ) × (p < physical_nodes s.shape) × Reads s.shape (cells_of states p (record_name which node)) which node) ⊎ ReadsEntry (cells_of states prefix_place (entry_name which)) which → run ≤ m.run
      pick (inr le) it = omega (arith, le, same)
      pick (inl later) (inl (p, node, low, reads)) = absurd (nodes.later which later p node low (cells_of states p (record_name which node)) (law p (record_name which node)) reads)
      pick (inl later) (inr entry) = absurd (no_entry which entry)

  -- The devices stand for the state.
  pub stands_for_stands : Stands s states m
  stands_for_stands = record {
    quiet = quiet;
    shows = record {
      proper = proper;
      members = nodes_show s states (cells_of states) (λ p q le. law p q) m proper nodes;
      prefix = record {
        present = λ e at. absurd (none e at.place (ap (λ (es : List Entry). slice_get es at.place) (sym stands.index) ∙ at.entry));
        exact = λ which failed lists. absurd (no_entry which lists.reads);
        run = sym (same_run (pair_value (codes "run") (cells_of states prefix_place))) ∙ stands.store.stored;
        halt = sym stands.halt;
        mark = no_mark ∙ sym stands.mark_is;
        no_later = no_later;
      };
    };
  }
    where
      none : (e : Entry) (i : ℕ) → slice_get [] i ≡ Some e → ⊥
      none e i at = cc at

-- Over what a run can begin, the devices stand for the state, where that is proper.
pub begins_stand : (s : Setup) (states : ℕ → DeviceState) (m : Machine) → ((p : ℕ) (q : List ℕ) → MayLeave ((states p).file q) ((states p).file q).now) → CanBegin s states m → IsProper s m → Stands s states m
begins_stand s states m law h proper = stands_for_stands s states m law h proper h.unindexed.entries h.unindexed.unmarked (λ x one. (h.store.sets_are x one).single)
