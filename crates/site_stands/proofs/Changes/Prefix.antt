-- An event changes the state, and the prefix stays.
use Rattle.std.proofs.Common.{◌≡◌, ◌⊎◌, inl, inr, ◌<◌, ◌+◌, ℕ, List, Option, Some, sym, ◌∙◌, ap, subst}
use Rattle.std.specs.Prelude.{IsTrue, slice_get, codes}
use Rattle.scr_base.specs.Halt.{Halt}
use Rattle.scr_base.specs.declared.shape.DataId.{DataId}
use Rattle.node_device.specs.DeviceState.{DeviceState}
use Rattle.ckpt_model.specs.Machine.{Machine, Setup, Kept, Entry, Pending}
use Rattle.ckpt_model.specs.Proper.{IsProper}
use Rattle.ckpt_model.specs.Questions.{is_id_of}
use Rattle.ckpt_model.specs.Stops.{pending_of, halt_left, mark_left}
use Rattle.site_stands.specs.Cells.{prefix_place}
use Rattle.site_stands.specs.Events.{HasSamePairs}
use Rattle.site_stands.specs.Prefix.{EntryHolds, OfEntry, IsIndexed, PairsStand}
use Rattle.site_stands.specs.Site.{PrefixStands, SiteStands}
use Rattle.site_stands.proofs.Changes.Nodes.{nodes_event}

-- each pair still tells its value
pairs_kept : (disk : DeviceState) (m new : Machine) → HasSamePairs m new → PairsStand disk m → PairsStand disk new
pairs_kept disk m new keeps stands = record {
  run = λ a b may_a may_b. let r = stands.run a b may_a may_b in record { stored = r.stored; may = keeps.stores r.stored r.may; is = r.is ∙ ap (λ (n : ℕ). Rattle.std.specs.Prelude.if◌then◌else◌ r.stored (n + 1) n) (sym keeps.run) };
  halt = λ a b may_a may_b. let h = stands.halt a b may_a may_b in (h.0, h.1 ∙ ap (λ (p : Pending). halt_left p h.0 m.halt) (sym keeps.pending) ∙ ap (λ (x : Halt). halt_left (pending_of new.stage) h.0 x) (sym keeps.halt));
  mark = λ a b may_a may_b. let k = stands.mark a b may_a may_b in (k.0, k.1 ∙ ap (λ (p : Pending). mark_left p k.0 m.mark) (sym keeps.pending) ∙ ap (λ (x : Option DataId). mark_left (pending_of new.stage) k.0 x) (sym keeps.mark));
}

-- each entry then holds, or was one; each index record that reads is of one still
pub prefix_event : (s : Setup) (disk : DeviceState) (m new : Machine) → HasSamePairs m new
    → ((i : ℕ) (e : Entry) → slice_get new.index i ≡ Some e → EntryHolds s.shape disk (pending_of m.stage) e ⊎ ((j : ℕ) × (slice_get m.index j ≡ Some e)))
    → ((which : DataId) → IsIndexed disk new which ⊎ (OfEntry m which → OfEntry new which))
    → PrefixStands s disk m → PrefixStands s disk new
prefix_event s disk m new keeps from of stands = record {
  entries = λ i e at. subst (λ (p : Pending). EntryHolds s.shape disk p e) (sym keeps.pending) (elim (from i e at) [ inl anew ↦ anew | inr was ↦ stands.entries was.0 e was.1 ]);
  others = λ which. elim (of which) [ inl anew ↦ anew | inr still ↦ (λ o may reads opens. still (stands.others which o may reads opens)) ];
  later = λ which later. stands.later which (subst (λ (n : ℕ). n < which.run) keeps.run later);
  pairs = pairs_kept disk m new keeps stands.pairs;
}

-- an event that leaves the datasets in cache, the index and the pairs: calls, replies, answers and a rank's own steps
pub site_same : (s : Setup) (states : ℕ → DeviceState) (m new : Machine) → new.kept ≡ m.kept → new.index ≡ m.index → HasSamePairs m new → SiteStands s states m → SiteStands s states new
site_same s states m new kept index keeps stands = record {
  proper = record {
    apart = same_sets stands.proper.apart;
    of_site = same_of stands.proper.of_site;
    kept_rise = subst (λ (ks : List Kept). IsTrue (Rattle.ckpt_model.specs.Proper.ids_rise (Rattle.std.specs.Prelude.map (λ k. k.dataset) ks))) (sym kept) stands.proper.kept_rise;
    index_rise = subst (λ (es : List Entry). IsTrue (Rattle.ckpt_model.specs.Proper.ids_rise (Rattle.std.specs.Prelude.map (λ e. e.dataset) es))) (sym index) stands.proper.index_rise;
    members = subst (λ (ks : List Kept). IsTrue (Rattle.std.specs.List.list_all (Rattle.ckpt_model.specs.Proper.has_members s) ks)) (sym kept) stands.proper.members;
    homes = subst (λ (ks : List Kept). IsTrue (Rattle.std.specs.List.list_all (Rattle.ckpt_model.specs.Proper.has_homes s) ks)) (sym kept) stands.proper.homes;
  };
  nodes = nodes_event s states m new keeps.run (λ i k at. inr (i, subst (λ (ks : List Kept). slice_get ks i ≡ Some k) kept at)) (λ which not_there. inr (ap (λ (ks : List Kept). Rattle.std.specs.List.list_any (is_id_of which) ks) (sym kept) ∙ not_there)) stands.nodes;
  prefix = prefix_event s (states prefix_place) m new keeps (λ i e at. inr (i, subst (λ (es : List Entry). slice_get es i ≡ Some e) index at)) (λ which. inr (λ of. record { entry = of.entry; at = record { place = of.at.place; entry = subst (λ (es : List Entry). slice_get es of.at.place ≡ Some of.entry) (sym index) of.at.entry }; same = of.same })) stands.prefix;
}
  where
    same_all : Rattle.ckpt_model.specs.Proper.datasets new ≡ Rattle.ckpt_model.specs.Proper.datasets m
    same_all = ap (λ (ks : List Kept). Rattle.std.specs.Prelude.◌++◌ (Rattle.std.specs.Prelude.map (λ k. k.dataset) ks) (Rattle.std.specs.Prelude.map (λ e. e.dataset) new.index)) kept ∙ ap (λ (es : List Entry). Rattle.std.specs.Prelude.◌++◌ (Rattle.std.specs.Prelude.map (λ k. k.dataset) m.kept) (Rattle.std.specs.Prelude.map (λ e. e.dataset) es)) index

    same_sets : Rattle.std.specs.List.AllByRecursion (λ d. Rattle.std.specs.List.AllByRecursion (Rattle.ckpt_model.specs.Proper.AreApart d) (Rattle.ckpt_model.specs.Proper.datasets m)) (Rattle.ckpt_model.specs.Proper.datasets m) → Rattle.std.specs.List.AllByRecursion (λ d. Rattle.std.specs.List.AllByRecursion (Rattle.ckpt_model.specs.Proper.AreApart d) (Rattle.ckpt_model.specs.Proper.datasets new)) (Rattle.ckpt_model.specs.Proper.datasets new)
    same_sets apart = subst (λ (ds : List Rattle.ckpt_model.specs.Dataset.Dataset). Rattle.std.specs.List.AllByRecursion (λ d. Rattle.std.specs.List.AllByRecursion (Rattle.ckpt_model.specs.Proper.AreApart d) ds) ds) (sym same_all) apart

    same_of : IsTrue (Rattle.std.specs.List.list_all (Rattle.ckpt_model.specs.Proper.is_of_site s m.run) (Rattle.ckpt_model.specs.Proper.datasets m)) → IsTrue (Rattle.std.specs.List.list_all (Rattle.ckpt_model.specs.Proper.is_of_site s new.run) (Rattle.ckpt_model.specs.Proper.datasets new))
    same_of all = subst (λ (n : ℕ). IsTrue (Rattle.std.specs.List.list_all (Rattle.ckpt_model.specs.Proper.is_of_site s n) (Rattle.ckpt_model.specs.Proper.datasets new))) (sym keeps.run) (subst (λ (ds : List Rattle.ckpt_model.specs.Dataset.Dataset). IsTrue (Rattle.std.specs.List.list_all (Rattle.ckpt_model.specs.Proper.is_of_site s m.run) ds)) (sym same_all) all)
