-- The events of a dataset that leaves the cache: what they make of the machine's state, over devices that stay.
use Rattle.std.proofs.Common.{◌≡◌, ℕ, Bool, true, false, List, [], ◌∷◌, map, Some, refl, sym, ◌∙◌, ap, subst, arith}
use Rattle.std.specs.Prelude.{slice_get, ◌||◌, not, filter, if◌then◌else◌}
use Rattle.std.specs.List.{list_any}
use Rattle.scr_base.specs.declared.shape.DataId.{DataId}
use Rattle.scr_base.specs.Same.{same_id}
use Rattle.node_device.specs.DeviceState.{DeviceState}
use Rattle.ckpt_model.specs.Dataset.{Dataset}
use Rattle.ckpt_model.specs.Machine.{Machine, Setup, Kept, Entry, EntryMark}
use Rattle.ckpt_model.specs.Moves.{after}
use Rattle.ckpt_model.specs.Proper.{IsProper}
use Rattle.ckpt_model.specs.Questions.{is_id_of, is_entry_of}
use Rattle.ckpt_model.specs.Steps.{change_kept, drop_kept, entry_failing, entry_marked}
use Rattle.ckpt_model.proofs.ShowsLemmas.{mapped_at}
use Rattle.ckpt_model.proofs.Plays.{same_id_is}
use Rattle.ckpt_model.proofs.SameLemmas.{id-same}
use Rattle.model_proper.proofs.Lists.{thins_same, thins_self, thins_in, thins_map, thins_filter}
use Rattle.model_proper.proofs.Fair.Passes.{of_kept, of_index, thinner_proper}
use Rattle.model_proper.proofs.Kept.Held.{same_kept, same_that, held_that, held_all}
use Rattle.site_stands.specs.Members.{NoneSealed}
use Rattle.site_stands.specs.Site.{SiteStands}
use Rattle.site_stands.proofs.Changes.Nodes.{doubt_event, drop_event}
use Rattle.site_stands.proofs.Moving.Datasets.{cache_event}
use Rattle.evict_core.specs.declared.closing.Closing.{Closing}
use Rattle.evict_core.specs.declared.closing.Closing.TheVariants as closing
use Rattle.evict_core.specs.Evicting.{begins, ends}
use Rattle.evict_core.specs.Holds.{mark_of, settled_at, going_at, IsKeptAs, HasNoEntry}

-- a dataset whose gates are being closed
abbrev pub going : Closing → Kept → Kept
going why k = record k { mark = mark_of why; doubt = true }

abbrev pub doubted_by : Closing → DataId → Machine → Machine
doubted_by why which m = change_kept (going why) which m

-- ## What the events leave

-- where the index has no entry of it, it stays
no_entry : (f : Entry → Entry) (which : DataId) (es : List Entry) → list_any (is_entry_of which) es ≡ false → map (λ e. if is_entry_of which e then f e else e) es ≡ es
no_entry f which [] none = refl
no_entry f which (e ∷ es) none = pick (is_entry_of which e) none (λ rest. no_entry f which es rest)
  where
    pick : (b : Bool) → b || list_any (is_entry_of which) es ≡ false → (list_any (is_entry_of which) es ≡ false → map (λ x. if is_entry_of which x then f x else x) es ≡ es) → (if b then f e else e) ∷ map (λ x. if is_entry_of which x then f x else x) es ≡ e ∷ es
    pick true none go = absurd (cc none)
    pick false none go = ap (λ (xs : List Entry). e ∷ xs) (go none)

pub begun : (s : Setup) (m : Machine) (why : Closing) (which : DataId) → HasNoEntry why m which → after s m (begins why which) ≡ doubted_by why which m
begun s m closing.Evicting which plain = refl
begun s m closing.Failing which plain = ap (λ (es : List Entry). let n : Machine = record m { kept = map (λ k. if is_id_of which k then going closing.Failing k else k) m.kept; index = es } in n) (no_entry entry_failing which m.index plain)

pub ended : (s : Setup) (m : Machine) (why : Closing) (which : DataId) → HasNoEntry why m which → after s m (ends why which) ≡ drop_kept which m
ended s m closing.Evicting which plain = refl
ended s m closing.Failing which plain = ap (λ (es : List Entry). let n : Machine = record m { kept = filter (λ k. not (is_id_of which k)) m.kept; index = es } in n) (no_entry (entry_marked EntryMark.Failed) which m.index plain)

-- ## Both stay proper

pub going_proper : (s : Setup) (m : Machine) (why : Closing) (which : DataId) → IsProper s m → IsProper s (doubted_by why which m)
going_proper s m why which proper = thinner_proper s m (doubted_by why which m) (record {
  kept = thins_same (of_kept m.kept) (of_kept (doubted_by why which m).kept) (same_kept (λ k. if is_id_of which k then going why k else k) (same_that (going why) (λ k. refl) which) m.kept);
  index = thins_self (of_index m.index);
  run = omega arith;
  held = λ held k at. held_all s (λ x. if is_id_of which x then going why x else x) (held_that s (going why) (λ x is. record { members = is.members; homes = is.homes }) which) m.kept held k at;
}) proper

pub gone_proper : (s : Setup) (m : Machine) (which : DataId) → IsProper s m → IsProper s (drop_kept which m)
gone_proper s m which proper = thinner_proper s m (drop_kept which m) (record {
  kept = thins_map (λ k. k.dataset) m.kept (filter (λ k. not (is_id_of which k)) m.kept) (thins_filter (λ k. not (is_id_of which k)) m.kept);
  index = thins_self (of_index m.index);
  run = omega arith;
  held = λ held k at. held k (thins_in m.kept (filter (λ x. not (is_id_of which x)) m.kept) (thins_filter (λ x. not (is_id_of which x)) m.kept) k at);
}) proper

-- ## Who is kept

still_there : (g : Kept → Kept) (which w : DataId) (xs : List Kept) → ((k : Kept) → (g k).dataset ≡ k.dataset) → list_any (is_id_of w) (map (λ k. if is_id_of which k then g k else k) xs) ≡ list_any (is_id_of w) xs
still_there g which w [] same = refl
still_there g which w (x ∷ xs) same = rw (one (is_id_of which x)) (ap (λ (b : Bool). is_id_of w x || b) (still_there g which w xs same))
  where
    one : (b : Bool) → is_id_of w (if b then g x else x) ≡ is_id_of w x
    one true = ap (λ (d : Dataset). same_id d.which w) (same x)
    one false = refl

pub gone_there : (which : DataId) (xs : List Kept) → list_any (is_id_of which) (filter (λ k. not (is_id_of which k)) xs) ≡ false
gone_there which [] = refl
gone_there which (x ∷ xs) = pick (is_id_of which x) refl (gone_there which xs)
  where
    pick : (b : Bool) → is_id_of which x ≡ b → list_any (is_id_of which) (filter (λ k. not (is_id_of which k)) xs) ≡ false
        → list_any (is_id_of which) (if not b then x ∷ filter (λ k. not (is_id_of which k)) xs else filter (λ k. not (is_id_of which k)) xs) ≡ false
    pick true is rest = rest
    pick false is rest = ap (λ (b : Bool). b || list_any (is_id_of which) (filter (λ k. not (is_id_of which k)) xs)) is ∙ rest

pub going_kept : (m : Machine) (why : Closing) (d : Dataset) → IsKeptAs m d (settled_at m.places d) → IsKeptAs (doubted_by why d.which m) d (going_at why m.places d)
going_kept m why d kept = record {
  there = still_there (going why) d.which d.which m.kept (λ k. refl) ∙ kept.there;
  alone = λ i k at same. let of = mapped_at (λ x. if is_id_of d.which x then going why x else x) m.kept i k at in pick i k same of.0 of.1 (is_id_of d.which of.0) refl of.2;
}
  where
    pick : (i : ℕ) (k : Kept) → k.dataset.which ≡ d.which → (x : Kept) → slice_get m.kept i ≡ Some x → (b : Bool) → is_id_of d.which x ≡ b → k ≡ (if b then going why x else x) → k ≡ going_at why m.places d
    pick i k same x there true is e = e ∙ ap (λ (y : Kept). going why y) (kept.alone i x there (same_id_is x.dataset.which d.which is))
    pick i k same x there false is e =
        let own : x.dataset.which ≡ d.which = ap (λ (y : Kept). y.dataset.which) (sym e) ∙ same in
        absurd (let yes = subst (λ (w : DataId). same_id w d.which ≡ true) (sym own) (id-same d.which) in cc (yes, is))

-- ## Over devices that stay

pub begin_site : (s : Setup) (states : ℕ → DeviceState) (m : Machine) (why : Closing) (which : DataId) → SiteStands s states m → SiteStands s states (doubted_by why which m)
begin_site s states m why which stands = cache_event s states m (doubted_by why which m) (record { run = refl; halt = refl; mark = refl; stage = refl; index = refl }) (going_proper s m why which stands.proper)
    (doubt_event s states m (mark_of why) which stands.nodes) stands

pub end_site : (s : Setup) (states : ℕ → DeviceState) (m : Machine) (which : DataId) → NoneSealed s.shape states which → SiteStands s states m → SiteStands s states (drop_kept which m)
end_site s states m which unsealed stands = cache_event s states m (drop_kept which m) (record { run = refl; halt = refl; mark = refl; stage = refl; index = refl }) (gone_proper s m which stands.proper) (drop_event s states m which unsealed stands.nodes) stands
