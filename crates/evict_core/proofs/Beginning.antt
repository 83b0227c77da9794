-- Where a dataset begins to leave, and what is left once it has left.
use Rattle.std.proofs.Common.{◌≡◌, ◌<◌, inl, ℕ, zero, suc, Bool, true, false, List, [], ◌∷◌, length, Some, refl, sym, ◌∙◌, ap, subst, arith}
use Rattle.std.specs.Prelude.{IsTrue, slice_get, ◌&&◌, ◌||◌}
use Rattle.std.specs.List.{list_any}
use Rattle.scr_base.specs.declared.shape.DataId.{DataId}
use Rattle.node_device.specs.DeviceState.{DeviceState}
use Rattle.gated_record.specs.Record.{HasShutGates}
use Rattle.member_store.specs.Names.{record_name}
use Rattle.ckpt_model.specs.Dataset.{Dataset}
use Rattle.ckpt_model.specs.Machine.{Machine, Setup, Kept, is_evicting, is_failing}
use Rattle.ckpt_model.specs.Moves.{may}
use Rattle.ckpt_model.specs.Proper.{IsProper}
use Rattle.ckpt_model.specs.Questions.{is_kept, is_kept_and, is_id_of, is_running}
use Rattle.ckpt_model.proofs.SameLemmas.{id-same}
use Rattle.site_stands.specs.Site.{SiteStands}
use Rattle.site_stands.proofs.Lists.{any_there, kept_at}
use Rattle.site_stands.proofs.Moving.Files.{nothing_shut}
use Rattle.site_stands.proofs.Rise.{proper_alone}
use Rattle.evict_core.specs.declared.closing.Closing.{Closing}
use Rattle.evict_core.specs.declared.closing.Closing.TheVariants as closing
use Rattle.evict_core.specs.declared.set.EvictSet.{EvictSet}
use Rattle.evict_core.specs.Evicting.{closing_from, leaving_from, ends}
use Rattle.evict_core.specs.Holds.{IsKeptAs, IsOutOfCache, settled_at, going_at, ShutTo, EvictHolds}

pub settled_begins : (s : Setup) (states : ℕ → DeviceState) (m : Machine) (d : Dataset) (base : EvictSet) (why : Closing) (place : ℕ) → IsProper s m → slice_get m.kept place ≡ Some (settled_at m.places d) → EvictHolds s states m d (closing_from base why)
settled_begins s states m d base why place proper at = record {
  there = any_there (settled_at m.places d) m.kept place at;
  alone = λ i k there same. proper_alone s m proper (settled_at m.places d) k place i at there same;
}

pub dropped_begins : (s : Setup) (states : ℕ → DeviceState) (m : Machine) (d : Dataset) (base : EvictSet) → SiteStands s states m → is_kept m d.which ≡ false → ShutTo states m.places d.which (length m.places) → EvictHolds s states m d (leaving_from base)
dropped_begins s states m d base stands gone shut = (
  record { gone = gone; unsealed = stands.nodes.others d.which gone; shut = shut; cleared = λ i p lt at. absurd (omega (arith, lt)) },
  λ p at. tt,
)

-- a kept dataset that passes
passes_there : (t : Kept → Bool) (which : DataId) (k : Kept) (xs : List Kept) (i : ℕ) → slice_get xs i ≡ Some k → k.dataset.which ≡ which → t k ≡ true → list_any (λ x. is_id_of which x && t x) xs ≡ true
passes_there t which k [] i at own is = absurd (cc at)
passes_there t which k (x ∷ xs) zero at own is = first (is_id_of which x && t x) (let same : x ≡ k = cc at in subst (λ (y : Kept). is_id_of which y && t y ≡ true) (sym same) here)
  where
    here : is_id_of which k && t k ≡ true
    here = let id : is_id_of which k ≡ true = subst (λ (w : DataId). is_id_of w k ≡ true) own (id-same k.dataset.which) in ap (λ (b : Bool). b && t k) id ∙ is

    first : (b : Bool) → b ≡ true → b || list_any (λ y. is_id_of which y && t y) xs ≡ true
    first true e = refl
    first false e = absurd (cc e)
passes_there t which k (x ∷ xs) (suc i) at own is = behind (is_id_of which x && t x) (passes_there t which k xs i at own is)
  where
    behind : (b : Bool) → list_any (λ y. is_id_of which y && t y) xs ≡ true → b || list_any (λ y. is_id_of which y && t y) xs ≡ true
    behind true rest = refl
    behind false rest = rest

pub ends_may : (s : Setup) (m : Machine) (d : Dataset) (why : Closing) → is_running m.stage ≡ true → IsKeptAs m d (going_at why m.places d) → IsTrue (may s m (ends why d.which))
ends_may s m d why running kept = pick why kept
  where
    both : (a b : Bool) → a ≡ true → b ≡ true → IsTrue (a && b)
    both true true x y = refl
    both true false x y = absurd (cc y)
    both false b x y = absurd (cc x)

    is_there : (t : Kept → Bool) (stand : Kept) → IsKeptAs m d stand → t stand ≡ true → is_kept_and t m d.which ≡ true
    is_there t stand as_it passes =
        let k = kept_at d.which m.kept as_it.there in
        passes_there t d.which k.0 m.kept k.1 k.2 k.3 (ap t (as_it.alone k.1 k.0 k.2 k.3) ∙ passes)

    pick : (w : Closing) → IsKeptAs m d (going_at w m.places d) → IsTrue (may s m (ends w d.which))
    pick closing.Evicting x = both (is_running m.stage) (is_kept_and (λ k. is_evicting k.mark) m d.which) running (is_there (λ k. is_evicting k.mark) (going_at closing.Evicting m.places d) x refl)
    pick closing.Failing x = both (is_running m.stage) (is_kept_and (λ k. is_failing k.mark) m d.which) running (is_there (λ k. is_failing k.mark) (going_at closing.Failing m.places d) x refl)

pub cleared_shut : (s : Setup) (states : ℕ → DeviceState) (m : Machine) (d : Dataset) (cleared node place : ℕ) → IsOutOfCache s states m d cleared → node < cleared → slice_get m.places node ≡ Some place → HasShutGates ((states place).file (record_name d.which node))
cleared_shut s states m d cleared node place leaving lt at = let is = leaving.cleared node place lt at (record_name d.which node) (inl refl) in nothing_shut ((states place).file (record_name d.which node)) is.1 is.0
