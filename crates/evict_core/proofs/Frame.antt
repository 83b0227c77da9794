-- Calls that change no node, and events that change neither the datasets in cache nor the run's places, leave what holds.
use Rattle.std.proofs.Common.{◌≡◌, ◌<◌, ℕ, zero, suc, List, length, Some, None, sym, ◌∙◌, ap, subst}
use Rattle.std.specs.Prelude.{slice_get}
use Rattle.std.specs.List.{list_any}
use Rattle.node_device.specs.File.{IsAtRest}
use Rattle.node_device.specs.DeviceState.{DeviceState}
use Rattle.gate_outcomes.specs.Gates.{StaysShut}
use Rattle.member_store.specs.Calls.{IsDropStage, HasNoFile}
use Rattle.member_store.specs.Names.{record_name}
use Rattle.ckpt_model.specs.Dataset.{Dataset}
use Rattle.ckpt_model.specs.Machine.{Machine, Setup, Kept}
use Rattle.ckpt_model.specs.Questions.{is_id_of}
use Rattle.site_calls.specs.Removals.{Leaving}
use Rattle.site_stands.specs.Cells.{physical_nodes}
use Rattle.site_stands.specs.Gate.{Gate, MemberIs, GatesHold}
use Rattle.site_stands.specs.Members.{IsHidden, IsUnsealed}
use Rattle.evict_core.specs.declared.set.EvictSet.{EvictSet}
use Rattle.evict_core.specs.declared.stage.EvictStage.{EvictStage}
use Rattle.evict_core.specs.declared.stage.EvictStage.TheVariants as stage
use Rattle.evict_core.specs.Holds.{closed_to, IsEvictOf, settled_at, going_at, IsKeptAs, ShutTo, IsOutOfCache, StageHolds}

module _ (s : Setup) (m n : Machine) (d : Dataset) (base : EvictSet) (of : IsEvictOf s m d base) (old new : ℕ → DeviceState) (same : (p : ℕ) → p < physical_nodes s.shape → new p ≡ old p) (kept : n.kept ≡ m.kept) (places : n.places ≡ m.places) where
  at_place : (i p : ℕ) → slice_get n.places i ≡ Some p → slice_get m.places i ≡ Some p
  at_place i p at = subst (λ (ps : List ℕ). slice_get ps i ≡ Some p) places at

  device : (i p : ℕ) → slice_get n.places i ≡ Some p → new p ≡ old p
  device i p at = same p (of.low i p (at_place i p at))

  kept_still : (stand : List ℕ → Kept) → IsKeptAs m d (stand m.places) → IsKeptAs n d (stand n.places)
  kept_still stand is = record {
    there = ap (λ (ks : List Kept). list_any (is_id_of d.which) ks) kept ∙ is.there;
    alone = λ i k at own. is.alone i k (subst (λ (ks : List Kept). slice_get ks i ≡ Some k) kept at) own ∙ ap stand (sym places);
  }

  gates_still : (sealed : ℕ → Gate) → GatesHold s.shape old m.places d (λ i. Gate.Open) sealed → GatesHold s.shape new n.places d (λ i. Gate.Open) sealed
  gates_still sealed holds = record {
    members = λ i p at. let was = holds.members i p (at_place i p at) in (was.0, subst (λ (x : DeviceState). MemberIs s.shape x d i Gate.Open (sealed i)) (sym (same p was.0)) was.1);
    elsewhere = λ p i low off. subst (λ (x : DeviceState). IsHidden s.shape (x.file (record_name d.which i)) d.which i) (sym (same p low)) (holds.elsewhere p i low (λ at. off (subst (λ (ps : List ℕ). slice_get ps i ≡ Some p) (sym places) at)));
  }

  shut_still : (node : ℕ) → ShutTo old m.places d.which node → ShutTo new n.places d.which node
  shut_still node shut i p lt at = subst (λ (x : DeviceState). StaysShut (x.file (record_name d.which i)) 1) (sym (device i p at)) (shut i p lt (at_place i p at))

  out_still : (node : ℕ) → IsOutOfCache s old m d node → IsOutOfCache s new n d node
  out_still node is = record {
    gone = ap (λ (ks : List Kept). list_any (is_id_of d.which) ks) kept ∙ is.gone;
    unsealed = λ p i low. subst (λ (x : DeviceState). IsUnsealed s.shape (x.file (record_name d.which i)) d.which i) (sym (same p low)) (is.unsealed p i low);
    shut = subst (λ (k : ℕ). ShutTo new n.places d.which k) (ap (length {A = ℕ}) (sym places)) (shut_still (length m.places) is.shut);
    cleared = λ i p lt at q named. subst (λ (x : DeviceState). ((x.file q).now ≡ None) × IsAtRest (x.file q)) (sym (device i p at)) (is.cleared i p lt (at_place i p at) q named);
  }

  pub holds_still : (removal : Leaving) (at : EvictStage) → StageHolds s old m d removal at → StageHolds s new n d removal at
  holds_still removal (stage.Close why zero) holds = kept_still (λ ps. settled_at ps d) holds
  holds_still removal (stage.Close why (suc node)) holds = (kept_still (λ ps. going_at why ps d) holds.0, gates_still (closed_to (suc node) Gate.Open) holds.1, shut_still (suc node) holds.2)
  holds_still removal (stage.CloseSync why node) holds = (kept_still (λ ps. going_at why ps d) holds.0, gates_still (closed_to node Gate.Closing) holds.1, shut_still node holds.2)
  holds_still removal (stage.Remove node) holds = (out_still node holds.0, λ p at. subst (λ (x : DeviceState). IsDropStage d.which node x removal.changes) (sym (device node p at)) (holds.1 p (at_place node p at)))
  holds_still removal (stage.RemoveSync node) holds = (out_still node holds.0, λ p at. subst (λ (x : DeviceState). HasNoFile d.which node x) (sym (device node p at)) (holds.1 p (at_place node p at)))
  holds_still removal stage.Over holds = subst (λ (k : ℕ). IsOutOfCache s new n d k) (ap (length {A = ℕ}) (sym places)) (out_still (length m.places) holds)
