-- A move of one dataset's files, and an event of the datasets in cache over fixed devices: what is left to show.
use Rattle.std.proofs.Common.{◌≡◌, ◌<◌, ◌≤◌, inr, ℕ, Bool, true, false, List, Some, sym, ◌∙◌, ap, subst, arith}
use Rattle.std.specs.Prelude.{IsTrue, slice_get, ◌&&◌, nat_lt}
use Rattle.scr_base.specs.declared.shape.DataId.{DataId}
use Rattle.node_device.specs.DeviceState.{DeviceState}
use Rattle.ckpt_model.specs.Machine.{Machine, Setup, Kept}
use Rattle.ckpt_model.specs.Proper.{IsProper}
use Rattle.ckpt_model.specs.Questions.{is_kept}
use Rattle.ckpt_model.specs.Stops.{pending_of}
use Rattle.site_stands.specs.Cells.{prefix_place}
use Rattle.site_stands.specs.Events.{ChangesCache}
use Rattle.site_stands.specs.Members.{KeptStands, NoneSealed}
use Rattle.site_stands.specs.Moves.{MovesDataset}
use Rattle.site_stands.specs.Site.{NodesStand, SiteStands}
use Rattle.site_stands.proofs.Lists.{any_there}
use Rattle.site_stands.proofs.Keeping.Kept.{dataset_step}
use Rattle.site_stands.proofs.Changes.Prefix.{prefix_event}

-- Of an identity that isn't kept, before its sealing and after it has left: it is enough that no record of it may be left sealed, whatever
-- else is done to its files.
pub free_step : (s : Setup) (old new : ℕ → DeviceState) (m : Machine) (which : DataId) → is_kept m which ≡ false → which.run ≤ m.run → MovesDataset s.shape which old new → NoneSealed s.shape new which → SiteStands s old m → SiteStands s new m
free_step s old new m which not_kept so_far moves unsealed = dataset_step s old new m which moves (record {
  kept = λ i k at same stood. absurd (let there = any_there k m.kept i at in let gone = subst (λ (w : DataId). is_kept m w ≡ false) (sym same) not_kept in cc (there, gone));
  others = λ gone none. unsealed;
  later = λ later none. absurd (omega (arith, later, so_far));
})

-- Of a kept one: it alone is left to show.
pub kept_step : (s : Setup) (old new : ℕ → DeviceState) (m : Machine) (which : DataId) → is_kept m which ≡ true → which.run ≤ m.run → MovesDataset s.shape which old new
    → ((i : ℕ) (k : Kept) → slice_get m.kept i ≡ Some k → k.dataset.which ≡ which → KeptStands s.shape old k → KeptStands s.shape new k) → SiteStands s old m → SiteStands s new m
kept_step s old new m which there so_far moves step stands = dataset_step s old new m which moves (record {
  kept = step;
  others = λ gone none. absurd (cc (gone, there));
  later = λ later none. absurd (omega (arith, later, so_far));
}) stands

-- an event of the datasets in cache, over fixed devices
pub cache_event : (s : Setup) (states : ℕ → DeviceState) (m new : Machine) → ChangesCache m new → IsProper s new → NodesStand s states new → SiteStands s states m → SiteStands s states new
cache_event s states m new only proper nodes stands = record {
  proper = proper;
  nodes = nodes;
  prefix = prefix_event s (states prefix_place) m new (record { run = only.run; halt = only.halt; mark = only.mark; pending = ap pending_of only.stage; stores = λ stored may. stores stored may })
      (λ i e at. inr (i, subst (λ es. slice_get es i ≡ Some e) only.index at))
      (λ which. inr (λ of. record { entry = of.entry; at = record { place = of.at.place; entry = subst (λ es. slice_get es of.at.place ≡ Some of.entry) (sym only.index) of.at.entry }; same = of.same })) stands.prefix;
}
  where
    stores : (stored : Bool) → IsTrue (Rattle.ckpt_model.specs.Stops.may_store m stored) → IsTrue (Rattle.ckpt_model.specs.Stops.may_store new stored)
    stores stored may = subst (λ (n : ℕ). IsTrue (Rattle.std.specs.Prelude.◌||◌ (Rattle.std.specs.Prelude.not stored) (Rattle.ckpt_model.specs.Steps.is_between new.stage && nat_lt n 4294967295))) (sym only.run)
        (subst (λ (g : Rattle.ckpt_model.specs.Machine.Stage). IsTrue (Rattle.std.specs.Prelude.◌||◌ (Rattle.std.specs.Prelude.not stored) (Rattle.ckpt_model.specs.Steps.is_between g && nat_lt m.run 4294967295))) (sym only.stage) may)

-- what is said of the nodes is said of run and kept datasets alone
pub nodes_as : (s : Setup) (states : ℕ → DeviceState) (m new : Machine) → new.run ≡ m.run → new.kept ≡ m.kept → NodesStand s states m → NodesStand s states new
nodes_as s states m new run kept stands = record {
  kept = λ i k at. stands.kept i k (subst (λ (ks : List Kept). slice_get ks i ≡ Some k) kept at);
  others = λ which not. stands.others which (ap (λ (ks : List Kept). Rattle.std.specs.List.list_any (Rattle.ckpt_model.specs.Questions.is_id_of which) ks) (sym kept) ∙ not);
  later = λ which later. stands.later which (subst (λ (n : ℕ). n < which.run) run later);
}
