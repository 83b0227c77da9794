-- One step, over plain values: from what the change did to the devices to all that the step promises.
use Rattle.std.proofs.Common.{◌≡◌, ◌⊎◌, inl, inr, ◌<◌, ◌≤◌, ◌+◌, ℕ, zero, suc, Bool, true, false, List, length, Some, None, Result, Ok, Err, refl, sym, ◌∙◌, ap, subst, arith}
use Rattle.std.specs.Prelude.{slice_get, nat_lt, fold, if◌then◌else◌}
use Rattle.std.proofs.lemmas.Bool.Decides.{nat_tests}
use Rattle.std.proofs.lemmas.Option.{slice_get_within}
use Rattle.scr_base.specs.declared.memory.Memory.{Memory}
use Rattle.scr_base.specs.declared.shape.DataId.{DataId}
use Rattle.scr_base.specs.Stages.{left}
use Rattle.node_device.specs.File.{IsPartlySynced}
use Rattle.node_device.specs.DeviceState.{DeviceState, IsSound, ReadsAlike}
use Rattle.node_device.specs.Rack.{OnlyAt}
use Rattle.member_store.specs.Names.{record_name}
use Rattle.member_store.specs.Calls.{RemovesAtMost, IsDropStage, HasNoFile}
use Rattle.ckpt_model.specs.declared.progress.Progress.{Progress}
use Rattle.ckpt_model.specs.declared.progress.Progress.TheVariants as progress
use Rattle.ckpt_model.specs.Dataset.{Dataset}
use Rattle.ckpt_model.specs.Machine.{Machine, Setup, Kept}
use Rattle.ckpt_model.specs.Moves.{after}
use Rattle.ckpt_model.specs.Questions.{is_kept}
use Rattle.ckpt_model.specs.Steps.{drop_kept}
use Rattle.site_stands.specs.Gate.{Gate, GatesHold}
use Rattle.site_stands.specs.Members.{KeptStands, NoneSealed}
use Rattle.site_stands.specs.Site.{SiteStands}
use Rattle.site_stands.proofs.Lists.{physical_low, kept_at}
use Rattle.site_stands.proofs.Turning.Gates.{gates_unsealed}
use Rattle.site_calls.specs.Calls.{Tells, Synced, Unturned, FileDropped}
use Rattle.site_calls.specs.Causes.{IsCalm, is_device_fault}
use Rattle.site_calls.specs.Removals.{Leaving, leaving}
use Rattle.site_calls.specs.declared.trouble.Trouble.{Trouble}
use Rattle.site_calls.specs.declared.trouble.Trouble.TheVariants as error
use Rattle.site_calls.proofs.CallCauses.{full_by}
use Rattle.site_calls.proofs.RefusedCalls.{same_alike, same_partly}
use Rattle.evict_core.specs.declared.change.EvictChange.{EvictChange}
use Rattle.evict_core.specs.declared.change.EvictChange.TheVariants as change
use Rattle.evict_core.specs.declared.closing.Closing.{Closing}
use Rattle.evict_core.specs.declared.set.EvictSet.{EvictSet}
use Rattle.evict_core.specs.declared.stage.EvictStage.{EvictStage}
use Rattle.evict_core.specs.declared.stage.EvictStage.TheVariants as stage
use Rattle.evict_core.specs.Changes.{Closed, ChangeWrites, MakesChange}
use Rattle.evict_core.specs.Evicting.{Evicting, begins, ends, shown_at, stage_when, removal_at, removal_when, IsAnswer}
use Rattle.evict_core.specs.Holds.{closed_to, IsEvictOf, HasNoEntry, MayTell, settled_at, going_at, IsKeptAs, ShutTo, IsOutOfCache, StageHolds, made_at, told_by}
use Rattle.evict_core.specs.Stages.{IsStage, change_at, node_of, stage_after, steps_left}
use Rattle.evict_core.specs.Steps.{ChangesOwn, IsOneChange, StageWrites, StepWrites, StepCause, LeavesLess, IsLess, LeavesSite, KeepsUnsealed, TakesStep}
use Rattle.evict_core.proofs.ClosingGates.{synced_site, unsynced_site, close_done, close_failed, close_shut, sync_gates, sync_shut}
use Rattle.evict_core.proofs.Events.{doubted_by, begun, ended, gone_there, going_kept, begin_site, end_site}
use Rattle.evict_core.proofs.GateTurns.{gates_as, at_home, closed_none, closed_next, closed_last}
use Rattle.evict_core.proofs.Removing.{removed, cleared}

-- what an outcome of the next change leaves
abbrev pub Leaves : Setup → Machine → Dataset → EvictSet → (ℕ → DeviceState) → Leaving → EvictStage → Result Bool Trouble → Type 0
Leaves s m d base new removal at (Ok true) = SiteStands s new (told_by s m (shown_at base.nodes base.which at)) × StageHolds s new (told_by s m (shown_at base.nodes base.which at)) d (removal_at base.which (stage_after base.nodes at) removal) (stage_after base.nodes at)
Leaves s m d base new removal at (Ok false) = SiteStands s new m × StageHolds s new m d removal at
Leaves s m d base new removal at (Err error.Memory) = SiteStands s new m × StageHolds s new m d removal at
Leaves s m d base new removal at (Err _) = SiteStands s new (fold (after s) m (made_at d.which at))

module _ (s : Setup) (m : Machine) (d : Dataset) (base : EvictSet) (of : IsEvictOf s m d base) (old new : ℕ → DeviceState) (told : Tells old) (sound : (p : ℕ) → IsSound (old p)) (stands : SiteStands s old m) where
  nodes_are : length m.places ≡ base.nodes
  nodes_are = ap (length {A = ℕ}) (sym of.places) ∙ base.fits.places_are

  count : length m.places ≡ s.shape.nodes
  count = nodes_are ∙ of.nodes

  home_of : (node place : ℕ) → slice_get base.places node ≡ Some place → slice_get m.places node ≡ Some place
  home_of node place home = subst (λ (ps : List ℕ). slice_get ps node ≡ Some place) of.places home

  small : (node place : ℕ) → slice_get m.places node ≡ Some place → node < s.shape.nodes
  small node place home = let n = count in omega (arith, n, slice_get_within m.places node place home)

  told_at : (node place : ℕ) → slice_get m.places node ≡ Some place → (old place).tells ≡ true
  told_at node place home = told place (let low = of.low node place home in omega (arith, low, physical_low s.shape))

  last_is : (node : ℕ) → node < base.nodes → nat_lt (node + 1) base.nodes ≡ false → length m.places ≡ suc node
  last_is node lt end = let past : base.nodes ≤ node + 1 = grind (arith, nat_tests, end) in let n = nodes_are in omega (arith, n, lt, past)

  -- under the dataset's own name
  own_done : (Done : List ℕ → DeviceState → DeviceState → Type 0) (node place : ℕ) → OnlyAt place (Done (record_name base.which node)) old new → OnlyAt place (Done (record_name d.which node)) old new
  own_done Done node place done = subst (λ (w : DataId). OnlyAt place (Done (record_name w node)) old new) of.which done

  -- ## Gates

  start_gates : IsKeptAs m d (settled_at m.places d) → GatesHold s.shape old m.places d (λ i. Gate.Open) (closed_to 0 Gate.Open)
  start_gates kept =
      let k = kept_at d.which m.kept kept.there in
      let is : KeptStands s.shape old (settled_at m.places d) = subst (λ (x : Kept). KeptStands s.shape old x) (kept.alone k.1 k.0 k.2 k.3) (stands.nodes.kept k.1 k.0 k.2) in
      gates_as s.shape old m.places d (λ i. Gate.Open) (closed_to 0 Gate.Open) (λ i lt. closed_none i) (at_home s.shape old m.places (settled_at m.places d) count refl refl is)

  gates_at : (removal : Leaving) (why : Closing) (node : ℕ) → StageHolds s old m d removal (stage.Close why node) → GatesHold s.shape old m.places d (λ i. Gate.Open) (closed_to node Gate.Open)
  gates_at removal why zero holds = start_gates holds
  gates_at removal why (suc node) holds = holds.1

  close_leaves : (removal after_it : Leaving) (why : Closing) → HasNoEntry why m d.which → (node place : ℕ) → slice_get base.places node ≡ Some place → StageHolds s old m d removal (stage.Close why node) → OnlyAt place (Closed (record_name base.which node)) old new → Leaves s m d base new after_it (stage.Close why node) (Ok true)
  close_leaves removal after_it why plain zero place home holds done =
      let there = home_of 0 place home in
      let n : Machine = doubted_by why d.which m in
      let kept : IsKeptAs n d (going_at why n.places d) = going_kept m why d holds in
      let x = close_done s n d why kept of.so_far of.named old new 0 place (small 0 place there) there (of.low 0 place there) (told_at 0 place there) (sound place) (begin_site s old m why d.which stands) (start_gates holds) (own_done Closed 0 place done) in
      subst (λ (w : DataId). SiteStands s new (after s m (begins why w)) × StageHolds s new (after s m (begins why w)) d after_it (stage.CloseSync why 0)) (sym of.which)
      (subst (λ (k : Machine). SiteStands s new k × StageHolds s new k d after_it (stage.CloseSync why 0)) (sym (begun s m why d.which plain)) (x.0, (kept, x.1, λ i p lt at. absurd (omega (arith, lt)))))
  close_leaves removal after_it why plain (suc k) place home holds done =
      let there = home_of (suc k) place home in
      let own = own_done Closed (suc k) place done in
      let x = close_done s m d why holds.0 of.so_far of.named old new (suc k) place (small (suc k) place there) there (of.low (suc k) place there) (told_at (suc k) place there) (sound place) stands holds.1 own in
      (x.0, (holds.0, x.1, close_shut s m d why holds.0 of.so_far of.named old new (suc k) place (small (suc k) place there) there (of.low (suc k) place there) (told_at (suc k) place there) (sound place) stands holds.1 own holds.2))

  close_stays : (removal : Leaving) (why : Closing) → HasNoEntry why m d.which → (node place : ℕ) → slice_get base.places node ≡ Some place → StageHolds s old m d removal (stage.Close why node) → OnlyAt place (Unturned (record_name base.which node) 1) old new → SiteStands s new (fold (after s) m (made_at d.which (stage.Close why node)))
  close_stays removal why plain zero place home holds done =
      let there = home_of 0 place home in
      let n : Machine = doubted_by why d.which m in
      let kept : IsKeptAs n d (going_at why n.places d) = going_kept m why d holds in
      subst (λ (k : Machine). SiteStands s new k) (sym (begun s m why d.which plain))
      (close_failed s n d why kept of.so_far of.named old new 0 place (small 0 place there) there (of.low 0 place there) (told_at 0 place there) (sound place) (begin_site s old m why d.which stands) (start_gates holds) (own_done (λ name. Unturned name 1) 0 place done))
  close_stays removal why plain (suc k) place home holds done =
      let there = home_of (suc k) place home in
      close_failed s m d why holds.0 of.so_far of.named old new (suc k) place (small (suc k) place there) there (of.low (suc k) place there) (told_at (suc k) place there) (sound place) stands holds.1 (own_done (λ name. Unturned name 1) (suc k) place done)

  sync_leaves : (removal after_it : Leaving) (why : Closing) → HasNoEntry why m d.which → (node place : ℕ) → node < base.nodes → slice_get base.places node ≡ Some place → StageHolds s old m d removal (stage.CloseSync why node) → OnlyAt place Synced old new → Leaves s m d base new after_it (stage.CloseSync why node) (Ok true)
  sync_leaves removal after_it why plain node place lt home holds done = by_next (nat_lt (node + 1) base.nodes) refl
    where
      there : slice_get m.places node ≡ Some place
      there = home_of node place home

      site : SiteStands s new m
      site = synced_site s m place old new done stands

      gates : GatesHold s.shape new m.places d (λ i. Gate.Open) (closed_to node Gate.Shut)
      gates = sync_gates s m d old new node place there done holds.1

      shut : ShutTo new m.places d.which (suc node)
      shut = sync_shut s m d old new node place there done holds.1 holds.2

      next : StageHolds s new m d after_it (stage.Close why (suc node))
      next = (holds.0, gates_as s.shape new m.places d (closed_to node Gate.Shut) (closed_to (suc node) Gate.Open) (λ i within. closed_next node i) gates, shut)

      unsealed : length m.places ≡ suc node → NoneSealed s.shape new d.which
      unsealed last = gates_unsealed s.shape new m.places d (λ i. Gate.Open) (λ i. Gate.Shut) (gates_as s.shape new m.places d (closed_to node Gate.Shut) (λ i. Gate.Shut) (λ i within. sym (closed_last node i (omega (arith, within, last)))) gates) (λ i. refl)

      left_so : length m.places ≡ suc node → SiteStands s new (drop_kept d.which m) × StageHolds s new (drop_kept d.which m) d (leaving base.which 0) (stage.Remove 0)
      left_so last = (
        end_site s new m d.which (unsealed last) site,
        (
          record { gone = gone_there d.which m.kept; unsealed = unsealed last; shut = λ i p within at. shut i p (omega (arith, within, last)) at; cleared = λ i p within at. absurd (omega (arith, within)) },
          λ p at. tt,
        ),
      )

      gone_so : length m.places ≡ suc node → SiteStands s new (after s m (ends why base.which)) × StageHolds s new (after s m (ends why base.which)) d (leaving base.which 0) (stage.Remove 0)
      gone_so last = subst (λ (w : DataId). SiteStands s new (after s m (ends why w)) × StageHolds s new (after s m (ends why w)) d (leaving base.which 0) (stage.Remove 0)) (sym of.which)
          (subst (λ (k : Machine). SiteStands s new k × StageHolds s new k d (leaving base.which 0) (stage.Remove 0)) (sym (ended s m why d.which plain)) (left_so last))

      by_next : (b : Bool) → nat_lt (node + 1) base.nodes ≡ b
          → SiteStands s new (told_by s m (if b then progress.Silent else progress.Shown (ends why base.which)))
          × StageHolds s new (told_by s m (if b then progress.Silent else progress.Shown (ends why base.which))) d (removal_at base.which (if b then stage.Close why (node + 1) else stage.Remove 0) after_it) (if b then stage.Close why (node + 1) else stage.Remove 0)
      by_next true more = (site, let same : suc node ≡ node + 1 = omega arith in subst (λ (n : ℕ). StageHolds s new m d after_it (stage.Close why n)) same next)
      by_next false end = gone_so (last_is node lt end)

  -- ## Files

  drop_named : (over : Bool) (removal after_it : Leaving) (node place : ℕ) → OnlyAt place (FileDropped base.which node over removal.changes after_it.changes) old new → OnlyAt place (FileDropped d.which node over removal.changes after_it.changes) old new
  drop_named over removal after_it node place done = subst (λ (w : DataId). OnlyAt place (FileDropped w node over removal.changes after_it.changes) old new) of.which done

  drop_leaves : (over : Bool) (removal after_it : Leaving) (node place : ℕ) → slice_get base.places node ≡ Some place → StageHolds s old m d removal (stage.Remove node) → OnlyAt place (FileDropped base.which node over removal.changes after_it.changes) old new → Leaves s m d base new after_it (stage.Remove node) (Ok over)
  drop_leaves over removal after_it node place home holds done = pick over (drop_named over removal after_it node place done)
    where
      there : slice_get m.places node ≡ Some place
      there = home_of node place home

      one_place : (p : ℕ) → slice_get m.places node ≡ Some p → p ≡ place
      one_place p at = cc (at, there)

      both : (end : Bool) → OnlyAt place (FileDropped d.which node end removal.changes after_it.changes) old new → SiteStands s new m × IsOutOfCache s new m d node
      both end x = removed s m d of.named count of.so_far old new node place there (of.low node place there) stands (record { here = x.here.at_most; others = x.others }) (sound place) holds.0

      pick : (end : Bool) → OnlyAt place (FileDropped d.which node end removal.changes after_it.changes) old new → Leaves s m d base new after_it (stage.Remove node) (Ok end)
      pick true x = let y = both true x in (y.0, (y.1, λ p at. subst (λ (q : ℕ). HasNoFile d.which node (new q)) (sym (one_place p at)) ((x.here.none_left (holds.1 place there)).0 refl)))
      pick false x = let y = both false x in (y.0, (y.1, λ p at. subst (λ (q : ℕ). IsDropStage d.which node (new q) after_it.changes) (sym (one_place p at)) (x.here.goes (holds.1 place there))))

  clear_leaves : (removal after_it : Leaving) (node place : ℕ) → node < base.nodes → slice_get base.places node ≡ Some place → StageHolds s old m d removal (stage.RemoveSync node) → OnlyAt place Synced old new → Leaves s m d base new after_it (stage.RemoveSync node) (Ok true)
  clear_leaves removal after_it node place lt home holds done = by_next (nat_lt (node + 1) base.nodes) refl
    where
      there : slice_get m.places node ≡ Some place
      there = home_of node place home

      both : SiteStands s new m × IsOutOfCache s new m d (suc node)
      both = cleared s m d of.named count of.so_far old new node place there (of.low node place there) stands done (sound place) (told_at node place there) (holds.1 place there) holds.0

      by_next : (b : Bool) → nat_lt (node + 1) base.nodes ≡ b → SiteStands s new m × StageHolds s new m d (removal_at base.which (if b then stage.Remove (node + 1) else stage.Over) after_it) (if b then stage.Remove (node + 1) else stage.Over)
      by_next true more = (both.0, (let same : suc node ≡ node + 1 = omega arith in subst (λ (n : ℕ). IsOutOfCache s new m d n) same both.1, λ p at. tt))
      by_next false end = (both.0, subst (λ (n : ℕ). IsOutOfCache s new m d n) (sym (last_is node lt end)) both.1)

  -- ## Any change

  -- a refusal: where it wasn't by a fault, nothing was changed
  err_leaves : (removal after_it : Leaving) (at : EvictStage) → StageHolds s old m d removal at → after_it ≡ removal → SiteStands s new (fold (after s) m (made_at d.which at)) → (t : Trouble) → (is_device_fault t ≡ false → new ≡ old) → Leaves s m d base new after_it at (Err t)
  err_leaves removal after_it at holds stays made error.Memory spared =
      subst (λ (r : Leaving). SiteStands s new m × StageHolds s new m d r at) (sym stays) (subst (λ (states : ℕ → DeviceState). SiteStands s states m × StageHolds s states m d removal at) (sym (spared refl)) (stands, holds))
  err_leaves removal after_it at holds stays made (error.Fault node faults) spared = made
  err_leaves removal after_it at holds stays made (error.Full node used capacity) spared = made

  of_change : (removal after_it : Leaving) (it next : EvictChange) → Some it ≡ Some next → (o : Result Bool Trouble) → MakesChange base next removal after_it old new o → MakesChange base it removal after_it old new o
  of_change removal after_it it next is o made = subst (λ (x : EvictChange). MakesChange base x removal after_it old new o) (sym (same is)) made
    where
      same : Some it ≡ Some next → it ≡ next
      same e = cc

  -- each outcome of the change that comes next
  pub leaves_at : (removal after_it : Leaving) (at : EvictStage) → IsStage base.nodes at → MayTell m d.which at → StageHolds s old m d removal at → (next : EvictChange) → change_at at ≡ Some next
      → (outcome : Result Bool Trouble) → MakesChange base next removal after_it old new outcome → Leaves s m d base new after_it at outcome
  leaves_at removal after_it (stage.Close why node) lt plain holds next is outcome made = by_outcome outcome (of_change removal after_it (change.Close node) next is outcome made)
    where
      by_outcome : (o : Result Bool Trouble) → MakesChange base (change.Close node) removal after_it old new o → Leaves s m d base new after_it (stage.Close why node) o
      by_outcome (Ok true) x = close_leaves removal after_it why plain node x.place x.home holds x.done
      by_outcome (Ok false) x = absurd (let whole = x.whole in cc whole)
      by_outcome (Err t) x = err_leaves removal after_it (stage.Close why node) holds x.stays (close_stays removal why plain node x.place x.home holds x.refused) t x.spared
  leaves_at removal after_it (stage.CloseSync why node) lt plain holds next is outcome made = by_outcome outcome (of_change removal after_it (change.Sync node) next is outcome made)
    where
      by_outcome : (o : Result Bool Trouble) → MakesChange base (change.Sync node) removal after_it old new o → Leaves s m d base new after_it (stage.CloseSync why node) o
      by_outcome (Ok true) x = sync_leaves removal after_it why plain node x.place lt x.home holds x.done
      by_outcome (Ok false) x = absurd (let whole = x.whole in cc whole)
      by_outcome (Err t) x = err_leaves removal after_it (stage.CloseSync why node) holds x.stays (unsynced_site s m x.place old new x.refused stands) t x.spared
  leaves_at removal after_it (stage.Remove node) lt plain holds next is outcome made = by_outcome outcome (of_change removal after_it (change.Remove node) next is outcome made)
    where
      by_outcome : (o : Result Bool Trouble) → MakesChange base (change.Remove node) removal after_it old new o → Leaves s m d base new after_it (stage.Remove node) o
      by_outcome (Ok over) x = drop_leaves over removal after_it node x.place x.home holds x.done
      by_outcome (Err t) x = err_leaves removal after_it (stage.Remove node) holds x.stays (unsynced_site s m x.place old new x.refused stands) t x.spared
  leaves_at removal after_it (stage.RemoveSync node) lt plain holds next is outcome made = by_outcome outcome (of_change removal after_it (change.Sync node) next is outcome made)
    where
      by_outcome : (o : Result Bool Trouble) → MakesChange base (change.Sync node) removal after_it old new o → Leaves s m d base new after_it (stage.RemoveSync node) o
      by_outcome (Ok true) x = clear_leaves removal after_it node x.place lt x.home holds x.done
      by_outcome (Ok false) x = absurd (let whole = x.whole in cc whole)
      by_outcome (Err t) x = err_leaves removal after_it (stage.RemoveSync node) holds x.stays (unsynced_site s m x.place old new x.refused stands) t x.spared
  leaves_at removal after_it stage.Over lt plain holds next is outcome made = absurd (cc is)

  -- from the last sync on no stop leaves a record of it sealed
  file_unsealed : (after_it : Leaving) (node : ℕ) → is_kept m d.which ≡ false → (o : Result Bool Trouble) → Leaves s m d base new after_it (stage.Remove node) o → NoneSealed s.shape new d.which
  file_unsealed after_it node gone (Ok true) x = x.0.nodes.others d.which gone
  file_unsealed after_it node gone (Ok false) x = x.0.nodes.others d.which gone
  file_unsealed after_it node gone (Err error.Memory) x = x.0.nodes.others d.which gone
  file_unsealed after_it node gone (Err (error.Fault n faults)) x = x.nodes.others d.which gone
  file_unsealed after_it node gone (Err (error.Full n used capacity)) x = x.nodes.others d.which gone

  sync_unsealed : (after_it : Leaving) (node : ℕ) → is_kept m d.which ≡ false → (o : Result Bool Trouble) → Leaves s m d base new after_it (stage.RemoveSync node) o → NoneSealed s.shape new d.which
  sync_unsealed after_it node gone (Ok true) x = x.0.nodes.others d.which gone
  sync_unsealed after_it node gone (Ok false) x = x.0.nodes.others d.which gone
  sync_unsealed after_it node gone (Err error.Memory) x = x.0.nodes.others d.which gone
  sync_unsealed after_it node gone (Err (error.Fault n faults)) x = x.nodes.others d.which gone
  sync_unsealed after_it node gone (Err (error.Full n used capacity)) x = x.nodes.others d.which gone

  pub unsealed_at : (removal after_it : Leaving) (at : EvictStage) → IsStage base.nodes at → StageHolds s old m d removal at → (next : EvictChange) → change_at at ≡ Some next
      → (outcome : Result Bool Trouble) → MakesChange base next removal after_it old new outcome → is_kept m d.which ≡ false → NoneSealed s.shape new d.which
  unsealed_at removal after_it (stage.Close why zero) lt holds next is outcome made gone = absurd (let there = holds.there in cc (there, gone))
  unsealed_at removal after_it (stage.Close why (suc node)) lt holds next is outcome made gone = absurd (let there = holds.0.there in cc (there, gone))
  unsealed_at removal after_it (stage.CloseSync why node) lt holds next is outcome made gone = absurd (let there = holds.0.there in cc (there, gone))
  unsealed_at removal after_it (stage.Remove node) lt holds next is outcome made gone = file_unsealed after_it node gone outcome (leaves_at removal after_it (stage.Remove node) lt tt holds next is outcome made)
  unsealed_at removal after_it (stage.RemoveSync node) lt holds next is outcome made gone = sync_unsealed after_it node gone outcome (leaves_at removal after_it (stage.RemoveSync node) lt tt holds next is outcome made)
  unsealed_at removal after_it stage.Over lt holds next is outcome made gone = absurd (cc is)

-- ## The step whole

-- an answer of a change that was made: nothing is told, or an event
abbrev is_step : Progress → Bool
is_step progress.Silent = true
is_step (progress.Shown e) = true
is_step _ = false

step_shown : (nodes : ℕ) (which : DataId) (at : EvictStage) (next : EvictChange) → change_at at ≡ Some next → is_step (shown_at nodes which at) ≡ true
step_shown nodes which (stage.Close why zero) next is = refl
step_shown nodes which (stage.Close why (suc node)) next is = refl
step_shown nodes which (stage.CloseSync why node) next is = pick (nat_lt (node + 1) nodes)
  where
    pick : (b : Bool) → is_step (if b then progress.Silent else progress.Shown (ends why which)) ≡ true
    pick true = refl
    pick false = refl
step_shown nodes which (stage.Remove node) next is = refl
step_shown nodes which (stage.RemoveSync node) next is = refl
step_shown nodes which stage.Over next is = absurd (cc is)

-- each change that is whole leaves one less
one_less : (nodes : ℕ) (at : EvictStage) (next : EvictChange) → IsStage nodes at → change_at at ≡ Some next → steps_left nodes (stage_after nodes at) + 1 ≡ steps_left nodes at
one_less nodes (stage.Close why node) next lt is = omega (arith, lt)
one_less nodes (stage.CloseSync why node) next lt is = pick (nat_lt (node + 1) nodes) refl
  where
    pick : (b : Bool) → nat_lt (node + 1) nodes ≡ b → steps_left nodes (if b then stage.Close why (node + 1) else stage.Remove 0) + 1 ≡ steps_left nodes (stage.CloseSync why node)
    pick true more = let below : node + 1 < nodes = grind (arith, nat_tests, more) in omega (arith, lt, below)
    pick false end = let past : nodes ≤ node + 1 = grind (arith, nat_tests, end) in omega (arith, lt, past)
one_less nodes (stage.Remove node) next lt is = omega (arith, lt)
one_less nodes (stage.RemoveSync node) next lt is = pick (nat_lt (node + 1) nodes) refl
  where
    pick : (b : Bool) → nat_lt (node + 1) nodes ≡ b → steps_left nodes (if b then stage.Remove (node + 1) else stage.Over) + 1 ≡ steps_left nodes (stage.RemoveSync node)
    pick true more = let below : node + 1 < nodes = grind (arith, nat_tests, more) in omega (arith, lt, below)
    pick false end = let past : nodes ≤ node + 1 = grind (arith, nat_tests, end) in omega (arith, lt, past)
one_less nodes stage.Over next lt is = absurd (cc is)

-- what is said of any answer, for an answer of a change that was made
cause_shown : (writes : ℕ → List ℕ → ℕ → ℕ → Type 0) (old new : ℕ → DeviceState) (p : Progress) → is_step p ≡ true → IsCalm old new → StepCause writes old new (Ok p)
cause_shown writes old new progress.Silent is calm = calm
cause_shown writes old new (progress.Shown e) is calm = calm
cause_shown writes old new progress.Over is calm = absurd (cc is)
cause_shown writes old new (progress.Fault node faults) is calm = absurd (cc is)
cause_shown writes old new (progress.Full node used capacity) is calm = absurd (cc is)

less_shown : (nodes : ℕ) (before later : Evicting) (p : Progress) → is_step p ≡ true → LeavesLess nodes before later → IsLess nodes before later p
less_shown nodes before later progress.Silent is less = less
less_shown nodes before later (progress.Shown e) is less = less
less_shown nodes before later progress.Over is less = absurd (cc is)
less_shown nodes before later (progress.Fault node faults) is less = absurd (cc is)
less_shown nodes before later (progress.Full node used capacity) is less = absurd (cc is)

site_shown : (s : Setup) (m : Machine) (d : Dataset) (before later : Evicting) (new : ℕ → DeviceState) (p : Progress) → is_step p ≡ true → SiteStands s new (told_by s m p) × StageHolds s new (told_by s m p) d later.removal later.stage → LeavesSite s m d before later new (Ok p)
site_shown s m d before later new progress.Silent is x = x
site_shown s m d before later new (progress.Shown e) is x = x
site_shown s m d before later new progress.Over is x = absurd (cc is)
site_shown s m d before later new (progress.Fault node faults) is x = absurd (cc is)
site_shown s m d before later new (progress.Full node used capacity) is x = absurd (cc is)

module _ (before : Evicting) (removal : Leaving) (old new : ℕ → DeviceState) (sound : (p : ℕ) → IsSound (old p)) (next : EvictChange) (is : change_at before.stage ≡ Some next) (within : IsStage before.set.nodes before.stage) where
  abbrev moved : Result Bool Trouble → Evicting
  moved outcome = record { set = before.set; stage = stage_when before.set.nodes before.stage outcome; removal = removal_when before.set.nodes before.set.which before.stage outcome removal }

  removes_own : (node place : ℕ) → slice_get before.set.places node ≡ Some place → (a b : DeviceState) → RemovesAtMost before.set.which node a b → ChangesOwn before.set place a b ⊎ (ReadsAlike a b × ((q : List ℕ) → IsPartlySynced (a.file q) (b.file q)))
  removes_own node place home a b (inl one) = inl (record { node = node; home = home; name = one.0; named = one.1.there.0; only = one.1.only; how = inr one.1.removed })
  removes_own node place home a b (inr same) = inr (same_alike a b same, λ q. same_partly (a.file q) (b.file q) (ap (λ (x : DeviceState). x.file q) same))

  change_one : (outcome : Result Bool Trouble) → MakesChange before.set next before.removal removal old new outcome → IsOneChange before.set old new
  change_one outcome made = by next outcome made
    where
      by : (c : EvictChange) (o : Result Bool Trouble) → MakesChange before.set c before.removal removal old new o → IsOneChange before.set old new
      by (change.Close node) (Ok over) x = record { place = x.place; elsewhere = x.done.others; here = inl (record { node = node; home = x.home; name = record_name before.set.which node; named = inl refl; only = x.done.here.only; how = inl (refl, x.done.here.torn) }) }
      by (change.Close node) (Err t) x = record { place = x.place; elsewhere = x.refused.others; here = inl (record { node = node; home = x.home; name = record_name before.set.which node; named = inl refl; only = x.refused.here.only; how = inl (refl, x.refused.here.torn) }) }
      by (change.Sync node) (Ok over) x = record { place = x.place; elsewhere = x.done.others; here = inr (x.done.here.alike, x.done.here.partly) }
      by (change.Sync node) (Err t) x = record { place = x.place; elsewhere = x.refused.others; here = inr (x.refused.here.alike, x.refused.here.partly) }
      by (change.Remove node) (Ok over) x = record { place = x.place; elsewhere = x.done.others; here = removes_own node x.place x.home (old x.place) (new x.place) x.done.here.at_most }
      by (change.Remove node) (Err t) x = record { place = x.place; elsewhere = x.refused.others; here = inr (x.refused.here.alike, x.refused.here.partly) }

  -- the write of the step is that of its change
  one_change : (a b : EvictChange) → Some a ≡ Some b → a ≡ b
  one_change a b e = cc

  step_write : (at : EvictStage) → change_at at ≡ Some next → (place p : ℕ) (name : List ℕ) (byte length : ℕ) → slice_get before.set.places (node_of next) ≡ Some place → ChangeWrites before.set next place p name byte length → StageWrites before.set at p name byte length
  step_write (stage.Close why node) same place p name byte length home writes =
      let it = one_change (change.Close node) next same in
      record { place = place; home = subst (λ (c : EvictChange). slice_get before.set.places (node_of c) ≡ Some place) (sym it) home; writes = subst (λ (c : EvictChange). ChangeWrites before.set c place p name byte length) (sym it) writes }
  step_write (stage.CloseSync why node) same place p name byte length home writes = subst (λ (c : EvictChange). ChangeWrites before.set c place p name byte length) (sym (one_change (change.Sync node) next same)) writes
  step_write (stage.Remove node) same place p name byte length home writes = subst (λ (c : EvictChange). ChangeWrites before.set c place p name byte length) (sym (one_change (change.Remove node) next same)) writes
  step_write (stage.RemoveSync node) same place p name byte length home writes = subst (λ (c : EvictChange). ChangeWrites before.set c place p name byte length) (sym (one_change (change.Sync node) next same)) writes
  step_write stage.Over same place p name byte length home writes = absurd (cc same)

  change_write : (at : EvictStage) → change_at at ≡ Some next → (place p : ℕ) (name : List ℕ) (byte length : ℕ) → slice_get before.set.places (node_of next) ≡ Some place → StageWrites before.set at p name byte length → ChangeWrites before.set next place p name byte length
  change_write (stage.Close why node) same place p name byte length home w =
      let it = one_change (change.Close node) next same in
      let own : slice_get before.set.places node ≡ Some place = subst (λ (c : EvictChange). slice_get before.set.places (node_of c) ≡ Some place) (sym it) home in
      subst (λ (c : EvictChange). ChangeWrites before.set c place p name byte length) it (subst (λ (x : ℕ). ChangeWrites before.set (change.Close node) x p name byte length) (place_one w.place place (sym w.home ∙ own)) w.writes)
    where
      place_one : (a b : ℕ) → Some a ≡ Some b → a ≡ b
      place_one a b e = cc
  change_write (stage.CloseSync why node) same place p name byte length home w = absurd w
  change_write (stage.Remove node) same place p name byte length home w = absurd w
  change_write (stage.RemoveSync node) same place p name byte length home w = absurd w
  change_write stage.Over same place p name byte length home w = absurd w

  site_left : (outcome : Result Bool Trouble) → MakesChange before.set next before.removal removal old new outcome → (s : Setup) (m : Machine) (d : Dataset) → Tells old → IsEvictOf s m d before.set → MayTell m d.which before.stage → SiteStands s old m → StageHolds s old m d before.removal before.stage
      → Leaves s m d before.set new removal before.stage outcome
  site_left outcome made s m d told of plain stands holds = leaves_at s m d before.set of old new told sound stands before.removal removal before.stage within plain holds next is outcome made

  none_sealed : (outcome : Result Bool Trouble) → MakesChange before.set next before.removal removal old new outcome → KeepsUnsealed before old new
  none_sealed outcome made s m d told of stands holds gone = unsealed_at s m d before.set of old new told sound stands before.removal removal before.stage within holds next is outcome made gone

  done_taken : MakesChange before.set next before.removal removal old new (Ok true) → TakesStep before (moved (Ok true)) old new (Ok (shown_at before.set.nodes before.set.which before.stage))
  done_taken made =
      let step = step_shown before.set.nodes before.set.which before.stage next is in
      record {
        set = refl;
        memory = tt;
        one = change_one (Ok true) made;
        cause = cause_shown (StepWrites before) old new (shown_at before.set.nodes before.set.which before.stage) step made.cause;
        fits = λ not_refused place name byte length w passes. made.fits place name byte length (change_write before.stage is made.place place name byte length made.home w) passes;
        left = less_shown before.set.nodes before (moved (Ok true)) (shown_at before.set.nodes before.set.which before.stage) step (inl (one_less before.set.nodes before.stage next within is));
        tells = made.tells;
        safe = λ s m d told of plain stands holds. site_shown s m d before (moved (Ok true)) new (shown_at before.set.nodes before.set.which before.stage) step (site_left (Ok true) made s m d told of plain stands holds);
        unsealed = none_sealed (Ok true) made;
      }

  -- the member has more files
  fewer : (c : EvictChange) → MakesChange before.set c before.removal removal old new (Ok false) → left removal.changes < left before.removal.changes
  fewer (change.Close node) x = absurd (let whole = x.whole in cc whole)
  fewer (change.Sync node) x = absurd (let whole = x.whole in cc whole)
  fewer (change.Remove node) x = x.done.here.fewer refl

  more_taken : MakesChange before.set next before.removal removal old new (Ok false) → TakesStep before (moved (Ok false)) old new (Ok progress.Silent)
  more_taken made = record {
    set = refl;
    memory = tt;
    one = change_one (Ok false) made;
    cause = made.cause;
    fits = λ not_refused place name byte length w passes. made.fits place name byte length (change_write before.stage is made.place place name byte length made.home w) passes;
    left = inr (refl, fewer next made);
    tells = made.tells;
    safe = λ s m d told of plain stands holds. site_left (Ok false) made s m d told of plain stands holds;
    unsealed = none_sealed (Ok false) made;
  }

  memory_taken : (e : Memory) → MakesChange before.set next before.removal removal old new (Err error.Memory) → TakesStep before (moved (Err error.Memory)) old new (Err e)
  memory_taken e made = record {
    set = refl;
    memory = ap (λ (r : Leaving). let x : Evicting = record { set = before.set; stage = before.stage; removal = r } in x) made.stays;
    one = change_one (Err error.Memory) made;
    cause = made.cause;
    fits = tt;
    left = tt;
    tells = made.tells;
    safe = λ s m d told of plain stands holds. site_left (Err error.Memory) made s m d told of plain stands holds;
    unsealed = none_sealed (Err error.Memory) made;
  }

  fault_taken : (node faults : ℕ) → MakesChange before.set next before.removal removal old new (Err (error.Fault node faults)) → TakesStep before (moved (Err (error.Fault node faults))) old new (Ok (progress.Fault node faults))
  fault_taken node faults made = record {
    set = refl;
    memory = tt;
    one = change_one (Err (error.Fault node faults)) made;
    cause = made.cause;
    fits = λ not_refused place name byte length w passes. absurd (cc not_refused);
    left = refl;
    tells = made.tells;
    safe = λ s m d told of plain stands holds. site_left (Err (error.Fault node faults)) made s m d told of plain stands holds;
    unsealed = none_sealed (Err (error.Fault node faults)) made;
  }

  full_taken : (node used capacity : ℕ) → MakesChange before.set next before.removal removal old new (Err (error.Full node used capacity)) → TakesStep before (moved (Err (error.Full node used capacity))) old new (Ok (progress.Full node used capacity))
  full_taken node used capacity made = record {
    set = refl;
    memory = tt;
    one = change_one (Err (error.Full node used capacity)) made;
    cause = full_by (ChangeWrites before.set next made.place) (StepWrites before) (λ p name byte length w. step_write before.stage is made.place p name byte length made.home w) old new node used capacity made.cause;
    fits = λ not_refused place name byte length w passes. absurd (cc not_refused);
    left = refl;
    tells = made.tells;
    safe = λ s m d told of plain stands holds. site_left (Err (error.Full node used capacity)) made s m d told of plain stands holds;
    unsealed = none_sealed (Err (error.Full node used capacity)) made;
  }

  -- the answer of an outcome
  pub step_taken : (later : Evicting) (outcome : Result Bool Trouble) (result : Result Progress Memory) → MakesChange before.set next before.removal removal old new outcome → later.set ≡ before.set → later.stage ≡ stage_when before.set.nodes before.stage outcome
      → later.removal ≡ removal_when before.set.nodes before.set.which before.stage outcome removal → IsAnswer before.set.nodes before.set.which before.stage outcome result → TakesStep before later old new result
  step_taken later outcome result made set at drop answer = subst (λ (c : Evicting). TakesStep before c old new result) (sym (whole later outcome set at drop)) (by outcome result made answer)
    where
      whole : (c : Evicting) (o : Result Bool Trouble) → c.set ≡ before.set → c.stage ≡ stage_when before.set.nodes before.stage o → c.removal ≡ removal_when before.set.nodes before.set.which before.stage o removal → c ≡ moved o
      whole c o b g r = ap (λ (x : EvictSet). let y : Evicting = record { set = x; stage = c.stage; removal = c.removal } in y) b
          ∙ ap (λ (x : EvictStage). let y : Evicting = record { set = before.set; stage = x; removal = c.removal } in y) g
          ∙ ap (λ (x : Leaving). let y : Evicting = record { set = before.set; stage = stage_when before.set.nodes before.stage o; removal = x } in y) r

      by : (o : Result Bool Trouble) (r : Result Progress Memory) → MakesChange before.set next before.removal removal old new o → IsAnswer before.set.nodes before.set.which before.stage o r → TakesStep before (moved o) old new r
      by (Ok true) r x same = subst (λ (z : Result Progress Memory). TakesStep before (moved (Ok true)) old new z) (sym same) (done_taken x)
      by (Ok false) r x same = subst (λ (z : Result Progress Memory). TakesStep before (moved (Ok false)) old new z) (sym same) (more_taken x)
      by (Err error.Memory) (Err e) x same = memory_taken e x
      by (Err error.Memory) (Ok p) x same = absurd (cc same)
      by (Err (error.Fault node faults)) r x same = subst (λ (z : Result Progress Memory). TakesStep before (moved (Err (error.Fault node faults))) old new z) (sym same) (fault_taken node faults x)
      by (Err (error.Full node used capacity)) r x same = subst (λ (z : Result Progress Memory). TakesStep before (moved (Err (error.Full node used capacity))) old new z) (sym same) (full_taken node used capacity x)

-- the change leaves the dataset and its stage as they were
module _ (mid before : Evicting) where
  pub later_stage : (at : EvictStage) (o : Result Bool Trouble) → mid.set ≡ before.set → mid.stage ≡ before.stage → at ≡ stage_when mid.set.nodes mid.stage o → at ≡ stage_when before.set.nodes before.stage o
  later_stage at o b g is = is ∙ ap (λ (x : EvictStage). stage_when mid.set.nodes x o) g ∙ ap (λ (x : EvictSet). stage_when x.nodes before.stage o) b

  pub later_removal : (removal : Leaving) (o : Result Bool Trouble) → mid.set ≡ before.set → mid.stage ≡ before.stage → removal ≡ removal_when mid.set.nodes mid.set.which mid.stage o mid.removal → removal ≡ removal_when before.set.nodes before.set.which before.stage o mid.removal
  later_removal removal o b g is = is ∙ ap (λ (x : EvictStage). removal_when mid.set.nodes mid.set.which x o mid.removal) g ∙ ap (λ (x : EvictSet). removal_when x.nodes x.which before.stage o mid.removal) b

  pub later_answer : (o : Result Bool Trouble) (result : Result Progress Memory) → mid.set ≡ before.set → mid.stage ≡ before.stage → IsAnswer mid.set.nodes mid.set.which mid.stage o result → IsAnswer before.set.nodes before.set.which before.stage o result
  later_answer o result b g is = subst (λ (x : EvictSet). IsAnswer x.nodes x.which before.stage o result) b (subst (λ (x : EvictStage). IsAnswer mid.set.nodes mid.set.which x o result) g is)

-- where nothing is left to do
pub none_taken : (before : Evicting) (states : ℕ → DeviceState) → change_at before.stage ≡ None → TakesStep before before states states (Ok progress.Over)
none_taken before states none = record {
  set = refl;
  memory = tt;
  one = record { place = 0; elsewhere = λ q other. refl; here = inr (kept_alike, λ q. record { outcomes = λ o may. may; touched = λ k is. is }) };
  cause = λ place. refl;
  fits = λ not_refused place name byte length w passes. no_write before.stage none place name byte length w;
  left = (over before.stage none, over before.stage none);
  tells = λ p. refl;
  safe = λ s m d told of plain stands holds. (stands, holds);
  unsealed = λ s m d told of stands holds gone. stands.nodes.others d.which gone;
}
  where
    kept_alike : ReadsAlike (states 0) (states 0)
    kept_alike = record { tells = refl; capacity = refl; names = refl; files = λ q. record { len = refl; now = refl; fluid = λ e. e; greatest = omega arith } }

    over : (at : EvictStage) → change_at at ≡ None → at ≡ stage.Over
    over (stage.Close why node) is = absurd (cc is)
    over (stage.CloseSync why node) is = absurd (cc is)
    over (stage.Remove node) is = absurd (cc is)
    over (stage.RemoveSync node) is = absurd (cc is)
    over stage.Over is = refl

    no_write : (at : EvictStage) → change_at at ≡ None → (p : ℕ) (name : List ℕ) (byte length : ℕ) → StageWrites before.set at p name byte length → ⊥
    no_write (stage.Close why node) is p name byte length w = absurd (cc is)
    no_write (stage.CloseSync why node) is p name byte length w = w
    no_write (stage.Remove node) is p name byte length w = w
    no_write (stage.RemoveSync node) is p name byte length w = w
    no_write stage.Over is p name byte length w = w
