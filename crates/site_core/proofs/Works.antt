-- Where the saving of a dataset stands, of a site that follows a history.
use Rattle.std.proofs.Common.{◌≡◌, ◌≢◌, ◌⊎◌, inl, inr, ℕ, suc, ◌+◌, ◌-◌, ◌<◌, ◌≤◌, Bool, true, false, List, [], ◌∷◌, Option, Some, None, refl, sym, ap, ◌∙◌, subst, slice_get, arith}
use Rattle.std.specs.Prelude.{nat_lt, find, option_map, if◌then◌else◌}
use Rattle.std.proofs.lemmas.Bool.Decides.{nat_tests}
use Rattle.scr_base.specs.declared.shape.DataId.{DataId}
use Rattle.scr_base.specs.declared.content.Step.{Step}
use Rattle.node_device.specs.DeviceState.{DeviceState}
use Rattle.node_device.specs.Rack.{OnlyAt}
use Rattle.ckpt_model.specs.declared.event.Event.{Event}
use Rattle.ckpt_model.specs.Machine.{Machine}
use Rattle.site_state.specs.declared.cache.Cached.{Cached}
use Rattle.site_state.specs.declared.cache.Manifest.{Manifest}
use Rattle.site_state.specs.declared.run_state.RunState.{RunState}
use Rattle.site_state.specs.declared.run_state.RunStage.{RunStage}
use Rattle.site_state.specs.declared.run_state.RunStage.TheVariants as stage
use Rattle.site_state.specs.declared.run_state.SaveStep.{SaveStep}
use Rattle.site_state.specs.declared.run_state.SaveStep.TheVariants as work
use Rattle.site_state.specs.Choosing.{seals}
use Rattle.site_state.specs.Cores.{saved_in}
use Rattle.site_calls.specs.Calls.{Synced}
use Rattle.site_core.specs.Holds.{Leads, IsSaving, IsSaved, WorkIs, IsPending}
use Rattle.site_core.proofs.Told.{is_up, led}
use Rattle.site_core.proofs.Saving.{staged, saving_leads}
use Rattle.site_core.proofs.SaveEnds.{none-passes}
use Rattle.site_core.proofs.SaveMoves.{record_synced, records_synced, whole_synced, wholes_synced}

some_same : {X : Type 0} (x y : X) → Some x ≡ Some y → x ≡ y
some_same x y e = cc

-- a run at this stage is saving a dataset
pub saves_now : (first : Machine) (c : RunState) (programs : List (List Step)) (states : ℕ → DeviceState) (events : List Event) (w : SaveStep) (n : ℕ) → c.stage ≡ stage.Saving w n → Leads first c programs states events → (m : Manifest) × IsSaving first c programs states events w n m
saves_now first c programs states events w n at leads =
    let h = led first c programs states events (ap is_up at) leads in
    let working : WorkIs (stage.Saving w n) c states = subst (λ (s : RunStage). WorkIs s c states) at h.working in (
      working.0,
      record {
        run = h.run;
        so_far = h.so_far;
        well = h.well;
        files = h.files;
        quiet = subst (λ (s : RunStage). (p : ℕ) (q : List ℕ) → p ≤ 32 → (p < c.shape.nodes → IsPending s c q → ⊥) → Rattle.node_device.specs.File.IsAtRest ((states p).file q)) at h.quiet;
        saved = working.1;
        saves = working.2;
        mended = working.3;
      },
    )

-- the first that is being sealed
seals-here : (y x : Cached) (ys : List Cached) (b : Bool) → seals y ≡ b → (find seals ys ≡ Some x → (i : ℕ) × (slice_get ys i ≡ Some x) × (seals x ≡ true)) → (if b then Some y else find seals ys) ≡ Some x → (i : ℕ) × (slice_get (y ∷ ys) i ≡ Some x) × (seals x ≡ true)
seals-here y x ys true is later q = (0, q, ap seals (sym (some_same y x q)) ∙ is)
seals-here y x ys false is later q = let r = later q in (suc r.0, r.1, r.2)

found-seals : (sets : List Cached) (x : Cached) → find seals sets ≡ Some x → (i : ℕ) × (slice_get sets i ≡ Some x) × (seals x ≡ true)
found-seals [] x e = absurd (cc e)
found-seals (y ∷ ys) x e = seals-here y x ys (seals y) refl (found-seals ys x) e

-- what the run says is being saved, is what is being saved
pub saved_is : (first : Machine) (c : RunState) (programs : List (List Step)) (states : ℕ → DeviceState) (events : List Event) (w : SaveStep) (n : ℕ) (m : Manifest) (which : DataId) → IsSaving first c programs states events w n m → Some which ≡ saved_in c.opened c.kept → which ≡ m.desc.which
saved_is first c programs states events w n m which h is = pick h.saved where
  pick : IsSaved w n c m → which ≡ m.desc.which
  pick (inl opened) = some_same which m.desc.which (is ∙ ap (λ (o : Option Manifest). saved_in o c.kept) opened)
  pick (inr s) = by (find seals c.kept) refl where
    by : (o : Option Cached) → find seals c.kept ≡ o → which ≡ m.desc.which
    by None e = absurd (cc (is ∙ ap (λ (q : Option Manifest). saved_in q c.kept) s.0 ∙ ap (λ (q : Option Cached). option_map (λ (x : Cached). x.manifest.desc.which) q) e))
    by (Some x) e =
        let f = found-seals c.kept x e in
        some_same which m.desc.which (is ∙ ap (λ (q : Option Manifest). saved_in q c.kept) s.0 ∙ ap (λ (q : Option Cached). option_map (λ (y : Cached). y.manifest.desc.which) q) e ∙ ap (λ (y : Manifest). Some y.desc.which) (h.saves.one f.0 x f.1 f.2))

-- the dataset that is open is what is being saved
pub opened_is : (first : Machine) (c : RunState) (programs : List (List Step)) (states : ℕ → DeviceState) (events : List Event) (w : SaveStep) (n : ℕ) (m x : Manifest) → IsSaving first c programs states events w n m → c.opened ≡ Some x → x ≡ m
opened_is first c programs states events w n m x h opened = pick h.saved where
  pick : IsSaved w n c m → x ≡ m
  pick (inl is) = some_same x m (sym opened ∙ is)
  pick (inr s) = absurd (cc (opened, s.0))

-- ## What comes after a sync

next_or_last : (n nodes : ℕ) (b : Bool) → nat_lt n (nodes - 1) ≡ b → n < nodes → ((b ≡ true) × (n + 1 < nodes)) ⊎ ((b ≡ false) × (n + 1 ≡ nodes))
next_or_last n nodes true e lt = inl (refl, grind (arith, nat_tests, e, lt))
next_or_last n nodes false e lt = inr (refl, grind (arith, nat_tests, e, lt))

abbrev pub after_sync : RunState → ℕ → SaveStep → SaveStep → RunStage
after_sync c n same next = if nat_lt n (c.shape.nodes - 1) then stage.Saving same (n + 1) else stage.Saving next 0

module _ (first : Machine) (c : RunState) (programs : List (List Step)) (states after : ℕ → DeviceState) (events : List Event) (n : ℕ) (place : ℕ) (home : slice_get c.places n ≡ Some place) (done : OnlyAt place Synced states after) (m : Manifest) where
  pub record_after : IsSaving first c programs states events work.RecordSync n m → Leads first (staged c (after_sync c n work.Record work.Whole)) programs after events
  record_after h = pick (nat_lt n (c.shape.nodes - 1)) (next_or_last n c.shape.nodes (nat_lt n (c.shape.nodes - 1)) refl h.saves.below) where
    pick : (b : Bool) → ((b ≡ true) × (n + 1 < c.shape.nodes)) ⊎ ((b ≡ false) × (n + 1 ≡ c.shape.nodes)) → Leads first (staged c (if b then stage.Saving work.Record (n + 1) else stage.Saving work.Whole 0)) programs after events
    pick true (inl more) = saving_leads first c programs after events work.Record (n + 1) m (record_synced first c programs states after events n m place home more.1 h done)
    pick true (inr last) = absurd (cc last.0)
    pick false (inl more) = absurd (cc more.0)
    pick false (inr last) = saving_leads first c programs after events work.Whole 0 m (records_synced first c programs states after events n m place home last.1 h done)

  pub whole_after : IsSaving first c programs states events work.WholeSync n m → Leads first (staged c (after_sync c n work.Whole work.Sealed)) programs after events
  whole_after h = pick (nat_lt n (c.shape.nodes - 1)) (next_or_last n c.shape.nodes (nat_lt n (c.shape.nodes - 1)) refl h.saves.below) where
    pick : (b : Bool) → ((b ≡ true) × (n + 1 < c.shape.nodes)) ⊎ ((b ≡ false) × (n + 1 ≡ c.shape.nodes)) → Leads first (staged c (if b then stage.Saving work.Whole (n + 1) else stage.Saving work.Sealed 0)) programs after events
    pick true (inl more) = saving_leads first c programs after events work.Whole (n + 1) m (whole_synced first c programs states after events n m place home more.1 h done)
    pick true (inr last) = absurd (cc last.0)
    pick false (inl more) = absurd (cc more.0)
    pick false (inr last) = saving_leads first c programs after events work.Sealed 0 m (wholes_synced first c programs states after events n m place home last.1 h done)

pub last_node : (n nodes : ℕ) → n < nodes → nodes ≤ n + 1 → n + 1 ≡ nodes
last_node n nodes lt le = omega (arith, lt, le)

-- the ranks ask for the open dataset to be saved
pub begins_at : (first : Machine) (c : RunState) (programs : List (List Step)) (states : ℕ → DeviceState) (events : List Event) → c.stage ≡ stage.Serving → Rattle.site_state.specs.Asked.IsSaveRound c → c.opened ≢ None → Leads first c programs states events
    → (m : Manifest) × IsSaving first c programs states events work.Record 0 m
begins_at first c programs states events at round some leads = pick c.opened refl where
  pick : (o : Option Manifest) → c.opened ≡ o → (m : Manifest) × IsSaving first c programs states events work.Record 0 m
  pick None e = absurd (some e)
  pick (Some m) e = (m, Rattle.site_core.proofs.SaveEnds.begins_saving first c programs states events m at leads e round (some_nodes c.shape)) where
    some_nodes : (shape : Rattle.scr_base.specs.declared.shape.Shape.Shape) → 0 < shape.nodes
    some_nodes shape = grind (arith, nat_tests, shape.limits)
