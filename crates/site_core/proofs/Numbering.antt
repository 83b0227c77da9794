-- A run takes its number, and the number comes to the prefix.
use Rattle.std.proofs.Common.{◌≡◌, inl, inr, ℕ, ◌+◌, ◌<◌, ◌^◌, List, [], map, Option, Some, None, refl, sym, ap, ap₂, ◌∙◌, subst, arith, codes}
use Rattle.std.proofs.lemmas.Bool.Decides.{nat_tests}
use Rattle.scr_base.specs.declared.content.Step.{Step}
use Rattle.node_device.specs.DeviceState.{DeviceState}
use Rattle.node_device.specs.Outcomes.{rest_leaves}
use Rattle.gated_record.specs.Pair.{value_in, newer, copy_name, pair_value, MayFollow, next_version}
use Rattle.gated_record.specs.declared.pair.PairValue.{PairValue}
use Rattle.ckpt_model.specs.declared.event.Event.{Event}
use Rattle.ckpt_model.specs.Machine.{Machine}
use Rattle.halt_file.specs.Conditions.{conditions}
use Rattle.halt_file.specs.declared.halt.Halt.{Halt}
use Rattle.site_state.specs.declared.run_state.RunState.{RunState}
use Rattle.site_state.specs.declared.run_state.RunStage.{RunStage}
use Rattle.site_state.specs.declared.run_state.RunStage.TheVariants as stage
use Rattle.site_calls.specs.Numbers.{way_of}
use Rattle.site_state.specs.Shown.{setup_of, kept_of}
use Rattle.site_calls.specs.Numbers.{run_number}
use Rattle.site_core.specs.Stored.{cells_of, contents_in, stored_run, stored_halt, FilesStand, RecordsStand, NoOtherRecords}
use Rattle.site_core.specs.Holds.{HoldsAt, ToldAt, Leads, IsOneOf, settled_set, IsBegun, IsStoring}

pub begun_at : (s : RunStage) (c : RunState) (states : ℕ → DeviceState) (m : Machine) → s ≡ stage.Begun → HoldsAt s c states m → IsBegun c states m
begun_at s c states m e h = subst (λ (x : RunStage). HoldsAt x c states m) e h

pub told_begun : (s : RunStage) (places : List ℕ) (programs : List (List Step)) (events : List Event) → s ≡ stage.Begun → ToldAt s places programs events → events ≡ []
told_begun s places programs events e h = subst (λ (x : RunStage). ToldAt x places programs events) e h

pub storing_at : (s : RunStage) (c : RunState) (states : ℕ → DeviceState) (m : Machine) → s ≡ stage.Storing → HoldsAt s c states m → IsStoring c states m
storing_at s c states m e h = subst (λ (x : RunStage). HoldsAt x c states m) e h

pub told_storing : (s : RunStage) (places : List ℕ) (programs : List (List Step)) (events : List Event) → s ≡ stage.Storing → ToldAt s places programs events → events ≡ []
told_storing s places programs events e h = subst (λ (x : RunStage). ToldAt x places programs events) e h

-- ## The number is found

next_below : (n : ℕ) → n + 1 < 2 ^ 32 → n + 1 ≡ next_version n
next_below n fits = grind (arith, nat_tests, fits)

may_follow : (old : Option PairValue) (n : ℕ) → n + 1 < 2 ^ 32 → n ≡ run_number old → MayFollow old (record { version = n + 1; body = [] })
may_follow None n fits is = tt
may_follow (Some value) n fits is = inr (next_below n fits ∙ ap next_version is)

-- the run with this number, which is on its way
abbrev pub numbered_core : RunState → ℕ → Halt → RunState
numbered_core c run halt = record c { stage = stage.Storing; run = run; halt = halt; storing = way_of run }

pub numbered : (first : Machine) (c : RunState) (programs : List (List Step)) (states : ℕ → DeviceState) (events : List Event) (n : ℕ) (halt : Halt) → c.stage ≡ stage.Begun → n + 1 < 2 ^ 32 → n ≡ stored_run (cells_of states)
    → conditions halt ≡ stored_halt (cells_of states) → Leads first c programs states events → Leads first (numbered_core c (n + 1) halt) programs states events
numbered first c programs states events n halt at fits is told leads =
    let m = leads.state in
    let b = begun_at c.stage c states m at leads.holds in
    let fresh = b.fresh in
    let h = b.begins in
    let old = pair_value (codes "run") (cells_of states 32) in
    let want : PairValue = record { version = n + 1; body = [] } in
    record {
      state = m;
      run = leads.run;
      holds = record {
        fresh = record { single = fresh.single; places = fresh.places; phase_is = fresh.phase_is; offer = fresh.offer; opened = fresh.opened; ranks = fresh.ranks; settled = fresh.settled; needs = fresh.needs; reading = fresh.reading };
        sets = h.sets;
        old = old;
        old_is = h.store.stored;
        want = refl;
        way = λ tells. record {
          leaves = λ a b may_a may_b.
              ap₂ newer (ap (value_in 0) (rest_leaves ((states 32).file (copy_name (codes "run") 0)) a (h.quiet 32 (copy_name (codes "run") 0) (omega arith)) may_a))
              (ap (value_in 1) (rest_leaves ((states 32).file (copy_name (codes "run") 1)) b (h.quiet 32 (copy_name (codes "run") 1) (omega arith)) may_b));
          follows = may_follow old n fits is;
        };
        leaves = λ a b may_a may_b. inl (ap₂ newer (ap (value_in 0) (rest_leaves ((states 32).file (copy_name (codes "run") 0)) a (h.quiet 32 (copy_name (codes "run") 0) (omega arith)) may_a))
            (ap (value_in 1) (rest_leaves ((states 32).file (copy_name (codes "run") 1)) b (h.quiet 32 (copy_name (codes "run") 1) (omega arith)) may_b)));
        quiet = λ p q low other. h.quiet p q low;
        rise = h.store.rise;
        sets_are = h.store.sets_are;
        files = λ x one. subst (λ (ps : List ℕ). FilesStand (cells_of states) ps c.shape.ranks x) (sym fresh.places) (h.store.files x one);
        records = λ x one. subst (λ (ps : List ℕ). RecordsStand (cells_of states) ps x) (sym fresh.places) (h.store.records x one);
        others = subst (λ (ps : List ℕ). NoOtherRecords (IsOneOf h.sets) (cells_of states) ps) (sym fresh.places) h.store.others;
        future = h.store.future;
        between = h.between;
        kept = subst (λ (ps : List ℕ). m.kept ≡ map (kept_of (setup_of c) (contents_in (cells_of states) ps c.shape.ranks) ps) (map settled_set h.sets)) (sym fresh.places) h.kept;
        index = h.index;
        halt = h.halt ∙ sym told;
        halted = sym told;
        unindexed = h.unindexed;
        mark_is = h.mark_is;
        run = ap (λ (k : ℕ). k + 1) (is ∙ h.store.stored);
        fits = fits;
      };
      told = told_begun c.stage c.places programs events at leads.told;
      closes = tt;
    }
