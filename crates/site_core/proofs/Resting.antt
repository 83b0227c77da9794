-- A run begins over devices that let it, and devices that let it do so after a stop.
use Rattle.std.proofs.Common.{◌≡◌, ℕ, ◌+◌, ◌*◌, ◌<◌, ◌≤◌, true, List, [], map, replicate, Option, refl, sym, ap, ap₂, ◌∙◌, subst, arith, codes}
use Rattle.std.proofs.Math.Path.{fun_ext}
use Rattle.scr_base.specs.Sets.{numbers_below}
use Rattle.scr_base.specs.declared.shape.Shape.{Shape}
use Rattle.scr_base.specs.declared.shape.Config.{Config}
use Rattle.scr_base.specs.declared.content.Step.{Step}
use Rattle.node_device.specs.DeviceState.{DeviceState}
use Rattle.node_device.specs.Calls.{Crashes}
use Rattle.node_device.specs.Outcomes.{rest_leaves}
use Rattle.gated_record.specs.Pair.{pair_value}
use Rattle.ckpt_model.specs.declared.event.Event.{Event}
use Rattle.ckpt_model.specs.Machine.{Machine, Setup}
use Rattle.ckpt_model.specs.Runs.{RunsTo}
use Rattle.round_core.specs.Seats.{fresh_seat}
use Rattle.site_stands.specs.Described.{is_single}
use Rattle.site_state.specs.declared.run_state.RunState.{RunState}
use Rattle.site_state.specs.declared.run_state.RunStage.{RunStage}
use Rattle.site_state.specs.Cores.{IsNewCore}
use Rattle.site_state.specs.Shown.{Contents, setup_of, kept_of}
use Rattle.site_calls.specs.Numbers.{run_number}
use Rattle.site_core.specs.Stored.{cells_of}
use Rattle.site_core.specs.Holds.{HoldsAt, ToldAt, ClosesAt, Leads, CanBegin, IsOneOf, settled_set, IsBegun}
use Rattle.site_core.proofs.Halts.{halt_same, unindexed_same}
use Rattle.site_core.proofs.Stored.{others_after, future_after, contents_after, files_after, records_after}

pub begun_leads : (first : Machine) (shape : Shape) (config : Config) (c : RunState) (programs : List (List Step)) (states : ℕ → DeviceState) (events : List Event) → IsNewCore shape config c → events ≡ []
    → CanBegin (record { shape = shape; config = config }) states first → Leads first c programs states events
begun_leads first shape config c programs states events new none begins =
    let same : setup_of c ≡ record { shape = shape; config = config } = ap₂ (λ (s : Shape) (f : Config). let x : Setup = record { shape = s; config = f } in x) new.shape_is new.config_is in
    let begun : IsBegun c states first = record {
      fresh = record {
        single = ap (λ (f : Config). is_single f.scheme) new.config_is ∙ begins.single;
        places = new.places ∙ ap (λ (s : Shape). numbers_below s.nodes) (sym new.shape_is);
        phase_is = new.phase_is;
        offer = new.offer;
        opened = new.opened;
        ranks = new.ranks ∙ ap (λ (s : Shape). replicate (s.nodes * s.ranks) fresh_seat) (sym new.shape_is);
        settled = new.settled;
        needs = new.needs;
        reading = new.reading;
      };
      begins = subst (λ (s : Setup). CanBegin s states first) (sym same) begins;
    } in
    record {
      state = first;
      run = subst (λ (es : List Event). RunsTo (setup_of c) first es first) (sym none) refl;
      holds = subst (λ (s : RunStage). HoldsAt s c states first) (sym new.stage_is) begun;
      told = subst (λ (s : RunStage). ToldAt s c.places programs events) (sym new.stage_is) none;
      closes = subst (λ (s : RunStage). ClosesAt s (setup_of c) first c.places programs states events) (sym new.stage_is) tt;
    }

module _ (s : Setup) (states after : ℕ → DeviceState) (m : Machine) (crash : (p : ℕ) → p ≤ 32 → Crashes (states p) (after p)) (tells : (p : ℕ) → p ≤ 32 → (after p).tells ≡ true) where
  pub quiet_begins : CanBegin s states m → CanBegin s after m
  quiet_begins h =
      let same : (p : ℕ) → p ≤ 32 → cells_of after p ≡ cells_of states p = λ p low. fun_ext (λ q. rest_leaves ((states p).file q) ((after p).file q).now (h.quiet p q low) ((crash p low).outcome (tells p low) q)) in
      let nodes : (p : ℕ) → p < 32 → cells_of after p ≡ cells_of states p = λ p low. same p (omega (arith, low)) in
      let places = numbers_below s.shape.nodes in
      record {
        single = h.single;
        sets = h.sets;
        quiet = λ p q low. (crash p low).at_rest q;
        store = record {
          stored = ap (λ (f : List ℕ → Option (List ℕ)). run_number (pair_value (codes "run") f)) (same 32 (omega arith)) ∙ h.store.stored;
          rise = h.store.rise;
          sets_are = h.store.sets_are;
          files = λ x one. files_after states after nodes s.shape places refl x (h.store.files x one);
          records = λ x one. records_after states after nodes s.shape places refl x (h.store.records x one);
          others = others_after states after nodes (IsOneOf h.sets) places h.store.others;
          future = future_after states after nodes (m.run + 1) 0 h.store.future;
        };
        between = h.between;
        kept = h.kept ∙ ap (λ (bytes : Contents). map (kept_of s bytes places) (map settled_set h.sets)) (sym (contents_after states after nodes s.shape places refl));
        index = h.index;
        halt = h.halt ∙ sym (halt_same (cells_of states) (cells_of after) (same 32 (omega arith)));
        mark_is = h.mark_is;
        unindexed = unindexed_same (cells_of states) (cells_of after) (same 32 (omega arith)) h.unindexed;
      }
