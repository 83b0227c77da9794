-- A run can begin behind a command on the conditions on which the job is to stop.
use Rattle.std.proofs.Common.{◌≡◌, inl, inr, ℕ, ◌+◌, ◌<◌, ◌≤◌, List, [], map, Option, None, refl, sym, ap, ap₂, ◌∙◌, subst, arith, codes}
use Rattle.std.proofs.Math.Path.{fun_ext}
use Rattle.std.specs.Prelude.{get_or}
use Rattle.scr_base.specs.Sets.{numbers_below}
use Rattle.scr_base.specs.declared.shape.DataId.{DataId}
use Rattle.node_device.specs.DeviceState.{DeviceState}
use Rattle.gated_record.specs.Pair.{copy_name, value_in, newer}
use Rattle.gated_record.specs.PairStages.{IsCopyName}
use Rattle.halt_file.specs.Stores.{halt_now}
use Rattle.ckpt_model.specs.Machine.{Machine, Setup, Stage as Place}
use Rattle.site_stands.specs.Entry.{entry_name, ReadsEntry, mark_in}
use Rattle.site_state.specs.Shown.{Contents, kept_of}
use Rattle.site_calls.specs.Numbers.{run_number}
use Rattle.site_core.specs.Stored.{cells_of, stored_run, IsOfSite, NoFutureFiles}
use Rattle.site_core.specs.Holds.{CanBegin, IsQuiet, IsOneOf, settled_set}
use Rattle.site_core.proofs.Halts.{no_run_file}
use Rattle.site_core.proofs.Stored.{others_after, future_after, contents_after, files_after, records_after}

-- what the prefix's run reads as is the same where only files of the conditions' pair changed
run_stays : (old new : ℕ → DeviceState) → ((p : ℕ) (q : List ℕ) → p ≤ 32 → (p ≡ 32 → IsCopyName (codes "halt") q → ⊥) → ((new p).file q).now ≡ ((old p).file q).now) → stored_run (cells_of new) ≡ stored_run (cells_of old)
run_stays old new reads = ap run_number (ap₂ newer
    (ap (value_in 0) (reads 32 (copy_name (codes "run") 0) (omega arith) (λ on. no_halt_file 0)))
    (ap (value_in 1) (reads 32 (copy_name (codes "run") 1) (omega arith) (λ on. no_halt_file 1)))) where
      no_halt_file : (j : ℕ) → IsCopyName (codes "halt") (copy_name (codes "run") j) → ⊥
      no_halt_file j (inl e) = no_run_file 0 j (sym e)
      no_halt_file j (inr e) = no_run_file 1 j (sym e)

-- Only files of the conditions' pair changed, between two runs, and nothing is pending: a run can begin over the state with the
-- conditions that they tell.
pub halt_begins : (s : Setup) (old new : ℕ → DeviceState) (m m' : Machine) → ((p : ℕ) (q : List ℕ) → p ≤ 32 → (p ≡ 32 → IsCopyName (codes "halt") q → ⊥) → ((new p).file q).now ≡ ((old p).file q).now) → IsQuiet new
    → m'.run ≡ m.run → m'.kept ≡ m.kept → m'.stage ≡ Place.Between → m'.index ≡ [] → m'.mark ≡ None → m'.halt ≡ halt_now (new 32) → CanBegin s old m → CanBegin s new m'
halt_begins s old new m m' reads quiet run kept between index mark halt h =
    let nodes : (p : ℕ) → p < 32 → cells_of new p ≡ cells_of old p = λ p low. fun_ext (λ q. reads p q (omega (arith, low)) (λ on. absurd (omega (arith, on, low)))) in
    let places = numbers_below s.shape.nodes in
    record {
      single = h.single;
      sets = h.sets;
      quiet = quiet;
      store = record {
        stored = run_stays old new reads ∙ h.store.stored ∙ sym run;
        rise = h.store.rise;
        sets_are = λ x one. subst (λ (r : ℕ). IsOfSite s.shape r x) (sym run) (h.store.sets_are x one);
        files = λ x one. files_after old new nodes s.shape places refl x (h.store.files x one);
        records = λ x one. records_after old new nodes s.shape places refl x (h.store.records x one);
        others = others_after old new nodes (IsOneOf h.sets) places h.store.others;
        future = subst (λ (r : ℕ). NoFutureFiles (cells_of new) (r + 1) 0) (sym run) (future_after old new nodes (m.run + 1) 0 h.store.future);
      };
      between = between;
      kept = kept ∙ h.kept ∙ ap (λ (bytes : Contents). map (kept_of s bytes places) (map settled_set h.sets)) (sym (contents_after old new nodes s.shape places refl));
      index = index;
      halt = halt;
      mark_is = mark;
      unindexed = record {
        entries = λ which there. h.unindexed.entries which (subst (λ (o : Option (List ℕ)). ReadsEntry o which) (reads 32 (entry_name which) (omega arith) (λ on. entry_apart which)) there);
        unmarked = ap mark_in (ap₂ newer
            (ap (value_in 0) (reads 32 (copy_name (codes "cur") 0) (omega arith) (λ on. mark_apart 0)))
            (ap (value_in 1) (reads 32 (copy_name (codes "cur") 1) (omega arith) (λ on. mark_apart 1)))) ∙ h.unindexed.unmarked;
      };
    } where
      entry_apart : (which : DataId) → IsCopyName (codes "halt") (entry_name which) → ⊥
      entry_apart which (inl is) = absurd (omega (arith, ap (λ (name : List ℕ). get_or name 0 0) is))
      entry_apart which (inr is) = absurd (omega (arith, ap (λ (name : List ℕ). get_or name 0 0) is))

      mark_apart : (k : ℕ) → IsCopyName (codes "halt") (copy_name (codes "cur") k) → ⊥
      mark_apart k (inl is) = absurd (omega (arith, ap (λ (name : List ℕ). get_or name 0 0) is))
      mark_apart k (inr is) = absurd (omega (arith, ap (λ (name : List ℕ). get_or name 0 0) is))
