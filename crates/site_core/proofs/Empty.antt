-- A run can begin over devices that hold nothing.
use Rattle.std.proofs.Common.{◌≡◌, ◌≤◌, ℕ, true, List, [], Option, None, refl, sym, ap, ◌∙◌, subst, arith, codes}
use Rattle.node_device.specs.File.{IsEmpty}
use Rattle.node_device.specs.DeviceState.{DeviceState}
use Rattle.gated_record.specs.Pair.{newer, value_in, copy_name}
use Rattle.gated_record.specs.declared.pair.PairValue.{PairValue}
use Rattle.scr_base.specs.Halt.{no_halt}
use Rattle.halt_file.specs.Stores.{halt_in}
use Rattle.ckpt_model.specs.Machine.{Setup, empty_machine}
use Rattle.scr_base.specs.declared.shape.DataId.{DataId}
use Rattle.site_stands.specs.Described.{is_single}
use Rattle.site_stands.specs.Entry.{entry_name, ReadsEntry, mark_in}
use Rattle.site_state.specs.declared.cache.Manifest.{Manifest}
use Rattle.site_calls.specs.Numbers.{run_number}
use Rattle.site_core.specs.Stored.{cells_of, stored_run, stored_halt}
use Rattle.site_core.specs.Holds.{CanBegin, IsOneOf}

none_of : (X : Type 0) (m : Manifest) → IsOneOf [] m → X
none_of X m one = absurd (cc one.1)

pub empty_begins : (s : Setup) (states : ℕ → DeviceState) → is_single s.config.scheme ≡ true → ((p : ℕ) (q : List ℕ) → p ≤ 32 → IsEmpty ((states p).file q)) → CanBegin s states empty_machine
empty_begins s states single empty = record {
  single = single;
  sets = [];
  quiet = λ p q low. (empty p q low).at_rest;
  store = record {
    stored = stored;
    rise = tt;
    sets_are = λ m one. none_of _ m one;
    files = λ m one. none_of _ m one;
    records = λ m one. none_of _ m one;
    others = λ p which node low place foreign. (empty p _ (omega (arith, low))).now;
    future = λ p which node local j low place sl sj later. (empty p _ (omega (arith, low))).now;
  };
  between = refl;
  kept = refl;
  index = refl;
  halt = halted;
  mark_is = refl;
  unindexed = record { entries = λ which reads. no_entry which reads; unmarked = unmarked };
} where
  nothing : (copy : ℕ) → value_in copy (cells_of states 32 (copy_name (codes "run") copy)) ≡ None
  nothing copy = ap (λ (o : Option (List ℕ)). value_in copy o) (empty 32 (copy_name (codes "run") copy) (omega arith)).now

  stored : stored_run (cells_of states) ≡ 0
  stored = ap (λ (a : Option PairValue). run_number (newer a (value_in 1 (cells_of states 32 (copy_name (codes "run") 1))))) (nothing 0) ∙ ap (λ (b : Option PairValue). run_number (newer None b)) (nothing 1)

  no_halt_file : (copy : ℕ) → value_in copy (cells_of states 32 (copy_name (codes "halt") copy)) ≡ None
  no_halt_file copy = ap (λ (o : Option (List ℕ)). value_in copy o) (empty 32 (copy_name (codes "halt") copy) (omega arith)).now

  halted : no_halt ≡ stored_halt (cells_of states)
  halted = sym (ap (λ (a : Option PairValue). halt_in (newer a (value_in 1 (cells_of states 32 (copy_name (codes "halt") 1))))) (no_halt_file 0) ∙ ap (λ (b : Option PairValue). halt_in (newer None b)) (no_halt_file 1))

  no_mark_file : (copy : ℕ) → value_in copy (cells_of states 32 (copy_name (codes "cur") copy)) ≡ None
  no_mark_file copy = ap (λ (o : Option (List ℕ)). value_in copy o) (empty 32 (copy_name (codes "cur") copy) (omega arith)).now

  unmarked : mark_in (newer (value_in 0 (cells_of states 32 (copy_name (codes "cur") 0))) (value_in 1 (cells_of states 32 (copy_name (codes "cur") 1)))) ≡ None
  unmarked = ap (λ (a : Option PairValue). mark_in (newer a (value_in 1 (cells_of states 32 (copy_name (codes "cur") 1))))) (no_mark_file 0) ∙ ap (λ (b : Option PairValue). mark_in (newer None b)) (no_mark_file 1)

  nothing_read : (which : DataId) → ReadsEntry None which → ⊥
  nothing_read which r = absurd (omega (arith, r.body.whole))

  no_entry : (which : DataId) → ReadsEntry (cells_of states 32 (entry_name which)) which → ⊥
  no_entry which reads = nothing_read which (subst (λ (o : Option (List ℕ)). ReadsEntry o which) (empty 32 (entry_name which) (omega arith)).now reads)
