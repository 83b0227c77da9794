-- What the prefix tells beside the run's number stays where its files stay.
use Rattle.std.proofs.Common.{◌≡◌, ◌≢◌, ℕ, List, Option, ap, ap₂, sym, ◌∙◌, subst, arith, codes}
use Rattle.std.specs.Prelude.{get_or}
use Rattle.scr_base.specs.declared.shape.DataId.{DataId}
use Rattle.node_device.specs.DeviceState.{DeviceState}
use Rattle.gated_record.specs.Frames.{ChangesPair}
use Rattle.gated_record.specs.Pair.{copy_name, pair_value, value_in, newer}
use Rattle.halt_file.specs.Stores.{halt_in}
use Rattle.site_stands.specs.Entry.{entry_name, ReadsEntry, mark_in}
use Rattle.site_core.specs.Stored.{Cells, cells_of, stored_halt, IsUnindexed}

-- what the prefix reads as is the same
pub halt_same : (old new : Cells) → new 32 ≡ old 32 → stored_halt new ≡ stored_halt old
halt_same old new same = ap (λ (f : List ℕ → Option (List ℕ)). halt_in (pair_value (codes "halt") f)) same

pub unindexed_same : (old new : Cells) → new 32 ≡ old 32 → IsUnindexed (old 32) → IsUnindexed (new 32)
unindexed_same old new same h = subst (λ (f : List ℕ → Option (List ℕ)). IsUnindexed f) (sym same) h

pub no_run_file : (i j : ℕ) → copy_name (codes "halt") i ≢ copy_name (codes "run") j
no_run_file i j same = absurd (omega (arith, ap (λ (name : List ℕ). get_or name 0 0) same))

-- a step of the run's number changes no file of theirs
pub halt_apart : (states after : ℕ → DeviceState) → ChangesPair (codes "run") (states 32) (after 32) → stored_halt (cells_of after) ≡ stored_halt (cells_of states)
halt_apart states after only = ap halt_in (ap₂ newer
    (ap (value_in 0) (only.others (copy_name (codes "halt") 0) (no_run_file 0 0) (no_run_file 0 1)).now)
    (ap (value_in 1) (only.others (copy_name (codes "halt") 1) (no_run_file 1 0) (no_run_file 1 1)).now))

-- no index record and no mark stands under one of its names
entry_apart : (which : DataId) (j : ℕ) → entry_name which ≢ copy_name (codes "run") j
entry_apart which j same = absurd (omega (arith, ap (λ (name : List ℕ). get_or name 0 0) same))

mark_apart : (i j : ℕ) → copy_name (codes "cur") i ≢ copy_name (codes "run") j
mark_apart i j same = absurd (omega (arith, ap (λ (name : List ℕ). get_or name 0 0) same))

pub unindexed_apart : (states after : ℕ → DeviceState) → ChangesPair (codes "run") (states 32) (after 32) → IsUnindexed (cells_of states 32) → IsUnindexed (cells_of after 32)
unindexed_apart states after only h = record {
  entries = λ which reads. h.entries which (subst (λ (o : Option (List ℕ)). ReadsEntry o which) (only.others (entry_name which) (entry_apart which 0) (entry_apart which 1)).now reads);
  unmarked = ap mark_in (ap₂ newer
      (ap (value_in 0) (only.others (copy_name (codes "cur") 0) (mark_apart 0 0) (mark_apart 0 1)).now)
      (ap (value_in 1) (only.others (copy_name (codes "cur") 1) (mark_apart 1 0) (mark_apart 1 1)).now)) ∙ h.unmarked;
}
