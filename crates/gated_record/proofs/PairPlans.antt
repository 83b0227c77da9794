-- The way of a pair as it was found, from an old value to a wanted one.
use Rattle.std.proofs.Common.{◌≡◌, ◌-◌, ℕ, Bool, true, List, ◌∷◌, ◌++◌, ◌∙◌, ap, subst}
use Rattle.scr_base.specs.declared.change.Change.{Change}
use Rattle.scr_base.specs.declared.change.Change.TheVariants.{Sync}
use Rattle.node_device.specs.DeviceState.{DeviceState, IsUnchanged}
use Rattle.gated_record.specs.Record.{is_open}
use Rattle.gated_record.specs.Pair.{copy_name}
use Rattle.gated_record.specs.PairStages.{HasGate, ending}
use Rattle.gated_record.specs.PairSteps.{Begins, Finds}
use Rattle.gated_record.specs.declared.pair.PairValue.{PairValue}

-- what was found with names of one's own, after calls that change nothing
pub finds : (stem : List ℕ) (copy : ℕ) (want : PairValue) (d e : DeviceState) (other name other2 : List ℕ) (gate : Bool) (front changes : List Change)
    → other ≡ copy_name stem (1 - copy) → name ≡ copy_name stem copy → other2 ≡ copy_name stem (1 - copy) → IsUnchanged d e
    → (gate ≡ true → HasGate (d.file other) 0) → (d.tells ≡ true → gate ≡ is_open (d.file other).now 0) → Begins copy name want e front → changes ≡ front ++ Sync ∷ ending other2 gate
    → Finds stem copy want d changes
finds stem copy want d e other name other2 gate front changes is_other is_name is_other2 same has told begins are = record {
  gate = gate;
  has_gate = subst (λ (n : List ℕ). gate ≡ true → HasGate (d.file n) 0) is_other has;
  found = subst (λ (n : List ℕ). d.tells ≡ true → gate ≡ is_open (d.file n).now 0) is_other told;
  front = front;
  begins = by_state (subst (λ (n : List ℕ). Begins copy n want e front) is_name begins);
  changes_are = are ∙ ap (λ (n : List ℕ). front ++ Sync ∷ ending n gate) is_other2;
}
  where
    by_state : Begins copy (copy_name stem copy) want e front → Begins copy (copy_name stem copy) want d front
    by_state b =
        let at : Begins copy (copy_name stem copy) want (record d { faults = e.faults }) front = subst (λ (s : DeviceState). Begins copy (copy_name stem copy) want s front) same b in record {
          stands = at.stands;
          wanted = at.wanted;
          unwanted = at.unwanted;
          none = at.none;
          closing = at.closing;
          closes = λ h. let closes = at.closes h in record { front = closes.front; changes_are = closes.changes_are; few = closes.few; inside = closes.inside; told = closes.told };
          filling = at.filling;
        }
