-- A write of the run's number that passes the prefix's capacity is refused, and none else.
use Rattle.std.proofs.Common.{◌≡◌, ◌+◌, ℕ, Bool, List, [], ◌∷◌, length, codes, Option, Some, None, Ok, Err, refl, subst, inl, inr}
use Rattle.scr_base.specs.declared.change.Change.{Change}
use Rattle.scr_base.specs.declared.change.Change.TheVariants as change
use Rattle.scr_base.specs.Stages.{next_of}
use Rattle.node_device.specs.DeviceState.{DeviceState, used_of}
use Rattle.node_device.specs.Answers.{Passes}
use Rattle.node_device.specs.declared.device.DevError.TheVariants as device
use Rattle.gated_record.specs.Pair.{pair_body}
use Rattle.gated_record.specs.PairSteps.{StepsPair}
use Rattle.gated_record.specs.declared.pair.PairValue.{PairValue}
use Rattle.site_calls.specs.Causes.{PassesAt}
use Rattle.site_calls.specs.Writes.{NextWrites, MayWayWrite}

-- the same write passes as well
passes_as : (d : DeviceState) (n name : List ℕ) (a at k count : ℕ) → n ≡ name → a ≡ at → k ≡ count → Passes (d.file n) (used_of d) d.capacity a k → Passes (d.file name) (used_of d) d.capacity at count
passes_as d n name a at k count named placed counted p =
    subst (λ (x : List ℕ). Passes (d.file x) (used_of d) d.capacity at count) named
    (subst (λ (x : ℕ). Passes (d.file n) (used_of d) d.capacity x count) placed
    (subst (λ (x : ℕ). Passes (d.file n) (used_of d) d.capacity a x) counted p))

module _ (want : PairValue) (after : Option (List Change)) (old new : DeviceState) where
  -- a change that was made didn't pass the capacity
  pub way_fits : (over : Bool) (before : Option (List Change)) → StepsPair (codes "run") want (Ok over) before after old new
      → (n : List ℕ) (a k : ℕ) → NextWrites (pair_body want) (next_of before) n a k → Passes (old.file n) (used_of old) old.capacity a k → ⊥
  way_fits over None w n a k next p = next
  way_fits over (Some []) w n a k next p = next
  way_fits over (Some (change.Open name gate ∷ later)) w n a k (named, placed, counted) p = (w.made (change.Open name gate ∷ later) refl).answer.1 (passes_as old n name a gate k 1 named placed counted p)
  way_fits over (Some (change.Close name gate ∷ later)) w n a k (named, placed, counted) p = (w.made (change.Close name gate ∷ later) refl).answer.1 (passes_as old n name a gate k 1 named placed counted p)
  way_fits over (Some (change.Write name ∷ later)) w n a k (named, placed, counted) p = (w.made (change.Write name ∷ later) refl).answer (passes_as old n name a 8 k (8 + length (pair_body want)) named placed counted p)
  way_fits over (Some (change.Sync ∷ later)) w n a k next p = next
  way_fits over (Some (change.Remove name ∷ later)) w n a k next p = next

  -- a change that found the prefix full passes its capacity
  pub way_full : (before : Option (List Change)) → StepsPair (codes "run") want (Err device.Full) before after old new → PassesAt (MayWayWrite (record { want = want; changes = before })) 32 old
  way_full None w = record { name = w.answer.0; at = w.answer.2; count = w.answer.3; own = inr (refl, refl, w.answer.1, w.answer.5); passes = w.answer.4 }
  way_full (Some []) w = absurd (cc ((w.made [] refl).1))
  way_full (Some (change.Open name gate ∷ later)) w = record { name = name; at = gate; count = 1; own = inl (refl, (refl, refl, refl)); passes = (w.made (change.Open name gate ∷ later) refl).answer.1 }
  way_full (Some (change.Close name gate ∷ later)) w = record { name = name; at = gate; count = 1; own = inl (refl, (refl, refl, refl)); passes = (w.made (change.Close name gate ∷ later) refl).answer.1 }
  way_full (Some (change.Write name ∷ later)) w = record { name = name; at = 8; count = 8 + length (pair_body want); own = inl (refl, (refl, refl, refl)); passes = (w.made (change.Write name ∷ later) refl).answer }
  way_full (Some (change.Sync ∷ later)) w = absurd (w.made (change.Sync ∷ later) refl).answer
  way_full (Some (change.Remove name ∷ later)) w = absurd (w.made (change.Remove name ∷ later) refl).answer
