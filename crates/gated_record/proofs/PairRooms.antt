-- The room for the body of a value, until it is written.
use Rattle.std.proofs.Common.{◌≡◌, ◌≢◌, inl, inr, ◌-◌, ℕ, zero, suc, Bool, true, false, List, [], ◌∷◌, ◌++◌, Option, Some, refl, sym, ◌∙◌, ap, subst, arith}
use Rattle.std.specs.Prelude.{Contains, Result, Ok}
use Rattle.std.proofs.lemmas.List.Elements.{Contains-append_right}
use Rattle.scr_base.specs.declared.change.Change.{Change}
use Rattle.scr_base.specs.declared.change.Change.TheVariants.{Open, Close, Write, Sync}
use Rattle.scr_base.specs.Stages.{next_of, passed}
use Rattle.node_device.specs.DeviceState.{DeviceState}
use Rattle.node_device.specs.Calls.{Syncs}
use Rattle.node_device.specs.EntryLists.{same_name_or_not}
use Rattle.node_device.specs.declared.device.DevError.{DevError}
use Rattle.gated_record.specs.Calls.{TurnsGate}
use Rattle.gated_record.specs.Frames.{KeepsLengths}
use Rattle.gated_record.specs.Pair.{copy_name, copy_of, pair_body}
use Rattle.gated_record.specs.PairStages.{HasGate, HasGates, Phase, Closing, Filling, Filled, Ready, Opened, Standing, Closed, Over, IsOnWay, changes_at, closings, ending}
use Rattle.gated_record.specs.PairSteps.{StepMade, KeepsRoom}
use Rattle.gated_record.specs.declared.pair.PairValue.{PairValue}

-- ## lengths

-- a gate that is there is turned
turned_lengths : {T : Type 0} (name : List ℕ) (gate byte : ℕ) (result : Result T DevError) (d e : DeviceState) → HasGate (d.file name) gate → TurnsGate name gate byte result d e → KeepsLengths d e
turned_lengths name gate byte result d e has turns q = elim (same_name_or_not q name) [
  | inl same ↦ subst (λ (n : List ℕ). (e.file n).len ≡ (d.file n).len) (sym same.1) (turns.len has.1)
  | inr other ↦ ap (λ f. f.len) (turns.only.others q other.1)
]

synced_lengths : {T : Type 0} (result : Result T DevError) (d e : DeviceState) → Syncs result d e → KeepsLengths d e
synced_lengths result d e syncs q = (syncs.alike.files q).len

-- ## the write of the body

not_in_none : (x : Change) → Contains [] x → ⊥
not_in_none x has = absurd (omega (arith, has.1))

not_in : (c : Change) (cs : List Change) (x : Change) → c ≢ x → (Contains cs x → ⊥) → Contains (c ∷ cs) x → ⊥
not_in c cs x other none (zero, lt, at) = other at
not_in c cs x other none (suc k, lt, at) = none (k, omega (arith, lt), at)

module _ (t s n : List ℕ) where
  pub ending_none : (gate : Bool) → Contains (ending s gate) (Write n) → ⊥
  ending_none true = not_in (Close s 0) (Sync ∷ []) (Write n) (λ is. cc is) (not_in Sync [] (Write n) (λ is. cc is) (not_in_none (Write n)))
  ending_none false = not_in_none (Write n)

  pub opened_none : (gate : Bool) → Contains (Sync ∷ ending s gate) (Write n) → ⊥
  opened_none gate = not_in Sync (ending s gate) (Write n) (λ is. cc is) (ending_none gate)

  ready_none : (gate : Bool) → Contains (Open t 0 ∷ Sync ∷ ending s gate) (Write n) → ⊥
  ready_none gate = not_in (Open t 0) (Sync ∷ ending s gate) (Write n) (λ is. cc is) (opened_none gate)

  filled_none : (gate : Bool) → Contains (Sync ∷ Open t 0 ∷ Sync ∷ ending s gate) (Write n) → ⊥
  filled_none gate = not_in Sync (Open t 0 ∷ Sync ∷ ending s gate) (Write n) (λ is. cc is) (ready_none gate)

-- it is left behind the closing of any gates
pub closing_has : (t : List ℕ) (gates : List ℕ) (later : List Change) → Contains (closings t gates ++ Sync ∷ Write t ∷ later) (Write t)
closing_has t gates later = Contains-append_right (closings t gates) (Sync ∷ Write t ∷ later) (Write t) (1, omega arith, refl)

-- ## a step

module _ (stem : List ℕ) (old : Option PairValue) (want : PairValue) (d e : DeviceState) where
  abbrev t : List ℕ
  t = copy_name stem (copy_of want)

  abbrev s : List ℕ
  s = copy_name stem (1 - copy_of want)

  -- a step past the write
  behind : (before after : List Change) → (Contains before (Write t) → ⊥) → (Contains after (Write t) → ⊥) → KeepsRoom stem want (Some before) (Some after) d e
  behind before after none none_after = record { left = λ still. absurd (none_after still); gone = λ no. inl none }

  by : (phase : Phase) (gate : Bool) → HasGates phase gate (d.file t) (d.file s) → StepMade {T = Unit {0}} (Some (changes_at t s gate phase)) (pair_body want) (Ok (tt {0})) d e
      → KeepsRoom stem want (Some (changes_at t s gate phase)) (passed (Some (changes_at t s gate phase))) d e
  by (Closing []) gate has syncs = record { left = λ still. ((1, omega arith, refl), synced_lengths (Ok (tt {0})) d e syncs); gone = λ no. absurd (no (0, omega arith, refl)) }
  by (Closing (k ∷ gates)) gate has turns = record {
    left = λ still. ((suc still.0, omega (arith, still.1), still.2), turned_lengths t k 0 (Ok (tt {0})) d e (has.0 0 k (omega arith)) turns);
    gone = λ no. absurd (no (closing_has t gates (changes_at t s gate Filled)));
  }
  by Filling gate has writes = record { left = λ still. absurd (filled_none t s t gate still); gone = λ no. inr refl }
  by Filled gate has syncs = behind (changes_at t s gate Filled) (changes_at t s gate Ready) (filled_none t s t gate) (ready_none t s t gate)
  by Ready gate has turns = behind (changes_at t s gate Ready) (changes_at t s gate Opened) (ready_none t s t gate) (opened_none t s t gate)
  by Opened gate has syncs = behind (changes_at t s gate Opened) (ending s gate) (opened_none t s t gate) (ending_none t s t gate)
  by Standing gate has turns = behind (changes_at t s gate Standing) (changes_at t s gate Closed) (ending_none t s t true) (opened_none t s t false)
  by Closed gate has syncs = behind (changes_at t s gate Closed) [] (opened_none t s t false) (not_in_none (Write t))
  by Over gate has made = behind [] [] (not_in_none (Write t)) (not_in_none (Write t))

  pub keeps_room : (changes : List Change) → IsOnWay stem (copy_of want) old want d changes → StepMade {T = Unit {0}} (Some changes) (pair_body want) (Ok (tt {0})) d e → KeepsRoom stem want (Some changes) (passed (Some changes)) d e
  keeps_room changes way made =
      subst (λ (cs : List Change). KeepsRoom stem want (Some cs) (passed (Some cs)) d e) (sym way.changes_are)
      (by way.phase way.gate way.gates (subst (λ (cs : List Change). StepMade {T = Unit {0}} (Some cs) (pair_body want) (Ok (tt {0})) d e) way.changes_are made))

  -- the body that comes next is that of the wanted value, in its copy
  next_by : (phase : Phase) (gate : Bool) (n : List ℕ) → next_of (Some (changes_at t s gate phase)) ≡ Some (Write n) → n ≡ t
  next_by (Closing []) gate n is = absurd (cc is)
  next_by (Closing (k ∷ gates)) gate n is = absurd (cc is)
  next_by Filling gate n is = cc is
  next_by Filled gate n is = absurd (cc is)
  next_by Ready gate n is = absurd (cc is)
  next_by Opened gate n is = absurd (cc is)
  next_by Standing gate n is = absurd (cc is)
  next_by Closed gate n is = absurd (cc is)
  next_by Over gate n is = absurd (cc is)

  pub next_copy : (changes : List Change) → IsOnWay stem (copy_of want) old want d changes → (n : List ℕ) → next_of (Some changes) ≡ Some (Write n) → n ≡ t
  next_copy changes way n is = next_by way.phase way.gate n (ap (λ (cs : List Change). next_of (Some cs)) (sym way.changes_are) ∙ is)
