-- What went out where a run isn't told whole.
use Rattle.std.proofs.Common.{◌≡◌, ◌⊎◌, inl, inr, ℕ, ◌+◌, ◌<◌, nat_lt, Bool, true, false, List, [], ◌++◌, ◌∷◌, take, Option, refl, sym, subst, arith}
use Rattle.std.proofs.lemmas.Bool.Decides.{nat_tests}
use Rattle.node_device.specs.DeviceState.{DeviceState}
use Rattle.ckpt_model.specs.Machine.{Setup}
use Rattle.ckpt_model.specs.Legal.{Item as LegalItem}
use Rattle.script_reader.specs.declared.script.Item.{Item}
use Rattle.scr_replay.specs.Items.{legal_item, legal_items, CutsShort}
use Rattle.scr_replay.specs.Runs.{IsReplayed, IsCutShort, RunEnds}
use Rattle.scr_replay.proofs.Replayed.{cut_then, cut_there}

four_or_more : (n : ℕ) → 3 < n → (n ≡ 4) ⊎ (4 < n)
four_or_more n h = by_test (nat_lt 4 n) refl
  where
    by_test : (t : Bool) → nat_lt 4 n ≡ t → (n ≡ 4) ⊎ (4 < n)
    by_test true e = inr (above e)
      where
        above : nat_lt 4 n ≡ true → 4 < n
        above e = grind (arith, nat_tests)
    by_test false e = inl (same e)
      where
        same : nat_lt 4 n ≡ false → n ≡ 4
        same e = grind (arith, nat_tests)

-- a front of this run's text went out, or nothing of it, behind the texts of the runs before it
pub run_cuts : (s : Setup) (items : List Item) (i : ℕ) (x : Item) (old mid new : ℕ → DeviceState) (held told held' : Option (List ℕ)) (clock clock' : Option ℕ) (faults faults' status : ℕ)
    → legal_items (take (i + 1) items) ≡ legal_items (take i items) ++ legal_item x ∷ []
    → IsReplayed s (legal_items (take i items)) old mid held told clock clock'
    → RunEnds s (legal_item x) mid new told held' faults faults' status
    → 3 < status → CutsShort s items old held held'
run_cuts s items i x old mid new held told held' clock clock' faults faults' status more before ends high =
    elim (four_or_more status high) [
      | inl four ↦
          record {
            count = i + 1;
            at = new;
            cut =
                subst (λ (xs : List LegalItem). IsCutShort s xs old new held held') (sym more)
                (cut_then s (legal_items (take i items)) (legal_item x ∷ []) old mid new held told held' clock clock' before (ends.cut four));
          }
      | inr above ↦
          record { count = i; at = mid; cut = cut_there s (legal_items (take i items)) old mid held told held' clock clock' before (ends.silent above) }
    ]
