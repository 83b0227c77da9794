-- What a command on the prefix leaves of a whole site.
use Rattle.std.proofs.Common.{◌≡◌, ◌≢◌, inl, inr, ℕ, Bool, true, false, List, Option, refl, sym, subst, ◌∙◌, arith}
use Rattle.std.specs.Prelude.{◌⊎◌, Result, Ok, bytes_eq, codes}
use Rattle.std.proofs.lemmas.Bool.{cases_eq}
use Rattle.std.proofs.lemmas.Slice.Eq.{bytes_eq-Decides}
use Rattle.scr_base.specs.declared.content.HaltWord.{HaltWord}
use Rattle.scr_base.specs.declared.memory.Memory.{Memory}
use Rattle.scr_base.specs.Halt.{Halt}
use Rattle.node_device.specs.File.{File, IsAtRest}
use Rattle.node_device.specs.Outcomes.{rest_leaves}
use Rattle.node_device.specs.DeviceState.{DeviceState}
use Rattle.node_device.specs.Rack.{OnlyAt}
use Rattle.gated_record.specs.Frames.{IsNoWorse}
use Rattle.gated_record.specs.Pair.{copy_name}
use Rattle.gated_record.specs.PairStages.{IsCopyName}
use Rattle.halt_file.specs.Stores.{HaltLeaves}
use Rattle.admin.specs.Causes.{wanted, IsReady}
use Rattle.admin.specs.Halting.{IsOldOrWanted, Keeps, SetsHalt}
use Rattle.admin.specs.Running.{IsQuiet, IsStop, Tells, StandsWith, RunsHalt}
use Rattle.admin.specs.declared.answer.Answer.{Answer}
use Rattle.admin.specs.declared.answer.Answer.TheVariants.{Done}

is_or_not : (a b : List ℕ) → (a ≡ b) ⊎ (a ≢ b)
is_or_not a b = pick (bytes_eq a b) refl
  where
    pick : (t : Bool) → bytes_eq a b ≡ t → (a ≡ b) ⊎ (a ≢ b)
    pick true e = inl ((bytes_eq-Decides a b).0 e)
    pick false e = inr (λ same. absurd (let is = (bytes_eq-Decides a b).1 same in cc (e, is)))

no_worse : (f : File) → IsNoWorse f f
no_worse f = record { len = refl; now = refl; outcomes = λ o may. may; touched = λ k is. is }

module _ (word : Option HaltWord) (result : Result Answer Memory) (old new : ℕ → DeviceState) (done : OnlyAt 32 (SetsHalt word result) old new) where
  -- every other file is no worse than before
  beside : (place : ℕ) (q : List ℕ) → (place ≡ 32 → IsCopyName (codes "halt") q → ⊥) → IsNoWorse ((old place).file q) ((new place).file q)
  beside place q other = elim (cases_eq place 32) [
    | inl is ↦ subst (λ (p : ℕ). IsNoWorse ((old p).file q) ((new p).file q)) (sym is) (done.here.only.others q (λ same. other is (inl same)) (λ same. other is (inr same)))
    | inr ne ↦ subst (λ (s : DeviceState). IsNoWorse ((old place).file q) (s.file q)) (sym (done.others place ne)) (no_worse ((old place).file q))
  ]

  ready : IsQuiet old → (old 32).tells ≡ true → IsReady (old 32)
  ready quiet tells = record { tells = tells; zero = quiet 32 (copy_name (codes "halt") 0) (omega arith); one = quiet 32 (copy_name (codes "halt") 1) (omega arith) }

  -- on the prefix all is at rest once the command was done
  rests_here : IsQuiet old → result ≡ Ok Done → Keeps (wanted word (old 32)) (new 32) → (q : List ℕ) → IsAtRest ((new 32).file q)
  rests_here quiet is keeps q = elim (is_or_not q (copy_name (codes "halt") 0)) [
    | inl zero_copy ↦ subst (λ (n : List ℕ). IsAtRest ((new 32).file n)) (sym zero_copy) keeps.zero
    | inr n0 ↦ elim (is_or_not q (copy_name (codes "halt") 1)) [
      | inl one_copy ↦ subst (λ (n : List ℕ). IsAtRest ((new 32).file n)) (sym one_copy) keeps.one
      | inr n1 ↦ done.here.rest is q n0 n1 (quiet 32 q (omega arith))
    ]
  ]

  rests : IsQuiet old → result ≡ Ok Done → Keeps (wanted word (old 32)) (new 32) → IsQuiet new
  rests quiet is keeps place q le = elim (cases_eq place 32) [
    | inl here ↦ subst (λ (p : ℕ). IsAtRest ((new p).file q)) (sym here) (rests_here quiet is keeps q)
    | inr ne ↦ subst (λ (s : DeviceState). IsAtRest (s.file q)) (sym (done.others place ne)) (quiet place q le)
  ]

  stands : IsQuiet old → (old 32).tells ≡ true → result ≡ Ok Done → StandsWith (λ halt. halt ≡ wanted word (old 32)) old new
  stands quiet tells is =
      let keeps = done.here.done (ready quiet tells) is in record {
        halt = keeps.tells;
        reads = λ place q le other. (beside place q other).now;
        quiet = rests quiet is keeps;
      }

  -- a stop of all devices
  module _ (quiet : IsQuiet old) (left : ℕ → DeviceState) (stop : IsStop new left) (tells : Tells left) where
    told : (old 32).tells ≡ true
    told = sym done.here.only.tells ∙ (stop 32).tells.told_before (tells 32 (omega arith))

    left_with : (P : Halt → Type 0) → HaltLeaves (new 32) P → StandsWith P old left
    left_with P leaves = record {
      halt = leaves ((left 32).file (copy_name (codes "halt") 0)).now ((left 32).file (copy_name (codes "halt") 1)).now
          ((stop 32).outcome (tells 32 (omega arith)) (copy_name (codes "halt") 0)) ((stop 32).outcome (tells 32 (omega arith)) (copy_name (codes "halt") 1));
      reads = λ place q le other. rest_leaves ((old place).file q) ((left place).file q).now (quiet place q le) ((beside place q other).outcomes ((left place).file q).now ((stop place).outcome (tells place le) q));
      quiet = λ place q le. (stop place).at_rest q;
    }

    stays : result ≡ Ok Done → StandsWith (λ halt. halt ≡ wanted word (old 32)) old left
    stays is = left_with (λ halt. halt ≡ wanted word (old 32)) (done.here.done (ready quiet told) is).stays

    stops : StandsWith (IsOldOrWanted word (old 32)) old left
    stops = left_with (IsOldOrWanted word (old 32)) (done.here.leaves (ready quiet told))

  pub runs : RunsHalt word result old new
  runs = record { prefix = done; stands = stands; stays = stays; stops = stops }
