-- What a call leaves of the files that it doesn't speak of.
use Rattle.std.specs.Prelude.{◌≡◌, ◌≢◌, ℕ, true, List, Option}
use Rattle.node_device.specs.File.{File, MayLeave}
use Rattle.node_device.specs.DeviceState.{DeviceState}
use Rattle.gated_record.specs.Pair.{copy_name}

-- A read gives the same, and a stop may leave no more than before.
pub record IsNoWorse (f g : File) : Type 0 where
  pub len : g.len ≡ f.len
  pub now : g.now ≡ f.now
  pub outcomes : (o : Option (List ℕ)) → MayLeave g o → MayLeave f o
  pub touched : (k : ℕ) → g.touched k ≡ true → f.touched k ≡ true

-- each file has the length that it had
abbrev pub KeepsLengths : DeviceState → DeviceState → Type 0
KeepsLengths old new = (q : List ℕ) → (new.file q).len ≡ (old.file q).len

-- No file but a pair's is changed, though a sync may have made others stable.
pub record ChangesPair (stem : List ℕ) (old new : DeviceState) : Type 0 where
  pub tells : new.tells ≡ old.tells
  pub capacity : new.capacity ≡ old.capacity
  pub others : (q : List ℕ) → q ≢ copy_name stem 0 → q ≢ copy_name stem 1 → IsNoWorse (old.file q) (new.file q)
