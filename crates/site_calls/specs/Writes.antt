-- The writes that a call makes.
use Rattle.std.specs.Prelude.{◌≡◌, ◌⊎◌, ◌+◌, ℕ, List, length, Option, None, Some}
use Rattle.scr_base.specs.Stages.{next_of}
use Rattle.scr_base.specs.declared.change.Change.{Change}
use Rattle.scr_base.specs.declared.change.Change.TheVariants as change
use Rattle.node_device.specs.DeviceState.{DeviceState, used_of}
use Rattle.node_device.specs.Answers.{Passes}
use Rattle.gated_record.specs.Pair.{pair_body}
use Rattle.gated_record.specs.PairSteps.{IsPairWrite}
use Rattle.site_calls.specs.Numbers.{Way, IsNumberFile}

-- Here a write is told by the place of its device, the file's name, where in the file it begins, and how many bytes it has.

-- this write
abbrev pub IsWrite : ℕ → List ℕ → ℕ → ℕ → ℕ → List ℕ → ℕ → ℕ → Type 0
IsWrite place name at count p n a k = (p ≡ place) × (n ≡ name) × (a ≡ at) × (k ≡ count)

-- none
abbrev pub IsNoWrite : ℕ → List ℕ → ℕ → ℕ → Type 0
IsNoWrite p n a k = ⊥

-- the write passes the capacity of its device
abbrev pub PassesOn : (ℕ → DeviceState) → ℕ → List ℕ → ℕ → ℕ → Type 0
PassesOn states place name at count = Passes ((states place).file name) (used_of (states place)) (states place).capacity at count

-- ## The run's number

-- what one change of a pair's way writes
abbrev pub ChangeWrites : List ℕ → Change → List ℕ → ℕ → ℕ → Type 0
ChangeWrites body (change.Open name gate) n a k = (n ≡ name) × (a ≡ gate) × (k ≡ 1)
ChangeWrites body (change.Close name gate) n a k = (n ≡ name) × (a ≡ gate) × (k ≡ 1)
ChangeWrites body (change.Write name) n a k = (n ≡ name) × (a ≡ 8) × (k ≡ 8 + length body)
ChangeWrites body _ n a k = ⊥

abbrev pub NextWrites : List ℕ → Option Change → List ℕ → ℕ → ℕ → Type 0
NextWrites body None n a k = ⊥
NextWrites body (Some next) n a k = ChangeWrites body next n a k

-- the change that comes next of the run's number on its way to the prefix
abbrev pub WayWrites : Way → ℕ → List ℕ → ℕ → ℕ → Type 0
WayWrites way p n a k = (p ≡ 32) × NextWrites (pair_body way.want) (next_of way.changes) n a k

-- The first change isn't known before the prefix is read: it is at one of the number's two copies.
abbrev pub FirstWrites : Way → ℕ → List ℕ → ℕ → ℕ → Type 0
FirstWrites way p n a k = (way.changes ≡ None) × (p ≡ 32) × IsNumberFile n × IsPairWrite way.want a k

abbrev pub MayWayWrite : Way → ℕ → List ℕ → ℕ → ℕ → Type 0
MayWayWrite way p n a k = WayWrites way p n a k ⊎ FirstWrites way p n a k
