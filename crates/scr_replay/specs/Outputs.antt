-- What is written to a sink.
use Rattle.std.specs.Prelude.{ℕ, ◌≡◌, ◌++◌, List, Option, Result, Ok, Err}
use Rattle.scr_base.specs.Causes.{Rose}
use Rattle.scr_base.specs.Streams.{Joins}
use Rattle.scr_replay.specs.declared.telling.Untold.{Untold}
use Rattle.scr_replay.specs.declared.telling.Untold.TheVariants.{Failed}

-- a front of the bytes came behind what there was
abbrev pub JoinsFront : Option (List ℕ) → Option (List ℕ) → List ℕ → Type 0
JoinsFront before after bytes = (front : List ℕ) × (rest : List ℕ) × (front ++ rest ≡ bytes) × Joins before after front

-- all of the bytes at Ok, and a front of them at a fault
abbrev pub Puts : {E : Type 0} → Option (List ℕ) → Option (List ℕ) → List ℕ → Result Unit E → Type 0
Puts before after bytes (Ok _) = Joins before after bytes
Puts before after bytes (Err _) = JoinsFront before after bytes

-- the sink's fault only where its count rose; at any other answer the count stays
abbrev pub UntoldCause : {T : Type 0} → ℕ → ℕ → Result T Untold → Type 0
UntoldCause before now (Err Failed) = Rose before now
UntoldCause before now _ = now ≡ before
