-- The causes of the statuses, and what is printed with them.
use Rattle.std.specs.Prelude.{ℕ, ◌≡◌, ◌⊎◌, ◌++◌, ◌∷◌, [], List, true, Option, Some, IfSome, IsSomeAnd, codes, ◌<◌, ◌≤◌, Result, Ok, Err}
use Rattle.scr_base.specs.Causes.{Rose}
use Rattle.scr_base.specs.Streams.{Joins}
use Rattle.node_device.specs.DeviceState.{DeviceState}
use Rattle.script_reader.specs.Grammar.{job_of, script_of}
use Rattle.script_reader.specs.declared.script.Script.{Script}
use Rattle.scr_replay.specs.Forms.{is_built}
use Rattle.scr_replay.specs.Inputs.{IsSpent}
use Rattle.scr_replay.specs.Items.{setup_of, legal_items, CutsShort}
use Rattle.scr_replay.specs.Outputs.{JoinsFront}
use Rattle.scr_replay.specs.Refusals.{refusal_of, refusal_line}
use Rattle.scr_replay.specs.Runs.{IsReplayed}
use Rattle.scr_replay.specs.Words.{IsRun}
use Rattle.scr_replay.specs.declared.refusal.Refusal.{Refusal}
use Rattle.scr_replay.specs.declared.replay.Unread.{Unread}
use Rattle.scr_replay.specs.declared.replay.Unread.TheVariants.{Failed, Refused, Memory}

-- what is told of a source and a sink, and how many of their calls failed
pub record Outside : Type 0 where
  pub left : Option (List ℕ)
  pub source_faults : ℕ
  pub held : Option (List ℕ)
  pub sink_faults : ℕ

-- a source and a sink, as they are seen
abbrev pub seen : Option (List ℕ) → ℕ → Option (List ℕ) → ℕ → Outside
seen left source_faults held sink_faults = record { left = left; source_faults = source_faults; held = held; sink_faults = sink_faults }

abbrev pub usage_line : List ℕ
usage_line = codes "usage: scr_replay run | gen SEED | script SEED" ++ 10 ∷ []

-- status 1 exactly where the words aren't accepted and no fault of the sink came; the usage is printed
pub record EndsByUsage (words : List (List ℕ)) (before after : Outside) (status : ℕ) : Type 0 where
  pub words_refused : status ≡ 1 → ¬ (IsRun words)
  pub quiet : status ≡ 1 → after.sink_faults ≡ before.sink_faults
  pub printed : status ≡ 1 → Joins before.held after.held usage_line
  pub cut : ¬ (IsRun words) → status ≡ 4 → JoinsFront before.held after.held usage_line
  pub always : ¬ (IsRun words) → ¬ (Rose before.sink_faults after.sink_faults) → status ≡ 1

-- the text is refused so
abbrev pub IsRefusedAs : Refusal → List ℕ → Type 0
IsRefusedAs refusal text = refusal_of text ≡ Some refusal

-- the text is refused so, and the line that says it went out
pub record TellsRefusal (before after : Outside) : Type 0 where
  pub refusal : Refusal
  pub text : IfSome before.left (IsRefusedAs refusal)
  pub printed : Joins before.held after.held (refusal_line refusal)

-- status 2 exactly where the text is refused and no fault came, unless memory runs out; the refusal is printed
pub record EndsByRefusal (words : List (List ℕ)) (before after : Outside) (status : ℕ) : Type 0 where
  pub words_accepted : status ≡ 2 → IsRun words
  pub refused : status ≡ 2 → TellsRefusal before after
  pub quiet_source : status ≡ 2 → after.source_faults ≡ before.source_faults
  pub quiet_sink : status ≡ 2 → after.sink_faults ≡ before.sink_faults
  pub cut : IsRun words → (r : Refusal) → IsSomeAnd before.left (IsRefusedAs r) → status ≡ 4 → JoinsFront before.held after.held (refusal_line r)
  pub always : IsRun words → (r : Refusal) → IsSomeAnd before.left (IsRefusedAs r) → ¬ (Rose before.source_faults after.source_faults) → ¬ (Rose before.sink_faults after.sink_faults) → (status ≡ 2) ⊎ (status ≡ 5)

-- status 3 only where the source's count rose; nothing is printed
pub record EndsBySourceFault (words : List (List ℕ)) (before after : Outside) (status : ℕ) : Type 0 where
  pub words_accepted : status ≡ 3 → IsRun words
  pub fault : status ≡ 3 → Rose before.source_faults after.source_faults
  pub silent : status ≡ 3 → after.held ≡ before.held
  pub quiet_sink : status ≡ 3 → after.sink_faults ≡ before.sink_faults

-- status 4 only where the sink's count rose
pub record EndsBySinkFault (before after : Outside) (status : ℕ) : Type 0 where
  pub fault : status ≡ 4 → Rose before.sink_faults after.sink_faults

-- a front of the refusal of the text went out
pub record TellsRefusalFront (before after : Outside) : Type 0 where
  pub refusal : Refusal
  pub text : IfSome before.left (IsRefusedAs refusal)
  pub printed : JoinsFront before.held after.held (refusal_line refusal)

-- what goes out before any run: nothing, or a front of the usage or of the refusal
abbrev pub IsEarlyFront : List (List ℕ) → Outside → Outside → Type 0
IsEarlyFront words before after =
    (after.held ≡ before.held) ⊎ ((¬ (IsRun words) × JoinsFront before.held after.held usage_line) ⊎ TellsRefusalFront before after)

-- a call that came to no run has one of the statuses 1 to 5, with its cause
pub record EndsEarly (words : List (List ℕ)) (before after : Outside) (status : ℕ) : Type 0 where
  pub usage : EndsByUsage words before after status
  pub refusal : EndsByRefusal words before after status
  pub source_fault : EndsBySourceFault words before after status
  pub sink_fault : EndsBySinkFault before after status
  pub front : 3 < status → IsEarlyFront words before after
  pub known : (0 < status) × (status ≤ 5)

-- the text spells this script
abbrev pub Spells : Script → List ℕ → Type 0
Spells script text = script_of text ≡ Ok (job_of script)

-- the script is of the form that is built
abbrev pub IsBuilt : Script → Type 0
IsBuilt script = is_built (job_of script) ≡ true

-- a call that comes to a run has read the text of a script that is built to its end, and has printed nothing yet
pub record ComesToRun (words : List (List ℕ)) (before after : Outside) (script : Script) : Type 0 where
  pub words_accepted : IsRun words
  pub read : IfSome before.left (Spells script)
  pub built : IsBuilt script
  pub spent : IsSpent after.left
  pub quiet_source : after.source_faults ≡ before.source_faults
  pub unprinted : after.held ≡ before.held
  pub quiet_sink : after.sink_faults ≡ before.sink_faults

-- a line went out whole, and the status is its own, or a front of it, and the status is 4
abbrev pub Prints : Option (List ℕ) → Option (List ℕ) → ℕ → ℕ → List ℕ → ℕ → ℕ → Type 0
Prints held held' faults faults' line status result =
    ((result ≡ status) × Joins held held' line × (faults' ≡ faults))
    ⊎ ((result ≡ 4) × JoinsFront held held' line × Rose faults faults')

-- a refusal went out, or a front of it, or there was no memory for it and nothing went out
abbrev pub Refuses : Option (List ℕ) → Option (List ℕ) → ℕ → ℕ → Refusal → ℕ → Type 0
Refuses held held' faults faults' refusal result =
    Prints held held' faults faults' (refusal_line refusal) 2 result
    ⊎ ((result ≡ 5) × (held' ≡ held) × (faults' ≡ faults))

-- the script of a text that is built, or why it is refused; but for want of memory
abbrev pub IsBuiltFrom : List ℕ → Result Script Unread → Type 0
IsBuiltFrom text (Ok script) = Spells script text × IsBuilt script
IsBuiltFrom text (Err (Refused refusal)) = IsRefusedAs refusal text
IsBuiltFrom text (Err Memory) = Unit {0}
IsBuiltFrom text (Err Failed) = ⊥

-- the source's fault only where its count rose; at any other answer the count stays
abbrev pub UnreadCause : {T : Type 0} → ℕ → ℕ → Result T Unread → Type 0
UnreadCause before now (Err Failed) = Rose before now
UnreadCause before now _ = now ≡ before

-- the source is refused so
abbrev pub IsUnread : {T : Type 0} → Option (List ℕ) → Result T Unread → Type 0
IsUnread left (Err (Refused refusal)) = IfSome left (IsRefusedAs refusal)
IsUnread left _ = Unit {0}

-- at status 0 the source was read to its end, and its script was replayed
pub record IsDone (before after : Outside) (old new : ℕ → DeviceState) (clock clock' : Option ℕ) : Type 0 where
  pub script : Script
  pub read : IfSome before.left (Spells script)
  pub built : IsBuilt script
  pub spent : IsSpent after.left
  pub quiet_source : after.source_faults ≡ before.source_faults
  pub quiet_sink : after.sink_faults ≡ before.sink_faults
  pub replayed : IsReplayed (setup_of script) (legal_items script.items) old new before.held after.held clock clock'

-- the first runs of the source's script were played, and a front of their text went out
pub record IsCut (before after : Outside) (old : ℕ → DeviceState) : Type 0 where
  pub script : Script
  pub read : IfSome before.left (Spells script)
  pub built : IsBuilt script
  pub cut : CutsShort (setup_of script) script.items old before.held after.held
