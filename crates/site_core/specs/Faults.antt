-- The faults that a history tells, and that each of them has its cause.
use Rattle.std.specs.Prelude.{◌≡◌, ◌≢◌, ◌≤◌, ◌<◌, ◌-◌, ◌^◌, ℕ, List, filter_map, AllPairs, Contains, Option, Some, None}
use Rattle.scr_base.specs.Causes.{Rose}
use Rattle.scr_base.specs.declared.answers.Refusal.TheVariants as refusal
use Rattle.scr_base.specs.declared.answers.Reply.{Reply}
use Rattle.scr_base.specs.declared.answers.Reply.TheVariants as replies
use Rattle.node_device.specs.DeviceState.{DeviceState}
use Rattle.node_device.specs.Rack.{states_of}
use Rattle.ckpt_model.specs.declared.event.CommandAnswer.{CommandAnswer}
use Rattle.ckpt_model.specs.declared.event.CommandAnswer.TheVariants as answers
use Rattle.ckpt_model.specs.declared.event.Event.{Event}
use Rattle.ckpt_model.specs.declared.event.Event.TheVariants as event
use Rattle.ckpt_model.specs.declared.event.GivenUpCause.{GivenUpCause}
use Rattle.ckpt_model.specs.declared.event.GivenUpCause.TheVariants as given
use Rattle.ckpt_model.specs.declared.event.IndexNote.{IndexNote}
use Rattle.ckpt_model.specs.declared.event.IndexNote.TheVariants as note
use Rattle.ckpt_model.specs.declared.event.ScavAnswer.{ScavAnswer}
use Rattle.ckpt_model.specs.declared.event.ScavAnswer.TheVariants as scav
use Rattle.ckpt_model.specs.declared.event.StopCause.{StopCause}
use Rattle.ckpt_model.specs.declared.event.StopCause.TheVariants as stops
use Rattle.site_core.specs.declared.site.Site.{Site}
use Rattle.site_core.specs.Follows.{carried}

-- a fault of the device at this place, the so many-th
pub record Fault : Type 0 where
  pub node : ℕ
  pub count : ℕ

abbrev pub fault_at : ℕ → ℕ → Option Fault
fault_at node count = Some (record { node = node; count = count })

-- ## What an event tells

abbrev pub fault_in_reply : Reply → Option Fault
fault_in_reply (replies.Refused (refusal.Device node count)) = fault_at node count
fault_in_reply _ = None

abbrev pub fault_in_end : StopCause → Option Fault
fault_in_end (stops.Device node count) = fault_at node count
fault_in_end _ = None

-- a command changes the prefix, whose place is 32
abbrev pub fault_in_command : CommandAnswer → Option Fault
fault_in_command (answers.Device count) = fault_at 32 count
fault_in_command _ = None

abbrev pub fault_in_note : IndexNote → Option Fault
fault_in_note (note.List rows) = None
fault_in_note (note.ListFault count) = fault_at 32 count
fault_in_note (note.Drop id answer) = fault_in_command answer
fault_in_note (note.Current id answer) = fault_in_command answer

abbrev pub fault_in_flush : GivenUpCause → Option Fault
fault_in_flush (given.Device node count) = fault_at node count
fault_in_flush _ = None

abbrev pub fault_in_scavenge : ScavAnswer → Option Fault
fault_in_scavenge (scav.Device node count) = fault_at node count
fault_in_scavenge _ = None

-- the fault that the event tells; the replies to ranks say again what was decided
abbrev pub fault_of : Event → Option Fault
fault_of (event.Decided kind answer) = fault_in_reply answer
fault_of (event.Local rank number call answer) = fault_in_reply answer
fault_of (event.GivenUp which cause) = fault_in_flush cause
fault_of (event.Stop cause) = fault_in_end cause
fault_of (event.Scavenged answer) = fault_in_scavenge answer
fault_of (event.IndexCommand note) = fault_in_note note
fault_of (event.HaltSet word answer) = fault_in_command answer
fault_of _ = None

-- the faults that the events tell, in their order
abbrev pub faults_told : List Event → List Fault
faults_told events = filter_map fault_of events

-- ## Causes

-- that device's count rose to the fault's count, or past it, between these states
pub record IsMetBetween (old new : ℕ → DeviceState) (fault : Fault) : Type 0 where
  pub rose : Rose (old fault.node).faults fault.count
  pub reached : fault.count ≤ (new fault.node).faults

-- they are two faults; a count that stands at its type's end may be of more than one
abbrev pub AreTwo : Fault → Fault → Type 0
AreTwo one other = one.count < 2 ^ 64 - 1 → one ≢ other

-- the fault isn't one of these
abbrev pub IsNoneOf : List Fault → Fault → Type 0
IsNoneOf faults fault = fault.count < 2 ^ 64 - 1 → Contains faults fault → ⊥

-- no count of faults fell between these states, each fault that the events tell was met between them, and each is told once
pub record TellsCauses (old new : ℕ → DeviceState) (events : List Event) : Type 0 where
  pub rise : (place : ℕ) → (old place).faults ≤ (new place).faults
  pub met : (fault : Fault) → Contains (faults_told events) fault → IsMetBetween old new fault
  pub once : AllPairs AreTwo (faults_told events)

-- The history tells faults that were met since this state, each once; and one by which a round will be decided was met since, and isn't told yet.
pub record IsAccounted {D : Type 0} (state : D → DeviceState) (base : ℕ → DeviceState) (site : Site D) : Type 0 where
  pub causes : TellsCauses base (states_of state site.bay) site.history.events
  pub carries : (node count : ℕ) → carried site.core ≡ Some (refusal.Device node count)
      → let fault : Fault = record { node = node; count = count } in
      IsMetBetween base (states_of state site.bay) fault × IsNoneOf (faults_told site.history.events) fault

-- whatever state the faults are counted from, they are still accounted for
abbrev pub KeepsAccount : {D : Type 0} → (D → DeviceState) → Site D → Site D → Type 0
KeepsAccount state old new = (base : ℕ → DeviceState) → IsAccounted state base old → IsAccounted state base new
