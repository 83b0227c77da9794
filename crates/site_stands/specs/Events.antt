-- What an event leaves of the machine's state.
use Rattle.std.specs.Prelude.{◌≡◌, Bool, IsTrue}
use Rattle.ckpt_model.specs.Machine.{Machine}
use Rattle.ckpt_model.specs.Stops.{may_store, pending_of}

-- run, halt conditions, mark and what a command has pending are as before, and so is whether a run's number may be stored
pub record HasSamePairs (m new : Machine) : Type 0 where
  pub run : new.run ≡ m.run
  pub halt : new.halt ≡ m.halt
  pub mark : new.mark ≡ m.mark
  pub pending : pending_of new.stage ≡ pending_of m.stage
  pub stores : (stored : Bool) → IsTrue (may_store m stored) → IsTrue (may_store new stored)

-- of all that the devices stand for, the datasets in cache alone may change
pub record ChangesCache (m new : Machine) : Type 0 where
  pub run : new.run ≡ m.run
  pub halt : new.halt ≡ m.halt
  pub mark : new.mark ≡ m.mark
  pub stage : new.stage ≡ m.stage
  pub index : new.index ≡ m.index
