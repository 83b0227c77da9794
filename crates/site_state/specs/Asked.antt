-- What the ranks of a complete round ask for.
use Rattle.std.specs.Prelude.{◌≡◌, Bool, true, false, Option, None, Some}
use Rattle.std.specs.List.{list_all}
use Rattle.scr_base.specs.declared.content.Step.{Step}
use Rattle.scr_base.specs.declared.content.Step.TheVariants as step
use Rattle.scr_base.specs.declared.answers.Refusal.{Refusal}
use Rattle.scr_base.specs.declared.answers.Reply.TheVariants as reply
use Rattle.scr_base.specs.declared.shape.DataId.{DataId}
use Rattle.ckpt_model.specs.Answers.{is_fault}
use Rattle.round_core.specs.Seats.{is_complete, first_call, seat_is_valid}
use Rattle.site_state.specs.declared.cache.Manifest.{Manifest}
use Rattle.site_state.specs.declared.run_state.RunState.{RunState}
use Rattle.site_state.specs.Choosing.{verdict_of}

-- the round that saves the open dataset
pub record IsSaveRound (c : RunState) : Type 0 where
  pub complete : is_complete c.ranks ≡ true
  pub valid : Bool
  pub first : first_call c.ranks ≡ Some (step.Complete valid)
  pub clear : verdict_of c (step.Complete valid) ≡ None
  pub all : list_all seat_is_valid c.ranks ≡ true

-- the ranks ask for the open dataset to be completed, not all of them say valid, and nothing speaks against the round
pub record IsDropRound (c : RunState) (which : DataId) : Type 0 where
  pub set : Manifest
  pub opened : c.opened ≡ Some set
  pub which_is : which ≡ set.desc.which
  pub complete : is_complete c.ranks ≡ true
  pub valid : Bool
  pub first : first_call c.ranks ≡ Some (step.Complete valid)
  pub clear : verdict_of c (step.Complete valid) ≡ None
  pub some : list_all seat_is_valid c.ranks ≡ false

-- why it goes: a rank doesn't say valid, or a device refuses the round
abbrev pub IsDropCause : RunState → Option Refusal → Type 0
IsDropCause c None = list_all seat_is_valid c.ranks ≡ false
IsDropCause c (Some refusal) = (is_fault (reply.Refused refusal) ≡ true) × (list_all seat_is_valid c.ranks ≡ true)

-- the round for which it goes
pub record IsDropFor (c : RunState) : Type 0 where
  pub complete : is_complete c.ranks ≡ true
  pub valid : Bool
  pub first : first_call c.ranks ≡ Some (step.Complete valid)
  pub clear : verdict_of c (step.Complete valid) ≡ None
  pub why : IsDropCause c c.refusal

-- every rank has called, rank 0 this, and nothing speaks against it
pub record IsClearRound (c : RunState) (call : Step) : Type 0 where
  pub complete : is_complete c.ranks ≡ true
  pub first : first_call c.ranks ≡ Some call
  pub clear : verdict_of c call ≡ None

-- every rank has called, rank 0 this, and the round is refused so
pub record IsRefusedRound (c : RunState) (call : Step) (refusal : Refusal) : Type 0 where
  pub complete : is_complete c.ranks ≡ true
  pub first : first_call c.ranks ≡ Some call
  pub verdict : verdict_of c call ≡ Some refusal
  pub no_fault : is_fault (reply.Refused refusal) ≡ false
