-- A rank's own step that a device refused.
use Rattle.std.proofs.Common.{◌≡◌, inl, ℕ, ◌+◌, ◌*◌, ◌/◌, ◌<◌, ◌≤◌, true, List, [], ◌∷◌, ◌++◌, length, Some, None, Err, refl, sym, ap, ◌∙◌, subst, slice_get, arith}
use Rattle.std.specs.Prelude.{slice_set}
use Rattle.std.proofs.lemmas.Option.{slice_get_within}
use Rattle.scr_base.specs.declared.answers.Phase.TheVariants as phase
use Rattle.scr_base.specs.declared.answers.Refusal.{Refusal}
use Rattle.scr_base.specs.declared.answers.Reply.TheVariants as reply
use Rattle.scr_base.specs.declared.content.Step.{Step}
use Rattle.filemap.specs.declared.rows.FileRow.{FileRow}
use Rattle.member_store.specs.Names.{part_name}
use Rattle.node_device.specs.DeviceState.{DeviceState}
use Rattle.node_device.specs.Rack.{Rack, OnlyAt, states_of}
use Rattle.ckpt_model.specs.Answers.{is_fault, may_fault_local}
use Rattle.ckpt_model.specs.declared.event.Event.{Event}
use Rattle.ckpt_model.specs.declared.event.Event.TheVariants as event
use Rattle.ckpt_model.specs.Machine.{Machine}
use Rattle.round_core.specs.declared.seat.Seat.{Seat}
use Rattle.round_core.specs.Seats.{stepped}
use Rattle.site_state.specs.declared.run_moves.Spot.{Spot}
use Rattle.site_state.specs.declared.run_state.RunState.{RunState}
use Rattle.site_state.specs.declared.run_state.RunStage.TheVariants as stage
use Rattle.site_calls.specs.declared.trouble.Trouble.{Trouble}
use Rattle.site_core.specs.declared.site.Site.{Site}
use Rattle.site_state.specs.Choosing.{local_verdict_of, rows_at}
use Rattle.site_state.specs.Cores.{IsSpot}
use Rattle.site_calls.specs.Calls.{Refused, KeptAlike}
use Rattle.site_calls.specs.Causes.{CallCause, told_trouble}
use Rattle.site_core.specs.Holds.{Leads, IsPending}
use Rattle.site_core.specs.Follows.{Follows, Keeps, Tells, IsOfRank, IsRefusedFor}
use Rattle.site_state.specs.Steps.{IsNextLocal}
use Rattle.site_core.proofs.Told.{is_up, led}
use Rattle.site_core.proofs.LocalSteps.{spot_file, spot_place, hand_rows, hand_opened}
use Rattle.site_state.proofs.Shapes.{few_ranks}
use Rattle.site_core.proofs.Puts.{few_rows, node_below, place_is}
use Rattle.site_core.proofs.Refusals.{cells_alike, refused_rest, alike_rest, refused_told, refused_for, told_faults}
use Rattle.site_core.proofs.Turns.{tells_one}

module _ (first : Machine) (c : RunState) (programs : List (List Step)) (states after : ℕ → DeviceState) (events events' : List Event) (rank : ℕ) (call : Step) (r : Refusal) (seat : Seat)
    (at : c.stage ≡ stage.Serving) (next : IsNextLocal programs c rank call) (clear : local_verdict_of c rank call ≡ None) (fault : is_fault (reply.Refused r) ≡ true) (may : may_fault_local call (reply.Refused r) ≡ true)
    (here : slice_get c.ranks rank ≡ Some seat) (more : events' ≡ events ++ event.Local rank (seat.number + 1) call (reply.Refused r) ∷ []) (leads : Leads first c programs states events) where
  -- a write to a file of the open dataset
  pub put_refused : (file : ℕ) (spot : Spot) → c.phase ≡ phase.Output → IsSpot c rank file spot → file ≤ length (rows_at c rank) → OnlyAt spot.place (Refused (part_name spot.which spot.node spot.part)) states after
      → Leads first (record c { ranks = slice_set c.ranks rank (stepped seat) }) programs after events'
  put_refused file spot output is within done =
      let h = led first c programs states events (ap is_up at) leads in
      let m = is.set in
      let opened = hand_opened c m output is.hand in
      let of = h.well.sets m (inl opened) in
      let name = part_name spot.which spot.node spot.part in
      let low : rank < c.shape.nodes * c.shape.ranks = omega (arith, slice_get_within c.ranks rank seat here, h.well.ranks) in
      let lt : rank < length m.files = omega (arith, low, of.files.ranks_are) in
      let few : length (rows_at c rank) ≤ 16 = subst (λ (rows : List FileRow). length rows ≤ 16) (sym (hand_rows c m rank is.hand)) (few_rows c.shape c.run m rank of lt) in
      let pending : IsPending stage.Serving c name = (m, opened, (rank, file, omega (arith, low, few_ranks c.shape), omega (arith, within, few), spot_file c rank file spot is)) in
      let node = node_below c.shape rank low in
      let place : spot.place ≡ rank / c.shape.ranks = spot_place c rank file spot is ∙ place_is c.shape c.places (rank / c.shape.ranks) h.well.places node in
      refused_told first c programs states after events at (cells_alike spot.place states after done.here.alike done.others)
      (λ p q away rest. refused_rest spot.place states after name done p q (λ there same. away (omega (arith, there, place, node)) (subst (λ (x : List ℕ). IsPending stage.Serving c x) (sym same) pending)) rest)
      events' rank seat call r next clear fault may here more leads

  -- a read
  pub get_refused : (place : ℕ) → OnlyAt place KeptAlike states after → Leads first (record c { ranks = slice_set c.ranks rank (stepped seat) }) programs after events'
  get_refused place done =
      refused_told first c programs states after events at (cells_alike place states after done.here.alike done.others) (λ p q away rest. alike_rest place states after done p q rest) events' rank seat call r next clear fault may here more leads

-- ## The turn

module _ {D : Type 0} (state : D → DeviceState) (old new : Site D) (mid : Rack D) (rank : ℕ) (call : Step) (t : Trouble) (r : Refusal) (seat : Seat)
    (bay : new.bay ≡ mid) (told : told_trouble t ≡ Some r) (here : slice_get old.core.ranks rank ≡ Some seat)
    (is : new.history.events ≡ old.history.events ++ event.Local rank (seat.number + 1) call (reply.Refused r) ∷ []) where
  pub tells_refusal : (T : Type 0) (may : ℕ → List ℕ → ℕ → ℕ → Type 0) → CallCause {T = T} may (states_of state old.bay) (states_of state mid) (Err t) → Tells (IsOfRank rank) may state old new
  tells_refusal T may why = tells_one (IsOfRank rank) may state old new (event.Local rank (seat.number + 1) call (reply.Refused r)) is refl
      (subst (λ (b : Rack D). IsRefusedFor may (states_of state old.bay) (states_of state b) (reply.Refused r)) (sym bay) (refused_for T may (states_of state old.bay) (states_of state mid) t r told why))

  module _ (core : new.core ≡ record old.core { ranks = slice_set old.core.ranks rank (stepped seat) }) (programs : new.programs ≡ old.programs)
      (at : old.core.stage ≡ stage.Serving) (next : IsNextLocal old.programs old.core rank call) (clear : local_verdict_of old.core rank call ≡ None) (may : may_fault_local call (reply.Refused r) ≡ true) where
    refused_so : (first : Machine) → Leads first (let x : RunState = record old.core { ranks = slice_set old.core.ranks rank (stepped seat) } in x) old.programs (states_of state mid) new.history.events → Follows state first new
    refused_so first l = subst (λ (x : RunState). Leads first x new.programs (states_of state new.bay) new.history.events) (sym core)
        (subst (λ (ps : List (List Step)). Leads first (let x : RunState = record old.core { ranks = slice_set old.core.ranks rank (stepped seat) } in x) ps (states_of state new.bay) new.history.events) (sym programs)
        (subst (λ (b : Rack D). Leads first (let x : RunState = record old.core { ranks = slice_set old.core.ranks rank (stepped seat) } in x) old.programs (states_of state b) new.history.events) (sym bay) l))

    pub keeps_put : (file : ℕ) (spot : Spot) → old.core.phase ≡ phase.Output → IsSpot old.core rank file spot → file ≤ length (rows_at old.core rank) → OnlyAt spot.place (Refused (part_name spot.which spot.node spot.part)) (states_of state old.bay) (states_of state mid)
        → Keeps state old new
    keeps_put file spot output at_spot within done tells first base f = refused_so first (put_refused first old.core old.programs (states_of state old.bay) (states_of state mid) old.history.events new.history.events rank call r seat at next clear (told_faults t r told) may here is f file spot output at_spot within done)

    pub keeps_get : (place : ℕ) → OnlyAt place KeptAlike (states_of state old.bay) (states_of state mid) → Keeps state old new
    keeps_get place done tells first base f = refused_so first (get_refused first old.core old.programs (states_of state old.bay) (states_of state mid) old.history.events new.history.events rank call r seat at next clear (told_faults t r told) may here is f place done)
