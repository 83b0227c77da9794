-- What comes of a write that passes a capacity.
use Rattle.std.proofs.Common.{◌≡◌, ◌⊎◌, ◌+◌, ◌-◌, ℕ, List, [], ◌∷◌, ◌++◌, length, slice_get, Option, Some, None, Err, true, refl, sym, ap, ◌∙◌, subst, inl, inr, unwrap_or}
use Rattle.scr_base.specs.declared.answers.Refusal.{Refusal}
use Rattle.scr_base.specs.declared.answers.Refusal.TheVariants as refusal
use Rattle.scr_base.specs.declared.answers.Reply.TheVariants as reply
use Rattle.scr_base.specs.declared.content.Step.{Step}
use Rattle.scr_base.specs.declared.shape.DataId.{DataId}
use Rattle.node_device.specs.DeviceState.{DeviceState, used_of}
use Rattle.node_device.specs.Rack.{Rack, states_of}
use Rattle.member_store.specs.Members.{member_body}
use Rattle.member_store.specs.Names.{record_name, part_name}
use Rattle.member_store.specs.declared.part.Part.{Part}
use Rattle.ckpt_model.specs.declared.event.Event.TheVariants as event
use Rattle.ckpt_model.specs.declared.event.StopCause.TheVariants as stops
use Rattle.round_core.specs.declared.seat.Seat.{Seat}
use Rattle.site_state.specs.declared.cache.Manifest.{Manifest}
use Rattle.site_state.specs.declared.run_moves.Spot.{Spot}
use Rattle.site_state.specs.declared.run_state.RunState.{RunState}
use Rattle.site_state.specs.declared.run_state.RunStage.{RunStage}
use Rattle.site_state.specs.declared.run_state.RunStage.TheVariants as stage
use Rattle.site_calls.specs.declared.trouble.Trouble.{Trouble}
use Rattle.site_calls.specs.declared.trouble.Trouble.TheVariants as error
use Rattle.site_core.specs.declared.site.Site.{Site}
use Rattle.site_state.specs.Ahead.{IsToRecord}
use Rattle.site_calls.specs.Causes.{CallCause, IsFull, told_trouble}
use Rattle.site_core.specs.Causes.{is_told, cause_of}
use Rattle.site_state.specs.Choosing.{local_verdict_of, is_to_save}
use Rattle.site_state.specs.Cores.{IsSpot, saved_in}
use Rattle.site_calls.specs.Numbers.{Way}
use Rattle.site_state.specs.Steps.{IsNextLocal}
use Rattle.site_calls.specs.Writes.{IsWrite, PassesOn, MayWayWrite}
use Rattle.site_core.specs.Writes.{IsFileWrite, StepWrites, RankWrites, IsRecordWrite, IsGateWrite, EncoderWrites}
use Rattle.site_core.specs.Follows.{carried, IsOfFull, IsOfFault, TellsOf}
use Rattle.site_core.proofs.LocalSteps.{same_seat}

-- ## One write

-- the write that passes is this one
pub passes_this : (states : ℕ → DeviceState) (place : ℕ) (name : List ℕ) (at count : ℕ) (p : ℕ) (n : List ℕ) (a k : ℕ) → IsWrite place name at count p n a k → PassesOn states p n a k → PassesOn states place name at count
passes_this states place name at count p n a k (placed, named, from, counted) passes =
    subst (λ (x : ℕ). PassesOn states x name at count) placed
    (subst (λ (x : List ℕ). PassesOn states p x at count) named
    (subst (λ (x : ℕ). PassesOn states p n x count) from
    (subst (λ (x : ℕ). PassesOn states p n a x) counted passes)))

some_same : {T : Type 0} (x y : T) → Some x ≡ Some y → x ≡ y
some_same x y q = ap (λ (o : Option _). unwrap_or o x) q

-- each write of the run's number is one on the prefix
pub at_prefix : (way : Way) (p : ℕ) (n : List ℕ) (a k : ℕ) → MayWayWrite way p n a k → p ≡ 32
at_prefix way p n a k (inl w) = w.0
at_prefix way p n a k (inr w) = w.1

-- ## A rank's next step

-- it is one
same_call : (programs : List (List Step)) (c : RunState) (rank : ℕ) (a b : Step) → IsNextLocal programs c rank a → IsNextLocal programs c rank b → a ≡ b
same_call programs c rank a b m n =
    let seat : m.seat ≡ n.seat = same_seat c.ranks rank m.seat n.seat m.is n.is in
    some_same a b (sym (subst (λ (s : Seat). slice_get (unwrap_or (slice_get programs rank) []) ((s.number + 1) - 1) ≡ Some a) seat m.of_program) ∙ n.of_program)

pub step_writes : (programs : List (List Step)) (c : RunState) (rank : ℕ) (call : Step) (p : ℕ) (n : List ℕ) (a k : ℕ) → IsNextLocal programs c rank call → RankWrites programs c rank p n a k → StepWrites c rank call p n a k
step_writes programs c rank call p n a k next w = subst (λ (s : Step). StepWrites c rank s p n a k) (same_call programs c rank w.call call w.next next) w.writes

pub step_clear : (programs : List (List Step)) (c : RunState) (rank : ℕ) (call : Step) (p : ℕ) (n : List ℕ) (a k : ℕ) → IsNextLocal programs c rank call → RankWrites programs c rank p n a k → local_verdict_of c rank call ≡ None
step_clear programs c rank call p n a k next w = subst (λ (s : Step). local_verdict_of c rank s ≡ None) (same_call programs c rank w.call call w.next next) w.clear

-- a rank's file stands in one place
pub file_write : (c : RunState) (rank file from bytes : ℕ) (spot : Spot) (p : ℕ) (n : List ℕ) (a k : ℕ) → IsSpot c rank file spot → IsFileWrite c rank file from bytes p n a k → IsWrite spot.place (part_name spot.which spot.node spot.part) from bytes p n a k
file_write c rank file from bytes spot p n a k is w =
    let mine = w.spot in
    let its = w.is_spot in
    let place : mine.place ≡ spot.place = some_same mine.place spot.place (sym its.home ∙ is.home) in
    let set : its.set ≡ is.set = some_same its.set is.set (sym its.hand ∙ is.hand) in
    let which : mine.which ≡ spot.which = its.which ∙ ap (λ (m : Manifest). m.desc.which) set ∙ sym is.which in
    let node : mine.node ≡ spot.node = its.node ∙ sym is.node in
    let part : mine.part ≡ spot.part = its.part ∙ sym is.part in
    let name : part_name mine.which mine.node mine.part ≡ part_name spot.which spot.node spot.part =
    ap (λ (x : DataId). part_name x mine.node mine.part) which ∙ ap (λ (x : ℕ). part_name spot.which x mine.part) node ∙ ap (λ (x : Part). part_name spot.which spot.node x) part in
    (w.write.0 ∙ place, w.write.1 ∙ name, w.write.2, w.write.3)

-- ## The encoder

pub record_write : (c : RunState) (node place : ℕ) (m : Manifest) (p : ℕ) (n : List ℕ) (a k : ℕ) → slice_get c.places node ≡ Some place → c.opened ≡ Some m → IsRecordWrite c node p n a k → IsWrite place (record_name m.desc.which node) 8 (8 + length (member_body m.desc node m.files)) p n a k
record_write c node place m p n a k home opened w =
    let set : w.set ≡ m = some_same w.set m (sym w.opened ∙ opened) in
    (some_same p place (sym w.home ∙ home), w.name ∙ ap (λ (x : Manifest). record_name x.desc.which node) set, w.at, w.count ∙ ap (λ (x : Manifest). 8 + length (member_body x.desc node x.files)) set)

pub to_record_write : (c : RunState) (node place : ℕ) (m : Manifest) (p : ℕ) (n : List ℕ) (a k : ℕ) → IsToRecord c.stage node → slice_get c.places node ≡ Some place → c.opened ≡ Some m → EncoderWrites c.stage c p n a k → IsWrite place (record_name m.desc.which node) 8 (8 + length (member_body m.desc node m.files)) p n a k
to_record_write c node place m p n a k (inl saving) home opened w = record_write c node place m p n a k home opened (subst (λ (s : RunStage). EncoderWrites s c p n a k) saving w)
to_record_write c node place m p n a k (inr (serving, first)) home opened w = record_write c node place m p n a k home opened (subst (λ (x : ℕ). IsRecordWrite c x p n a k) (sym first) (subst (λ (s : RunStage). EncoderWrites s c p n a k) serving w).1)

pub record_to_write : (c : RunState) (node place : ℕ) (m : Manifest) (p : ℕ) (n : List ℕ) (a k : ℕ) → IsToRecord c.stage node → (c.stage ≡ stage.Serving → is_to_save c ≡ true) → slice_get c.places node ≡ Some place → c.opened ≡ Some m → IsWrite place (record_name m.desc.which node) 8 (8 + length (member_body m.desc node m.files)) p n a k → EncoderWrites c.stage c p n a k
record_to_write c node place m p n a k at asked home opened this = pick at where
  one : IsRecordWrite c node p n a k
  one = record { set = m; opened = opened; home = home ∙ ap (λ (x : ℕ). Some x) (sym this.0); name = this.1; at = this.2; count = this.3 }

  pick : IsToRecord c.stage node → EncoderWrites c.stage c p n a k
  pick (inl saving) = subst (λ (s : RunStage). EncoderWrites s c p n a k) (sym saving) one
  pick (inr (serving, first)) = subst (λ (s : RunStage). EncoderWrites s c p n a k) (sym serving) (asked serving, subst (λ (x : ℕ). IsRecordWrite c x p n a k) first one)

pub gate_write : (c : RunState) (node gate place : ℕ) (which : DataId) (p : ℕ) (n : List ℕ) (a k : ℕ) → slice_get c.places node ≡ Some place → saved_in c.opened c.kept ≡ Some which → IsGateWrite c node gate p n a k → IsWrite place (record_name which node) gate 1 p n a k
gate_write c node gate place which p n a k home saved w = (some_same p place (sym w.home ∙ home), w.name ∙ ap (λ (x : DataId). record_name x node) (some_same w.which which (sym w.saved ∙ saved)), w.at, w.count)

-- ## What is told of a call that was refused

module _ {D : Type 0} (state : D → DeviceState) (old new : Site D) (bay : Rack D) (T : Type 0) (may : ℕ → List ℕ → ℕ → ℕ → Type 0) (place : ℕ) (only : (p : ℕ) (n : List ℕ) (a k : ℕ) → may p n a k → p ≡ place) where
  -- that this device is full, or a fault
  abbrev pub Answers : Type 0
  Answers =
      let used = used_of (states_of state old.bay place) in
      let capacity = (states_of state old.bay place).capacity in
      TellsOf old new (IsOfFull place used capacity) (refusal.Full place used capacity)
      ⊎ ((node : ℕ) × (faults : ℕ) × TellsOf old new (IsOfFault node faults) (refusal.Device node faults))

  full_is : (node used capacity : ℕ) → IsFull may (states_of state old.bay) (states_of state bay) node used capacity → refusal.Full node used capacity ≡ refusal.Full place (used_of (states_of state old.bay place)) (states_of state old.bay place).capacity
  full_is node used capacity why =
      let same : node ≡ place = only node why.passes.name why.passes.at why.passes.count why.passes.own in
      ap (λ (x : ℕ). refusal.Full node x capacity) why.used_is ∙ ap (λ (x : ℕ). refusal.Full node (used_of (states_of state old.bay node)) x) why.capacity_is
      ∙ ap (λ (x : ℕ). refusal.Full x (used_of (states_of state old.bay x)) (states_of state old.bay x).capacity) same

  end_is : (node used capacity : ℕ) → IsFull may (states_of state old.bay) (states_of state bay) node used capacity → stops.Full node used capacity ≡ stops.Full place (used_of (states_of state old.bay place)) (states_of state old.bay place).capacity
  end_is node used capacity why =
      let same : node ≡ place = only node why.passes.name why.passes.at why.passes.count why.passes.own in
      ap (λ (x : ℕ). stops.Full node x capacity) why.used_is ∙ ap (λ (x : ℕ). stops.Full node (used_of (states_of state old.bay node)) x) why.capacity_is
      ∙ ap (λ (x : ℕ). stops.Full x (used_of (states_of state old.bay x)) (states_of state old.bay x).capacity) same

  -- a rank's step is answered so
  pub step_full : (t : Trouble) (r : Refusal) (rank number : ℕ) (call : Step) → told_trouble t ≡ Some r → CallCause {T = T} may (states_of state old.bay) (states_of state bay) (Err t) → new.history.events ≡ old.history.events ++ event.Local rank number call (reply.Refused r) ∷ [] → Answers
  step_full error.Memory r rank number call told why is = absurd (cc told)
  step_full (error.Fault node count) r rank number call told why is = inr (node, count, inl (event.Local rank number call (reply.Refused r), is, ap (λ (x : Refusal). reply.Refused x) (sym (some_same _ r told))))
  step_full (error.Full node used capacity) r rank number call told why is = inl (inl (event.Local rank number call (reply.Refused r), is, ap (λ (x : Refusal). reply.Refused x) (sym (some_same _ r told) ∙ full_is node used capacity why)))

  -- the run ends so
  pub end_full : (t : Trouble) → is_told t ≡ true → CallCause {T = T} may (states_of state old.bay) (states_of state bay) (Err t) → new.history.events ≡ old.history.events ++ event.Stop (cause_of t) ∷ [] → Answers
  end_full error.Memory told why is = absurd (cc told)
  end_full (error.Fault node count) told why is = inr (node, count, inl (event.Stop (stops.Device node count), is, refl))
  end_full (error.Full node used capacity) told why is = inl (inl (event.Stop (stops.Full node used capacity), is, end_is node used capacity why))

  -- the round comes to carry it
  pub carry_full : (t : Trouble) (r : Refusal) → told_trouble t ≡ Some r → CallCause {T = T} may (states_of state old.bay) (states_of state bay) (Err t) → carried old.core ≡ None → carried new.core ≡ Some r → Answers
  carry_full error.Memory r told why none now = absurd (cc told)
  carry_full (error.Fault node count) r told why none now = inr (node, count, inr (none, now ∙ sym told))
  carry_full (error.Full node used capacity) r told why none now = inl (inr (none, now ∙ sym told ∙ ap (λ (x : Refusal). Some x) (full_is node used capacity why)))
