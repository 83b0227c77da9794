-- What each move of a run does to what is ahead of it.
use Rattle.std.proofs.Common.{◌≡◌, inl, inr, ℕ, suc, ◌+◌, ◌-◌, ◌*◌, ◌^◌, ◌<◌, ◌≤◌, Bool, true, false, List, [], ◌∷◌, length, map, filter, Option, Some, None, IfSome, refl, sym, ap, ◌∙◌, subst, slice_get, arith}
use Rattle.std.specs.Prelude.{slice_set, nat_lt, find, option_map, option_and_then, IsSomeAnd, if◌then◌else◌}
use Rattle.std.specs.List.{list_any}
use Rattle.std.proofs.lemmas.List.{length-map, length-set}
use Rattle.std.proofs.lemmas.Option.{slice_get_within}
use Rattle.std.proofs.lemmas.Bool.Decides.{nat_tests}
use Rattle.scr_base.specs.Calls.{is_end, judged, or_else}
use Rattle.scr_base.specs.Same.{same_id}
use Rattle.scr_base.specs.Stages.{left}
use Rattle.scr_base.specs.declared.answers.Refusal.{Refusal}
use Rattle.scr_base.specs.declared.answers.Refusal.TheVariants as refusal
use Rattle.scr_base.specs.declared.answers.Reply.{Reply}
use Rattle.scr_base.specs.declared.content.Step.{Step}
use Rattle.scr_base.specs.declared.content.Step.TheVariants as step
use Rattle.scr_base.specs.declared.shape.DataId.{DataId}
use Rattle.scr_base.specs.declared.shape.Shape.{Shape}
use Rattle.ckpt_model.proofs.SameLemmas.{id-same}
use Rattle.halt_file.specs.declared.halt.Halt.{Halt}
use Rattle.member_store.specs.declared.member.Member.{Member}
use Rattle.round_core.specs.declared.seat.Doing.TheVariants as doing
use Rattle.round_core.specs.declared.seat.Seat.{Seat}
use Rattle.round_core.specs.Seats.{next_number, called, owed, freed, stepped, judged_of, calls_of, first_call}
use Rattle.site_state.specs.declared.cache.Cached.{Cached}
use Rattle.site_state.specs.declared.cache.Manifest.{Manifest}
use Rattle.site_state.specs.declared.cache.Mark.TheVariants as mark
use Rattle.site_state.specs.declared.run_state.RunState.{RunState}
use Rattle.site_state.specs.declared.run_state.DropStep.TheVariants as drop
use Rattle.site_state.specs.declared.run_state.RunStage.{RunStage}
use Rattle.site_state.specs.declared.run_state.RunStage.TheVariants as stage
use Rattle.site_state.specs.declared.run_state.SaveStep.{SaveStep}
use Rattle.site_state.specs.declared.run_state.SaveStep.TheVariants as work
use Rattle.site_state.specs.Asking.{program_of}
use Rattle.site_state.specs.Shown.{mends, settled_if, come_to}
use Rattle.site_state.specs.Cores.{dropping_core, next_drop_core, closed_core, settled_core, recovered, seen_core}
use Rattle.site_state.specs.Choosing.{verdict_of}
use Rattle.site_state.specs.Looks.{is_standing, found_member}
use Rattle.site_state.specs.Waiting.{is_over}
use Rattle.site_state.specs.Asked.{IsClearRound, IsRefusedRound}
use Rattle.site_state.specs.Steps.{IsNextCall, IsNextLocal}
use Rattle.site_state.specs.Ahead.{removal_ahead, round_ahead, work_ahead, save_ahead, open_ahead, clock_ahead, stage_ahead, call_ahead, seat_ahead, seats_ahead, ranks_ahead, some_calls, ahead, IsToRecord}
use Rattle.site_state.proofs.Serving.{some_same}
use Rattle.site_state.proofs.AheadSeats.{called_lower, freed_lower, stepped_lower, one_lower, owed_any, owed_calls, first_calls, differs_calls}

-- ## The workers

clock_one : (o : Option ℕ) → 1 ≤ clock_ahead o
clock_one None = omega arith
clock_one (Some now) = omega arith

clock_most : (o : Option ℕ) → clock_ahead o ≤ 2
clock_most None = omega arith
clock_most (Some now) = omega arith

less_and_same : (a b x y : ℕ) → a < b → x ≡ y → a + x < b + y
less_and_same a b x y lt same = omega (arith, lt, same)

-- the ranks are as they were, and the workers have less ahead
pub at_stages : (c d : RunState) (programs : List (List Step)) (s t : RunStage) → c.stage ≡ s → d.stage ≡ t → d.shape ≡ c.shape → d.ranks ≡ c.ranks → stage_ahead t d < stage_ahead s c → ahead d programs < ahead c programs
unfolding ahead
at_stages c d programs s t at to shape ranks lt =
    let less : stage_ahead d.stage d < stage_ahead c.stage c = subst (λ (x : RunStage). stage_ahead x d < stage_ahead c.stage c) (sym to) (subst (λ (x : RunStage). stage_ahead t d < stage_ahead x c) (sym at) lt) in
    let same : ranks_ahead d programs ≡ ranks_ahead c programs = ap (λ (x : Shape). seats_ahead (call_ahead x.nodes (length d.ranks)) programs 0 d.ranks) shape ∙ ap (λ (x : List Seat). seats_ahead (call_ahead c.shape.nodes (length x)) programs 0 x) ranks in
    less_and_same (stage_ahead d.stage d) (stage_ahead c.stage c) (ranks_ahead d programs) (ranks_ahead c programs) less same

-- a run that isn't over has something ahead
some_left : (c : RunState) (s : RunStage) → is_over s ≡ false → 0 < stage_ahead s c
some_left c stage.Begun e = omega arith
some_left c stage.Storing e = omega arith
some_left c stage.Looking e = omega arith
some_left c stage.Mending e = omega arith
some_left c stage.Serving e = let one = clock_one c.reading in omega (arith, one)
some_left c (stage.Saving work.Record node) e = omega arith
some_left c (stage.Saving work.RecordSync node) e = omega arith
some_left c (stage.Saving work.Whole node) e = omega arith
some_left c (stage.Saving work.WholeSync node) e = omega arith
some_left c (stage.Saving work.Sealed node) e = omega arith
some_left c (stage.Saving work.SealedSync node) e = omega arith
some_left c (stage.Dropping drop.File node) e = omega arith
some_left c (stage.Dropping drop.Sync node) e = omega arith
some_left c stage.Dropped e = omega arith
some_left c stage.Over e = absurd (cc e)

-- the run ends
pub cut_lower : (c d : RunState) (programs : List (List Step)) → is_over c.stage ≡ false → d.stage ≡ stage.Over → d.shape ≡ c.shape → d.ranks ≡ c.ranks → ahead d programs < ahead c programs
cut_lower c d programs on to shape ranks = at_stages c d programs c.stage stage.Over refl to shape ranks (some_left c c.stage on)

pub stop_lower : (c : RunState) (programs : List (List Step)) → is_over c.stage ≡ false → ahead (record c { stage = stage.Over }) programs < ahead c programs
stop_lower c programs on = at_stages c (record c { stage = stage.Over }) programs c.stage stage.Over refl refl refl refl (some_left c c.stage on)

-- ## The recoverer

pub numbered_lower : (c : RunState) (programs : List (List Step)) (run : ℕ) (halt : Halt) → c.stage ≡ stage.Begun → ahead (record c { stage = stage.Storing; run = run; halt = halt; storing = Rattle.site_calls.specs.Numbers.way_of run }) programs < ahead c programs
numbered_lower c programs run halt at = at_stages c (record c { stage = stage.Storing; run = run; halt = halt; storing = Rattle.site_calls.specs.Numbers.way_of run }) programs stage.Begun stage.Storing at refl refl refl (omega arith)

-- the number comes nearer to the prefix
pub nearer_lower : (c : RunState) (programs : List (List Step)) (w : Rattle.site_calls.specs.Numbers.Way) → c.stage ≡ stage.Storing → left w.changes < left c.storing.changes → ahead (record c { storing = w }) programs < ahead c programs
nearer_lower c programs w at fewer = at_stages c (record c { storing = w }) programs stage.Storing stage.Storing at at refl refl (add (left w.changes) (left c.storing.changes) (open_ahead c.opened c.shape.nodes (length c.ranks)) fewer) where
  add : (a b k : ℕ) → a < b → a + 2 ^ 64 + 5 + k < b + 2 ^ 64 + 5 + k
  add a b k lt = omega (arith, lt)

pub stored_lower : (c : RunState) (programs : List (List Step)) (w : Rattle.site_calls.specs.Numbers.Way) → c.stage ≡ stage.Storing → ahead (record c { storing = w; stage = stage.Looking }) programs < ahead c programs
stored_lower c programs w at = at_stages c (record c { storing = w; stage = stage.Looking }) programs stage.Storing stage.Looking at refl refl refl (add (left c.storing.changes) (open_ahead c.opened c.shape.nodes (length c.ranks))) where
  add : (a k : ℕ) → 2 ^ 64 + 4 + k < a + 2 ^ 64 + 5 + k
  add a k = omega arith

-- recovery may be over
recovers : (c d : RunState) (programs : List (List Step)) (s : RunStage) → c.stage ≡ s → d.stage ≡ stage.Mending → d.shape ≡ c.shape → d.ranks ≡ c.ranks → stage_ahead stage.Mending d < stage_ahead s c → ahead (recovered d) programs < ahead c programs
recovers c d programs s at to shape ranks lt = pick (list_any mends d.kept) where
  serves : (w n k top : ℕ) → w ≤ 2 → n + 3 + k < top → w + k < top
  serves w n k top few lt = omega (arith, few, lt)

  pick : (b : Bool) → ahead (if b then d else record d { stage = stage.Serving }) programs < ahead c programs
  pick true = at_stages c d programs s stage.Mending at to shape ranks lt
  pick false = at_stages c (record d { stage = stage.Serving }) programs s stage.Serving at refl shape ranks (serves (clock_ahead d.reading) (length (filter mends d.kept)) (open_ahead d.opened d.shape.nodes (length d.ranks)) (stage_ahead s c) (clock_most d.reading) lt)

-- recovery is over once nothing is left to look after
pub over_lower : (c : RunState) (programs : List (List Step)) → c.stage ≡ stage.Mending → list_any mends c.kept ≡ false → ahead (recovered c) programs < ahead c programs
over_lower c programs at none = subst (λ (b : Bool). ahead (if b then c else record c { stage = stage.Serving }) programs < ahead c programs) (sym none)
    (at_stages c (record c { stage = stage.Serving }) programs stage.Mending stage.Serving at refl refl refl (add (clock_ahead c.reading) (length (filter mends c.kept)) (open_ahead c.opened c.shape.nodes (length c.ranks)) (clock_most c.reading))) where
      add : (w n k : ℕ) → w ≤ 2 → w + k < n + 3 + k
      add w n k few = omega (arith, few)

fewer_of : {X : Type 0} (test : X → Bool) (xs : List X) → length (filter test xs) ≤ length xs
fewer_of test [] = omega arith
fewer_of {X} test (x ∷ xs) = pick (test x) (fewer_of test xs) where
  pick : (b : Bool) → length (filter test xs) ≤ length xs → length (if b then x ∷ filter test xs else filter test xs) ≤ suc (length xs)
  pick true le = omega (arith, le)
  pick false le = omega (arith, le)

-- what was found is looked after
pub found_lower : (c : RunState) (programs : List (List Step)) (kept : List Cached) → c.stage ≡ stage.Looking → length kept ≤ 2 ^ 64 → ahead (recovered (seen_core c kept)) programs < ahead c programs
found_lower c programs kept at few = recovers c (seen_core c kept) programs stage.Looking at refl refl refl (add (length (filter mends kept)) (length kept) (open_ahead c.opened c.shape.nodes (length c.ranks)) (fewer_of mends kept) few) where
  add : (n m k : ℕ) → n ≤ m → m ≤ 2 ^ 64 → n + 3 + k < 2 ^ 64 + 4 + k
  add n m k le few = omega (arith, le, few)

-- no more is found than a node holds members
pub found_few : (kept : List Cached) (members : List Member) → kept ≡ map found_member (filter is_standing members) → length members ≤ 2 ^ 64 → length kept ≤ 2 ^ 64
found_few kept members is few =
    let same : length kept ≡ length (filter is_standing members) = ap length is ∙ length-map (filter is_standing members) found_member in
    let fewer : length (filter is_standing members) ≤ length members = fewer_of is_standing members in
    omega (arith, same, fewer, few)

-- what is settled is not to be mended
settled_not : (which : DataId) (x : Cached) → mends x ≡ false → mends (settled_if which x) ≡ false
settled_not which x is = pick (same_id x.manifest.desc.which which) where
  pick : (b : Bool) → mends (if b then come_to mark.Settled x else x) ≡ false
  pick true = refl
  pick false = is

no_more : (which : DataId) (sets : List Cached) → length (filter mends (map (settled_if which) sets)) ≤ length (filter mends sets)
no_more which [] = omega arith
no_more which (x ∷ xs) = pick (mends x) refl (mends (settled_if which x)) refl (no_more which xs) where
  pick : (a : Bool) → mends x ≡ a → (b : Bool) → mends (settled_if which x) ≡ b → length (filter mends (map (settled_if which) xs)) ≤ length (filter mends xs)
      → length (if b then settled_if which x ∷ filter mends (map (settled_if which) xs) else filter mends (map (settled_if which) xs)) ≤ length (if a then x ∷ filter mends xs else filter mends xs)
  pick true p true q le = omega (arith, le)
  pick true p false q le = omega (arith, le)
  pick false p true q le = absurd (cc (settled_not which x p, q))
  pick false p false q le = le

fewer_mends : (which : DataId) (sets : List Cached) → option_map (λ (set : Cached). set.manifest.desc.which) (find mends sets) ≡ Some which → length (filter mends (map (settled_if which) sets)) < length (filter mends sets)
fewer_mends which [] e = absurd (cc e)
fewer_mends which (x ∷ xs) e = pick (mends x) refl e (λ found. fewer_mends which xs found) where
  rest : List Cached
  rest = map (settled_if which) xs

  settles : x.manifest.desc.which ≡ which → mends (settled_if which x) ≡ false
  settles same = ap (λ (b : Bool). mends (if b then come_to mark.Settled x else x)) (ap (λ (w : DataId). same_id x.manifest.desc.which w) (sym same) ∙ id-same x.manifest.desc.which)

  pick : (a : Bool) → mends x ≡ a → option_map (λ (set : Cached). set.manifest.desc.which) (if a then Some x else find mends xs) ≡ Some which
      → (option_map (λ (set : Cached). set.manifest.desc.which) (find mends xs) ≡ Some which → length (filter mends (map (settled_if which) xs)) < length (filter mends xs))
      → length (if mends (settled_if which x) then settled_if which x ∷ filter mends (map (settled_if which) xs) else filter mends (map (settled_if which) xs)) < length (if a then x ∷ filter mends xs else filter mends xs)
  pick true p e more =
      subst (λ (b : Bool). length (if b then settled_if which x ∷ filter mends (map (settled_if which) xs) else filter mends (map (settled_if which) xs)) < suc (length (filter mends xs))) (sym (settles (some_same x.manifest.desc.which which e)))
      (let le = no_more which xs in omega (arith, le))
  pick false p e more =
      subst (λ (b : Bool). length (if b then settled_if which x ∷ filter mends (map (settled_if which) xs) else filter mends (map (settled_if which) xs)) < length (filter mends xs)) (sym (settled_not which x p)) (more e)

pub mended_lower : (c : RunState) (programs : List (List Step)) (which : DataId) → c.stage ≡ stage.Mending → option_map (λ (set : Cached). set.manifest.desc.which) (find mends c.kept) ≡ Some which
    → ahead (recovered (record c { kept = map (settled_if which) c.kept })) programs < ahead c programs
mended_lower c programs which at next = recovers c (record c { kept = map (settled_if which) c.kept }) programs stage.Mending at at refl refl
    (add (length (filter mends (map (settled_if which) c.kept))) (length (filter mends c.kept)) (open_ahead c.opened c.shape.nodes (length c.ranks)) (fewer_mends which c.kept next)) where
      add : (a b k : ℕ) → a < b → a + 3 + k < b + 3 + k
      add a b k lt = omega (arith, lt)

-- ## The encoder

less_plus : (a b k : ℕ) → a < b → a + k < b + k
less_plus a b k lt = omega (arith, lt)

module _ (c d : RunState) (programs : List (List Step)) (shape : d.shape ≡ c.shape) (ranks : d.ranks ≡ c.ranks) where
  -- a later change of a saving comes next
  works_lower : (w v : SaveStep) (node next : ℕ) → c.stage ≡ stage.Saving w node → d.stage ≡ stage.Saving v next → work_ahead v c.shape.nodes next < work_ahead w c.shape.nodes node → ahead d programs < ahead c programs
  works_lower w v node next at to lt = at_stages c d programs (stage.Saving w node) (stage.Saving v next) at to shape ranks
      (subst (λ (x : Shape). save_ahead v x.nodes next (length d.ranks) < save_ahead w c.shape.nodes node (length c.ranks)) (sym shape)
      (subst (λ (x : List Seat). save_ahead v c.shape.nodes next (length x) < save_ahead w c.shape.nodes node (length c.ranks)) (sym ranks)
      (less_plus (work_ahead v c.shape.nodes next) (work_ahead w c.shape.nodes node) (removal_ahead c.shape.nodes (length c.ranks)) lt)))

  pub opened_lower : (node : ℕ) → c.stage ≡ stage.Saving work.Whole node → d.stage ≡ stage.Saving work.WholeSync node → ahead d programs < ahead c programs
  opened_lower node at to = works_lower work.Whole work.WholeSync node node at to (omega arith)

  pub sealed_lower : (node : ℕ) → c.stage ≡ stage.Saving work.Sealed node → d.stage ≡ stage.Saving work.SealedSync node → ahead d programs < ahead c programs
  sealed_lower node at to = works_lower work.Sealed work.SealedSync node node at to (omega arith)

  pub next_lower : (node : ℕ) → c.stage ≡ stage.Saving work.SealedSync node → d.stage ≡ stage.Saving work.Sealed (node + 1) → node < c.shape.nodes - 1 → ahead d programs < ahead c programs
  next_lower node at to more = works_lower work.SealedSync work.Sealed node (node + 1) at to (omega (arith, more))

  -- a node is done: the same comes of the next one, or the next thing of the first one
  pub record_done : (node : ℕ) → c.stage ≡ stage.Saving work.RecordSync node → d.stage ≡ (if nat_lt node (c.shape.nodes - 1) then stage.Saving work.Record (node + 1) else stage.Saving work.Whole 0) → ahead d programs < ahead c programs
  record_done node at to = pick (nat_lt node (c.shape.nodes - 1)) refl to where
    pick : (b : Bool) → nat_lt node (c.shape.nodes - 1) ≡ b → d.stage ≡ (if b then stage.Saving work.Record (node + 1) else stage.Saving work.Whole 0) → ahead d programs < ahead c programs
    pick true is to = works_lower work.RecordSync work.Record node (node + 1) at to (let lt : node < c.shape.nodes - 1 = grind (arith, nat_tests, is) in omega (arith, lt))
    pick false is to = works_lower work.RecordSync work.Whole node 0 at to (omega arith)

  pub whole_done : (node : ℕ) → c.stage ≡ stage.Saving work.WholeSync node → d.stage ≡ (if nat_lt node (c.shape.nodes - 1) then stage.Saving work.Whole (node + 1) else stage.Saving work.Sealed 0) → ahead d programs < ahead c programs
  whole_done node at to = pick (nat_lt node (c.shape.nodes - 1)) refl to where
    pick : (b : Bool) → nat_lt node (c.shape.nodes - 1) ≡ b → d.stage ≡ (if b then stage.Saving work.Whole (node + 1) else stage.Saving work.Sealed 0) → ahead d programs < ahead c programs
    pick true is to = works_lower work.WholeSync work.Whole node (node + 1) at to (let lt : node < c.shape.nodes - 1 = grind (arith, nat_tests, is) in omega (arith, lt))
    pick false is to = works_lower work.WholeSync work.Sealed node 0 at to (omega arith)

-- a node's record is written
pub recorded_lower : (c : RunState) (programs : List (List Step)) (node : ℕ) (m : Manifest) → IsToRecord c.stage node → c.opened ≡ Some m → ahead (record c { stage = stage.Saving work.RecordSync node }) programs < ahead c programs
recorded_lower c programs node m (inl at) opened = works_lower c (record c { stage = stage.Saving work.RecordSync node }) programs refl refl work.Record work.RecordSync node node at refl (omega arith)
recorded_lower c programs node m (inr at) opened = at_stages c (record c { stage = stage.Saving work.RecordSync node }) programs stage.Serving (stage.Saving work.RecordSync node) at.0 refl refl refl
    (subst (λ (n : ℕ). save_ahead work.RecordSync c.shape.nodes n (length c.ranks) < stage_ahead stage.Serving c) (sym at.1)
    (subst (λ (o : Option Manifest). save_ahead work.RecordSync c.shape.nodes 0 (length c.ranks) < clock_ahead c.reading + open_ahead o c.shape.nodes (length c.ranks)) (sym opened)
    (add (clock_ahead c.reading) c.shape.nodes (removal_ahead c.shape.nodes (length c.ranks))))) where
      add : (w n k : ℕ) → work_ahead work.RecordSync n 0 + k < w + (work_ahead work.Record n 0 + k)
      add w n k = omega arith

-- so much is ahead where a record is written or synced: more than a removal
pub record_over : (c : RunState) (node : ℕ) (m : Manifest) → IsToRecord c.stage node → c.opened ≡ Some m → removal_ahead c.shape.nodes (length c.ranks) < stage_ahead c.stage c
record_over c node m (inl at) opened = subst (λ (s : RunStage). removal_ahead c.shape.nodes (length c.ranks) < stage_ahead s c) (sym at) (add (work_ahead work.Record c.shape.nodes node) (removal_ahead c.shape.nodes (length c.ranks)) (omega arith)) where
  add : (n k : ℕ) → 0 < n → k < n + k
  add n k lt = omega (arith, lt)
record_over c node m (inr at) opened = subst (λ (s : RunStage). removal_ahead c.shape.nodes (length c.ranks) < stage_ahead s c) (sym at.0)
    (subst (λ (o : Option Manifest). removal_ahead c.shape.nodes (length c.ranks) < clock_ahead c.reading + open_ahead o c.shape.nodes (length c.ranks)) (sym opened) (add (clock_ahead c.reading) (work_ahead work.Record c.shape.nodes 0) (removal_ahead c.shape.nodes (length c.ranks)) (clock_one c.reading))) where
      add : (w n k : ℕ) → 1 ≤ w → k < w + (n + k)
      add w n k one = omega (arith, one)

pub record_sync_over : (c : RunState) (node : ℕ) → c.stage ≡ stage.Saving work.RecordSync node → removal_ahead c.shape.nodes (length c.ranks) < stage_ahead c.stage c
record_sync_over c node at = subst (λ (s : RunStage). removal_ahead c.shape.nodes (length c.ranks) < stage_ahead s c) (sym at) (add (work_ahead work.RecordSync c.shape.nodes node) (removal_ahead c.shape.nodes (length c.ranks)) (omega arith)) where
  add : (n k : ℕ) → 0 < n → k < n + k
  add n k lt = omega (arith, lt)

pub settled_lower : (c : RunState) (programs : List (List Step)) (node : ℕ) (which : DataId) → c.stage ≡ stage.Saving work.SealedSync node → c.opened ≡ None → ahead (settled_core c which) programs < ahead c programs
settled_lower c programs node which at closed = at_stages c (settled_core c which) programs (stage.Saving work.SealedSync node) stage.Serving at refl refl refl
    (subst (λ (o : Option Manifest). clock_ahead c.reading + open_ahead o c.shape.nodes (length c.ranks) < save_ahead work.SealedSync c.shape.nodes node (length c.ranks)) (sym closed) (let few = clock_most c.reading in omega (arith, few)))

-- ## The evictor

-- the files of a dataset are to be removed, where more than that is ahead
pub dropping_lower : (c : RunState) (programs : List (List Step)) (which : DataId) (r : Option Refusal) → removal_ahead c.shape.nodes (length c.ranks) < stage_ahead c.stage c → ahead (dropping_core c which r) programs < ahead c programs
dropping_lower c programs which r lt = at_stages c (dropping_core c which r) programs c.stage (stage.Dropping drop.File 0) refl refl refl refl lt

pub open_over : (c : RunState) (m : Manifest) → c.stage ≡ stage.Serving → c.opened ≡ Some m → removal_ahead c.shape.nodes (length c.ranks) < stage_ahead c.stage c
open_over c m at opened = record_over c 0 m (inr (at, refl)) opened

module _ (c : RunState) (programs : List (List Step)) (node : ℕ) where
  pub removed_lower : (r : Rattle.site_calls.specs.Removals.Leaving) → c.stage ≡ stage.Dropping drop.File node → left r.changes < left c.removal.changes → ahead (record c { removal = r }) programs < ahead c programs
  removed_lower r at fewer = at_stages c (record c { removal = r }) programs (stage.Dropping drop.File node) (stage.Dropping drop.File node) at at refl refl
      (add (left r.changes) (left c.removal.changes) ((c.shape.nodes - 1 - node) * (2 ^ 64 + 2)) (round_ahead (length c.ranks)) fewer) where
        add : (a b x y : ℕ) → a < b → x + a + 2 + y < x + b + 2 + y
        add a b x y lt = omega (arith, lt)

  pub cleared_lower : (r : Rattle.site_calls.specs.Removals.Leaving) → c.stage ≡ stage.Dropping drop.File node → ahead (record c { removal = r; stage = stage.Dropping drop.Sync node }) programs < ahead c programs
  cleared_lower r at = at_stages c (record c { removal = r; stage = stage.Dropping drop.Sync node }) programs (stage.Dropping drop.File node) (stage.Dropping drop.Sync node) at refl refl refl
      (add (left c.removal.changes) ((c.shape.nodes - 1 - node) * (2 ^ 64 + 2)) (round_ahead (length c.ranks))) where
        add : (b x y : ℕ) → x + 1 + y < x + b + 2 + y
        add b x y = omega arith

  -- the next node comes, or the round is to be decided
  pub dropped_lower : c.stage ≡ stage.Dropping drop.Sync node → ahead (if nat_lt node (c.shape.nodes - 1) then next_drop_core c (node + 1) else record c { stage = stage.Dropped }) programs < ahead c programs
  dropped_lower at = pick (nat_lt node (c.shape.nodes - 1)) refl where
    one_less : (n r : ℕ) → node < n - 1 → (n - 1 - (node + 1)) * (2 ^ 64 + 2) + 2 ^ 64 + 2 + r < (n - 1 - node) * (2 ^ 64 + 2) + 1 + r
    one_less n r lt = omega (arith, lt)

    pick : (b : Bool) → nat_lt node (c.shape.nodes - 1) ≡ b → ahead (if b then next_drop_core c (node + 1) else record c { stage = stage.Dropped }) programs < ahead c programs
    pick true is = at_stages c (next_drop_core c (node + 1)) programs (stage.Dropping drop.Sync node) (stage.Dropping drop.File (node + 1)) at refl refl refl
        (one_less c.shape.nodes (round_ahead (length c.ranks)) (let lt : node < c.shape.nodes - 1 = grind (arith, nat_tests, is) in lt))
    pick false is = at_stages c (record c { stage = stage.Dropped }) programs (stage.Dropping drop.Sync node) stage.Dropped at refl refl refl (add ((c.shape.nodes - 1 - node) * (2 ^ 64 + 2)) (round_ahead (length c.ranks))) where
      add : (x y : ℕ) → y < x + 1 + y
      add x y = omega arith

-- ## The ranks

-- an open dataset has no more ahead than a call
open_most : (o : Option Manifest) (nodes ranks : ℕ) → open_ahead o nodes ranks + 2 * ranks + 2 ≤ call_ahead nodes ranks
open_most None nodes ranks = omega arith
open_most (Some m) nodes ranks = add (save_ahead work.Record nodes 0 ranks) ranks where
  add : (s r : ℕ) → s + 2 * r + 2 ≤ 2 * r + 2 + s
  add s r = omega arith

-- what a run that serves has ahead, with other ranks and another open dataset
module _ (c d : RunState) (programs : List (List Step)) (at : c.stage ≡ stage.Serving) (to : d.stage ≡ stage.Serving) (shape : d.shape ≡ c.shape) (many : length d.ranks ≡ length c.ranks) where
  call : ℕ
  call = call_ahead c.shape.nodes (length c.ranks)

  serves_lower : (clock_ahead d.reading + open_ahead d.opened c.shape.nodes (length c.ranks)) + seats_ahead (call_ahead c.shape.nodes (length c.ranks)) programs 0 d.ranks < (clock_ahead c.reading + open_ahead c.opened c.shape.nodes (length c.ranks)) + seats_ahead (call_ahead c.shape.nodes (length c.ranks)) programs 0 c.ranks
      → ahead d programs < ahead c programs
  unfolding ahead
  serves_lower lt =
      subst (λ (s : RunStage). stage_ahead s d + ranks_ahead d programs < stage_ahead c.stage c + ranks_ahead c programs) (sym to)
      (subst (λ (s : RunStage). stage_ahead stage.Serving d + ranks_ahead d programs < stage_ahead s c + ranks_ahead c programs) (sym at)
      (subst (λ (x : Shape). (clock_ahead d.reading + open_ahead d.opened x.nodes (length d.ranks)) + seats_ahead (call_ahead x.nodes (length d.ranks)) programs 0 d.ranks < (clock_ahead c.reading + open_ahead c.opened c.shape.nodes (length c.ranks)) + ranks_ahead c programs) (sym shape)
      (subst (λ (n : ℕ). (clock_ahead d.reading + open_ahead d.opened c.shape.nodes n) + seats_ahead (call_ahead c.shape.nodes n) programs 0 d.ranks < (clock_ahead c.reading + open_ahead c.opened c.shape.nodes (length c.ranks)) + ranks_ahead c programs) (sym many) lt)))

  -- the ranks have less ahead by more than an open dataset has
  pub by_call : seats_ahead (call_ahead c.shape.nodes (length c.ranks)) programs 0 d.ranks + (call_ahead c.shape.nodes (length c.ranks) + 1) ≤ seats_ahead (call_ahead c.shape.nodes (length c.ranks)) programs 0 c.ranks → ahead d programs < ahead c programs
  by_call le = serves_lower (add (clock_ahead d.reading) (clock_ahead c.reading) (open_ahead d.opened c.shape.nodes (length c.ranks)) (open_ahead c.opened c.shape.nodes (length c.ranks)) (call_ahead c.shape.nodes (length c.ranks)) (length c.ranks) (seats_ahead (call_ahead c.shape.nodes (length c.ranks)) programs 0 d.ranks) (seats_ahead (call_ahead c.shape.nodes (length c.ranks)) programs 0 c.ranks) (clock_most d.reading) (clock_one c.reading) (open_most d.opened c.shape.nodes (length c.ranks)) le) where
    add : (w v o p call r x y : ℕ) → w ≤ 2 → 1 ≤ v → o + 2 * r + 2 ≤ call → x + (call + 1) ≤ y → (w + o) + x < (v + p) + y
    add w v o p call r x y few one most le = omega (arith, few, one, most, le)

  -- a round with a call other than an End is decided
  pub by_round : (a : Reply) → d.ranks ≡ map (owed a) c.ranks → some_calls c.ranks ≡ true → ahead d programs < ahead c programs
  by_round a is calls = serves_lower (subst (λ (x : List Seat). (clock_ahead d.reading + open_ahead d.opened c.shape.nodes (length c.ranks)) + seats_ahead (call_ahead c.shape.nodes (length c.ranks)) programs 0 x < (clock_ahead c.reading + open_ahead c.opened c.shape.nodes (length c.ranks)) + seats_ahead (call_ahead c.shape.nodes (length c.ranks)) programs 0 c.ranks) (sym is)
      (add (clock_ahead d.reading) (clock_ahead c.reading) (open_ahead d.opened c.shape.nodes (length c.ranks)) (open_ahead c.opened c.shape.nodes (length c.ranks)) (call_ahead c.shape.nodes (length c.ranks)) (length c.ranks) (seats_ahead (call_ahead c.shape.nodes (length c.ranks)) programs 0 (map (owed a) c.ranks)) (seats_ahead (call_ahead c.shape.nodes (length c.ranks)) programs 0 c.ranks) (clock_most d.reading) (clock_one c.reading) (open_most d.opened c.shape.nodes (length c.ranks)) (owed_calls (call_ahead c.shape.nodes (length c.ranks)) programs c.ranks a calls))) where
        add : (w v o p call r x y : ℕ) → w ≤ 2 → 1 ≤ v → o + 2 * r + 2 ≤ call → x + call ≤ y + 2 * r → (w + o) + x < (v + p) + y
        add w v o p call r x y few one most le = omega (arith, few, one, most, le)

-- a rank's seat is another
module _ (c : RunState) (programs : List (List Step)) (rank : ℕ) (old new : Seat) (is : slice_get c.ranks rank ≡ Some old) (at : c.stage ≡ stage.Serving) where
  seat_lower : seat_ahead (call_ahead c.shape.nodes (length c.ranks)) (length (program_of programs rank)) new < seat_ahead (call_ahead c.shape.nodes (length c.ranks)) (length (program_of programs rank)) old → ahead (record c { ranks = slice_set c.ranks rank new }) programs < ahead c programs
  seat_lower lt = serves_lower c (record c { ranks = slice_set c.ranks rank new }) programs at at refl (length-set c.ranks rank new)
      (add (clock_ahead c.reading + open_ahead c.opened c.shape.nodes (length c.ranks)) (seats_ahead (call_ahead c.shape.nodes (length c.ranks)) programs 0 (slice_set c.ranks rank new)) (seats_ahead (call_ahead c.shape.nodes (length c.ranks)) programs 0 c.ranks)
      (one_lower (call_ahead c.shape.nodes (length c.ranks)) programs c.ranks rank old new 1 is
      (one (seat_ahead (call_ahead c.shape.nodes (length c.ranks)) (length (program_of programs rank)) new) (seat_ahead (call_ahead c.shape.nodes (length c.ranks)) (length (program_of programs rank)) old) lt))) where
        add : (o x y : ℕ) → x + 1 ≤ y → o + x < o + y
        add o x y le = omega (arith, le)

        one : (x y : ℕ) → x < y → x + 1 ≤ y
        one x y lt = omega (arith, lt)

-- a rank takes its reply
pub replied_lower : (c : RunState) (programs : List (List Step)) (rank : ℕ) (a : Reply) (ranks : List Seat) → c.stage ≡ stage.Serving → IsSomeAnd (slice_get c.ranks rank) (λ (x : Seat). (x.doing ≡ doing.Owed a) × (ranks ≡ slice_set c.ranks rank (freed x)))
    → ahead (record c { ranks = ranks }) programs < ahead c programs
replied_lower c programs rank a ranks at owes = pick (slice_get c.ranks rank) refl owes where
  pick : (o : Option Seat) → slice_get c.ranks rank ≡ o → IsSomeAnd o (λ (x : Seat). (x.doing ≡ doing.Owed a) × (ranks ≡ slice_set c.ranks rank (freed x))) → ahead (record c { ranks = ranks }) programs < ahead c programs
  pick None is h = absurd h
  pick (Some seat) is h = subst (λ (rs : List Seat). ahead (record c { ranks = rs }) programs < ahead c programs) (sym h.1)
      (seat_lower c programs rank seat (freed seat) is at (freed_lower (call_ahead c.shape.nodes (length c.ranks)) (length (program_of programs rank)) seat a h.0))

-- a rank calls
pub calls_lower : (c : RunState) (programs : List (List Step)) (rank : ℕ) (s : Step) (ranks : List Seat) → c.stage ≡ stage.Serving → IsNextCall programs c rank s → IfSome (slice_get c.ranks rank) (λ (x : Seat). ranks ≡ slice_set c.ranks rank (called s x))
    → ahead (record c { ranks = ranks }) programs < ahead c programs
calls_lower c programs rank s ranks at next arrived =
    let h : ranks ≡ slice_set c.ranks rank (called s next.seat) = subst (λ (o : Option Seat). IfSome o (λ (x : Seat). ranks ≡ slice_set c.ranks rank (called s x))) next.is arrived in
    subst (λ (rs : List Seat). ahead (record c { ranks = rs }) programs < ahead c programs) (sym h)
    (seat_lower c programs rank next.seat (called s next.seat) next.is at (called_lower (call_ahead c.shape.nodes (length c.ranks)) (length (program_of programs rank)) next.seat s next.free next.again (slice_get_within (program_of programs rank) (next_number next.seat - 1) s next.of_program)))

-- a rank takes a step of its own, whatever becomes of the open dataset
pub steps_lower : (c d : RunState) (programs : List (List Step)) (rank : ℕ) (s : Step) (next : IsNextLocal programs c rank s) → c.stage ≡ stage.Serving → d.stage ≡ stage.Serving → d.shape ≡ c.shape → d.ranks ≡ slice_set c.ranks rank (stepped next.seat) → ahead d programs < ahead c programs
steps_lower c d programs rank s next at to shape is =
    by_call c d programs at to shape (ap length is ∙ length-set c.ranks rank (stepped next.seat))
    (subst (λ (rs : List Seat). seats_ahead (call_ahead c.shape.nodes (length c.ranks)) programs 0 rs + (call_ahead c.shape.nodes (length c.ranks) + 1) ≤ seats_ahead (call_ahead c.shape.nodes (length c.ranks)) programs 0 c.ranks) (sym is)
    (one_lower (call_ahead c.shape.nodes (length c.ranks)) programs c.ranks rank next.seat (stepped next.seat) (call_ahead c.shape.nodes (length c.ranks) + 1) next.is
    (stepped_lower (call_ahead c.shape.nodes (length c.ranks)) (length (program_of programs rank)) next.seat (small (slice_get_within (program_of programs rank) (next.seat.number + 1 - 1) s next.of_program))))) where
      small : next.seat.number + 1 - 1 < length (program_of programs rank) → next.seat.number < length (program_of programs rank)
      small lt = omega (arith, lt)

-- ## Rounds

-- a round that begins with another call than an End
pub clear_calls : (c : RunState) (s : Step) → IsClearRound c s → is_end s ≡ false → some_calls c.ranks ≡ true
clear_calls c s round is = first_calls c.ranks s round.first is

-- a round that is refused has such a call
pub refused_calls : (c : RunState) (s : Step) (r : Refusal) → IsRefusedRound c s r → some_calls c.ranks ≡ true
refused_calls c s r round = pick s round.first round.verdict where
  end : (o : Option Refusal) → or_else o None ≡ Some r → o ≡ Some r
  end None e = absurd (cc e)
  end (Some x) e = e

  place : (o : Option ℕ) → or_else (option_map (λ (k : ℕ). refusal.Mismatch k) o) None ≡ Some r → (k : ℕ) × (o ≡ Some k)
  place None e = absurd (cc e)
  place (Some k) e = (k, refl)

  pick : (s : Step) → first_call c.ranks ≡ Some s → verdict_of c s ≡ Some r → some_calls c.ranks ≡ true
  pick step.End first v =
      let j : judged c.phase step.End (calls_of c.ranks) ≡ Some r = ap (λ (o : Option Step). option_and_then (λ (x : Step). judged c.phase x (calls_of c.ranks)) o) (sym first) ∙ end (judged_of c.phase c.ranks) v in
      let p = place _ j in
      differs_calls c.ranks p.0 p.1
  pick step.Need first v = first_calls c.ranks _ first refl
  pick (step.Start name flags) first v = first_calls c.ranks _ first refl
  pick (step.Route name) first v = first_calls c.ranks _ first refl
  pick (step.Write name at content) first v = first_calls c.ranks _ first refl
  pick (step.Complete valid) first v = first_calls c.ranks _ first refl
  pick step.Have first v = first_calls c.ranks _ first refl
  pick step.Restart first v = first_calls c.ranks _ first refl
  pick (step.Read name at len) first v = first_calls c.ranks _ first refl
  pick (step.Restarted valid) first v = first_calls c.ranks _ first refl
  pick step.Exit first v = first_calls c.ranks _ first refl
  pick step.Finalize first v = first_calls c.ranks _ first refl

-- the round of a dataset that is gone is decided
pub closed_lower : (c : RunState) (programs : List (List Step)) (a : Reply) → c.stage ≡ stage.Dropped → ahead (closed_core (record c { ranks = map (owed a) c.ranks })) programs < ahead c programs
unfolding ahead
closed_lower c programs a at =
    subst (λ (s : RunStage). (2 + 0) + seats_ahead (call_ahead c.shape.nodes (length (map (owed a) c.ranks))) programs 0 (map (owed a) c.ranks) < stage_ahead s c + ranks_ahead c programs) (sym at)
    (subst (λ (n : ℕ). (2 + 0) + seats_ahead (call_ahead c.shape.nodes n) programs 0 (map (owed a) c.ranks) < round_ahead (length c.ranks) + ranks_ahead c programs) (sym (length-map c.ranks (owed a)))
    (add (seats_ahead (call_ahead c.shape.nodes (length c.ranks)) programs 0 (map (owed a) c.ranks)) (ranks_ahead c programs) (length c.ranks) (owed_any (call_ahead c.shape.nodes (length c.ranks)) programs c.ranks a))) where
      add : (x y r : ℕ) → x ≤ y + 2 * r → (2 + 0) + x < (2 * r + 3) + y
      add x y r le = omega (arith, le)

-- ## The clock

-- the round is told the time
pub told_lower : (c : RunState) (programs : List (List Step)) (now : ℕ) → c.stage ≡ stage.Serving → c.reading ≡ None → ahead (record c { reading = Some now }) programs < ahead c programs
told_lower c programs now at none = at_stages c (record c { reading = Some now }) programs stage.Serving stage.Serving at at refl refl
    (subst (λ (o : Option ℕ). 1 + open_ahead c.opened c.shape.nodes (length c.ranks) < clock_ahead o + open_ahead c.opened c.shape.nodes (length c.ranks)) (sym none) (omega arith))
