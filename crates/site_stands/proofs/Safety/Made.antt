-- The first changes that a refused write may have made leave all but the datasets: so the stop is one of the state before them.
use Rattle.std.proofs.Common.{◌≡◌, ◌+◌, ℕ, Bool, true, false, List, [], ◌∷◌, Option, Some, None, refl, ◌∙◌, ap, subst}
use Rattle.std.specs.Prelude.{IsTrue, ◌&&◌, fold, unwrap_or, option_map, if◌then◌else◌}
use Rattle.std.specs.List.{list_all}
use Rattle.scr_base.specs.declared.shape.DataId.{DataId}
use Rattle.scr_base.specs.Halt.{Halt}
use Rattle.node_device.specs.DeviceState.{DeviceState}
use Rattle.ckpt_model.specs.Dataset.{Dataset}
use Rattle.ckpt_model.specs.Machine.{Machine, Setup, Stage, Kept}
use Rattle.ckpt_model.specs.Moves.{may, after}
use Rattle.ckpt_model.specs.Questions.{kept_of}
use Rattle.ckpt_model.specs.Steps.{after_sealing, add_sealing, sealing_dataset, after_indexing, add_indexing}
use Rattle.ckpt_model.specs.Stops.{Choice, may_stop, may_make, may_store, after_stop, pending_of, index_left, halt_left, mark_left, is_first_change}
use Rattle.ckpt_model.specs.Shows.{Shows}
use Rattle.ckpt_model.specs.declared.event.Event.{Event}
use Rattle.ckpt_model.specs.declared.event.Event.TheVariants as event
use Rattle.ckpt_model.specs.declared.event.StopCause.{StopCause}
use Rattle.ckpt_model.specs.declared.event.StopCause.TheVariants as cause
use Rattle.model_proper.proofs.Lists.{both, front, behind}
use Rattle.site_stands.specs.View.{site_view}
use Rattle.site_stands.specs.Site.{SiteStands, IsSafeToStop}
use Rattle.site_stands.proofs.Safety.Left.{left_shows}

-- the states are alike in what a stop decides on the prefix
pub record IsAlike (m n : Machine) : Type 0 where
  pub stage : n.stage ≡ m.stage
  pub run : n.run ≡ m.run
  pub halt : n.halt ≡ m.halt
  pub mark : n.mark ≡ m.mark

sealed_alike : (s : Setup) (m : Machine) (o : Option Dataset) → IsAlike m (unwrap_or (option_map (add_sealing m) o) m)
sealed_alike s m None = record { stage = refl; run = refl; halt = refl; mark = refl }
sealed_alike s m (Some d) = record { stage = refl; run = refl; halt = refl; mark = refl }

indexed_alike : (m : Machine) (o : Option Kept) → IsAlike m (unwrap_or (option_map (add_indexing m) o) m)
indexed_alike m None = record { stage = refl; run = refl; halt = refl; mark = refl }
indexed_alike m (Some k) = record { stage = refl; run = refl; halt = refl; mark = refl }

first_alike : (s : Setup) (m : Machine) (e : Event) → IsTrue (is_first_change e) → IsAlike m (after s m e)
first_alike s m (event.Emptied node) is = record { stage = refl; run = refl; halt = refl; mark = refl }
first_alike s m (event.Discarding which) is = record { stage = refl; run = refl; halt = refl; mark = refl }
first_alike s m (event.Evicting which) is = record { stage = refl; run = refl; halt = refl; mark = refl }
first_alike s m (event.Failing which) is = record { stage = refl; run = refl; halt = refl; mark = refl }
first_alike s m (event.Sealing which) is = sealed_alike s m (sealing_dataset s m)
first_alike s m (event.Indexing which) is = indexed_alike m (kept_of m which)
first_alike s m (event.Run run places) is = absurd (cc is)
first_alike s m (event.Found kept index) is = absurd (cc is)
first_alike s m (event.Discarded which) is = absurd (cc is)
first_alike s m (event.Mended which) is = absurd (cc is)
first_alike s m (event.Call rank number call) is = absurd (cc is)
first_alike s m (event.Time now) is = absurd (cc is)
first_alike s m (event.Decided kind answer) is = absurd (cc is)
first_alike s m (event.Reply rank number answer) is = absurd (cc is)
first_alike s m (event.Local rank number step answer) is = absurd (cc is)
first_alike s m (event.Settled which) is = absurd (cc is)
first_alike s m (event.Fetched which) is = absurd (cc is)
first_alike s m (event.Evicted which) is = absurd (cc is)
first_alike s m (event.Flushing which) is = absurd (cc is)
first_alike s m (event.Flushed which) is = absurd (cc is)
first_alike s m (event.GivenUp which cause) is = absurd (cc is)
first_alike s m (event.Fetching which) is = absurd (cc is)
first_alike s m (event.Failed which) is = absurd (cc is)
first_alike s m (event.Lost node) is = absurd (cc is)
first_alike s m (event.Scavenged answer) is = absurd (cc is)
first_alike s m (event.IndexCommand note) is = absurd (cc is)
first_alike s m (event.HaltSet word answer) is = absurd (cc is)
first_alike s m (event.Stop cause) is = absurd (cc is)
first_alike s m (event.Scavenging which) is = absurd (cc is)

alike_then : (m n o : Machine) → IsAlike m n → IsAlike n o → IsAlike m o
alike_then m n o a b = record { stage = b.stage ∙ a.stage; run = b.run ∙ a.run; halt = b.halt ∙ a.halt; mark = b.mark ∙ a.mark }

pub all_alike : (s : Setup) (m : Machine) (made : List Event) → IsTrue (list_all is_first_change made) → IsAlike m (fold (after s) m made)
all_alike s m [] all = record { stage = refl; run = refl; halt = refl; mark = refl }
all_alike s m (e ∷ es) all = split (is_first_change e) refl all (λ rest. all_alike s (after s m e) es rest)
  where
    split : (b : Bool) → is_first_change e ≡ b → IsTrue (b && list_all is_first_change es) → (IsTrue (list_all is_first_change es) → IsAlike (after s m e) (fold (after s) (after s m e) es)) → IsAlike m (fold (after s) m (e ∷ es))
    split true is rest go = alike_then m (after s m e) (fold (after s) (after s m e) es) (first_alike s m e is) (go rest)
    split false is rest go = absurd (cc rest)

-- what a fault may have made are first changes
pub made_first : (s : Setup) (m : Machine) (why : StopCause) (made : List Event) → IsTrue (may_make s m why made) → IsTrue (list_all is_first_change made)
made_first s m why [] may_be = refl
made_first s m (cause.Device node count) (e ∷ es) may_be =
    both (is_first_change e) (list_all is_first_change es)
    (front (is_first_change e) (may s m e) (front (is_first_change e && may s m e) (may_make s (after s m e) (cause.Device node count) es) may_be))
    (made_first s (after s m e) (cause.Device node count) es (behind (is_first_change e && may s m e) (may_make s (after s m e) (cause.Device node count) es) may_be))
made_first s m cause.Ended (e ∷ es) may_be = absurd (cc may_be)
made_first s m cause.Script (e ∷ es) may_be = absurd (cc may_be)
made_first s m cause.Runs (e ∷ es) may_be = absurd (cc may_be)
made_first s m (cause.Full node used capacity) (e ∷ es) may_be = absurd (cc may_be)
made_first s m cause.Command (e ∷ es) may_be = absurd (cc may_be)

-- the parts of the state after a stop
abbrev stopped_so : Machine → List Bool → Bool → Bool → Stage → Halt → Option DataId → ℕ → Machine
stopped_so made entries took stored stage halt mark run = record made {
  stage = Stage.Between;
  open_dataset = None;
  fetching = None;
  flushing = None;
  index = index_left (pending_of stage) entries made.index;
  halt = halt_left (pending_of stage) took halt;
  mark = mark_left (pending_of stage) took mark;
  run = (if stored then run + 1 else run);
}

pub stops_alike : (s : Setup) (m : Machine) (made : List Event) (entries : List Bool) (took stored : Bool) → IsAlike m (fold (after s) m made)
    → after_stop s (fold (after s) m made) (record { made = []; entries = entries; took = took; stored = stored }) ≡ after_stop s m (record { made = made; entries = entries; took = took; stored = stored })
stops_alike s m made entries took stored alike =
    let n = fold (after s) m made in
    ap (λ (x : Stage). stopped_so n entries took stored x n.halt n.mark n.run) alike.stage
    ∙ ap (λ (x : Halt). stopped_so n entries took stored m.stage x n.mark n.run) alike.halt
    ∙ ap (λ (x : Option DataId). stopped_so n entries took stored m.stage m.halt x n.run) alike.mark
    ∙ ap (λ (x : ℕ). stopped_so n entries took stored m.stage m.halt m.mark x) alike.run

stores_alike : (m n : Machine) (stored : Bool) → IsAlike m n → IsTrue (may_store n stored) → IsTrue (may_store m stored)
stores_alike m n stored alike may_be =
    let a : IsTrue (Rattle.std.specs.Prelude.◌||◌ (Rattle.std.specs.Prelude.not stored) (Rattle.ckpt_model.specs.Steps.is_between m.stage && Rattle.std.specs.Prelude.nat_lt n.run 4294967295)) = subst (λ (x : Stage). IsTrue (Rattle.std.specs.Prelude.◌||◌ (Rattle.std.specs.Prelude.not stored) (Rattle.ckpt_model.specs.Steps.is_between x && Rattle.std.specs.Prelude.nat_lt n.run 4294967295))) alike.stage may_be in
    subst (λ (x : ℕ). IsTrue (Rattle.std.specs.Prelude.◌||◌ (Rattle.std.specs.Prelude.not stored) (Rattle.ckpt_model.specs.Steps.is_between m.stage && Rattle.std.specs.Prelude.nat_lt x 4294967295))) alike.run a

-- What is left of a bay that stands for the state after some first changes shows a state after a stop from the state before them.
pub made_safe : (s : Setup) (states : ℕ → DeviceState) (m : Machine) (why : StopCause) (made : List Event) → IsTrue (may_stop m why) → IsTrue (may_make s m why made) → SiteStands s states (fold (after s) m made) → IsSafeToStop s states why m
made_safe s states m why made stop may_be stands left outcome =
    let alike = all_alike s m made (made_first s m why made may_be) in
    let so = left_shows s states (fold (after s) m made) stands left outcome in
    let c : Choice = record { made = made; entries = so.entries; took = so.took; stored = so.stored } in
    let store = stores_alike m (fold (after s) m made) so.stored alike so.may in (
      c,
      all_three (may_stop m why) (may_make s m why made) (may_store m so.stored) stop may_be store,
      subst (λ (x : Machine). Shows s (site_view s.shape left) x) (stops_alike s m made so.entries so.took so.stored alike) so.shows,
    )
  where
    all_three : (a b c : Bool) → IsTrue a → IsTrue b → IsTrue c → IsTrue (a && b && c)
    all_three true true true x y z = refl
    all_three false b c x y z = absurd (cc x)
    all_three true false c x y z = absurd (cc y)
    all_three true true false x y z = absurd (cc z)
