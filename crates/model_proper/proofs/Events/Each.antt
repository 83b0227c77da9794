-- Each event that the state allows leaves a fair state fair.
use Rattle.std.proofs.Common.{◌≡◌, Bool, true, false, List, [], ◌∷◌, refl, subst, arith}
use Rattle.std.specs.Prelude.{IsTrue, ◌&&◌, ◌||◌, not, is_none, is_some}
use Rattle.std.specs.List.{list_all, list_any}
use Rattle.scr_base.specs.declared.shape.DataId.{DataId}
use Rattle.scr_base.specs.Calls.{is_restart_call}
use Rattle.ckpt_model.specs.declared.event.Event.{Event}
use Rattle.ckpt_model.specs.declared.event.Event.TheVariants as event
use Rattle.ckpt_model.specs.Machine.{Machine, Setup, EntryMark, is_mending}
use Rattle.ckpt_model.specs.Loss.{kept_shaken, kept_without}
use Rattle.ckpt_model.specs.Questions.{is_kept, is_indexed, is_kept_and, is_indexed_and, is_entry_of, is_flushed, is_running, is_complete, is_clear, verdict, call_of}
use Rattle.ckpt_model.specs.Steps.{change_kept, change_entry, entry_marked, after_emptying, kept_discarding, may_mend, kept_mended, is_next_treated, after_call, after_reply, may_seal, sealing_dataset, is_that, is_round_and, kept_settled, after_settling, may_fetch, after_fetching, kept_evicting, after_flushing, may_index, is_between, after_flush, after_giving_up, after_loss}
use Rattle.ckpt_model.specs.Commands.{may_note}
use Rattle.ckpt_model.specs.Moves.{may, after}
use Rattle.model_proper.specs.Fair.{IsFair, IsServing}
use Rattle.model_proper.proofs.Lists.{front, behind}
use Rattle.model_proper.proofs.Fair.Passes.{IsAlike, thinner_self, thinner_proper}
use Rattle.model_proper.proofs.Kept.Held.{held_shaken, held_without, held_at}
use Rattle.model_proper.proofs.Events.InPlace.{map_fair, change_fair, drop_fair, entry_fair, alike_fair, failing_fair, failure_fair, begin_fair, found_fair}
use Rattle.model_proper.proofs.Events.Arrivals.{sealing_fair, indexing_fair, running_places, serving_fair}
use Rattle.model_proper.proofs.Events.Rounds.{decision_fair, local_fair}
use Rattle.model_proper.proofs.Events.Commands.{halt_fair, note_fair, scavenge_fair}

pub off : (b : Bool) → IsTrue (not b) → b ≡ false
off false is = refl
off true is = absurd (cc is)

complete_runs : (m : Machine) → IsTrue (is_complete m) → is_running m.stage ≡ true
complete_runs m is = front (is_running m.stage) (list_all (λ r. is_some (call_of r)) m.ranks) is

clear_runs : (m : Machine) → IsTrue (is_clear m) → is_running m.stage ≡ true
clear_runs m is = complete_runs m (front (is_complete m) (is_none (verdict m)) is)

mended_fair : (s : Setup) (m : Machine) (which : DataId) → IsTrue (may_mend m which) → IsFair s m → IsFair s (change_kept (kept_mended m.places) which m)
mended_fair s m which may_be fair = change_fair s m (kept_mended m.places) which (λ k. refl) (λ k is. held_at s m.places (kept_mended m.places k) (running_places s m running fair) refl) fair
  where
    running : is_running m.stage ≡ true
    running = front (is_running m.stage) (is_kept_and (λ k. is_mending k.mark) m which) (front (is_running m.stage && is_kept_and (λ k. is_mending k.mark) m which) (is_next_treated m which) may_be)

pub seal_runs : (s : Setup) (m : Machine) (which : DataId) → IsTrue (may_seal s m which) → is_running m.stage ≡ true
seal_runs s m which may_be = clear_runs m (front (is_clear m) (is_that (Rattle.std.specs.Prelude.option_map (λ d. d.which) (sealing_dataset s m)) which) may_be)

settling_fair : (s : Setup) (m : Machine) (which : DataId) → IsFair s m → IsFair s (after_settling m which)
settling_fair s m which fair =
    alike_fair s (change_kept kept_settled which m) (after_settling m which) refl refl (record { stage = refl; run = refl; next = refl; places = refl; open_dataset = refl; fetching = refl })
    (change_fair s m kept_settled which (λ k. refl) (λ k is. record { members = is.members; homes = is.homes }) fair)

any_less : {A : Type 0} (t u : A → Bool) (xs : List A) → IsTrue (list_any (λ x. t x && u x) xs) → list_any t xs ≡ true
any_less t u [] is = absurd (cc is)
any_less t u (x ∷ xs) is = split (t x) (u x) is (any_less t u xs)
  where
    split : (a b : Bool) → IsTrue (a && b || list_any (λ y. t y && u y) xs) → (IsTrue (list_any (λ y. t y && u y) xs) → list_any t xs ≡ true) → a || list_any t xs ≡ true
    split true b is go = refl
    split false b is go = go is

fetching_fair : (s : Setup) (m : Machine) (which : DataId) → IsTrue (may_fetch m which) → IsFair s m → IsFair s (after_fetching m which)
fetching_fair s m which may_be fair =
    serving_fair s m (after_fetching m which) running refl refl fair (thinner_proper s m (after_fetching m which) (thinner_self s m (after_fetching m which) refl refl (omega arith)) fair.proper) (record {
      below = serving.below;
      open_dataset = λ d at. let is = serving.open_dataset d at in record { of_site = is.of_site; run = is.run; below = is.below; others = is.others };
      fetching = λ w at. let same : which ≡ w = cc at in subst (λ (x : DataId). (is_kept m x ≡ false) × (is_indexed m x ≡ true)) same (not_kept, listed);
    })
  where
    first_five : IsTrue (is_clear m && is_round_and is_restart_call m && is_that m.offer which && not (is_kept m which) && is_indexed_and (λ e. is_flushed e.mark) m which)
    first_five = front (is_clear m && is_round_and is_restart_call m && is_that m.offer which && not (is_kept m which) && is_indexed_and (λ e. is_flushed e.mark) m which) (is_none m.fetching) may_be

    first_four : IsTrue (is_clear m && is_round_and is_restart_call m && is_that m.offer which && not (is_kept m which))
    first_four = front (is_clear m && is_round_and is_restart_call m && is_that m.offer which && not (is_kept m which)) (is_indexed_and (λ e. is_flushed e.mark) m which) first_five

    listed : is_indexed m which ≡ true
    listed = any_less (is_entry_of which) (λ e. is_flushed e.mark) m.index (behind (is_clear m && is_round_and is_restart_call m && is_that m.offer which && not (is_kept m which)) (is_indexed_and (λ e. is_flushed e.mark) m which) first_five)

    not_kept : is_kept m which ≡ false
    not_kept = off (is_kept m which) (behind (is_clear m && is_round_and is_restart_call m && is_that m.offer which) (not (is_kept m which)) first_four)

    running : is_running m.stage ≡ true
    running = clear_runs m (front (is_clear m) (is_round_and is_restart_call m) (front (is_clear m && is_round_and is_restart_call m) (is_that m.offer which) (front (is_clear m && is_round_and is_restart_call m && is_that m.offer which) (not (is_kept m which)) first_four)))

    serving : IsServing s m
    serving = fair.serving running

index_runs : (m : Machine) (which : DataId) → IsTrue (may_index m which) → (is_running m.stage ≡ true) × (is_indexed m which ≡ false)
index_runs m which may_be = (
  front (is_running m.stage) (is_that m.flushing which) (front (is_running m.stage && is_that m.flushing which) (is_kept m which) (front (is_running m.stage && is_that m.flushing which && is_kept m which) (not (is_indexed m which)) may_be)),
  off (is_indexed m which) (behind (is_running m.stage && is_that m.flushing which && is_kept m which) (not (is_indexed m which)) may_be),
)

flush_fair : (s : Setup) (m : Machine) (which : DataId) → IsFair s m → IsFair s (after_flush m which)
flush_fair s m which fair =
    alike_fair s (change_entry (entry_marked EntryMark.Flushed) which m) (after_flush m which) refl refl (record { stage = refl; run = refl; next = refl; places = refl; open_dataset = refl; fetching = refl })
    (entry_fair s m (entry_marked EntryMark.Flushed) which (λ e. refl) fair)

-- nothing that fairness speaks of changes
plain : (s : Setup) (m n : Machine) → n.kept ≡ m.kept → n.index ≡ m.index → IsAlike m n → IsFair s m → IsFair s n
plain = alike_fair

-- an event that the state allows
pub moves_fair : (s : Setup) (m : Machine) (e : Event) → IsTrue (may s m e) → IsFair s m → IsFair s (after s m e)
moves_fair s m (event.Run run places) may_be fair = begin_fair s m run places may_be fair
moves_fair s m (event.Emptied node) may_be fair = map_fair s m (after_emptying m node) (kept_shaken node) (λ k. refl) (held_shaken s node) refl refl (record { stage = refl; run = refl; next = refl; places = refl; open_dataset = refl; fetching = refl }) fair
moves_fair s m (event.Found kept index) may_be fair = found_fair s m kept index may_be fair
moves_fair s m (event.Discarding which) may_be fair = change_fair s m kept_discarding which (λ k. refl) (λ k is. record { members = is.members; homes = is.homes }) fair
moves_fair s m (event.Discarded which) may_be fair = drop_fair s m which fair
moves_fair s m (event.Mended which) may_be fair = mended_fair s m which may_be fair
moves_fair s m (event.Call rank number call) may_be fair = plain s m (after_call m rank number call) refl refl (record { stage = refl; run = refl; next = refl; places = refl; open_dataset = refl; fetching = refl }) fair
moves_fair s m (event.Time now) may_be fair = plain s m (after s m (event.Time now)) refl refl (record { stage = refl; run = refl; next = refl; places = refl; open_dataset = refl; fetching = refl }) fair
moves_fair s m (event.Decided kind a) may_be fair = decision_fair s m kind a may_be fair
moves_fair s m (event.Reply rank number a) may_be fair = plain s m (after_reply m rank) refl refl (record { stage = refl; run = refl; next = refl; places = refl; open_dataset = refl; fetching = refl }) fair
moves_fair s m (event.Local rank number step a) may_be fair = local_fair s m rank number step a fair
moves_fair s m (event.Sealing which) may_be fair = sealing_fair s m (seal_runs s m which may_be) fair
moves_fair s m (event.Settled which) may_be fair = settling_fair s m which fair
moves_fair s m (event.Fetched which) may_be fair = change_fair s m kept_settled which (λ k. refl) (λ k is. record { members = is.members; homes = is.homes }) fair
moves_fair s m (event.Evicting which) may_be fair = change_fair s m kept_evicting which (λ k. refl) (λ k is. record { members = is.members; homes = is.homes }) fair
moves_fair s m (event.Evicted which) may_be fair = drop_fair s m which fair
moves_fair s m (event.Flushing which) may_be fair = plain s m (after_flushing m which) refl refl (record { stage = refl; run = refl; next = refl; places = refl; open_dataset = refl; fetching = refl }) fair
moves_fair s m (event.Indexing which) may_be fair = let is = index_runs m which may_be in indexing_fair s m which is.0 is.1 fair
moves_fair s m (event.Flushed which) may_be fair = flush_fair s m which fair
moves_fair s m (event.GivenUp which why) may_be fair = plain s m (after_giving_up m which) refl refl (record { stage = refl; run = refl; next = refl; places = refl; open_dataset = refl; fetching = refl }) fair
moves_fair s m (event.Fetching which) may_be fair = fetching_fair s m which may_be fair
moves_fair s m (event.Failing which) may_be fair = failing_fair s m which fair
moves_fair s m (event.Failed which) may_be fair = failure_fair s m which fair
moves_fair s m (event.Lost node) may_be fair = map_fair s m (after_loss m node) (kept_without node) (λ k. refl) (held_without s node) refl refl (record { stage = refl; run = refl; next = refl; places = refl; open_dataset = refl; fetching = refl }) fair
moves_fair s m (event.Scavenged a) may_be fair = scavenge_fair s m a may_be fair
moves_fair s m (event.IndexCommand n) may_be fair = note_fair s m n (front (is_between m.stage) (may_note m n) may_be) fair
moves_fair s m (event.HaltSet word a) may_be fair = halt_fair s m word a fair
moves_fair s m (event.Stop why) may_be fair = fair
moves_fair s m (event.Scavenging which) may_be fair = fair
