-- What a stop leaves is fair, whatever it decides.
use Rattle.std.proofs.Common.{◌≡◌, ◌⊎◌, inl, inr, ◌≤◌, ◌+◌, ℕ, Bool, true, false, List, [], ◌∷◌, ◌++◌, Option, Some, None, refl, sym, ◌∙◌, ap, subst, arith}
use Rattle.std.specs.Prelude.{IsTrue, ◌&&◌, not, fold, option_map, unwrap_or, if◌then◌else◌}
use Rattle.ckpt_model.specs.declared.event.Event.{Event}
use Rattle.ckpt_model.specs.declared.event.Event.TheVariants as event
use Rattle.ckpt_model.specs.Dataset.{Dataset}
use Rattle.ckpt_model.specs.Machine.{Machine, Setup, Kept, Entry, EntryMark, Pending}
use Rattle.ckpt_model.specs.Questions.{kept_of}
use Rattle.ckpt_model.specs.Steps.{add_indexing, add_sealing, sealing_dataset}
use Rattle.ckpt_model.specs.Moves.{may, after}
use Rattle.ckpt_model.specs.Stops.{is_first_change, is_drop_of, entry_if, entry_left, index_left, pending_of, Choice, after_stop}
use Rattle.ckpt_model.specs.Proper.{IsProper}
use Rattle.model_proper.specs.Fair.{IsFair}
use Rattle.model_proper.proofs.Lists.{Thins, thins_self}
use Rattle.model_proper.proofs.Fair.Passes.{of_kept, of_index, thinner_proper, between_fair}
use Rattle.model_proper.proofs.Events.Each.{moves_fair}

entry_is : (p : Pending) (done : Bool) (mark : EntryMark) (e : Entry) → (entry_left p done mark e ≡ []) ⊎ ((f : Entry) × (entry_left p done mark e ≡ f ∷ []) × (f.dataset ≡ e.dataset))
entry_is p true EntryMark.Indexing e = inr (record { dataset = e.dataset; mark = EntryMark.Flushed }, refl, refl)
entry_is p false EntryMark.Indexing e = inl refl
entry_is p done EntryMark.Failing e = inr (record { dataset = e.dataset; mark = (if done then EntryMark.Failed else EntryMark.Flushed) }, refl, refl)
entry_is p done EntryMark.Flushed e = stays (not (done && is_drop_of p e))
  where
    stays : (b : Bool) → (entry_if b e ≡ []) ⊎ ((f : Entry) × (entry_if b e ≡ f ∷ []) × (f.dataset ≡ e.dataset))
    stays true = inr (e, refl, refl)
    stays false = inl refl
entry_is p done EntryMark.Failed e = stays (not (done && is_drop_of p e))
  where
    stays : (b : Bool) → (entry_if b e ≡ []) ⊎ ((f : Entry) × (entry_if b e ≡ f ∷ []) × (f.dataset ≡ e.dataset))
    stays true = inr (e, refl, refl)
    stays false = inl refl

thin_one : (p : Pending) (done : Bool) (e : Entry) (es rest : List Entry) → Thins (of_index es) (of_index rest) → Thins (e.dataset ∷ of_index es) (of_index (entry_left p done e.mark e ++ rest))
thin_one p done e es rest thin = elim (entry_is p done e.mark e) [
  | inl none ↦ subst (λ (l : List Entry). Thins (e.dataset ∷ of_index es) (of_index (l ++ rest))) (sym none) (inl thin)
  | inr is ↦ subst (λ (l : List Entry). Thins (e.dataset ∷ of_index es) (of_index (l ++ rest))) (sym is.1) (inr (of_index rest, ap (λ (d : Dataset). d ∷ of_index rest) is.2, thin))
]

pub index_thin : (p : Pending) (answers : List Bool) (es : List Entry) → Thins (of_index es) (of_index (index_left p answers es))
index_thin p answers [] = refl
index_thin p [] (e ∷ es) = thin_one p true e es (index_left p [] es) (index_thin p [] es)
index_thin p (done ∷ answers) (e ∷ es) = thin_one p done e es (index_left p answers es) (index_thin p answers es)

later_run : (b : Bool) (n : ℕ) → n ≤ (if b then n + 1 else n)
later_run true n = omega arith
later_run false n = omega arith

-- what a stop makes of a proper state, after which it decides the rest
pub stop_proper : (s : Setup) (m : Machine) (c : Choice) → (fold (after s) m c.made).run ≡ m.run → IsProper s (fold (after s) m c.made) → IsProper s (after_stop s m c)
stop_proper s m c run proper = thinner_proper s (fold (after s) m c.made) (after_stop s m c) (record {
  kept = thins_self (of_kept (fold (after s) m c.made).kept);
  index = index_thin (pending_of m.stage) c.entries (fold (after s) m c.made).index;
  run = subst (λ (n : ℕ). n ≤ (if c.stored then m.run + 1 else m.run)) (sym run) (later_run c.stored m.run);
  held = λ held k at. held k at;
}) proper

-- no first change changes the run's number
pub first_run : (s : Setup) (m : Machine) (e : Event) → IsTrue (is_first_change e) → (after s m e).run ≡ m.run
first_run s m (event.Emptied node) is = refl
first_run s m (event.Sealing which) is = pick (sealing_dataset s m)
  where
    pick : (o : Option Dataset) → (unwrap_or (option_map (add_sealing m) o) m).run ≡ m.run
    pick None = refl
    pick (Some d) = refl
first_run s m (event.Evicting which) is = refl
first_run s m (event.Failing which) is = refl
first_run s m (event.Discarding which) is = refl
first_run s m (event.Indexing which) is = pick (kept_of m which)
  where
    pick : (o : Option Kept) → (unwrap_or (option_map (add_indexing m) o) m).run ≡ m.run
    pick None = refl
    pick (Some k) = refl
first_run s m _ is = absurd (cc is)

-- what is made, each when those before it are made
abbrev pub Makes : Setup → Machine → List Event → Type 0
Makes s m [] = Unit
Makes s m (e ∷ es) = IsTrue (is_first_change e) × IsTrue (may s m e) × Makes s (after s m e) es

pub made_fair : (s : Setup) (m : Machine) (made : List Event) → Makes s m made → IsFair s m → IsFair s (fold (after s) m made)
made_fair s m [] makes fair = fair
made_fair s m (e ∷ es) makes fair = made_fair s (after s m e) es makes.2 (moves_fair s m e makes.1 fair)

pub made_run : (s : Setup) (m : Machine) (made : List Event) → Makes s m made → (fold (after s) m made).run ≡ m.run
made_run s m [] makes = refl
made_run s m (e ∷ es) makes = made_run s (after s m e) es makes.2 ∙ first_run s m e makes.0

pub after_stop_fair : (s : Setup) (m : Machine) (c : Choice) → Makes s m c.made → IsFair s m → IsFair s (after_stop s m c)
after_stop_fair s m c makes fair = between_fair s (after_stop s m c) refl (stop_proper s m c (made_run s m c.made makes) (made_fair s m c.made makes fair).proper) fair.fits
