-- Commands and scavenges between two runs.
use Rattle.std.proofs.Common.{◌≡◌, inl, inr, Bool, true, false, List, [], ◌∷◌, Option, Some, refl, sym, ◌∙◌, ap, subst, arith}
use Rattle.std.specs.Prelude.{IsTrue, ◌&&◌, not, filter, if◌then◌else◌}
use Rattle.scr_base.specs.declared.shape.DataId.{DataId}
use Rattle.scr_base.specs.declared.content.HaltWord.{HaltWord}
use Rattle.scr_base.specs.Sets.{fits_sets}
use Rattle.ckpt_model.specs.declared.event.FoundRow.{FoundRow}
use Rattle.ckpt_model.specs.declared.event.CommandAnswer.{CommandAnswer}
use Rattle.ckpt_model.specs.declared.event.CommandAnswer.TheVariants as answer
use Rattle.ckpt_model.specs.declared.event.IndexNote.{IndexNote}
use Rattle.ckpt_model.specs.declared.event.IndexNote.TheVariants as note
use Rattle.ckpt_model.specs.declared.event.ScavAnswer.{ScavAnswer}
use Rattle.ckpt_model.specs.declared.event.ScavAnswer.TheVariants as scavenged
use Rattle.ckpt_model.specs.Dataset.{Dataset, is_checkpoint, bears}
use Rattle.ckpt_model.specs.Machine.{Machine, Setup, Kept, Entry, EntryMark, Stage, Pending}
use Rattle.ckpt_model.specs.Loss.{looked, lost_nodes}
use Rattle.ckpt_model.specs.Laws.{StandsIn}
use Rattle.ckpt_model.specs.Questions.{is_indexed, is_running, newest}
use Rattle.ckpt_model.specs.Steps.{is_between}
use Rattle.ckpt_model.specs.Commands.{cut_short, after_halt, has_id, after_note, is_takable, to_scavenge, after_look, is_scavenging_it, add_taken, left_by_scavenge, may_scavenge, after_scavenged, after_scavenge}
use Rattle.ckpt_model.specs.Runs.{after_taking, Takes, TakesNone}
use Rattle.ckpt_model.specs.Proper.{IsProper}
use Rattle.ckpt_model.proofs.Newest.{newest_is}
use Rattle.ckpt_model.proofs.Plays.{same_id_is}
use Rattle.ckpt_model.proofs.ShowsLemmas.{mapped}
use Rattle.model_proper.specs.Fair.{IsFair}
use Rattle.model_proper.proofs.Lists.{behind, In, in_map, thins_self, thins_map, thins_filter}
use Rattle.model_proper.proofs.Fair.Passes.{of_kept, of_index, thinner_self, thinner_proper, alike_passes, passes_fair, rests_fair}
use Rattle.model_proper.proofs.Kept.Looks.{IsLeft, looked_left}
use Rattle.model_proper.proofs.Events.InPlace.{alike_fair}
use Rattle.model_proper.proofs.Events.Arrivals.{taken_proper}

-- a command that is cut short
cut_fair : (s : Setup) (m : Machine) (p : Pending) → IsProper s m → IsTrue (fits_sets s.config.scheme s.config.size s.shape.nodes) → IsFair s (cut_short m p)
cut_fair s m p proper fits = rests_fair s (cut_short m p) (record { down = refl; free = λ which at. cc at }) (thinner_proper s m (cut_short m p) (thinner_self s m (cut_short m p) refl refl (omega arith)) proper) fits

pub halt_fair : (s : Setup) (m : Machine) (word : Option HaltWord) (a : CommandAnswer) → IsFair s m → IsFair s (after_halt m word a)
halt_fair s m word answer.Done fair = alike_fair s m (after_halt m word answer.Done) refl refl (record { stage = refl; run = refl; next = refl; places = refl; open_dataset = refl; fetching = refl }) fair
halt_fair s m word answer.NoEntry fair = cut_fair s m _ fair.proper fair.fits
halt_fair s m word (answer.Device count) fair = cut_fair s m _ fair.proper fair.fits
halt_fair s m word (answer.Full used capacity) fair = cut_fair s m _ fair.proper fair.fits

between_still : (g : Stage) → is_between g ≡ true → is_running g ≡ false
between_still Stage.Between is = refl
between_still Stage.Begun is = refl
between_still Stage.Running is = absurd (cc is)
between_still (Stage.Scavenging w) is = refl
between_still (Stage.CutShort p) is = refl

unlist_fair : (s : Setup) (m : Machine) (t : Entry → Bool) → is_between m.stage ≡ true → IsFair s m → IsFair s (record m { index = filter t m.index })
unlist_fair s m t between = passes_fair s m (record m { index = filter t m.index }) (alike_passes s m (record m { index = filter t m.index }) (record {
  kept = thins_self (of_kept m.kept);
  index = thins_map (λ e. e.dataset) m.index (filter t m.index) (thins_filter t m.index);
  run = omega arith;
  held = λ held k at. held k at;
}) (λ running. absurd (let still = between_still m.stage between in cc (running, still))) (record { stage = refl; run = refl; next = refl; places = refl; open_dataset = refl; fetching = refl }))

pub note_fair : (s : Setup) (m : Machine) (n : IndexNote) → is_between m.stage ≡ true → IsFair s m → IsFair s (after_note m n)
note_fair s m (note.List rows) between fair = fair
note_fair s m (note.ListFault count) between fair = cut_fair s m _ fair.proper fair.fits
note_fair s m (note.Drop id answer.Done) between fair = unlist_fair s m (λ e. not (has_id id e)) between fair
note_fair s m (note.Drop id answer.NoEntry) between fair = fair
note_fair s m (note.Drop id (answer.Device count)) between fair = cut_fair s m _ fair.proper fair.fits
note_fair s m (note.Drop id (answer.Full used capacity)) between fair = cut_fair s m _ fair.proper fair.fits
note_fair s m (note.Current id answer.Done) between fair = alike_fair s m (after_note m (note.Current id answer.Done)) refl refl (record { stage = refl; run = refl; next = refl; places = refl; open_dataset = refl; fetching = refl }) fair
note_fair s m (note.Current id answer.NoEntry) between fair = fair
note_fair s m (note.Current id (answer.Device count)) between fair = cut_fair s m _ fair.proper fair.fits
note_fair s m (note.Current id (answer.Full used capacity)) between fair = cut_fair s m _ fair.proper fair.fits

-- ## Scavenges

left_fair : (s : Setup) (m : Machine) (g : Stage) → m.stage ≡ g → IsFair s m → IsFair s (left_by_scavenge g m)
left_fair s m (Stage.Scavenging which) at fair = cut_fair s (add_taken EntryMark.Indexing m which) Pending.Nothing (taken_proper s EntryMark.Indexing m which (fair.scavenging which at) fair.proper) fair.fits
left_fair s m Stage.Between at fair = cut_fair s m Pending.Nothing fair.proper fair.fits
left_fair s m Stage.Begun at fair = cut_fair s m Pending.Nothing fair.proper fair.fits
left_fair s m Stage.Running at fair = cut_fair s m Pending.Nothing fair.proper fair.fits
left_fair s m (Stage.CutShort p) at fair = cut_fair s m Pending.Nothing fair.proper fair.fits

done_fair : (s : Setup) (m : Machine) (which : DataId) (g : Stage) → m.stage ≡ g → IsTrue (is_scavenging_it which g) → IsFair s m → IsFair s (after_scavenged m which)
done_fair s m which (Stage.Scavenging taken) at is fair =
    let same = same_id_is taken which is in
    let proper = taken_proper s EntryMark.Flushed m which (fair.scavenging which (at ∙ ap Stage.Scavenging same)) fair.proper in
    let new = add_taken EntryMark.Flushed m which in
    rests_fair s (after_scavenged m which) (record { down = refl; free = λ w w_at. cc w_at }) (thinner_proper s new (after_scavenged m which) (thinner_self s new (after_scavenged m which) refl refl (omega arith)) proper) fair.fits
done_fair s m which Stage.Between at is fair = absurd (cc is)
done_fair s m which Stage.Begun at is fair = absurd (cc is)
done_fair s m which Stage.Running at is fair = absurd (cc is)
done_fair s m which (Stage.CutShort p) at is fair = absurd (cc is)

pub scavenge_fair : (s : Setup) (m : Machine) (a : ScavAnswer) → IsTrue (may_scavenge m a) → IsFair s m → IsFair s (after_scavenge m a)
scavenge_fair s m (scavenged.Done which) may fair = done_fair s m which m.stage refl may fair
scavenge_fair s m scavenged.NoneLeft may fair = left_fair s m m.stage refl fair
scavenge_fair s m (scavenged.Device node count) may fair = left_fair s m m.stage refl fair
scavenge_fair s m (scavenged.Full used capacity) may fair = left_fair s m m.stage refl fair
scavenge_fair s m scavenged.Cut may fair = left_fair s m m.stage refl fair

look_fair : (s : Setup) (m new : Machine) (rows : List FoundRow) → after_look m rows ≡ Some new → IsFair s m → IsFair s new
look_fair s m new rows is fair =
    let from = mapped (λ (kept : List Kept). record m { kept = kept }) (looked rows m.kept) new is in
    subst (λ (x : Machine). IsFair s x) (sym from.2) (with_kept from.0 (looked_left s rows m.kept from.0 from.1))
  where
    with_kept : (kept : List Kept) → IsLeft s m.kept kept → IsFair s (record m { kept = kept })
    with_kept kept left = passes_fair s m (record m { kept = kept }) (alike_passes s m (record m { kept = kept }) (record {
      kept = left.thin;
      index = thins_self (of_index m.index);
      run = omega arith;
      held = left.held;
    }) (λ running. refl) (record { stage = refl; run = refl; next = refl; places = refl; open_dataset = refl; fetching = refl })) fair

pub takes_none_fair : (s : Setup) (m new : Machine) → TakesNone m new → IsFair s m → IsFair s new
takes_none_fair s m new takes fair = look_fair s m new takes.1.0 takes.1.1 fair

stands_in : (ds : List Dataset) (d : Dataset) → StandsIn ds d → In ds d
stands_in [] d at = absurd at
stands_in (e ∷ es) d (inl is) = inl is
stands_in (e ∷ es) d (inr at) = inr (stands_in es d at)

-- what a filter leaves passes
pub filter_passes : {A : Type 0} (t : A → Bool) (xs : List A) (x : A) → In (filter t xs) x → t x ≡ true
filter_passes t [] x at = absurd at
filter_passes {A = A} t (y ∷ ys) x at = split (t y) refl at (filter_passes t ys x)
  where
    split : (b : Bool) → t y ≡ b → In (if b then y ∷ filter t ys else filter t ys) x → (In (filter t ys) x → t x ≡ true) → t x ≡ true
    split true is (inl same) go = subst (λ (z : A). t z ≡ true) same is
    split true is (inr there) go = go there
    split false is there go = go there

-- what a scavenge takes has no entry
taken_unlisted : (m : Machine) (which : DataId) → to_scavenge m ≡ Some which → is_indexed m which ≡ false
taken_unlisted m which is =
    let from = mapped (λ (d : Dataset). d.which) (newest (of_kept (filter (is_takable m) m.kept))) which is in
    let stands = newest_is (of_kept (filter (is_takable m) m.kept)) from.0 from.1 in
    let k = in_map (λ (x : Kept). x.dataset) (filter (is_takable m) m.kept) from.0 (stands_in (of_kept (filter (is_takable m) m.kept)) from.0 stands.0) in
    let passes = filter_passes (is_takable m) m.kept k.0 k.1 in
    let same : k.0.dataset.which ≡ which = ap (λ (x : Dataset). x.which) k.2 ∙ sym from.2 in
    subst (λ (w : DataId). is_indexed m w ≡ false) same (off (is_indexed m k.0.dataset.which) (behind (is_checkpoint k.0.dataset && bears k.0.dataset (lost_nodes k.0)) (not (is_indexed m k.0.dataset.which)) passes))
  where
    off : (b : Bool) → IsTrue (not b) → b ≡ false
    off false is = refl
    off true is = absurd (cc is)

pub takes_fair : (s : Setup) (m : Machine) (which : DataId) (new : Machine) → Takes m which new → IsFair s m → IsFair s new
takes_fair s m which new takes fair =
    let found = takes.0 in
    let looks = takes.2 in
    subst (λ (x : Machine). IsFair s x) (sym takes.3) (taking found looks.2 (look_fair s m found looks.0 looks.1 fair))
  where
    taking : (found : Machine) → to_scavenge found ≡ Some which → IsFair s found → IsFair s (after_taking found which)
    taking found taken is = record {
      proper = thinner_proper s found (after_taking found which) (thinner_self s found (after_taking found which) refl refl (omega arith)) is.proper;
      fits = is.fits;
      places = λ up. absurd (cc up);
      begun = λ begun. absurd (cc begun);
      serving = λ running. absurd (cc running);
      scavenging = λ w at. let same : which ≡ w = cc at in subst (λ (x : DataId). is_indexed found x ≡ false) same (taken_unlisted found which taken);
    }
