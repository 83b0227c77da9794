-- What is replayed part by part is replayed whole.
use Rattle.std.proofs.Common.{◌≡◌, ◌⊎◌, inl, inr, ℕ, Bool, true, false, List, [], ◌++◌, ◌∷◌, Option, Some, None, option_map, refl, sym, ap, ◌∙◌, subst, append_assoc, append-nil}
use Rattle.std.specs.Prelude.{not, ◌&&◌, IsTrue}
use Rattle.std.specs.List.{list_all}
use Rattle.std.proofs.lemmas.List.Concat.{flat_map-append}
use Rattle.scr_base.specs.Streams.{Joins}
use Rattle.scr_base.specs.declared.content.Step.{Step}
use Rattle.scr_base.specs.declared.shape.Shape.{Shape}
use Rattle.scr_base.specs.declared.shape.Config.{Config}
use Rattle.node_device.specs.DeviceState.{DeviceState}
use Rattle.ckpt_model.specs.Machine.{Machine, Setup}
use Rattle.ckpt_model.specs.Text.{history_text, text_of}
use Rattle.ckpt_model.specs.Legal.{Place, Item, IsRunOf, is_stop, ends_with_stop, is_script_stop}
use Rattle.ckpt_model.specs.Legal.Place.{AtEnd}
use Rattle.ckpt_model.specs.declared.event.Event.{Event}
use Rattle.ckpt_model.specs.declared.stop_line.StopPlace.{StopPlace}
use Rattle.ckpt_model.specs.declared.stop_line.StopPlace.TheVariants as stop
use Rattle.script_reader.specs.declared.script.Item.TheVariants as item
use Rattle.script_reader.specs.declared.script.RunItem.{RunItem}
use Rattle.node_device.specs.Calls.{Crashes}
use Rattle.site_stands.specs.Site.{Stands, IsSafeToStop, StandsAfterStop}
use Rattle.site_calls.specs.Calls.{Tells}
use Rattle.site_core.specs.Holds.{CanBegin, Closes, goes_well}
use Rattle.site_core.proofs.Readings.{readings_then}
use Rattle.site_core.proofs.Faults.{no_causes, causes_then, level}
use Rattle.ckpt_model.specs.Stops.{after_stop}
use Rattle.ckpt_model.proofs.RunLemmas.{run_on}
use Rattle.ckpt_model.specs.declared.event.StopCause.TheVariants as stops
use Rattle.ckpt_model.specs.declared.event.StopCause.{StopCause}
use Rattle.ckpt_model.specs.declared.event.Event.TheVariants as event
use Rattle.scr_replay.specs.Forms.{is_end}
use Rattle.scr_replay.specs.Items.{place_of, legal_item}
use Rattle.scr_replay.specs.Outputs.{JoinsFront}
use Rattle.scr_replay.specs.Runs.{is_cut, goes_well as well_so, Plays, IsPlayed, IsReplayed, IsCutShort}

and_parts : (a b : Bool) → a && b ≡ true → (a ≡ true) × (b ≡ true)
and_parts true b e = (refl, e)
and_parts false b e = absurd (cc e)

both_true : (a b : Bool) → a ≡ true → b ≡ true → a && b ≡ true
both_true true b p q = q
both_true false b p q = absurd (cc p)

joined : (first mid last : Option (List ℕ)) (a b : List ℕ) → Joins first mid a → Joins mid last b → Joins first last (a ++ b)
joined None mid last a b one two = two ∙ ap (option_map (λ (held : List ℕ). held ++ b)) one
joined (Some held) mid last a b one two = two ∙ ap (option_map (λ (h : List ℕ). h ++ b)) one ∙ ap (λ (h : List ℕ). Some h) (append_assoc held a b)

text_joined : (first mid last : Option (List ℕ)) (a b : List Event) → Joins first mid (history_text a) → Joins mid last (history_text b) → Joins first last (history_text (a ++ b))
text_joined first mid last a b one two =
    joined first mid last (history_text a) (history_text b) one two
    ∙ ap (λ (text : List ℕ). option_map (λ (held : List ℕ). held ++ text) first) (sym (flat_map-append (λ e. text_of e ++ 10 ∷ []) a b))

-- nothing was replayed yet
pub none_replayed : (s : Setup) (states : ℕ → DeviceState) (held : Option (List ℕ)) (clock : Option ℕ) → IsReplayed s [] states states held held clock clock
none_replayed s states None clock = record { events = []; played = λ tells first stands begins. (refl, refl); printed = refl; timed = record { readings = tt; next = refl }; causes = no_causes states states (level states) }
none_replayed s states (Some held) clock =
    record { events = []; played = λ tells first stands begins. (refl, refl); printed = ap (λ (h : List ℕ). Some h) (sym (append-nil held)); timed = record { readings = tt; next = refl }; causes = no_causes states states (level states) }

-- items behind items: what is played from where the first ended is played behind them
plays_then : (s : Setup) (xs ys : List Item) (a b c : ℕ → DeviceState) (m : Machine) (es fs : List Event) → Plays s xs a m es b → IsPlayed s ys b c fs → Tells a → Stands s a m → CanBegin s a m → Plays s (xs ++ ys) a m (es ++ fs) c
plays_then s [] ys a b c m es fs one two tells stands begins =
    subst (λ (events : List Event). Plays s ys a m (events ++ fs) c) (sym one.0) (subst (λ (at : ℕ → DeviceState). IsPlayed s ys at c fs) one.1 two tells m stands begins)
plays_then s (x ∷ xs) ys a b c m es fs one two tells stands begins = (
  one.0,
  one.1 ++ fs,
  one.2,
  ap (λ (events : List Event). events ++ fs) one.3 ∙ append_assoc one.0 one.1 fs,
  one.4,
  λ told.
      let next = one.5 told in
      (next.0, next.1, next.2, λ well. let on = next.3 well in (on.0, plays_then s xs ys one.2 b c next.0 one.1 fs on.1 two told next.2 on.0)),
)

played_then : (s : Setup) (xs ys : List Item) (a b c : ℕ → DeviceState) (es fs : List Event) → IsPlayed s xs a b es → IsPlayed s ys b c fs → IsPlayed s (xs ++ ys) a c (es ++ fs)
played_then s xs ys a b c es fs one two = λ tells m stands begins. plays_then s xs ys a b c m es fs (one tells m stands begins) two tells stands begins

pub replayed_then : (s : Setup) (xs ys : List Item) (a b c : ℕ → DeviceState) (first mid last : Option (List ℕ)) (t u v : Option ℕ) → IsReplayed s xs a b first mid t u → IsReplayed s ys b c mid last u v → IsReplayed s (xs ++ ys) a c first last t v
replayed_then s xs ys a b c first mid last t u v one two =
    record {
      events = one.events ++ two.events;
      played = played_then s xs ys a b c one.events two.events one.played two.played;
      printed = text_joined first mid last one.events two.events one.printed two.printed;
      timed = readings_then t u v one.events two.events one.timed two.timed;
      causes = causes_then a b c one.events two.events one.causes two.causes;
    }

front_joined : (first mid last : Option (List ℕ)) (a b : List Event) → Joins first mid (history_text a) → JoinsFront mid last (history_text b) → JoinsFront first last (history_text (a ++ b))
front_joined first mid last a b one two = (
  history_text a ++ two.0,
  two.1,
  append_assoc (history_text a) two.0 two.1 ∙ ap (λ (text : List ℕ). history_text a ++ text) two.2 ∙ sym (flat_map-append (λ e. text_of e ++ 10 ∷ []) a b),
  joined first mid last (history_text a) two.0 one two.3,
)

-- what is told in part, behind what is told whole
pub cut_then : (s : Setup) (xs ys : List Item) (a b c : ℕ → DeviceState) (first mid last : Option (List ℕ)) (t u : Option ℕ) → IsReplayed s xs a b first mid t u → IsCutShort s ys b c mid last → IsCutShort s (xs ++ ys) a c first last
cut_then s xs ys a b c first mid last t u one two =
    record {
      events = one.events ++ two.events;
      played = played_then s xs ys a b c one.events two.events one.played two.played;
      printed = front_joined first mid last one.events two.events one.printed two.printed;
      causes = causes_then a b c one.events two.events one.causes two.causes;
    }

-- nothing more was told
pub cut_there : (s : Setup) (xs : List Item) (a b : ℕ → DeviceState) (first mid last : Option (List ℕ)) (t u : Option ℕ) → IsReplayed s xs a b first mid t u → last ≡ mid → IsCutShort s xs a b first last
cut_there s xs a b first mid last t u one same =
    record {
      events = one.events;
      played = one.played;
      printed = (history_text one.events, [], append-nil (history_text one.events), subst (λ (held : Option (List ℕ)). Joins first held (history_text one.events)) (sym same) one.printed);
      causes = one.causes;
    }

-- a run that ends by itself
at_end : (place : StopPlace) → is_end place ≡ true → AtEnd ≡ place_of place
at_end stop.End h = refl
at_end (stop.After moves) h = cc
at_end (stop.On text) h = cc

-- the last event is the only stop, and none comes from outside
ends_last : (events : List Event) (e : Event) → IsTrue (list_all (λ x. not (is_stop x)) events) → is_stop e ≡ true → IsTrue (ends_with_stop (events ++ e ∷ []))
ends_last [] e goes stops = stops
ends_last (f ∷ []) e goes stops = both_true (not (is_stop f)) (is_stop e) (and_parts (not (is_stop f)) true goes).0 stops
ends_last (f ∷ g ∷ fs) e goes stops =
    let p = and_parts (not (is_stop f)) (list_all (λ x. not (is_stop x)) (g ∷ fs)) goes in
    both_true (not (is_stop f)) (ends_with_stop (g ∷ (fs ++ e ∷ []))) p.0 (ends_last (g ∷ fs) e p.1 stops)

no_script : (f : Event) → not (is_stop f) ≡ true → not (is_script_stop f) ≡ true
no_script (event.Stop why) e = absurd (cc e)
no_script _ e = refl

none_script : (events : List Event) (e : Event) → IsTrue (list_all (λ x. not (is_stop x)) events) → not (is_script_stop e) ≡ true → IsTrue (list_all (λ x. not (is_script_stop x)) (events ++ e ∷ []))
none_script [] e goes none = both_true (not (is_script_stop e)) true none refl
none_script (f ∷ fs) e goes none =
    let p = and_parts (not (is_stop f)) (list_all (λ x. not (is_stop x)) fs) goes in
    both_true (not (is_script_stop f)) (list_all (λ x. not (is_script_stop x)) (fs ++ e ∷ [])) (no_script f p.0) (none_script fs e p.1 none)

-- what goes well ends by itself
well_end : (front : List Event) (why : StopCause) → list_all well_so (front ++ event.Stop why ∷ []) ≡ true → goes_well why ≡ true
well_end [] why well = ends_itself why (and_parts (not (is_cut why)) true well).0
  where
    ends_itself : (w : StopCause) → not (is_cut w) ≡ true → goes_well w ≡ true
    ends_itself stops.Ended e = refl
    ends_itself stops.Runs e = refl
    ends_itself stops.Command e = refl
    ends_itself stops.Script e = absurd (cc e)
    ends_itself (stops.Device node count) e = absurd (cc e)
    ends_itself (stops.Full node used capacity) e = absurd (cc e)
well_end (e ∷ es) why well = well_end es why (and_parts (well_so e) (list_all well_so (es ++ event.Stop why ∷ [])) well).1

-- the devices were stopped after a run that is over
pub run_played : (s : Setup) (run : RunItem) (old over new : ℕ → DeviceState) (places : List ℕ) (programs : List (List Step)) (events : List Event)
    → places ≡ run.places → programs ≡ run.programs → is_end run.stop.place ≡ true
    → (Tells old → (first : Machine) → Stands s old first → CanBegin s old first → Closes s over first places programs events)
    → IsTrue (list_all (λ x. not (is_script_stop x)) events)
    → ((p : ℕ) → Crashes (over p) (new p))
    → (Tells new → (why : StopCause) (m : Machine) → IsSafeToStop s over why m → StandsAfterStop s new why m)
    → IsPlayed s (legal_item (item.Run run) ∷ []) old new events
run_played s run old over new places programs events p q r closes unscripted crash stands =
    λ tells first begin can.
    let c = closes tells first begin can in
    let stop = event.Stop c.why in
    let one : IsRunOf run.places run.programs (place_of run.stop.place) events =
    subst (λ (place : Place). IsRunOf run.places run.programs place events) (at_end run.stop.place r)
    (subst (λ (ps : List ℕ). IsRunOf ps run.programs AtEnd events) p
    (subst (λ (steps : List (List Step)). IsRunOf places steps AtEnd events) q (record {
      begin = c.begin;
      stop = subst (λ (es : List Event). IsTrue (ends_with_stop es)) (sym c.is) (ends_last c.front stop c.goes_on refl);
      steps = c.steps;
      place = unscripted;
    }))) in (
      events,
      [],
      new,
      sym (append-nil events),
      one,
      λ told.
          let left = stands told c.why c.before c.safe in (
            after_stop s c.before left.0,
            run_on s first c.before (after_stop s c.before left.0) c.front events stop c.is c.run (left.0, left.1, refl),
            left.2,
            λ well. (c.well (well_end c.front c.why (subst (λ (es : List Event). list_all well_so es ≡ true) c.is well)) left.0 left.1 new (record { crashes = λ place low. crash place; tells = told }), (refl, refl)),
          ),
    )

abbrev setup_with : Shape → Config → Setup
setup_with shape config = record { shape = shape; config = config }

-- the setup of a site is that of its shape and config
pub same_setup : (x y : Shape) (u v : Config) (s : Setup) → y ≡ x → v ≡ u → record { shape = x; config = u } ≡ s → record { shape = y; config = v } ≡ s
same_setup x y u v s p q e = ap (λ (z : Shape). setup_with z v) p ∙ ap (λ (z : Config). setup_with x z) q ∙ e
