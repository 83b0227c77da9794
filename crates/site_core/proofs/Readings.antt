-- The readings of a clock, part by part.
use Rattle.std.proofs.Common.{◌≡◌, ℕ, Bool, true, false, List, [], ◌∷◌, ◌++◌, Option, None, Some, option_map, refl, sym, ap, ◌∙◌, subst, append_assoc, append-nil}
use Rattle.std.specs.Prelude.{filter_map, ◌&&◌, IsTrue}
use Rattle.std.specs.List.{list_all}
use Rattle.scr_base.specs.Streams.{counted}
use Rattle.scr_base.specs.declared.actor.Actor.{Actor}
use Rattle.scr_base.specs.declared.actor.Actor.TheVariants as actor
use Rattle.ckpt_model.specs.declared.event.Event.{Event}
use Rattle.ckpt_model.specs.declared.event.Event.TheVariants as event
use Rattle.ckpt_model.specs.declared.event.StopCause.TheVariants as cause
use Rattle.site_core.specs.Follows.{Each, IsOf}
use Rattle.site_core.specs.Readings.{time_in, times_of, AreReadings, next_after, TellsReadings, TellsTimes, is_inside}

-- with what one event tells before the others
abbrev kept_times : Option ℕ → List ℕ → List ℕ
kept_times None ts = ts
kept_times (Some t) ts = t ∷ ts

times-append : (es fs : List Event) → times_of (es ++ fs) ≡ times_of es ++ times_of fs
times-append [] fs = refl
times-append (e ∷ es) fs = pick (time_in e) (times-append es fs) where
  pick : (o : Option ℕ) → times_of (es ++ fs) ≡ times_of es ++ times_of fs → kept_times o (times_of (es ++ fs)) ≡ kept_times o (times_of es) ++ times_of fs
  pick None rest = rest
  pick (Some t) rest = ap (λ (ts : List ℕ). t ∷ ts) rest

readings-append : (next : Option ℕ) (a b : List ℕ) → AreReadings next a → AreReadings (next_after next a) b → AreReadings next (a ++ b)
readings-append next [] b one two = two
readings-append next (t ∷ ts) b one two = (one.0, readings-append (option_map counted next) ts b one.1 two)

next-append : (next : Option ℕ) (a b : List ℕ) → next_after (next_after next a) b ≡ next_after next (a ++ b)
next-append next [] b = refl
next-append next (t ∷ ts) b = next-append (option_map counted next) ts b

-- one part behind another
pub readings_then : (before mid after : Option ℕ) (es fs : List Event) → TellsReadings before mid es → TellsReadings mid after fs → TellsReadings before after (es ++ fs)
readings_then before mid after es fs one two = record {
  readings = subst (λ (ts : List ℕ). AreReadings before ts) (sym (times-append es fs)) (readings-append before (times_of es) (times_of fs) one.readings (subst (λ (r : Option ℕ). AreReadings r (times_of fs)) one.next two.readings));
  next = two.next ∙ ap (λ (r : Option ℕ). next_after r (times_of fs)) one.next ∙ next-append before (times_of es) (times_of fs) ∙ ap (λ (ts : List ℕ). next_after before ts) (sym (times-append es fs));
}

inside_then : (es fs : List Event) → IsTrue (list_all is_inside es) → IsTrue (list_all is_inside fs) → IsTrue (list_all is_inside (es ++ fs))
inside_then [] fs one two = two
inside_then (e ∷ es) fs one two = split (is_inside e) one (λ rest. inside_then es fs rest two)
  where
    split : (b : Bool) → IsTrue (b && list_all is_inside es) → (IsTrue (list_all is_inside es) → IsTrue (list_all is_inside (es ++ fs))) → IsTrue (b && list_all is_inside (es ++ fs))
    split true rest go = go rest
    split false rest go = absurd (cc rest)

pub times_then : (before mid after : Option ℕ) (old now new : List Event) → TellsTimes before mid old now → TellsTimes mid after now new → TellsTimes before after old new
times_then before mid after old now new one two = record {
  told = one.told ++ two.told;
  is = two.is ∙ ap (λ (es : List Event). es ++ two.told) one.is ∙ append_assoc old one.told two.told;
  tells = readings_then before mid after one.told two.told one.tells two.tells;
  inside = inside_then one.told two.told one.inside two.inside;
}

-- nothing was told, and nothing read
pub no_times : (next : Option ℕ) (events : List Event) → TellsTimes next next events events
no_times next events = record { told = []; is = sym (append-nil events); tells = record { readings = tt; next = refl }; inside = refl }

-- no actor's turn tells the time
no_time : (a : Actor) (e : Event) → IsOf a e → time_in e ≡ None
no_time (actor.Rank rank) (event.Time now) own = absurd own
no_time actor.Recoverer (event.Time now) own = absurd own
no_time actor.Encoder (event.Time now) own = absurd own
no_time actor.Flusher (event.Time now) own = absurd own
no_time actor.Evictor (event.Time now) own = absurd own
no_time a _ own = refl

-- nor ends the run from outside
no_script : (a : Actor) (e : Event) → IsOf a e → is_inside e ≡ true
no_script (actor.Rank rank) (event.Stop cause.Script) own = absurd own
no_script actor.Recoverer (event.Stop cause.Script) own = absurd own
no_script actor.Encoder (event.Stop cause.Script) own = absurd own
no_script actor.Flusher (event.Stop cause.Script) own = absurd own
no_script actor.Evictor (event.Stop cause.Script) own = absurd own
no_script a _ own = refl

none_script : (a : Actor) (es : List Event) → Each (IsOf a) es → IsTrue (list_all is_inside es)
none_script a [] own = refl
none_script a (e ∷ es) own = rw (no_script a e own.0) (none_script a es own.1)

none_told : (a : Actor) (es : List Event) → Each (IsOf a) es → times_of es ≡ []
none_told a [] own = refl
none_told a (e ∷ es) own = ap (λ (o : Option ℕ). kept_times o (times_of es)) (no_time a e own.0) ∙ none_told a es own.1

-- an actor's turn told what it did, and the clock wasn't read
pub turn_times : (next : Option ℕ) (a : Actor) (old new told : List Event) → new ≡ old ++ told → Each (IsOf a) told → TellsTimes next next old new
turn_times next a old new told is own = record {
  told = told;
  is = is;
  tells = record {
    readings = subst (λ (ts : List ℕ). AreReadings next ts) (sym (none_told a told own)) tt;
    next = ap (λ (ts : List ℕ). next_after next ts) (sym (none_told a told own));
  };
  inside = none_script a told own;
}

-- the clock was read, and its reading told
pub told_times : (before after : Option ℕ) (now : ℕ) (old new : List Event) → new ≡ old ++ event.Time now ∷ [] → Rattle.std.specs.Prelude.IfSome before (λ next. now ≡ next) → after ≡ option_map counted before → TellsTimes before after old new
told_times before after now old new is read later = record { told = event.Time now ∷ []; is = is; tells = record { readings = (read, tt); next = later }; inside = refl }

-- behind nothing, none of it ends a run from outside
pub all_inside : (before after : Option ℕ) (none events : List Event) → none ≡ [] → TellsTimes before after none events → IsTrue (list_all is_inside events)
all_inside before after none events empty t = subst (λ (es : List Event). IsTrue (list_all is_inside es)) (sym (t.is ∙ ap (λ (es : List Event). es ++ t.told) empty)) t.inside

-- all that was told behind nothing
pub all_readings : (before after : Option ℕ) (none events : List Event) → none ≡ [] → TellsTimes before after none events → TellsReadings before after events
all_readings before after none events empty t = subst (λ (es : List Event). TellsReadings before after es) (sym (t.is ∙ ap (λ (es : List Event). es ++ t.told) empty)) t.tells
