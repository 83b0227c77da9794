-- The faults that a history tells: each has its cause, and is told once.
use Rattle.std.proofs.Common.{◌≡◌, ◌⊎◌, inl, inr, ◌≤◌, ◌<◌, ◌+◌, ◌-◌, ◌^◌, ℕ, true, List, [], ◌∷◌, ◌++◌, length, get_or, Option, Some, None, refl, sym, ap, ◌∙◌, subst, append-nil, length-append, arith}
use Rattle.std.specs.Prelude.{AllPairs, Contains}
use Rattle.std.proofs.lemmas.List.{get_or_append_left, get_or-append-add}
use Rattle.std.proofs.lemmas.List.Quantifiers.{all_pairs_push}
use Rattle.std.proofs.lemmas.List.Elements.{Contains-get_or, Contains-append_cases, Contains-push_cases, filter_map-append}
use Rattle.std.proofs.lemmas.Bool.Decides.{eqb_tells}
use Rattle.scr_base.specs.Causes.{Rose}
use Rattle.scr_base.specs.declared.actor.Actor.{Actor}
use Rattle.scr_base.specs.declared.actor.Actor.TheVariants as actor
use Rattle.scr_base.specs.declared.answers.Refusal.{Refusal}
use Rattle.scr_base.specs.declared.answers.Refusal.TheVariants as refusal
use Rattle.scr_base.specs.declared.answers.Reply.TheVariants as replies
use Rattle.node_device.specs.Calls.{Crashes}
use Rattle.node_device.specs.DeviceState.{DeviceState, IsSound}
use Rattle.node_device.specs.Rack.{Rack, states_of}
use Rattle.ckpt_model.specs.Answers.{is_fault}
use Rattle.ckpt_model.specs.declared.event.Event.{Event}
use Rattle.ckpt_model.specs.declared.event.Event.TheVariants as event
use Rattle.ckpt_model.specs.declared.event.Kind.{Kind}
use Rattle.ckpt_model.specs.declared.event.StopCause.TheVariants as stops
use Rattle.site_core.specs.declared.site.Site.{Site}
use Rattle.site_calls.specs.Causes.{IsFault, IsCalm}
use Rattle.site_core.specs.Faults.{Fault, fault_of, faults_told, IsMetBetween, AreTwo, IsNoneOf, TellsCauses, IsAccounted, KeepsAccount}
use Rattle.site_core.specs.Follows.{Each, IsOf, IsCaused, IsRefusedFor, carried, TellsBy, TellsFaults, TakesUp, TellsOrCarries, AccountsBy, BecomesOf, KeepsCarried, IsTold}
use Rattle.site_core.proofs.Carrying.{over_none, is_longer}
use Rattle.site_calls.proofs.Sounds.{below_or_not, sound_of}

-- ## Counts

-- a count that rose above a greater one rose above this one
rose_from : (before mid now : ℕ) → before ≤ mid → Rose mid now → Rose before now
rose_from before mid now le rose = omega arith

-- a count that rose isn't what it was
rose_apart : (before now : ℕ) → Rose before now → now < 2 ^ 64 - 1 → now ≤ before → ⊥
rose_apart before now rose small le = omega arith

pub rose_later : (before now : ℕ) → before < 2 ^ 64 → Rose before now → before ≤ now
rose_later before now fits rose = omega arith

pub equal_later : (before now : ℕ) → now ≡ before → before ≤ now
equal_later before now e = omega arith

at_most : (a b c : ℕ) → a ≤ b → b ≤ c → a ≤ c
at_most a b c p q = omega arith

-- the counts of faults, which never fall
abbrev pub Rise : (ℕ → DeviceState) → (ℕ → DeviceState) → Type 0
Rise old new = (place : ℕ) → (old place).faults ≤ (new place).faults

-- none rose
pub level : (states : ℕ → DeviceState) → Rise states states
level states place = equal_later (states place).faults (states place).faults refl

rise_then : (a b c : ℕ → DeviceState) → Rise a b → Rise b c → Rise a c
rise_then a b c one two place = at_most (a place).faults (b place).faults (c place).faults (one place) (two place)

-- what was met between two states was met between one before and one after
met_from : (a b c : ℕ → DeviceState) (f : Fault) → Rise a b → IsMetBetween b c f → IsMetBetween a c f
met_from a b c f rise met = record { rose = rose_from (a f.node).faults (b f.node).faults f.count (rise f.node) met.rose; reached = met.reached }

met_to : (a b c : ℕ → DeviceState) (f : Fault) → Rise b c → IsMetBetween a b f → IsMetBetween a c f
met_to a b c f rise met = record { rose = met.rose; reached = at_most f.count (b f.node).faults (c f.node).faults met.reached (rise f.node) }

-- what was met before a state wasn't met after it
met_apart : (a b c : ℕ → DeviceState) (f : Fault) → f.count < 2 ^ 64 - 1 → IsMetBetween a b f → IsMetBetween b c f → ⊥
met_apart a b c f small one two = rose_apart (b f.node).faults f.count two.rose small one.reached

-- ## Lists of faults

module _ {X : Type 0} (R : X → X → Type 0) where
  pairs_append : (xs ys : List X) → AllPairs R xs → AllPairs R ys → ((x y : X) → Contains xs x → Contains ys y → R x y) → AllPairs R (xs ++ ys)
  pairs_append xs ys one two apart i j d lt within = pick (below_or_not j (length xs)) (below_or_not i (length xs)) where
    n : ℕ
    n = length xs

    left : (k : ℕ) → k < n → get_or xs k d ≡ get_or (xs ++ ys) k d
    left k low = sym (get_or_append_left xs ys d k low)

    right : (k : ℕ) → n ≤ k → get_or ys (k - n) d ≡ get_or (xs ++ ys) k d
    right k high = let back : n + (k - n) ≡ k = omega arith in sym (subst (λ (q : ℕ). get_or (xs ++ ys) q d ≡ get_or ys (k - n) d) back (get_or-append-add xs ys (k - n) d))

    long : length (xs ++ ys) ≡ n + length ys
    long = length-append xs ys

    both : (x x' y y' : X) → x ≡ x' → y ≡ y' → R x y → R x' y'
    both x x' y y' p q r = subst (λ (z : X). R z y') p (subst (λ (z : X). R x z) q r)

    pick : (j < n) ⊎ (n ≤ j) → (i < n) ⊎ (n ≤ i) → R (get_or (xs ++ ys) i d) (get_or (xs ++ ys) j d)
    pick (inl low) _ = let first : i < n = omega arith in both _ _ _ _ (left i first) (left j low) (one i j d lt low)
    pick (inr high) (inl low) = let inside : j - n < length ys = omega (arith, long) in both _ _ _ _ (left i low) (right j high) (apart (get_or xs i d) (get_or ys (j - n) d) (Contains-get_or xs i d low) (Contains-get_or ys (j - n) d inside))
    pick (inr high) (inr past) = let inside : j - n < length ys = omega (arith, long) in let order : i - n < j - n = omega arith in both _ _ _ _ (right i past) (right j high) (two (i - n) (j - n) d order inside)

told_append : (es fs : List Event) → faults_told (es ++ fs) ≡ faults_told es ++ faults_told fs
told_append es fs = filter_map-append fault_of es fs

none_in : (f : Fault) → Contains [] f → ⊥
none_in f found = let lt = found.1 in omega arith

-- ## Stretches of a history

pub no_causes : (old new : ℕ → DeviceState) → Rise old new → TellsCauses old new []
no_causes old new rise = record { rise = rise; met = λ f found. absurd (none_in f found); once = λ i j d lt within. absurd (omega arith) }

-- one stretch behind another
pub causes_then : (a b c : ℕ → DeviceState) (es fs : List Event) → TellsCauses a b es → TellsCauses b c fs → TellsCauses a c (es ++ fs)
causes_then a b c es fs one two = record {
  rise = rise_then a b c one.rise two.rise;
  met = λ f found. either f (Contains-append_cases (faults_told es) (faults_told fs) f (subst (λ (l : List Fault). Contains l f) (told_append es fs) found));
  once = subst (λ (l : List Fault). AllPairs AreTwo l) (sym (told_append es fs)) (pairs_append AreTwo (faults_told es) (faults_told fs) one.once two.once apart);
} where
  either : (f : Fault) → Contains (faults_told es) f ⊎ Contains (faults_told fs) f → IsMetBetween a c f
  either f (inl first) = met_to a b c f two.rise (one.met f first)
  either f (inr second) = met_from a b c f one.rise (two.met f second)

  apart : (f g : Fault) → Contains (faults_told es) f → Contains (faults_told fs) g → AreTwo f g
  apart f g p q small same = met_apart a b c f small (one.met f p) (subst (λ (x : Fault). IsMetBetween b c x) (sym same) (two.met g q))

-- nothing more was told, and counts didn't fall
pub causes_still : (a b c : ℕ → DeviceState) (es : List Event) → TellsCauses a b es → Rise b c → TellsCauses a c es
causes_still a b c es one rise = subst (λ (l : List Event). TellsCauses a c l) (append-nil es) (causes_then a b c es [] one (no_causes b c rise))

-- the devices were stopped
pub causes_stopped : (a b c : ℕ → DeviceState) (es : List Event) → TellsCauses a b es → ((place : ℕ) → Crashes (b place) (c place)) → TellsCauses a c es
causes_stopped a b c es one crashes = causes_still a b c es one (λ place. (crashes place).tells.later)

-- one fault more is told, which wasn't told before
adds : (a b c : ℕ → DeviceState) (es : List Event) (e : Event) (f : Fault) → TellsCauses a b es → Rise b c → fault_of e ≡ Some f → IsMetBetween a c f → IsNoneOf (faults_told es) f → TellsCauses a c (es ++ e ∷ [])
adds a b c es e f one rise is met fresh = record {
  rise = rise_then a b c one.rise rise;
  met = λ g found. either g (Contains-push_cases (faults_told es) f g (subst (λ (l : List Fault). Contains l g) (told_one es e f is) found));
  once = subst (λ (l : List Fault). AllPairs AreTwo l) (sym (told_one es e f is)) (all_pairs_push AreTwo (faults_told es) f one.once (λ k d lt small same. fresh (subst (λ (x : Fault). x.count < 2 ^ 64 - 1) same small) (subst (λ (x : Fault). Contains (faults_told es) x) same (Contains-get_or (faults_told es) k d lt))));
} where
  told_one : (es : List Event) (e : Event) (f : Fault) → fault_of e ≡ Some f → faults_told (es ++ e ∷ []) ≡ faults_told es ++ f ∷ []
  told_one es e f is = told_append es (e ∷ []) ∙ ap (λ (o : Option Fault). faults_told es ++ Rattle.std.specs.List.cons_option o []) is

  either : (g : Fault) → Contains (faults_told es) g ⊎ (f ≡ g) → IsMetBetween a c g
  either g (inl before) = met_to a b c g rise (one.met g before)
  either g (inr same) = subst (λ (x : Fault). IsMetBetween a c x) same met

-- the same faults were told, and counts didn't fall
silent : (a b c : ℕ → DeviceState) (es fs : List Event) → TellsCauses a b es → Rise b c → faults_told fs ≡ faults_told es → TellsCauses a c fs
silent a b c es fs one rise same = record {
  rise = rise_then a b c one.rise rise;
  met = λ f found. met_to a b c f rise (one.met f (subst (λ (l : List Fault). Contains l f) same found));
  once = subst (λ (l : List Fault). AllPairs AreTwo l) (sym same) one.once;
}

told_none : (es : List Event) (e : Event) → fault_of e ≡ None → faults_told (es ++ e ∷ []) ≡ faults_told es
told_none es e is = told_append es (e ∷ []) ∙ ap (λ (o : Option Fault). faults_told es ++ Rattle.std.specs.List.cons_option o []) is ∙ append-nil (faults_told es)

-- one event was told, and no fault
pub none_told : (old new : ℕ → DeviceState) (e : Event) → fault_of e ≡ None → Rise old new → TellsCauses old new (e ∷ [])
none_told old new e is rise = silent old new new [] (e ∷ []) (no_causes old new rise) (level new) (told_none [] e is)

-- one event was told, of one fault
pub one_told : (old new : ℕ → DeviceState) (e : Event) (f : Fault) → Rise old new → fault_of e ≡ Some f → IsMetBetween old new f → TellsCauses old new (e ∷ [])
one_told old new e f rise is met = adds old old new [] e f (no_causes old old (level old)) rise is met (λ small found. none_in f found)

-- ## What an event of a turn tells

-- the round was decided by the refusal that it carried
record IsDecidedBy (was : Option Refusal) (e : Event) (f : Fault) : Type 0 where
  pub kind : Kind
  pub is : e ≡ event.Decided kind (replies.Refused (refusal.Device f.node f.count))
  pub carried_is : was ≡ Some (refusal.Device f.node f.count)

module _ (may : ℕ → List ℕ → ℕ → ℕ → Type 0) (old new : ℕ → DeviceState) (was : Option Refusal) where
  met_now : (node count : ℕ) (f : Fault) → Some (let x : Fault = record { node = node; count = count } in x) ≡ Some f → IsFault old new node count → IsFault old new f.node f.count
  met_now node count f is fault = let same : record { node = node; count = count } ≡ f = cc in subst (λ (x : Fault). IsFault old new x.node x.count) same fault

  decided_now : (kind : Kind) (node count : ℕ) (f : Fault) → Some (let x : Fault = record { node = node; count = count } in x) ≡ Some f → was ≡ Some (refusal.Device node count) → IsDecidedBy was (event.Decided kind (replies.Refused (refusal.Device node count))) f
  decided_now kind node count f is carries =
      let same : record { node = node; count = count } ≡ f = cc in
      subst (λ (x : Fault). IsDecidedBy was (event.Decided kind (replies.Refused (refusal.Device node count))) x) same (record { kind = kind; is = refl; carried_is = carries })

  told_by_rank : (r : ℕ) (e : Event) (f : Fault) → IsOf (actor.Rank r) e → IsCaused may old new was e → fault_of e ≡ Some f → IsFault old new f.node f.count ⊎ IsDecidedBy was e f
  told_by_rank r (event.Local rank number call (replies.Refused (refusal.Device node count))) f own cause is = inl (met_now node count f is cause)
  told_by_rank r (event.Decided kind (replies.Refused (refusal.Device node count))) f own cause is = inr (decided_now kind node count f is cause)
  told_by_rank r (event.Stop (stops.Device node count)) f own cause is = inl (met_now node count f is cause)
  told_by_rank r (event.GivenUp which cause) f own _ is = absurd own
  told_by_rank r (event.Scavenged answer) f own cause is = absurd own
  told_by_rank r (event.IndexCommand note) f own cause is = absurd own
  told_by_rank r (event.HaltSet word answer) f own cause is = absurd own
  told_by_rank r _ f own cause is = absurd (cc is)

  told_by_worker : (e : Event) (f : Fault) → IsOf actor.Encoder e → IsCaused may old new was e → fault_of e ≡ Some f → IsFault old new f.node f.count ⊎ IsDecidedBy was e f
  told_by_worker (event.Stop (stops.Device node count)) f own cause is = inl (met_now node count f is cause)
  told_by_worker (event.Local rank number call answer) f own cause is = absurd own
  told_by_worker (event.Decided kind answer) f own cause is = absurd own
  told_by_worker (event.GivenUp which cause) f own _ is = absurd own
  told_by_worker (event.Scavenged answer) f own cause is = absurd own
  told_by_worker (event.IndexCommand note) f own cause is = absurd own
  told_by_worker (event.HaltSet word answer) f own cause is = absurd own
  told_by_worker _ f own cause is = absurd (cc is)

  told_by : (who : Actor) (e : Event) (f : Fault) → IsOf who e → IsCaused may old new was e → fault_of e ≡ Some f → IsFault old new f.node f.count ⊎ IsDecidedBy was e f
  told_by (actor.Rank r) e f own cause is = told_by_rank r e f own cause is
  told_by actor.Recoverer e f own cause is = told_by_worker e f own cause is
  told_by actor.Encoder e f own cause is = told_by_worker e f own cause is
  told_by actor.Flusher e f own cause is = told_by_worker e f own cause is
  told_by actor.Evictor e f own cause is = told_by_worker e f own cause is

-- ## What becomes of the counts

calm_rise : (old new : ℕ → DeviceState) → IsCalm old new → Rise old new
calm_rise old new calm place = equal_later (old place).faults (new place).faults (calm place)

fault_rise : (old new : ℕ → DeviceState) (node count : ℕ) → ((place : ℕ) → (old place).faults < 2 ^ 64) → IsFault old new node count → Rise old new
fault_rise old new node count fits fault place = elim (eqb_tells place node) [
  | inl same ↦ subst (λ (p : ℕ). (old p).faults ≤ (new p).faults) (sym same.1) (rose_later (old node).faults (new node).faults (fits node) (subst (λ (n : ℕ). Rose (old node).faults n) fault.now fault.rose))
  | inr away ↦ equal_later (old place).faults (new place).faults (fault.others place away.1)
]

-- a fault of this step was met between its states
met_here : (old new : ℕ → DeviceState) (f : Fault) → IsFault old new f.node f.count → IsMetBetween old new f
met_here old new f fault = record { rose = fault.rose; reached = equal_later f.count (new f.node).faults (sym fault.now) }

-- ## A turn

module _ {D : Type 0} (state : D → DeviceState) (who : Actor) (old new : Site D) (fits : (place : ℕ) → (states_of state old.bay place).faults < 2 ^ 64) where
  abbrev before : ℕ → DeviceState
  before = states_of state old.bay

  abbrev now : ℕ → DeviceState
  now = states_of state new.bay

  any_accounts : AccountsBy who state old new → TellsOrCarries state old new
  any_accounts a = pick who a where
    pick : (w : Actor) → AccountsBy w state old new → TellsOrCarries state old new
    pick (actor.Rank r) t = inl t
    pick actor.Recoverer t = inl t
    pick actor.Encoder t = t
    pick actor.Flusher t = inl t
    pick actor.Evictor t = inl t

  told_rise : TellsFaults state old new → Rise before now
  told_rise t = elim t.faults [
    | inl calm ↦ calm_rise before now calm
    | inr told ↦ fault_rise before now told.node told.count fits told.fault
  ]

  taken_rise : TakesUp state old new → Rise before now
  taken_rise t = pick t.refusal t.of_device t.cause where
    pick : (r : Refusal) → is_fault (replies.Refused r) ≡ true → IsRefusedFor (Rattle.site_core.specs.Writes.MayWrite actor.Encoder old.programs old.core) before now (replies.Refused r) → Rise before now
    pick (refusal.Device node count) is cause = fault_rise before now node count fits cause
    pick (refusal.Full node used capacity) is cause = calm_rise before now cause.calm
    pick _ is cause = absurd (cc is)

  module _ (base : ℕ → DeviceState) (kept : KeepsCarried old new) (h : IsAccounted state base old) where
    -- a fault of this turn was met since the state from which is counted, and wasn't told before
    met_since : (f : Fault) → IsFault before now f.node f.count → IsMetBetween base now f
    met_since f fault = met_from base before now f h.causes.rise (met_here before now f fault)

    fresh_now : (f : Fault) → IsFault before now f.node f.count → IsNoneOf (faults_told old.history.events) f
    fresh_now f fault small found = met_apart base before now f small (h.causes.met f found) (met_here before now f fault)

    -- what was carried is carried still
    carried_still : (node count : ℕ) → Rise before now → faults_told new.history.events ≡ faults_told old.history.events → carried old.core ≡ Some (refusal.Device node count)
        → let f : Fault = record { node = node; count = count } in IsMetBetween base now f × IsNoneOf (faults_told new.history.events) f
    carried_still node count rise same is =
        let f : Fault = record { node = node; count = count } in
        let was = h.carries node count is in
        (met_to base before now f rise was.0, subst (λ (l : List Fault). IsNoneOf l f) (sym same) was.1)

    -- no fault was told
    tells_none : TellsOrCarries state old new → faults_told new.history.events ≡ faults_told old.history.events → IsAccounted state base new
    tells_none (inl t) same = record {
      causes = silent base before now old.history.events new.history.events h.causes (told_rise t) same;
      carries = λ node count is. carried_still node count (told_rise t) same (t.carries (refusal.Device node count) is);
    }
    tells_none (inr t) same = record {
      causes = silent base before now old.history.events new.history.events h.causes (taken_rise t) same;
      carries = λ node count is.
          let f : Fault = record { node = node; count = count } in
          let one : t.refusal ≡ refusal.Device node count = same_some t.refusal (refusal.Device node count) (sym t.now ∙ is) in
          let fault : IsFault before now node count = subst (λ (r : Refusal). IsRefusedFor (Rattle.site_core.specs.Writes.MayWrite actor.Encoder old.programs old.core) before now (replies.Refused r)) one t.cause in
          (met_since f fault, subst (λ (l : List Fault). IsNoneOf l f) (sym same) (fresh_now f fault));
    } where
      same_some : (x y : Refusal) → Some x ≡ Some y → x ≡ y
      same_some x y e = cc

    -- a fault was told as it was met
    tells_fault : (e : Event) (f : Fault) → TellsFaults state old new → new.history.events ≡ old.history.events ++ e ∷ [] → fault_of e ≡ Some f → IsFault before now f.node f.count → IsAccounted state base new
    tells_fault e f t added is fault = record {
      causes = subst (λ (es : List Event). TellsCauses base now es) (sym added) (adds base before now old.history.events e f h.causes (told_rise t) is (met_since f fault) (fresh_now f fault));
      carries = λ node count c.
          let g : Fault = record { node = node; count = count } in
          let was = h.carries node count (t.carries (refusal.Device node count) c) in
          (met_to base before now g (told_rise t) was.0, λ small found. apart g small was (Contains-push_cases (faults_told old.history.events) f g (subst (λ (l : List Fault). Contains l g) (told_one old.history.events e f is) (subst (λ (es : List Event). Contains (faults_told es) g) added found))));
    } where
      told_one : (es : List Event) (x : Event) (y : Fault) → fault_of x ≡ Some y → faults_told (es ++ x ∷ []) ≡ faults_told es ++ y ∷ []
      told_one es x y at = told_append es (x ∷ []) ∙ ap (λ (o : Option Fault). faults_told es ++ Rattle.std.specs.List.cons_option o []) at

      apart : (g : Fault) → g.count < 2 ^ 64 - 1 → IsMetBetween base before g × IsNoneOf (faults_told old.history.events) g → Contains (faults_told old.history.events) g ⊎ (f ≡ g) → ⊥
      apart g small was (inl told) = was.1 small told
      apart g small was (inr same) = met_apart base before now g small was.0 (subst (λ (x : Fault). IsMetBetween before now x) same (met_here before now f fault))

    -- a round was decided by the refusal that it carried
    decides : (e : Event) (f : Fault) → TellsFaults state old new → new.history.events ≡ old.history.events ++ e ∷ [] → fault_of e ≡ Some f → IsDecidedBy (carried old.core) e f → IsAccounted state base new
    decides e f t added is by =
        let was = h.carries f.node f.count by.carried_is in
        let none : carried new.core ≡ None = gone (kept (refusal.Device f.node f.count) by.carried_is) in
        record {
          causes = subst (λ (es : List Event). TellsCauses base now es) (sym added) (adds base before now old.history.events e f h.causes (told_rise t) is (met_to base before now f (told_rise t) was.0) was.1);
          carries = λ node count c. absurd (cc (c, none));
        }
      where
        gone : BecomesOf (refusal.Device f.node f.count) new.core old.history.events new.history.events → carried new.core ≡ None
        gone (inl still) = absurd (is_longer old.history.events e (sym added ∙ still.told))
        gone (inr (inl decided)) = decided.none
        gone (inr (inr over)) = over_none new.core.stage new.core.refusal over

    tells_one : (e : Event) → TellsOrCarries state old new → new.history.events ≡ old.history.events ++ e ∷ [] → IsOf who e → IsCaused (Rattle.site_core.specs.Writes.MayWrite who old.programs old.core) before now (carried old.core) e → IsAccounted state base new
    tells_one e t added own cause = pick t (fault_of e) refl where
      pick : TellsOrCarries state old new → (o : Option Fault) → fault_of e ≡ o → IsAccounted state base new
      pick x None is = tells_none x (ap faults_told added ∙ told_none old.history.events e is)
      pick (inr taken) (Some f) is = absurd (is_longer old.history.events e (sym added ∙ taken.untold))
      pick (inl x) (Some f) is = elim (told_by (Rattle.site_core.specs.Writes.MayWrite who old.programs old.core) before now (carried old.core) who e f own cause is) [
        | inl fault ↦ tells_fault e f x added is fault
        | inr by ↦ decides e f x added is by
      ]

    tells_few : (told : List Event) → TellsOrCarries state old new → length told ≤ 1 → new.history.events ≡ old.history.events ++ told → Each (IsOf who) told → Each (IsCaused (Rattle.site_core.specs.Writes.MayWrite who old.programs old.core) before now (carried old.core)) told → IsAccounted state base new
    tells_few [] t few added own cause = tells_none t (ap faults_told (added ∙ append-nil old.history.events))
    tells_few (e ∷ []) t few added own cause = tells_one e t added own.0 cause.0
    tells_few (e ∷ d ∷ rest) t few added own cause = absurd (omega (arith, few))

-- an actor's turn keeps the account
pub turn_accounts : {D : Type 0} (state : D → DeviceState) → ((d : D) → IsSound (state d)) → (who : Actor) (old new : Site D) → TellsBy who state old new → AccountsBy who state old new → KeepsCarried old new → KeepsAccount state old new
turn_accounts state sound who old new told accounted kept = λ base h.
    let fits = λ (place : ℕ). (sound_of state sound old.bay place).fits in
    tells_few state who old new fits base kept h told.told (any_accounts state who old new fits accounted) told.few told.is told.own told.caused

-- the round was told the time
pub time_accounts : {D : Type 0} (state : D → DeviceState) (time : ℕ) (old new : Site D) → IsTold time old new → KeepsAccount state old new
time_accounts {D} state time old new is = λ base h.
    let same : faults_told new.history.events ≡ faults_told old.history.events = ap faults_told is.events ∙ told_none old.history.events (event.Time time) refl in
    let rise : Rise (states_of state old.bay) (states_of state new.bay) = λ place. equal_later (states_of state old.bay place).faults (states_of state new.bay place).faults (ap (λ (b : Rack D). (states_of state b place).faults) is.bay) in
    record {
      causes = silent base (states_of state old.bay) (states_of state new.bay) old.history.events new.history.events h.causes rise same;
      carries = λ node count c.
          let f : Fault = record { node = node; count = count } in
          let was = h.carries node count (sym (ap carried is.core) ∙ c) in
          (met_to base (states_of state old.bay) (states_of state new.bay) f rise was.0, subst (λ (l : List Fault). IsNoneOf l f) (sym same) was.1);
    }

-- nothing happened
pub rest_accounts : {D : Type 0} (state : D → DeviceState) (site : Site D) → KeepsAccount state site site
rest_accounts state site = λ base h. h

-- a run that begins accounts for all that comes from here on
pub begun_accounts : {D : Type 0} (state : D → DeviceState) (bay : Rack D) (site : Site D) → site.bay ≡ bay → site.history.events ≡ [] → carried site.core ≡ None → IsAccounted state (states_of state bay) site
begun_accounts {D} state bay site same empty none = record {
  causes = subst (λ (es : List Event). TellsCauses (states_of state bay) (states_of state site.bay) es) (sym empty) (no_causes (states_of state bay) (states_of state site.bay) (λ place. equal_later (states_of state bay place).faults (states_of state site.bay place).faults (ap (λ (b : Rack D). (states_of state b place).faults) same)));
  carries = λ node count c. absurd (cc (c, none));
}

-- the run was closed, and the devices were stopped
pub ended_causes : {D : Type 0} (state : D → DeviceState) (base : ℕ → DeviceState) (site : Site D) (bay stopped : Rack D) (events : List Event) → IsAccounted state base site → bay ≡ site.bay → events ≡ site.history.events
    → ((place : ℕ) → Crashes (states_of state bay place) (states_of state stopped place)) → TellsCauses base (states_of state stopped) events
ended_causes {D} state base site bay stopped events h same is crashes =
    subst (λ (es : List Event). TellsCauses base (states_of state stopped) es) (sym is)
    (causes_stopped base (states_of state bay) (states_of state stopped) site.history.events (subst (λ (b : Rack D). TellsCauses base (states_of state b) site.history.events) (sym same) h.causes) crashes)
