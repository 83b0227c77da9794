-- Rounds that are decided, and ranks' own steps.
use Rattle.std.proofs.Common.{◌≡◌, ◌≢◌, ◌⊎◌, inl, inr, ◌<◌, ◌≤◌, ◌+◌, ◌*◌, ◌==◌, ℕ, Bool, true, false, List, [], map, length, Option, Some, None, refl, sym, ◌∙◌, ap, subst, arith}
use Rattle.std.specs.Prelude.{IsTrue, ◌||◌, ◌&&◌, not, find, nat_lt, slice_set, replicate, option_map, option_and_then, unwrap_or, is_some, bytes_eq, if◌then◌else◌}
use Rattle.std.proofs.lemmas.Bool.Decides.{nat_tests}
use Rattle.std.proofs.lemmas.List.{length-replicate, length-set}
use Rattle.scr_base.specs.declared.shape.DataId.{DataId}
use Rattle.scr_base.specs.declared.shape.Flags.{Flags}
use Rattle.scr_base.specs.declared.answers.Phase.TheVariants as phase
use Rattle.scr_base.specs.declared.answers.Refusal.{Refusal}
use Rattle.scr_base.specs.declared.answers.Refusal.TheVariants as refusal
use Rattle.scr_base.specs.declared.answers.Reply.{Reply}
use Rattle.scr_base.specs.declared.answers.Reply.TheVariants as reply
use Rattle.scr_base.specs.declared.content.Step.{Step}
use Rattle.scr_base.specs.declared.content.Step.TheVariants as step
use Rattle.scr_base.specs.Calls.{or_else, refuse_if, judged, has_bad_name}
use Rattle.ckpt_model.specs.declared.event.Kind.{Kind}
use Rattle.ckpt_model.specs.Dataset.{Dataset, File, with_files}
use Rattle.ckpt_model.specs.Machine.{Machine, Setup}
use Rattle.ckpt_model.specs.Questions.{named, start_refusal, verdict_on, verdict, first_call, is_complete, is_running, calls_of, call_of}
use Rattle.ckpt_model.specs.Answers.{is_of_kind, is_fault, is_refused, is_answer, answer_to, round_answer, may_answer, may_fault, may_decide, empty_dataset, effect, fault_effect, effect_of, owes, after_decision, dataset_after, local_effect}
use Rattle.ckpt_model.specs.Steps.{after_local, change_rank, numbered}
use Rattle.ckpt_model.specs.Proper.{is_of_site, same_shape, datasets}
use Rattle.scr_base.specs.Sets.{fits_sets}
use Rattle.ckpt_model.proofs.SameLemmas.{number-same, bytes-same}
use Rattle.ckpt_model.proofs.ShowsLemmas.{mapped}
use Rattle.model_proper.specs.Fair.{IsFair, IsServing, IsNew, IsOther}
use Rattle.model_proper.proofs.Lists.{both, front, behind, In, each_of, all_of}
use Rattle.model_proper.proofs.Fair.Passes.{of_index, thinner_self, thinner_proper, IsLike, like_self, thin_passes, passes_fair}
use Rattle.model_proper.proofs.Events.InPlace.{alike_fair}
use Rattle.model_proper.proofs.Events.Arrivals.{find_none, serving_fair}

-- lists as they are, and no dataset opened or fetched anew
dropped_fair : (s : Setup) (m n : Machine) → n.kept ≡ m.kept → n.index ≡ m.index → n.stage ≡ m.stage → n.run ≡ m.run → n.next ≡ m.next → n.places ≡ m.places
    → ((n.open_dataset ≡ m.open_dataset) ⊎ (n.open_dataset ≡ None)) → ((n.fetching ≡ m.fetching) ⊎ (n.fetching ≡ None)) → IsFair s m → IsFair s n
dropped_fair s m n kept index stage run next places opened fetched = passes_fair s m n (thin_passes s m n (thinner_self s m n kept index (subst (λ (x : ℕ). m.run ≤ x) (sym run) (omega arith))) (λ running. ap of_index index) stage run next places
    (λ d at. elim opened [ inl same ↦ (d, sym same ∙ at, like_self d) | inr none ↦ absurd (cc (at, none)) ])
    (λ w at. elim fetched [ inl same ↦ sym same ∙ at | inr none ↦ absurd (cc (at, none)) ]))

-- ## Start

of_or_else : {A : Type 0} (a b : Option A) → or_else a b ≡ None → b ≡ None
of_or_else None b is = is
of_or_else (Some x) b is = absurd (cc is)

none_mapped : {A B : Type 0} (f : A → B) (o : Option A) → option_map f o ≡ None → o ≡ None
none_mapped f None is = refl
none_mapped f (Some x) is = absurd (cc is)

-- a round that begins with Start, and against which nothing speaks: no dataset has its name
unnamed : (m : Machine) (name : List ℕ) (flags : Flags) → verdict_on m (step.Start name flags) ≡ None → (d : Dataset) → In (datasets m) d → d.name ≢ name
unnamed m name flags clear d at same =
    let clear_name = of_or_else (judged m.phase (step.Start name flags) (calls_of m)) (or_else (refuse_if (has_bad_name (step.Start name flags)) refusal.BadName) (start_refusal m (step.Start name flags))) clear in
    let clear_start = of_or_else (refuse_if (has_bad_name (step.Start name flags)) refusal.BadName) (start_refusal m (step.Start name flags)) clear_name in
    let clear_taken = of_or_else (refuse_if (nat_lt 4294967295 m.next) refusal.Limit) (option_map (λ which. refusal.NameTaken which) (named m name)) clear_start in
    let none = none_mapped (λ (which : DataId). refusal.NameTaken which) (named m name) clear_taken in
    let found = none_mapped (λ (x : Dataset). x.which) (find (λ x. bytes_eq x.name name) (datasets m)) none in
    let is_not = find_none (λ x. bytes_eq x.name name) (datasets m) found d at in
    let is_it : bytes_eq d.name name ≡ true = subst (λ (bs : List ℕ). bytes_eq d.name bs ≡ true) same (bytes-same d.name) in
    cc (is_not, is_it)

abbrev started : Setup → Machine → List ℕ → Flags → Machine
started s m name flags = record m { open_dataset = Some (empty_dataset s m name flags); next = m.next + 1; phase = phase.Output }

empty_of_site : (s : Setup) (m : Machine) (name : List ℕ) (flags : Flags) → IsTrue (fits_sets s.config.scheme s.config.size s.shape.nodes) → IsTrue (is_of_site s m.run (empty_dataset s m name flags))
empty_of_site s m name flags fits =
    all_four (same_shape s.shape s.shape) (fits_sets s.config.scheme s.config.size s.shape.nodes) (length (replicate {A = List File} (s.shape.nodes * s.shape.ranks) []) == s.shape.nodes * s.shape.ranks) (nat_lt m.run (m.run + 1))
    (three (s.shape.nodes == s.shape.nodes) (s.shape.ranks == s.shape.ranks) (s.shape.spares == s.shape.spares) (number-same s.shape.nodes) (number-same s.shape.ranks) (number-same s.shape.spares))
    fits (subst (λ (n : ℕ). IsTrue (n == s.shape.nodes * s.shape.ranks)) (sym (length-replicate (s.shape.nodes * s.shape.ranks) [])) (number-same (s.shape.nodes * s.shape.ranks))) (above m.run)
  where
    three : (a b c : Bool) → IsTrue a → IsTrue b → IsTrue c → IsTrue (a && b && c)
    three a b c x y z = both (a && b) c (both a b x y) z

    all_four : (a b c d : Bool) → IsTrue a → IsTrue b → IsTrue c → IsTrue d → IsTrue (a && b && c && d)
    all_four a b c d x y z w = both (a && b && c) d (three a b c x y z) w

    above : (n : ℕ) → IsTrue (nat_lt n (n + 1))
    above n = grind (arith, nat_tests)

start_fair : (s : Setup) (m : Machine) (name : List ℕ) (flags : Flags) → is_running m.stage ≡ true → verdict_on m (step.Start name flags) ≡ None → IsFair s m → IsFair s (started s m name flags)
start_fair s m name flags running clear fair =
    let serving = fair.serving running in
    serving_fair s m (started s m name flags) running refl refl fair (thinner_proper s m (started s m name flags) (thinner_self s m (started s m name flags) refl refl (omega arith)) fair.proper) (record {
      below = all_of (λ d. d.which.id < m.next + 1) (datasets m) (λ d at. let lt = each_of (λ x. x.which.id < m.next) (datasets m) serving.below d at in omega (arith, lt));
      open_dataset = λ d at. let is : empty_dataset s m name flags ≡ d = cc at in subst (λ (x : Dataset). IsNew s (started s m name flags) x) is (is_new serving);
      fetching = serving.fetching;
    })
  where
    is_new : IsServing s m → IsNew s (started s m name flags) (empty_dataset s m name flags)
    is_new serving = record {
      of_site = empty_of_site s m name flags fair.fits;
      run = refl;
      below = omega arith;
      others = all_of (IsOther (empty_dataset s m name flags)) (datasets m) (λ d at. (λ same. let lt = each_of (λ x. x.which.id < m.next) (datasets m) serving.below d at in absurd (omega (arith, lt, same)), λ same. unnamed m name flags clear d at (sym same)));
    }

-- ## What else is decided

fault_fair : (s : Setup) (m : Machine) (call : Step) → IsFair s m → IsFair s (fault_effect m call)
fault_fair s m (step.Complete valid) fair = dropped_fair s m (fault_effect m (step.Complete valid)) refl refl refl refl refl refl (inr refl) (inl refl) fair
fault_fair s m step.Restart fair = dropped_fair s m (fault_effect m step.Restart) refl refl refl refl refl refl (inl refl) (inr refl) fair
fault_fair s m _ fair = fair

abbrev same_fair : (s : Setup) (m n : Machine) → Type 0
same_fair s m n = IsFair s m → IsFair s n

have_fair : (s : Setup) (m : Machine) (a : Reply) → IsFair s m → IsFair s (effect s m step.Have a)
have_fair s m (reply.Offer which name) = alike_fair s m (effect s m step.Have (reply.Offer which name)) refl refl (record { stage = refl; run = refl; next = refl; places = refl; open_dataset = refl; fetching = refl })
have_fair s m a = alike_fair s m (effect s m step.Have a) refl refl (record { stage = refl; run = refl; next = refl; places = refl; open_dataset = refl; fetching = refl })

effect_fair : (s : Setup) (m : Machine) (call : Step) (a : Reply) → is_running m.stage ≡ true → verdict_on m call ≡ None → IsFair s m → IsFair s (effect s m call a)
effect_fair s m step.Need a running clear fair = alike_fair s m (effect s m step.Need a) refl refl (record { stage = refl; run = refl; next = refl; places = refl; open_dataset = refl; fetching = refl }) fair
effect_fair s m (step.Start name flags) a running clear fair = start_fair s m name flags running clear fair
effect_fair s m (step.Complete valid) a running clear fair = dropped_fair s m (effect s m (step.Complete valid) a) refl refl refl refl refl refl (inr refl) (inl refl) fair
effect_fair s m step.Have a running clear fair = have_fair s m a fair
effect_fair s m step.Restart a running clear fair = alike_fair s m (effect s m step.Restart a) refl refl (record { stage = refl; run = refl; next = refl; places = refl; open_dataset = refl; fetching = refl }) fair
effect_fair s m (step.Restarted valid) a running clear fair = alike_fair s m (effect s m (step.Restarted valid) a) refl refl (record { stage = refl; run = refl; next = refl; places = refl; open_dataset = refl; fetching = refl }) fair
effect_fair s m step.Finalize a running clear fair = alike_fair s m (effect s m step.Finalize a) refl refl (record { stage = refl; run = refl; next = refl; places = refl; open_dataset = refl; fetching = refl }) fair
effect_fair s m _ a running clear fair = fair

-- an answer that is no refusal is given where nothing speaks against the round
clear_by : (v : Option Refusal) (o : Option Reply) (a : Reply) → is_refused a ≡ false → IsTrue (is_answer (unwrap_or (option_map (λ r. Some (reply.Refused r)) v) o) a) → v ≡ None
clear_by None o a not_refused is = refl
clear_by (Some r) o (reply.Refused q) not_refused is = absurd (cc not_refused)
clear_by (Some r) o a not_refused is = absurd (cc is)

clear_on : (m : Machine) (call : Step) → first_call m ≡ Some call → verdict m ≡ None → verdict_on m call ≡ None
clear_on m call at none = subst (λ (o : Option Step). option_and_then (verdict_on m) o ≡ None) at none

effect_of_fair : (s : Setup) (m : Machine) (a : Reply) (call : Step) → is_running m.stage ≡ true → first_call m ≡ Some call → IsTrue (may_answer s m a call) → IsFair s m → IsFair s (effect_of s m a call)
effect_of_fair s m a call running at may fair = split (is_fault a) (is_refused a) refl may
  where
    split : (b c : Bool) → is_refused a ≡ c → IsTrue (if b then Rattle.std.specs.Prelude.is_none (verdict m) && may_fault m call else is_answer (round_answer s m call) a) → IsFair s (if b then fault_effect m call else if c then m else effect s m call a)
    split true c refused is = fault_fair s m call fair
    split false true refused is = fair
    split false false refused is = effect_fair s m call a running (clear_on m call at (clear_by (verdict m) (answer_to s m call) a refused is)) fair

pub decision_fair : (s : Setup) (m : Machine) (k : Kind) (a : Reply) → IsTrue (may_decide s m k a) → IsFair s m → IsFair s (after_decision s m a)
decision_fair s m k a may fair = ranked (unwrap_or (option_map (effect_of s m a) (first_call m)) m) (pick (first_call m) refl (behind (is_complete m) (unwrap_or (option_map (λ call. is_of_kind k call && may_answer s m a call) (first_call m)) false) may))
  where
    complete : IsTrue (is_complete m)
    complete = front (is_complete m) (unwrap_or (option_map (λ call. is_of_kind k call && may_answer s m a call) (first_call m)) false) may

    running : is_running m.stage ≡ true
    running = front (is_running m.stage) (Rattle.std.specs.List.list_all (λ r. is_some (call_of r)) m.ranks) complete

    pick : (o : Option Step) → first_call m ≡ o → IsTrue (unwrap_or (option_map (λ call. is_of_kind k call && may_answer s m a call) o) false) → IsFair s (unwrap_or (option_map (effect_of s m a) o) m)
    pick None at is = fair
    pick (Some call) at is = effect_of_fair s m a call running at (behind (is_of_kind k call) (may_answer s m a call) is) fair

    ranked : (n : Machine) → IsFair s n → IsFair s (record n { ranks = map (owes a) m.ranks; reading = None })
    ranked n = alike_fair s n (record n { ranks = map (owes a) m.ranks; reading = None }) refl refl (record { stage = refl; run = refl; next = refl; places = refl; open_dataset = refl; fetching = refl })

-- ## A rank's own step

like_files : (d : Dataset) (rank : ℕ) (files : List File) → IsLike d (with_files d rank files)
like_files d rank files = record {
  which = refl;
  name = refl;
  of_site = λ s run is. subst (λ (n : ℕ). IsTrue (same_shape d.shape s.shape && fits_sets d.scheme d.size s.shape.nodes && n == s.shape.nodes * s.shape.ranks && nat_lt d.which.run (run + 1))) (sym (length-set d.files rank files)) is;
}

like_after : (rank : ℕ) (call : Step) (d : Dataset) → IsLike d (dataset_after rank call d)
like_after rank (step.Route name) d = like_files d rank (Rattle.ckpt_model.specs.Dataset.routed (Rattle.ckpt_model.specs.Dataset.files_of d rank) name)
like_after rank (step.Write name at content) d = like_files d rank (Rattle.ckpt_model.specs.Dataset.files_written (Rattle.ckpt_model.specs.Dataset.files_of d rank) name at (Rattle.scr_base.specs.Bytes.bytes_for content rank))
like_after rank _ d = like_self d

pub local_fair : (s : Setup) (m : Machine) (rank number : ℕ) (call : Step) (a : Reply) → IsFair s m → IsFair s (after_local m rank number call a)
local_fair s m rank number call a fair = ranked (local_effect m rank call a) (split (is_refused a))
  where
    split : (b : Bool) → IsFair s (if b then m else record m { open_dataset = option_map (dataset_after rank call) m.open_dataset })
    split true = fair
    split false = passes_fair s m (record m { open_dataset = option_map (dataset_after rank call) m.open_dataset }) (thin_passes s m (record m { open_dataset = option_map (dataset_after rank call) m.open_dataset })
        (thinner_self s m (record m { open_dataset = option_map (dataset_after rank call) m.open_dataset }) refl refl (omega arith)) (λ running. refl) refl refl refl refl
        (λ d at. let from = mapped (dataset_after rank call) m.open_dataset d at in (from.0, from.1, subst (λ (x : Dataset). IsLike from.0 x) (sym from.2) (like_after rank call from.0)))
        (λ w at. at)) fair

    ranked : (n : Machine) → IsFair s n → IsFair s (record n { ranks = change_rank (numbered number) rank m.ranks })
    ranked n = alike_fair s n (record n { ranks = change_rank (numbered number) rank m.ranks }) refl refl (record { stage = refl; run = refl; next = refl; places = refl; open_dataset = refl; fetching = refl })
