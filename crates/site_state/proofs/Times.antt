-- Whether a round wants the time, and what it makes of it.
use Rattle.std.proofs.Common.{◌≡◌, ℕ, Bool, true, false, Option, Some, None, refl, sym, ap, ◌∙◌}
use Rattle.std.specs.Prelude.{◌&&◌, not, is_some, is_none, option_map, unwrap_or}
use Rattle.scr_base.specs.Calls.{asks_time, or_else}
use Rattle.scr_base.specs.declared.answers.Refusal.{Refusal}
use Rattle.scr_base.specs.declared.content.Step.{Step}
use Rattle.scr_base.specs.declared.content.Step.TheVariants as step
use Rattle.ckpt_model.specs.declared.event.Event.TheVariants as event
use Rattle.ckpt_model.specs.Runs.{StepsTo}
use Rattle.round_core.specs.Seats.{is_complete, first_call, judged_of}
use Rattle.site_state.specs.declared.run_state.RunState.{RunState}
use Rattle.site_state.specs.declared.run_state.RunStage.{RunStage}
use Rattle.site_state.specs.declared.run_state.RunStage.TheVariants as stage
use Rattle.site_state.specs.Choosing.{verdict_of, asks_with, is_serving, wants_reading}
use Rattle.site_state.specs.Shown.{Contents, running, setup_of}
use Rattle.site_state.proofs.Gates.{both, round_is}
use Rattle.site_state.proofs.Ranks.{first_is}
use Rattle.site_state.proofs.Rounds.{verdict_is}

-- what a round is that wants the time
pub record IsAsking (c : RunState) : Type 0 where
  pub at : c.stage ≡ stage.Serving
  pub complete : is_complete c.ranks ≡ true
  pub none : is_none c.reading ≡ true
  pub call : Step
  pub first : first_call c.ranks ≡ Some call
  pub asks : asks_time call ≡ true
  pub clear : is_none (verdict_of c call) ≡ true

left : (a b : Bool) → a && b ≡ true → a ≡ true
left true b e = refl
left false b e = e

right : (a b : Bool) → a && b ≡ true → b ≡ true
right true b e = e
right false b e = absurd (cc e)

serving : (s : RunStage) → is_serving s ≡ true → s ≡ stage.Serving
serving stage.Serving e = refl
serving _ e = absurd (cc e)

pub asking : (c : RunState) → wants_reading c ≡ true → IsAsking c
asking c wants =
    let outer = left (is_serving c.stage && is_complete c.ranks && is_none c.reading) (asks_with c (first_call c.ranks)) wants in
    let inner = left (is_serving c.stage && is_complete c.ranks) (is_none c.reading) outer in
    pick (first_call c.ranks) refl (right (is_serving c.stage && is_complete c.ranks && is_none c.reading) (asks_with c (first_call c.ranks)) wants)
    (serving c.stage (left (is_serving c.stage) (is_complete c.ranks) inner)) (right (is_serving c.stage) (is_complete c.ranks) inner) (right (is_serving c.stage && is_complete c.ranks) (is_none c.reading) outer) where
      pick : (o : Option Step) → first_call c.ranks ≡ o → asks_with c o ≡ true → c.stage ≡ stage.Serving → is_complete c.ranks ≡ true → is_none c.reading ≡ true → IsAsking c
      pick None e asks at complete none = absurd (cc asks)
      pick (Some call) e asks at complete none = record {
        at = at;
        complete = complete;
        none = none;
        call = call;
        first = e;
        asks = left (asks_time call) (is_none (verdict_of c call)) asks;
        clear = right (asks_time call) (is_none (verdict_of c call)) asks;
      }

-- the machine takes the reading
pub reads : (c : RunState) (bytes : Contents) (now : ℕ) → IsAsking c → StepsTo (setup_of c) (running bytes c) (event.Time now) (running bytes (record c { reading = Some now }))
reads c bytes now a = (
  both _ _ (both _ _ (both _ _ (round_is c bytes ∙ a.complete) (ap (λ (v : Option Refusal). is_none v) (verdict_is c bytes a.call a.first) ∙ a.clear))
      (ap (λ (o : Option Step). unwrap_or (option_map asks_time o) false) (first_is c.ranks ∙ a.first) ∙ a.asks)) a.none,
  refl,
)

-- ## Whether the time is wanted

pub not_serving : (c : RunState) → (c.stage ≡ stage.Serving → ⊥) → wants_reading c ≡ false
not_serving c other = pick c.stage refl where
  pick : (s : RunStage) → c.stage ≡ s → is_serving s && is_complete c.ranks && is_none c.reading && asks_with c (first_call c.ranks) ≡ false
  pick stage.Serving e = absurd (other e)
  pick _ e = refl

pub incomplete : (c : RunState) → is_complete c.ranks ≡ false → wants_reading c ≡ false
incomplete c not = rw not (pick (is_serving c.stage)) where
  pick : (b : Bool) → b && false && is_none c.reading && asks_with c (first_call c.ranks) ≡ false
  pick true = refl
  pick false = refl

pub was_told : (c : RunState) (now : ℕ) → c.reading ≡ Some now → wants_reading c ≡ false
was_told c now told = rw told (pick (is_serving c.stage) (is_complete c.ranks)) where
  pick : (a b : Bool) → a && b && false && asks_with c (first_call c.ranks) ≡ false
  pick true true = refl
  pick true false = refl
  pick false b = refl

pub asks_otherwise : (c : RunState) (call : Step) → first_call c.ranks ≡ Some call → asks_time call ≡ false → wants_reading c ≡ false
asks_otherwise c call first other =
    ap (λ (o : Option Step). is_serving c.stage && is_complete c.ranks && is_none c.reading && asks_with c o) first
    ∙ ap (λ (b : Bool). is_serving c.stage && is_complete c.ranks && is_none c.reading && (b && is_none (verdict_of c call))) other
    ∙ pick (is_serving c.stage && is_complete c.ranks && is_none c.reading) where
      pick : (b : Bool) → b && false ≡ false
      pick true = refl
      pick false = refl

pub none_asks : (c : RunState) → first_call c.ranks ≡ None → wants_reading c ≡ false
none_asks c first =
    ap (λ (o : Option Step). is_serving c.stage && is_complete c.ranks && is_none c.reading && asks_with c o) first
    ∙ pick (is_serving c.stage && is_complete c.ranks && is_none c.reading) where
      pick : (b : Bool) → b && false ≡ false
      pick true = refl
      pick false = refl

-- a question for the time is refused by its round's verdict alone
pub judged_alone : (c : RunState) (call : Step) → asks_time call ≡ true → is_none (verdict_of c call) ≡ is_none (judged_of c.phase c.ranks)
judged_alone c call asks = pick call asks where
  none_more : (o : Option Refusal) → is_none (or_else o None) ≡ is_none o
  none_more None = refl
  none_more (Some r) = refl

  pick : (call : Step) → asks_time call ≡ true → is_none (verdict_of c call) ≡ is_none (judged_of c.phase c.ranks)
  pick step.Need e = none_more (judged_of c.phase c.ranks)
  pick step.Exit e = none_more (judged_of c.phase c.ranks)
  pick _ e = absurd (cc e)

pub asks_now : (c : RunState) (call : Step) → c.stage ≡ stage.Serving → is_complete c.ranks ≡ true → c.reading ≡ None → first_call c.ranks ≡ Some call → asks_time call ≡ true → is_none (judged_of c.phase c.ranks) ≡ wants_reading c
asks_now c call at complete none first asks = sym (
    ap (λ (s : RunStage). is_serving s && is_complete c.ranks && is_none c.reading && asks_with c (first_call c.ranks)) at
    ∙ ap (λ (b : Bool). b && is_none c.reading && asks_with c (first_call c.ranks)) complete
    ∙ ap (λ (o : Option ℕ). is_none o && asks_with c (first_call c.ranks)) none
    ∙ ap (λ (o : Option Step). asks_with c o) first
    ∙ ap (λ (b : Bool). b && is_none (verdict_of c call)) asks
    ∙ judged_alone c call asks)

pub none_by : (b : Bool) (o : Option Refusal) → is_some o ≡ not b → b ≡ is_none o
none_by true None e = refl
none_by false (Some r) e = refl
none_by true (Some r) e = absurd (cc e)
none_by false None e = absurd (cc e)

pub unread : (o : Option ℕ) → is_none o ≡ true → o ≡ None
unread None e = refl
unread (Some now) e = absurd (cc e)
