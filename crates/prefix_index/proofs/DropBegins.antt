-- The beginning of the drop of an entry, and a whole call.
use Rattle.std.proofs.Common.{rules, ◌≡◌, ◌≢◌, ◌⊎◌, inl, inr, ◌<◌, ◌≤◌, ◌+◌, ◌^◌, ◌++◌, ℕ, zero, suc, Bool, true, false, List, [], ◌∷◌, map, length, get_or, Option, None, Some, refl, sym, ◌∙◌, ap, subst, arith, slice_get}
use Rattle.std.specs.Prelude.{All, Result, Ok, Err, OnOk, OnErr, IfOk, IsSomeAnd, IsErr, IsOk, is_none}
use Rattle.std.specs.Option.{option_map}
use Rattle.std.proofs.lemmas.Option.{slice_get_within, slice_get-get_or, get_or_from_slice_get}
use Rattle.std.proofs.lemmas.List.Elements.{All-cons, All-tail}
use Rattle.scr_base.specs.declared.shape.DataId.{DataId}
use Rattle.scr_base.specs.declared.change.Change.{Change}
use Rattle.scr_base.specs.declared.change.Change.TheVariants.{Open, Close, Write, Sync, Remove}
use Rattle.scr_base.specs.Stages.{left, passed, is_over}
use Rattle.node_device.specs.File.{File, bytes_of}
use Rattle.node_device.specs.DeviceState.{DeviceState, IsDeviceName, IsSound, IsUnchanged, ReadsAlike, used_of}
use Rattle.node_device.specs.Answers.{HasDeviceCause, NamesAnswers, Passes, WriteAnswers}
use Rattle.node_device.specs.declared.device.DevError.{DevError}
use Rattle.node_device.specs.declared.device.DevError.TheVariants.{Failed, Full, NoFile, Range, Memory}
use Rattle.gated_record.specs.Record.{HasPlace}
use Rattle.gated_record.specs.Calls.{TurnsGate}
use Rattle.prefix_store.specs.Calls.{AreFilesUnder}
use Rattle.prefix_store.specs.ClearSteps.{AreRemovalsUnder}
use Rattle.prefix_store.proofs.Clears.{names_of}
use Rattle.prefix_index.specs.Names.{entry_name}
use Rattle.prefix_index.specs.Entries.{AreEntries, HasEntry, IsBefore, IsEntry}
use Rattle.prefix_index.specs.Answers.{index_fault, index_result, HasIndexCause}
use Rattle.prefix_index.specs.Drops.{Closing, drop_changes, removals, IsDropChange, IsDropStageOf, IsFirst, NoneOfId, IsDropping, BeginsDropping, IsUnbegun, GoesDropping, DropAnswers, Drops, MakesNext, MakesDrop, RemovesAny, MayMakeNext, bare}
use Rattle.prefix_index.specs.DropParts.{NoneHasId, FirstHasId, HasBegun, BeginsDrop, FindsDrop}
use Rattle.prefix_index.specs.declared.entry.Entry.{Entry}
use Rattle.prefix_index.specs.declared.error.IndexError.{IndexError}
use Rattle.prefix_index.specs.declared.error.IndexError.TheVariants as index
use Rattle.prefix_index.proofs.Told.{fault_cause, result_cause, unchanged_reads}
use Rattle.prefix_index.proofs.SoFar.{unchanged}
use Rattle.prefix_index.proofs.DropGoes.{goes_dropping, goes_again}

-- ## The changes

all_removals : (names : List (List ℕ)) (own : List ℕ) → All IsDeviceName names → IsDeviceName own → All IsDropChange (removals names own)
all_removals [] own each named = All-cons IsDropChange (Remove own) [] named (λ k x lt. absurd (omega (arith, lt)))
all_removals (n ∷ names) own each named = All-cons IsDropChange (Remove n) (removals names own) (each 0 [] (omega arith)) (all_removals names own (λ k x lt. each (suc k) x (omega (arith, lt))) named)

pub begun_from : (which : DataId) (folder : List ℕ) (d : DeviceState) (n m : List ℕ) (found a b c : List Change) → AreRemovalsUnder folder d found → IsDeviceName (entry_name which) → n ≡ entry_name which → m ≡ entry_name which → a ≡ found ++ Remove n ∷ [] → b ≡ Sync ∷ a → c ≡ Close m 0 ∷ b → HasBegun which folder d c
begun_from which folder d n m found a b c removes named n_is m_is a_is b_is c_is =
    let own = entry_name which in
    let is : c ≡ drop_changes own removes.0 Closing =
    c_is ∙ ap (λ (x : List ℕ). Close x 0 ∷ b) m_is ∙ ap (λ (l : List Change). Close own 0 ∷ l) (b_is ∙ ap (λ (l : List Change). Sync ∷ l) (a_is ∙ ap (λ (x : List ℕ). found ++ Remove x ∷ []) n_is ∙ ap (λ (l : List Change). l ++ Remove own ∷ []) removes.1)) in record {
      names = removes.0;
      changes_are = is;
      files = removes.2;
      each = subst (All IsDropChange) (sym is) (All-cons IsDropChange (Close own 0) (Sync ∷ removals removes.0 own) (record { is_name = named; below = omega arith })
          (All-cons IsDropChange Sync (removals removes.0 own) tt (all_removals removes.0 own (λ k x lt. (names_of folder d removes.0 removes.2 k x lt).1) named)));
    }

-- ## The entry

pub none_of_id : (d : DeviceState) (entries : List Entry) (id : ℕ) → AreEntries d entries → NoneHasId entries id → NoneOfId d id
none_of_id d entries id all none e has =
    let known = all.every (entry_name e.desc.which) e has in
    none known.0 e (slice_get-get_or entries known.0 e known.1 ∙ ap Some known.2)

pub never_before : (a : Entry) → ¬ IsBefore a a
never_before a is = grind (arith, is)

pub one_way : (a b : Entry) → IsBefore a b → ¬ IsBefore b a
one_way a b is back = grind (arith, is, back)

pub same_some : (a b : Entry) → Some a ≡ Some b → a ≡ b
same_some a b is = cc

pub first_of_id : (d : DeviceState) (entries : List Entry) (id : ℕ) (e : Entry) → AreEntries d entries → FirstHasId entries id e → IsFirst d e
first_of_id d entries id e all first = record {
  there = subst (HasEntry d) (get_or_from_slice_get entries first.place e e first.at) (all.read first.place e (slice_get_within entries first.place e first.at));
  first = λ other has same.
      let known = all.every (entry_name other.desc.which) other has in
      let at = slice_get-get_or entries known.0 other known.1 ∙ ap Some known.2 in
      pick known.0 other at (same ∙ first.has) (split known.0 first.place);
} where
  split : (u v : ℕ) → (u < v) ⊎ (u ≡ v) ⊎ (v < u)
  split u v = grind arith

  pick : (k : ℕ) (other : Entry) → slice_get entries k ≡ Some other → other.desc.which.id ≡ id → (k < first.place) ⊎ (k ≡ first.place) ⊎ (first.place < k) → ¬ IsBefore other e
  pick k other at is (inl below) = absurd (first.before k other below at is)
  pick k other at is (inr (inl here)) = λ before. never_before e (subst (λ (x : Entry). IsBefore x e) (same_some other e (sym at ∙ ap (slice_get entries) here ∙ first.at)) before)
  pick k other at is (inr (inr above)) = one_way e other (all.ascending first.place k e other above first.at at)

-- an entry's record has its gate
has_place : (d : DeviceState) (e : Entry) → IsSound d → d.tells ≡ true → HasEntry d e → HasPlace (d.file (entry_name e.desc.which)) 0
has_place d e sound tells has = pick (d.file (entry_name e.desc.which)).now (d.file (entry_name e.desc.which)).len (omega (arith, has.body.whole)) (sound.lengths tells (entry_name e.desc.which)) where
  pick : (o : Option (List ℕ)) (len : Option ℕ) → 16 ≤ length (bytes_of o) → len ≡ option_map length o → IsSomeAnd len (λ n. 0 < n)
  pick None len long is = absurd (omega (arith, long))
  pick (Some bytes) len long is = subst (λ (l : Option ℕ). IsSomeAnd l (λ n. 0 < n)) (sym is) (omega (arith, long))

-- ## What any step answers

module _ (d e : DeviceState) where
  refused_alike : (change : Change) (fault : DevError) → MakesDrop {T = Unit {0}} change (Err fault) d e → ReadsAlike d e
  refused_alike (Open name gate) fault made = absurd made
  refused_alike (Close name gate) fault made = made.refused
  refused_alike (Write name) fault made = absurd made
  refused_alike Sync fault made = made.alike
  refused_alike (Remove name) fault made = unchanged_reads d e made.refused

  change_cause : (change : Change) (r : Result (Unit {0}) DevError) → MakesDrop change r d e → HasDeviceCause d e r
  change_cause (Open name gate) r made = absurd made
  change_cause (Close name gate) r made = made.cause
  change_cause (Write name) r made = absurd made
  change_cause Sync r made = made.cause
  change_cause (Remove name) r made = made.cause

  bare_cause : (r : Result Bool DevError) → HasDeviceCause d e (bare r) → HasDeviceCause d e r
  bare_cause (Ok over) cause = cause
  bare_cause (Err Failed) cause = cause
  bare_cause (Err Full) cause = cause
  bare_cause (Err NoFile) cause = cause
  bare_cause (Err Range) cause = cause
  bare_cause (Err Memory) cause = cause

  pub next_cause : (stage : Option (List Change)) (r : Result Bool DevError) → MakesNext stage r d e → HasDeviceCause d e r
  next_cause None r made = made.2
  next_cause (Some []) r made = made.2
  next_cause (Some (change ∷ later)) r made = bare_cause r (change_cause change (bare r) made)

  change_tells : (change : Change) (r : Result (Unit {0}) DevError) → MakesDrop change r d e → e.tells ≡ d.tells
  change_tells (Open name gate) r made = absurd made
  change_tells (Close name gate) r made = made.only.tells
  change_tells (Write name) r made = absurd made
  change_tells Sync r made = made.alike.tells
  change_tells (Remove name) r made = made.only.tells

  pub next_tells : (stage : Option (List Change)) (r : Result Bool DevError) → MakesNext stage r d e → e.tells ≡ d.tells
  next_tells None r made = ap (λ (s : DeviceState). s.tells) made.0
  next_tells (Some []) r made = ap (λ (s : DeviceState). s.tells) made.0
  next_tells (Some (change ∷ later)) r made = change_tells change (bare r) made

  pub next_alike : (stage : Option (List Change)) (fault : DevError) → MakesNext {T = Bool} stage (Err fault) d e → ReadsAlike d e
  next_alike None fault made = absurd (cc made.1)
  next_alike (Some []) fault made = absurd (cc made.1)
  next_alike (Some (change ∷ later)) fault made = refused_alike change fault made

  -- when a refusal comes
  refusal_told : (id : ℕ) (before : Option (List Change)) (change : Change) (fault : DevError) → MakesDrop {T = Unit {0}} change (Err fault) d e → DropAnswers id before d e (Err (index_fault e fault))
  refusal_told id before change Failed made = tt
  refusal_told id before change NoFile made = tt
  refusal_told id before change Range made = tt
  refusal_told id before change Memory made = tt
  refusal_told id before (Open name gate) Full made = absurd made
  refusal_told id before (Close name gate) Full made = (name, gate, made.answer.1, refl, refl)
  refusal_told id before (Write name) Full made = absurd made
  refusal_told id before Sync Full made = absurd made.answer
  refusal_told id before (Remove name) Full made = elim made.answer [ inl is ↦ absurd (cc is) | inr is ↦ absurd (cc is) ]

  pub next_told : (id : ℕ) (before stage : Option (List Change)) (fault : DevError) → MakesNext {T = Bool} stage (Err fault) d e → DropAnswers id before d e (Err (index_fault e fault))
  next_told id before None fault made = absurd (cc made.1)
  next_told id before (Some []) fault made = absurd (cc made.1)
  next_told id before (Some (change ∷ later)) fault made = refusal_told id before change fault made

fewer_left : (changes : List Change) (after : Option (List Change)) (over : Bool) → after ≡ passed (Some changes) → over ≡ is_over after → over ≡ false → left after < length changes
fewer_left [] after over goes told more = absurd (let ended : is_over after ≡ true = ap is_over goes in cc (told, more, ended))
fewer_left (change ∷ later) after over goes told more = subst (λ (a : Option (List Change)). left a < suc (length later)) (sym goes) (omega arith)

passed_stage : (changes : List Change) (after : Option (List Change)) → after ≡ passed (Some changes) → All IsDropChange changes → IsDropStageOf after
passed_stage [] after goes each = subst IsDropStageOf (sym goes) each
passed_stage (change ∷ later) after goes each = subst IsDropStageOf (sym goes) (λ k x lt. each (suc k) x (omega (arith, lt)))

same_list : (a b : List Change) → Some a ≡ Some b → a ≡ b
same_list a b is = cc

pub may_make : (stage : Option (List Change)) → IsDropStageOf stage → MayMakeNext stage
may_make None each = tt
may_make (Some []) each = tt
may_make (Some (change ∷ later)) each = each 0 change (omega arith)

-- ## A later call

module _ (id : ℕ) (d e : DeviceState) (sound : IsSound d) where
  later_done : (changes : List Change) (after : Option (List Change)) (over : Bool) → All IsDropChange changes → MakesNext (Some changes) (Ok over) d e → after ≡ passed (Some changes) → over ≡ is_over after → Drops id (Ok over) (Some changes) after d e
  later_done changes after over each made goes told = record {
    answer = tt;
    begins = λ is. absurd (cc is);
    goes = λ which folder l is k. goes_dropping which folder d e changes (Ok over) after sound (subst (IsDropping which folder d) (sym (same_list changes l is)) k) made goes told;
    again = λ which folder l is k. tt;
    over = told;
    fewer = fewer_left changes after over goes told;
    stage = passed_stage changes after goes each;
    refused = tt;
    alike = tt;
    tells = next_tells d e (Some changes) (Ok over) made;
    cause = next_cause d e (Some changes) (Ok over) made;
  }

  later_refused : (changes : List Change) (fault : DevError) → All IsDropChange changes → MakesNext {T = Bool} (Some changes) (Err fault) d e → Drops id (Err (index_fault e fault)) (Some changes) (Some changes) d e
  later_refused changes fault each made = record {
    answer = next_told d e id (Some changes) (Some changes) fault made;
    begins = λ is. absurd (cc is);
    goes = λ which folder l is k. goes_dropping which folder d e changes (Err fault) (Some changes) sound (subst (IsDropping which folder d) (sym (same_list changes l is)) k) made tt tt;
    again = λ which folder l is k. subst (IsDropping which folder e) (same_list changes l is) (goes_again which folder d e changes fault (subst (IsDropping which folder d) (sym (same_list changes l is)) k) made);
    over = tt;
    fewer = tt;
    stage = each;
    refused = refl;
    alike = next_alike d e (Some changes) fault made;
    tells = next_tells d e (Some changes) (Err fault) made;
    cause = fault_cause Bool Bool d e fault (next_cause d e (Some changes) (Err fault) made);
  }

  pub later_call : (stage after : Option (List Change)) (r : Result Bool DevError) → is_none stage ≡ false → IsDropStageOf stage → MakesNext stage r d e → OnOk r (after ≡ passed stage) → IfOk r (λ over. over ≡ is_over after) → OnErr r (after ≡ stage) → Drops id (index_result e r) stage after d e
  later_call None after r some each made goes told same = absurd (cc some)
  later_call (Some changes) after (Ok over) some each made goes told same = later_done changes after over each made goes told
  later_call (Some changes) after (Err fault) some each made goes told same = subst (λ (a : Option (List Change)). Drops id (Err (index_fault e fault)) (Some changes) a d e) (sym same) (later_refused changes fault each made)

  -- ## A first call

  dropping : (changes : List Change) (begins : BeginsDrop id d changes) → d.tells ≡ true → IsDropping begins.entry.desc.which begins.entry.desc.name d changes
  dropping changes begins tells = record {
    drop = Closing;
    names = begins.begun.names;
    changes_are = begins.begun.changes_are;
    files = begins.begun.files;
    holds = (has_place d begins.entry sound tells (begins.first tells).there, λ told. (begins.first told).there.indexed);
  }

  pub first_done : (changes : List Change) (after : Option (List Change)) (over : Bool) → BeginsDrop id d changes → left (Some changes) < 2 ^ 64 → MakesNext (Some changes) (Ok over) d e → after ≡ passed (Some changes) → over ≡ is_over after → Drops id (Ok over) None after d e
  first_done changes after over begins few made goes told = record {
    answer = tt;
    begins = λ is tells. inr (begins.entry, begins.first tells, begins.has, goes_dropping begins.entry.desc.which begins.entry.desc.name d e changes (Ok over) after sound (dropping changes begins tells) made goes told);
    goes = λ which folder l is k. absurd (cc is);
    again = λ which folder l is k. tt;
    over = told;
    fewer = λ more. let less = fewer_left changes after over goes told more in omega (arith, less, few);
    stage = passed_stage changes after goes begins.begun.each;
    refused = tt;
    alike = tt;
    tells = next_tells d e (Some changes) (Ok over) made;
    cause = next_cause d e (Some changes) (Ok over) made;
  }

  pub first_refused : (changes : List Change) (fault : DevError) → BeginsDrop id d changes → MakesNext {T = Bool} (Some changes) (Err fault) d e → Drops id (Err (index_fault e fault)) None None d e
  first_refused changes fault begins made = record {
    answer = next_told d e id None (Some changes) fault made;
    begins = λ is tells. inr (begins.entry, begins.first tells, begins.has, goes_dropping begins.entry.desc.which begins.entry.desc.name d e changes (Err fault) None sound (dropping changes begins tells) made tt tt);
    goes = λ which folder l is k. absurd (cc is);
    again = λ which folder l is k. absurd (cc is);
    over = tt;
    fewer = tt;
    stage = tt;
    refused = refl;
    alike = next_alike d e (Some changes) fault made;
    tells = next_tells d e (Some changes) (Err fault) made;
    cause = fault_cause Bool Bool d e fault (next_cause d e (Some changes) (Err fault) made);
  }

  stays : (fault : IndexError) → IsUnbegun (Err fault) → DropAnswers id None d e (Err fault) → HasIndexCause {T = Bool} d e (Err fault) → IsUnchanged d e → Drops id (Err fault) None None d e
  stays fault unbegun answer cause same = record {
    answer = answer;
    begins = λ is tells. inl (unbegun, same);
    goes = λ which folder l is k. absurd (cc is);
    again = λ which folder l is k. absurd (cc is);
    over = tt;
    fewer = tt;
    stage = tt;
    refused = refl;
    alike = unchanged_reads d e same;
    tells = ap (λ (s : DeviceState). s.tells) same;
    cause = cause;
  }

  at_reading : (T : Type 0) (fault : DevError) → NamesAnswers {T = T} (Err fault) → DropAnswers id None d e (Err (index_fault e fault))
  at_reading T Failed answer = tt
  at_reading T Full answer = absurd answer
  at_reading T NoFile answer = absurd answer
  at_reading T Range answer = absurd answer
  at_reading T Memory answer = tt

  never_begun : (T : Type 0) (fault : DevError) → NamesAnswers {T = T} (Err fault) → IsUnbegun (Err (index_fault e fault))
  never_begun T Failed answer = tt
  never_begun T Full answer = absurd answer
  never_begun T NoFile answer = absurd answer
  never_begun T Range answer = absurd answer
  never_begun T Memory answer = tt

  pub unread : (T : Type 0) (fault : DevError) → NamesAnswers {T = T} (Err fault) → HasDeviceCause {T = T} d e (Err fault) → IsUnchanged d e → Drops id (Err (index_fault e fault)) None None d e
  unread T fault answer cause same = stays (index_fault e fault) (never_begun T fault answer) (at_reading T fault answer) (fault_cause T Bool d e fault cause) same

  pub no_entry : (d.tells ≡ true → NoneOfId d id) → e.faults ≡ d.faults → IsUnchanged d e → Drops id (Err index.NoEntry) None None d e
  no_entry none calm same = stays index.NoEntry tt (refl, none) calm same

-- ## A first call, from what was found

new_stage : (s : Option (List Change)) → is_none s ≡ true → s ≡ None
new_stage None is = refl
new_stage (Some l) is = absurd (cc is)

pub found_may : (id : ℕ) (d : DeviceState) (s : Option (List Change)) → FindsDrop id d (Some s) → MayMakeNext s
found_may id d None found = absurd found
found_may id d (Some changes) found = may_make (Some changes) found.0.begun.each

module _ (id : ℕ) (c d e : DeviceState) (sound : IsSound c) (stage : Option (List Change)) (is_new : is_none stage ≡ true) (same : IsUnchanged c d) (calm : d.faults ≡ c.faults) where
  back : d ≡ c
  back = unchanged c d same calm

  at_new : (result : Result Bool IndexError) (after : Option (List Change)) → Drops id result None after c e → Drops id result stage after c e
  at_new result after drops = subst (λ (s : Option (List Change)). Drops id result s after c e) (sym (new_stage stage is_new)) drops

  pub call_done : (s after : Option (List Change)) (over : Bool) → FindsDrop id c (Some s) → MakesNext s (Ok over) d e → after ≡ passed s → over ≡ is_over after → Drops id (Ok over) stage after c e
  call_done None after over found made goes told = absurd found
  call_done (Some changes) after over found made goes told =
      at_new (Ok over) after (first_done id c e sound changes after over found.0 found.1 (subst (λ (x : DeviceState). MakesNext {T = Bool} (Some changes) (Ok over) x e) back made) goes told)

  pub call_refused : (s : Option (List Change)) (fault : DevError) → FindsDrop id c (Some s) → MakesNext {T = Bool} s (Err fault) d e → Drops id (Err (index_fault e fault)) stage stage c e
  call_refused None fault found made = absurd found
  call_refused (Some changes) fault found made =
      subst (λ (s : Option (List Change)). Drops id (Err (index_fault e fault)) s s c e) (sym (new_stage stage is_new))
      (first_refused id c e sound changes fault found.0 (subst (λ (x : DeviceState). MakesNext {T = Bool} (Some changes) (Err fault) x e) back made))
