-- A step of the drop of an entry.
use Rattle.std.proofs.Common.{rules, ◌≡◌, ◌≢◌, ◌⊎◌, inl, inr, ◌<◌, ◌≤◌, ◌+◌, ◌^◌, ◌++◌, ℕ, zero, suc, Bool, true, false, List, [], ◌∷◌, map, length, set, get_or, Option, None, Some, refl, sym, ◌∙◌, ap, subst, arith, codes, decimal}
use Rattle.std.specs.Prelude.{All, Result, Ok, Err, OnOk, OnErr, IfOk, IsSome, IsErr, Contains, slice_index}
use Rattle.scr_base.specs.declared.shape.DataId.{DataId}
use Rattle.scr_base.specs.declared.change.Change.{Change}
use Rattle.scr_base.specs.declared.change.Change.TheVariants.{Close, Sync, Remove}
use Rattle.scr_base.specs.Stages.{left, passed, is_over}
use Rattle.node_device.specs.File.{File, MayLeave, MayHold, IsByteAfter, Torn, IsRemoved, IsPartlySynced, byte_at, bytes_of}
use Rattle.node_device.specs.DeviceState.{DeviceState, IsSound, IsUnchanged, ChangesOnly, ReadsAlike}
use Rattle.node_device.specs.Answers.{SyncAnswers, HasDeviceCause}
use Rattle.node_device.specs.Calls.{Syncs}
use Rattle.node_device.specs.Outcomes.{rest_leaves}
use Rattle.node_device.specs.declared.device.DevError.{DevError}
use Rattle.node_device.specs.declared.device.DevError.TheVariants.{Failed, Full, NoFile, Range, Memory}
use Rattle.gated_record.specs.Record.{HasPlace, IsOpen}
use Rattle.gated_record.specs.Calls.{TurnsGate}
use Rattle.gated_record.specs.Frames.{IsNoWorse}
use Rattle.gate_outcomes.specs.Gates.{StaysShut}
use Rattle.gate_outcomes.proofs.Stays.{removed_shut}
use Rattle.prefix_store.specs.Names.{IsUnder, HasNoSlash}
use Rattle.prefix_store.specs.Calls.{AreFilesUnder, IsClear}
use Rattle.prefix_store.proofs.Names.{under_slash, no_slash_in, number_no_slash}
use Rattle.prefix_store.proofs.Clears.{over_is, files_left}
use Rattle.prefix_index.specs.Names.{entry_name}
use Rattle.prefix_index.specs.Answers.{index_fault, index_result, ReadingAnswers}
use Rattle.prefix_index.specs.Drops.{Drop, Closing, Closed, Removing, Over, removals, drop_changes, DropHolds, IsDropping, IsDropStage, IsSafe, IsOut, OpensNoMore, GoesDropping, RemovesAny, MakesNext, bare}

letters_no_slash : HasNoSlash (codes "x.")
letters_no_slash = (λ is. absurd (omega (arith, is)), (λ is. absurd (omega (arith, is)), tt))

record_no_slash : (which : DataId) → HasNoSlash (entry_name which)
record_no_slash which = no_slash_in (codes "x." ++ decimal which.id) (46 ∷ decimal which.run) (no_slash_in (codes "x.") (decimal which.id) letters_no_slash (number_no_slash which.id)) (λ is. absurd (omega (arith, is)), number_no_slash which.run)

-- the record is none of a folder's files
outside : (which : DataId) (folder q : List ℕ) → IsUnder folder q → q ≢ entry_name which
outside which folder q under is = under_slash folder (entry_name which) (record_no_slash which) (subst (IsUnder folder) is under)

same_no_worse : (f g : File) → g ≡ f → IsNoWorse f g
same_no_worse f g is = subst (λ (x : File). IsNoWorse f x) (sym is) (record { len = refl; now = refl; outcomes = λ o may. may; touched = λ k touched. touched })

shut_byte : (bs : List ℕ) → slice_index (set bs 0 0) 0 ≡ 0
shut_byte [] = refl
shut_byte (b ∷ bs) = refl

not_both : (o : Option ℕ) → o ≡ None → IsSome o → ⊥
not_both None none some = absurd (cc some)
not_both (Some len) none some = absurd (cc none)

some_of_place : (f : File) → HasPlace f 0 → IsSome f.len
some_of_place f place = pick f.len place where
  pick : (o : Option ℕ) → Rattle.std.specs.Prelude.IsSomeAnd o (λ len. 0 < len) → IsSome o
  pick None has = absurd has
  pick (Some len) has = search rules

-- ## What a stop leaves of the record

none_open : {X : Type 0} → IsOpen None 0 → X
none_open opens = absurd (omega (arith, opens))

open_there : (o : Option (List ℕ)) → IsOpen o 0 → IsSome o
open_there None opens = none_open opens
open_there (Some bytes) opens = refl

open_long : (bytes : List ℕ) → IsOpen (Some bytes) 0 → 0 < length bytes
open_long [] opens = absurd (omega (arith, opens))
open_long (b ∷ bs) opens = omega arith

-- the gate was open, and its byte alone was written
module _ (f g : File) (bytes : List ℕ) (there : IsSome f.now) (held : MayHold f bytes) (opens : IsOpen (Some bytes) 0) (torn : Torn 0 1 f g) where
  was_fluid : g.fluid ≡ true → f.fluid ≡ true
  was_fluid fluid = elim (torn.fluid fluid) [ inl before ↦ before | inr none ↦ absurd (not_there f.now none there) ]
    where
      not_there : (o : Option (List ℕ)) → o ≡ None → IsSome o → ⊥
      not_there None none some = absurd (cc some)
      not_there (Some l) none some = absurd (cc none)

  byte_before : (k byte : ℕ) → (k ≡ 0 → byte ≡ slice_index bytes 0) → IsByteAfter g k byte → IsByteAfter f k byte
  byte_before k byte same (inl touched) = elim (torn.touched k touched) [
    | inl before ↦ inl before
    | inr inside ↦
        let zero : k ≡ 0 = omega (arith, inside.1) in
        subst (λ (b : ℕ). IsByteAfter f k b) (sym (same zero)) (subst (λ (j : ℕ). IsByteAfter f j (slice_index bytes 0)) (sym zero) (held.each 0))
  ]
  byte_before k byte same (inr (inl stable)) = inr (inl (stable ∙ ap (λ (o : Option (List ℕ)). byte_at o k) torn.stable))
  byte_before k byte same (inr (inr both)) = inr (inr (was_fluid both.0, both.1))

  torn_before : (b : List ℕ) → MayHold g b → IsOpen (Some b) 0 → MayHold f b
  torn_before b may open_b = record {
    there = inr there;
    no_longer = omega (arith, may.no_longer, torn.greatest, held.no_longer, open_long bytes opens);
    no_shorter = elim may.no_shorter [ inl fluid ↦ inl (was_fluid fluid) | inr le ↦ inr (subst (λ (o : Option (List ℕ)). length (bytes_of o) ≤ length b) torn.stable le) ];
    each = λ k. byte_before k (slice_index b k) (λ zero. ap (slice_index b) zero ∙ open_b ∙ sym opens) (may.each k);
  }

closing_opens : (f g : File) → MayLeave f f.now → IsOpen f.now 0 → Torn 0 1 f g → OpensNoMore f g
closing_opens f g may opens torn = by_now f.now (open_there f.now opens) may opens
  where
    by_now : (now : Option (List ℕ)) → IsSome f.now → MayLeave f now → IsOpen now 0 → OpensNoMore f g
    by_now None there held is_open None may_b open_b = none_open open_b
    by_now None there held is_open (Some b) may_b open_b = none_open is_open
    by_now (Some bytes) there held is_open None may_b open_b = none_open open_b
    by_now (Some bytes) there held is_open (Some b) may_b open_b = torn_before f g bytes there held is_open torn b may_b open_b

same_opens : (f g : File) → g ≡ f → OpensNoMore f g
same_opens f g is o may opens = subst (λ (x : File). MayLeave x o) is may

shut_opens : (f g : File) → StaysShut g 0 → OpensNoMore f g
shut_opens f g stays o may opens = absurd (stays.shut o may opens)

module _ (which : DataId) (folder : List ℕ) (d e : DeviceState) where
  own : List ℕ
  own = entry_name which

  files_by_len : (names : List (List ℕ)) → ((q : List ℕ) → IsUnder folder q → (e.file q).len ≡ (d.file q).len) → AreFilesUnder folder d names → AreFilesUnder folder e names
  files_by_len names lens files = record {
    there = λ k x lt. let file = files.there k x lt in (file.0, subst (λ (o : Option ℕ). IsSome o) (sym (lens (get_or names k x) file.0.0)) file.1);
    every = λ name under some. files.every name under (subst (λ (o : Option ℕ). IsSome o) (lens name under) some);
    distinct = files.distinct;
  }

  -- ## Nothing but the record is changed

  module _ (only : ChangesOnly (entry_name which) d e) where
    folder_same : (q : List ℕ) → IsUnder folder q → e.file q ≡ d.file q
    folder_same q under = only.others q (outside which folder q under)

    kept_files : (names : List (List ℕ)) → AreFilesUnder folder d names → AreFilesUnder folder e names
    kept_files names files = files_by_len names (λ q under. ap (λ (f : File). f.len) (folder_same q under)) files

    kept_safe : IsSafe which folder d e
    kept_safe = inl (λ q under. same_no_worse (d.file q) (e.file q) (folder_same q under))

    kept_others : (q : List ℕ) → q ≢ entry_name which → (IsUnder folder q → ⊥) → IsNoWorse (d.file q) (e.file q)
    kept_others q other away = same_no_worse (d.file q) (e.file q) (only.others q other)

  -- ## A refused call that leaves all as before

  pub refused_same : (changes : List Change) → IsUnchanged d e → IsDropping which folder d changes → IsDropping which folder e changes
  refused_same changes same k = subst (λ (s : DeviceState). IsDropping which folder s changes) (sym same) (record {
    drop = k.drop;
    names = k.names;
    changes_are = k.changes_are;
    files = record { there = k.files.there; every = k.files.every; distinct = k.files.distinct };
    holds = k.holds;
  })

  unchanged_file : IsUnchanged d e → (q : List ℕ) → e.file q ≡ d.file q
  unchanged_file same q = ap (λ (s : DeviceState). s.file q) same

  unchanged_safe : IsUnchanged d e → IsSafe which folder d e
  unchanged_safe same = inl (λ q under. same_no_worse (d.file q) (e.file q) (unchanged_file same q))

  -- ## The gate is closed

  closed_stage : (names : List (List ℕ)) → HasPlace (d.file (entry_name which)) 0 → AreFilesUnder folder d names → TurnsGate {T = Unit {0}} (entry_name which) 0 0 (Ok (tt {0})) d e → IsDropping which folder e (Sync ∷ removals names (entry_name which))
  closed_stage names place files turns = record {
    drop = Closed;
    names = names;
    changes_are = refl;
    files = kept_files turns.only names files;
    holds = (
      subst (λ (o : Option ℕ). IsSome o) (sym (turns.len place)) (some_of_place (d.file (entry_name which)) place),
      λ tells opens.
          let zero : byte_at (e.file (entry_name which)).now 0 ≡ 0 = ap (λ (o : Option (List ℕ)). byte_at o 0) (turns.now place (sym turns.only.tells ∙ tells)) ∙ shut_byte (bytes_of (d.file (entry_name which)).now) in
          absurd (omega (arith, zero, opens)),
    );
  }

  closing_entry : {T : Type 0} (result : Result T DevError) → IsSound d → (d.tells ≡ true → IsOpen (d.file (entry_name which)).now 0) → TurnsGate (entry_name which) 0 0 result d e → d.tells ≡ true → OpensNoMore (d.file (entry_name which)) (e.file (entry_name which))
  closing_entry result sound opens turns tells = closing_opens (d.file (entry_name which)) (e.file (entry_name which)) (sound.now_allowed (entry_name which)) (opens tells) turns.torn

  closing_done : (names : List (List ℕ)) (over : Bool) → over ≡ false → IsSound d → HasPlace (d.file (entry_name which)) 0 × (d.tells ≡ true → IsOpen (d.file (entry_name which)).now 0) → AreFilesUnder folder d names → TurnsGate {T = Unit {0}} (entry_name which) 0 0 (Ok (tt {0})) d e → GoesDropping which folder (Ok over) (Some (Sync ∷ removals names (entry_name which))) d e
  closing_done names over more sound holds files turns = record {
    exact = tt;
    stage = closed_stage names holds.0 files turns;
    safe = λ tells. kept_safe turns.only;
    entry = closing_entry (Ok (tt {0})) sound holds.1 turns;
    out = λ is. absurd (cc (is, more));
    others = kept_others turns.only;
  }

  failed_alone : (T : Type 0) (fault : DevError) → SyncAnswers {T = T} (Err fault) → ReadingAnswers {T = Bool} (Err (index_fault e fault))
  failed_alone T Failed answer = tt
  failed_alone T Full answer = absurd answer
  failed_alone T NoFile answer = absurd answer
  failed_alone T Range answer = absurd answer
  failed_alone T Memory answer = absurd answer

  closing_refused : (fault : DevError) (after : Option (List Change)) → IsSound d → HasPlace (d.file (entry_name which)) 0 × (d.tells ≡ true → IsOpen (d.file (entry_name which)).now 0) → TurnsGate {T = Unit {0}} (entry_name which) 0 0 (Err fault) d e → GoesDropping which folder (Err (index_fault e fault)) after d e
  closing_refused fault after sound holds turns = record {
    exact = failed_alone (Unit {0}) fault (turns.failed_alone holds.0);
    stage = tt;
    safe = λ tells. kept_safe turns.only;
    entry = closing_entry (Err fault) sound holds.1 turns;
    out = tt;
    others = kept_others turns.only;
  }

  closing_again : (names : List (List ℕ)) (fault : DevError) → HasPlace (d.file (entry_name which)) 0 × (d.tells ≡ true → IsOpen (d.file (entry_name which)).now 0) → AreFilesUnder folder d names → TurnsGate {T = Unit {0}} (entry_name which) 0 0 (Err fault) d e → IsDropping which folder e (drop_changes (entry_name which) names Closing)
  closing_again names fault holds files turns = record {
    drop = Closing;
    names = names;
    changes_are = refl;
    files = kept_files turns.only names files;
    holds = (
      subst (λ (o : Option ℕ). Rattle.std.specs.Prelude.IsSomeAnd o (λ len. 0 < len)) (sym (turns.len holds.0)) holds.0,
      λ tells. ap (λ (o : Option (List ℕ)). byte_at o 0) (turns.refused.files (entry_name which)).now ∙ holds.1 (sym turns.refused.tells ∙ tells),
    );
  }

  -- ## That is made stable

  module _ (T : Type 0) (result : Result T DevError) (syncs : Syncs result d e) where
    synced : (q : List ℕ) → IsNoWorse (d.file q) (e.file q)
    synced q = record { len = (syncs.alike.files q).len; now = (syncs.alike.files q).now; outcomes = (syncs.partly q).outcomes; touched = (syncs.partly q).touched }

    synced_files : (names : List (List ℕ)) → AreFilesUnder folder d names → AreFilesUnder folder e names
    synced_files names files = files_by_len names (λ q under. (synced q).len) files

    synced_shut : (d.tells ≡ true → ¬ IsOpen (d.file (entry_name which)).now 0) → e.tells ≡ true → ¬ IsOpen (e.file (entry_name which)).now 0
    synced_shut shut tells opens = shut (sym syncs.alike.tells ∙ tells) (ap (λ (o : Option (List ℕ)). byte_at o 0) (sym (synced (entry_name which)).now) ∙ opens)

  stable_stage : (names : List (List ℕ)) → IsSome (d.file (entry_name which)).len → (d.tells ≡ true → ¬ IsOpen (d.file (entry_name which)).now 0) → AreFilesUnder folder d names → Syncs {T = Unit {0}} (Ok (tt {0})) d e → IsDropping which folder e (removals names (entry_name which))
  stable_stage names some shut files syncs = record {
    drop = Removing;
    names = names;
    changes_are = refl;
    files = synced_files (Unit {0}) (Ok (tt {0})) syncs names files;
    holds = (
      subst (λ (o : Option ℕ). IsSome o) (sym (synced (Unit {0}) (Ok (tt {0})) syncs (entry_name which)).len) some,
      λ tells. record {
        shut = λ o may opens. synced_shut (Unit {0}) (Ok (tt {0})) syncs shut tells (ap (λ (p : Option (List ℕ)). byte_at p 0) (sym (rest_leaves (e.file (entry_name which)) o (syncs.at_rest (entry_name which)) may)) ∙ opens);
        untouched = (syncs.at_rest (entry_name which)).untouched 0;
      },
    );
  }

  sync_done : (names : List (List ℕ)) (over : Bool) → over ≡ false → IsSome (d.file (entry_name which)).len → (d.tells ≡ true → ¬ IsOpen (d.file (entry_name which)).now 0) → AreFilesUnder folder d names → Syncs {T = Unit {0}} (Ok (tt {0})) d e → GoesDropping which folder (Ok over) (Some (removals names (entry_name which))) d e
  sync_done names over more some shut files syncs = record {
    exact = tt;
    stage = stable_stage names some shut files syncs;
    safe = λ tells. inl (λ q under. synced (Unit {0}) (Ok (tt {0})) syncs q);
    entry = λ tells o may opens. (syncs.partly (entry_name which)).outcomes o may;
    out = λ is. absurd (cc (is, more));
    others = λ q other away. synced (Unit {0}) (Ok (tt {0})) syncs q;
  }

  sync_refused : (fault : DevError) (after : Option (List Change)) → Syncs {T = Unit {0}} (Err fault) d e → GoesDropping which folder (Err (index_fault e fault)) after d e
  sync_refused fault after syncs = record {
    exact = failed_alone (Unit {0}) fault syncs.answer;
    stage = tt;
    safe = λ tells. inl (λ q under. synced (Unit {0}) (Err fault) syncs q);
    entry = λ tells o may opens. (syncs.partly (entry_name which)).outcomes o may;
    out = tt;
    others = λ q other away. synced (Unit {0}) (Err fault) syncs q;
  }

  sync_again : (names : List (List ℕ)) (fault : DevError) → IsSome (d.file (entry_name which)).len → (d.tells ≡ true → ¬ IsOpen (d.file (entry_name which)).now 0) → AreFilesUnder folder d names → Syncs {T = Unit {0}} (Err fault) d e → IsDropping which folder e (drop_changes (entry_name which) names Closed)
  sync_again names fault some shut files syncs = record {
    drop = Closed;
    names = names;
    changes_are = refl;
    files = synced_files (Unit {0}) (Err fault) syncs names files;
    holds = (subst (λ (o : Option ℕ). IsSome o) (sym (synced (Unit {0}) (Err fault) syncs (entry_name which)).len) some, synced_shut (Unit {0}) (Err fault) syncs shut);
  }

  -- ## A file is removed

  was_removed : (name : List ℕ) → IsSome (d.file name).len → IsRemoved (d.file name) (e.file name) ⊎ (((d.file name).len ≡ None) × IsUnchanged d e) → IsRemoved (d.file name) (e.file name)
  was_removed name some (inl removed) = removed
  was_removed name some (inr none) = absurd (not_both (d.file name).len none.0 some)

  removal_told : (fault : DevError) → (◌≡◌ {A = Result (Unit {0}) DevError} (Err fault) (Err Failed)) ⊎ (◌≡◌ {A = Result (Unit {0}) DevError} (Err fault) (Err Memory)) → ReadingAnswers {T = Bool} (Err (index_fault e fault))
  removal_told Failed is = tt
  removal_told Full (inl is) = absurd (cc is)
  removal_told Full (inr is) = absurd (cc is)
  removal_told NoFile is = tt
  removal_told Range is = tt
  removal_told Memory is = tt

  removal_refused : (name : List ℕ) (fault : DevError) (after : Option (List Change)) → RemovesAny {T = Unit {0}} name (Err fault) d e → GoesDropping which folder (Err (index_fault e fault)) after d e
  removal_refused name fault after removes = record {
    exact = removal_told fault removes.answer;
    stage = tt;
    safe = λ tells. unchanged_safe removes.refused;
    entry = λ tells. same_opens (d.file (entry_name which)) (e.file (entry_name which)) (unchanged_file removes.refused (entry_name which));
    out = tt;
    others = λ q other away. same_no_worse (d.file q) (e.file q) (unchanged_file removes.refused q);
  }

  file_done : (n : List ℕ) (names : List (List ℕ)) (over : Bool) → over ≡ false → IsSome (d.file (entry_name which)).len → (d.tells ≡ true → StaysShut (d.file (entry_name which)) 0) → AreFilesUnder folder d (n ∷ names) → RemovesAny {T = Unit {0}} n (Ok (tt {0})) d e → GoesDropping which folder (Ok over) (Some (removals names (entry_name which))) d e
  file_done n names over more some shut files removes =
      let first = files.there 0 [] (omega arith) in
      let gone = was_removed n first.1 removes.removed in
      let record_same : e.file (entry_name which) ≡ d.file (entry_name which) = removes.only.others (entry_name which) (λ is. outside which folder n first.0.0 (sym is)) in
      let still_shut : d.tells ≡ true → StaysShut (e.file (entry_name which)) 0 = λ tells. subst (λ (f : File). StaysShut f 0) (sym record_same) (shut tells) in record {
        exact = tt;
        stage = record {
          drop = Removing;
          names = names;
          changes_are = refl;
          files = files_left folder d e n names files gone.len removes.only;
          holds = (subst (λ (f : File). IsSome f.len) (sym record_same) some, λ tells. still_shut (sym removes.only.tells ∙ tells));
        };
        safe = λ tells. inr (still_shut tells);
        entry = λ tells. same_opens (d.file (entry_name which)) (e.file (entry_name which)) record_same;
        out = λ is. absurd (cc (is, more));
        others = λ q other away. same_no_worse (d.file q) (e.file q) (removes.only.others q (λ is. away (subst (IsUnder folder) (sym is) first.0.0)));
      }

  record_done : (over : Bool) → IsSound d → IsSome (d.file (entry_name which)).len → (d.tells ≡ true → StaysShut (d.file (entry_name which)) 0) → AreFilesUnder folder d [] → RemovesAny {T = Unit {0}} (entry_name which) (Ok (tt {0})) d e → GoesDropping which folder (Ok over) (Some []) d e
  record_done over sound some shut files removes =
      let gone = was_removed (entry_name which) some removes.removed in
      let left_files = kept_files removes.only [] files in
      let still_shut : d.tells ≡ true → StaysShut (e.file (entry_name which)) 0 = λ tells. removed_shut (d.file (entry_name which)) (e.file (entry_name which)) 0 (sound.stable_allowed (entry_name which)) gone (shut tells) in
      let told_shut : e.tells ≡ true → StaysShut (e.file (entry_name which)) 0 = λ tells. still_shut (sym removes.only.tells ∙ tells) in record {
        exact = tt;
        stage = record { drop = Over; names = []; changes_are = refl; files = left_files; holds = (refl, gone.len, told_shut) };
        safe = λ tells. inr (still_shut tells);
        entry = λ tells. shut_opens (d.file (entry_name which)) (e.file (entry_name which)) (still_shut tells);
        out = λ is. record { record_gone = gone.len; shut = told_shut; clear = (over_is folder e [] left_files).0 refl };
        others = kept_others removes.only;
      }

  over_done : (names : List (List ℕ)) (over : Bool) → DropHolds Over d.tells (d.file (entry_name which)) names → AreFilesUnder folder d names → IsUnchanged d e → GoesDropping which folder (Ok over) (Some []) d e
  over_done names over holds files same =
      let stays = refused_same [] same (record { drop = Over; names = names; changes_are = refl; files = files; holds = holds }) in
      let none : AreFilesUnder folder e [] = files_by_len [] (λ q under. ap (λ (f : File). f.len) (unchanged_file same q)) (subst (AreFilesUnder folder d) holds.0 files) in
      let record_same = unchanged_file same (entry_name which) in record {
        exact = tt;
        stage = stays;
        safe = λ tells. unchanged_safe same;
        entry = λ tells. same_opens (d.file (entry_name which)) (e.file (entry_name which)) record_same;
        out = λ is. record {
          record_gone = ap (λ (f : File). f.len) record_same ∙ holds.1;
          shut = λ tells. subst (λ (f : File). StaysShut f 0) (sym record_same) (holds.2 (sym (ap (λ (s : DeviceState). s.tells) same) ∙ tells));
          clear = (over_is folder e [] none).0 refl;
        };
        others = λ q other away. same_no_worse (d.file q) (e.file q) (unchanged_file same q);
      }

  -- ## Any step

  at_stage : (over : Bool) (after next : Option (List Change)) → after ≡ next → GoesDropping which folder (Ok over) next d e → GoesDropping which folder (Ok over) after d e
  at_stage over after next is goes = subst (λ (a : Option (List Change)). GoesDropping which folder (Ok over) a d e) (sym is) goes

  by_drop : (drop : Drop) (names : List (List ℕ)) (r : Result Bool DevError) (after : Option (List Change)) → IsSound d → AreFilesUnder folder d names → DropHolds drop d.tells (d.file (entry_name which)) names → MakesNext (Some (drop_changes (entry_name which) names drop)) r d e
      → OnOk r (after ≡ passed (Some (drop_changes (entry_name which) names drop))) → IfOk r (λ over. over ≡ is_over after) → GoesDropping which folder (index_result e r) after d e
  by_drop Closing names (Ok over) after sound files holds made goes told = at_stage over after (Some (Sync ∷ removals names (entry_name which))) goes (closing_done names over (told ∙ ap is_over goes) sound holds files made)
  by_drop Closing names (Err fault) after sound files holds made goes told = closing_refused fault after sound holds made
  by_drop Closed [] (Ok over) after sound files holds made goes told = at_stage over after (Some (removals [] (entry_name which))) goes (sync_done [] over (told ∙ ap is_over goes) holds.0 holds.1 files made)
  by_drop Closed (n ∷ names) (Ok over) after sound files holds made goes told = at_stage over after (Some (removals (n ∷ names) (entry_name which))) goes (sync_done (n ∷ names) over (told ∙ ap is_over goes) holds.0 holds.1 files made)
  by_drop Closed names (Err fault) after sound files holds made goes told = sync_refused fault after made
  by_drop Removing [] (Ok over) after sound files holds made goes told = at_stage over after (Some []) goes (record_done over sound holds.0 holds.1 files made)
  by_drop Removing (n ∷ []) (Ok over) after sound files holds made goes told = at_stage over after (Some (removals [] (entry_name which))) goes (file_done n [] over (told ∙ ap is_over goes) holds.0 holds.1 files made)
  by_drop Removing (n ∷ m ∷ names) (Ok over) after sound files holds made goes told = at_stage over after (Some (removals (m ∷ names) (entry_name which))) goes (file_done n (m ∷ names) over (told ∙ ap is_over goes) holds.0 holds.1 files made)
  by_drop Removing [] (Err fault) after sound files holds made goes told = removal_refused (entry_name which) fault after made
  by_drop Removing (n ∷ names) (Err fault) after sound files holds made goes told = removal_refused n fault after made
  by_drop Over names (Ok over) after sound files holds made goes told = at_stage over after (Some []) goes (over_done names over holds files made.0)
  by_drop Over names (Err fault) after sound files holds made goes told = absurd (cc made.1)

  pub goes_dropping : (changes : List Change) (r : Result Bool DevError) (after : Option (List Change)) → IsSound d → IsDropping which folder d changes → MakesNext (Some changes) r d e → OnOk r (after ≡ passed (Some changes)) → IfOk r (λ over. over ≡ is_over after) → GoesDropping which folder (index_result e r) after d e
  goes_dropping changes r after sound k made goes told =
      by_drop k.drop k.names r after sound k.files k.holds (subst (λ (l : List Change). MakesNext (Some l) r d e) k.changes_are made) (subst (λ (l : List Change). OnOk r (after ≡ passed (Some l))) k.changes_are goes) told

  by_refusal : (drop : Drop) (names : List (List ℕ)) (fault : DevError) → AreFilesUnder folder d names → DropHolds drop d.tells (d.file (entry_name which)) names → MakesNext {T = Bool} (Some (drop_changes (entry_name which) names drop)) (Err fault) d e → IsDropping which folder e (drop_changes (entry_name which) names drop)
  by_refusal Closing names fault files holds made = closing_again names fault holds files made
  by_refusal Closed names fault files holds made = sync_again names fault holds.0 holds.1 files made
  by_refusal Removing [] fault files holds made = refused_same (removals [] (entry_name which)) made.refused (record { drop = Removing; names = []; changes_are = refl; files = files; holds = holds })
  by_refusal Removing (n ∷ names) fault files holds made = refused_same (removals (n ∷ names) (entry_name which)) made.refused (record { drop = Removing; names = n ∷ names; changes_are = refl; files = files; holds = holds })
  by_refusal Over names fault files holds made = absurd (cc made.1)

  pub goes_again : (changes : List Change) (fault : DevError) → IsDropping which folder d changes → MakesNext {T = Bool} (Some changes) (Err fault) d e → IsDropping which folder e changes
  goes_again changes fault k made =
      subst (λ (l : List Change). IsDropping which folder e l) (sym k.changes_are)
      (by_refusal k.drop k.names fault k.files k.holds (subst (λ (l : List Change). MakesNext {T = Bool} (Some l) (Err fault) d e) k.changes_are made))
