-- The removal of the files under a folder, from what is left of them.
use Rattle.std.proofs.Common.{◌≡◌, ◌≢◌, inl, inr, ◌<◌, ◌^◌, ℕ, zero, suc, Bool, true, false, List, [], ◌∷◌, map, length, get_or, Option, None, Some, refl, sym, ◌∙◌, ap, subst, arith}
use Rattle.std.specs.Prelude.{All, Result, Ok, Err, OnOk, OnErr, IfOk, IsSome, Contains, is_none, ◌↔◌}
use Rattle.scr_base.specs.declared.change.Change.{Change}
use Rattle.scr_base.specs.declared.change.Change.TheVariants.{Remove}
use Rattle.scr_base.specs.Stages.{left, passed, is_over}
use Rattle.node_device.specs.File.{File}
use Rattle.node_device.specs.DeviceState.{DeviceState, IsUnchanged, ChangesOnly}
use Rattle.node_device.specs.Answers.{NamesAnswers, RemoveAnswers}
use Rattle.node_device.specs.declared.device.DevError.{DevError}
use Rattle.node_device.specs.declared.device.DevError.TheVariants.{Failed, Full, NoFile, Range, Memory}
use Rattle.prefix_store.specs.Names.{IsNameUnder}
use Rattle.prefix_store.specs.Calls.{IsClear, AreFilesUnder, IsClearStage, IsClearStageOf, ClearAnswers, Clears}
use Rattle.prefix_store.specs.ClearSteps.{MayRemoveNext, RemovesNext}

none_or_some : (o : Option ℕ) → (IsSome o → ⊥) → o ≡ None
none_or_some None no_len = refl
none_or_some (Some len) no_len = absurd (no_len refl)

not_both : (o : Option ℕ) → o ≡ None → IsSome o → ⊥
not_both None none some = absurd (cc some)
not_both (Some len) none some = absurd (cc none)

-- removals tell the names
same_names : (xs ys : List (List ℕ)) → map Remove xs ≡ map Remove ys → xs ≡ ys
same_names [] [] is = refl
same_names [] (y ∷ ys) is = absurd (cc is)
same_names (x ∷ xs) [] is = absurd (cc is)
same_names (x ∷ xs) (y ∷ ys) is =
    let first : x ≡ y = cc is in
    let later : map Remove xs ≡ map Remove ys = cc is in
    ap (λ (h : List ℕ). h ∷ xs) first ∙ ap (λ (t : List (List ℕ)). y ∷ t) (same_names xs ys later)

module _ (folder : List ℕ) where
  -- the files that a stage of these names knows
  files_of : (d : DeviceState) (names : List (List ℕ)) → IsClearStage folder d (Some (map Remove names)) → AreFilesUnder folder d names
  files_of d names stage = subst (λ (l : List (List ℕ)). AreFilesUnder folder d l) (sym (same_names names stage.0 stage.1)) stage.2

  pub names_of : (d : DeviceState) (names : List (List ℕ)) → AreFilesUnder folder d names → All (IsNameUnder folder) names
  names_of d names files = λ i x lt. (files.there i x lt).0

  -- nothing is left exactly where no file is there
  pub over_is : (d : DeviceState) (names : List (List ℕ)) → AreFilesUnder folder d names → (is_over (Some (map Remove names)) ≡ true) ↔ IsClear folder d
  over_is d [] files = (
    λ over name named. none_or_some (d.file name).len (λ some. let found = files.every name named some in absurd (omega (arith, found.1))),
    λ none. refl,
  )
  over_is d (n ∷ names) files = (
    λ over. absurd (cc over),
    λ none. let first = files.there 0 [] (omega arith) in absurd (not_both (d.file n).len (none n first.0.0) first.1),
  )

  -- a file that is removed is no longer there, and the others are as they were
  module _ (d e : DeviceState) (n : List ℕ) (names : List (List ℕ)) (files : AreFilesUnder folder d (n ∷ names)) (gone : (e.file n).len ≡ None) (only : ChangesOnly n d e) where
    another : (k : ℕ) (x : List ℕ) → k < length names → get_or names k x ≢ n
    another k x lt is = files.distinct 0 (suc k) x (omega arith) (omega (arith, lt)) (sym is)

    kept : (name : List ℕ) → name ≢ n → (e.file name).len ≡ (d.file name).len
    kept name other = ap (λ (f : File). f.len) (only.others name other)

    not_gone : (name : List ℕ) → IsSome (e.file name).len → name ≢ n
    not_gone name some is = not_both (e.file n).len gone (subst (λ (x : List ℕ). IsSome (e.file x).len) is some)

    behind_first : (name : List ℕ) → name ≢ n → Contains (n ∷ names) name → Contains names name
    behind_first name other (zero, lt, is) = absurd (other (sym is))
    behind_first name other (suc k, lt, is) = (k, omega (arith, lt), is)

    pub files_left : AreFilesUnder folder e names
    files_left = record {
      there = λ k x lt. let file = files.there (suc k) x (omega (arith, lt)) in (file.0, subst (λ (o : Option ℕ). IsSome o) (sym (kept (get_or names k x) (another k x lt))) file.1);
      every = λ name under some.
          let other = not_gone name some in
          behind_first name other (files.every name under (subst (λ (o : Option ℕ). IsSome o) (kept name other) some));
      distinct = λ i j x lt within. files.distinct (suc i) (suc j) x (omega (arith, lt)) (omega (arith, within));
    }

  unchanged_files : (d e : DeviceState) (names : List (List ℕ)) → IsUnchanged d e → AreFilesUnder folder d names → AreFilesUnder folder e names
  unchanged_files d e names same files = subst (λ (s : DeviceState). AreFilesUnder folder s names) (sym same) (record { there = files.there; every = files.every; distinct = files.distinct })

  pub may_next : (names : List (List ℕ)) → All (IsNameUnder folder) names → MayRemoveNext (Some (map Remove names))
  may_next [] all = tt
  may_next (n ∷ names) all = (n, refl, (all 0 [] (omega arith)).1)

  -- the file that comes next is removed
  step_done : (d e : DeviceState) (names : List (List ℕ)) (over : Bool) → over ≡ is_over (passed (Some (map Remove names))) → All (IsNameUnder folder) names → RemovesNext {T = Bool} (Some (map Remove names)) (Ok over) d e → Clears folder (Ok over) (Some (map Remove names)) (passed (Some (map Remove names))) d e
  step_done d e [] over told all (same, ok, cause) = record {
    answer = λ name is. absurd (cc is);
    exact = λ stage. tt;
    over = told;
    none_left = λ stage. subst (λ (o : Bool). (o ≡ true) ↔ IsClear folder e) (sym told) (over_is e [] (unchanged_files d e [] same (files_of d [] stage)));
    at_most = inr same;
    removed = λ stage. inr ((over_is d [] (files_of d [] stage)).0 refl, same);
    fewer = λ is. absurd (cc (is, told));
    stage = ([], refl, all);
    goes = λ stage. ([], refl, unchanged_files d e [] same (files_of d [] stage));
    refused = tt;
    cause = cause;
  }
  step_done d e (n ∷ names) over told all removes =
      let made = removes n refl in
      let left_files = λ (stage : IsClearStage folder d (Some (map Remove (n ∷ names)))). files_left d e n names (files_of d (n ∷ names) stage) made.removed.len made.only in record {
        answer = λ name is. let same : n ≡ name = cc is in subst (λ (x : List ℕ). IsSome (d.file x).len) same made.answer;
        exact = λ stage. tt;
        over = told;
        none_left = λ stage. subst (λ (o : Bool). (o ≡ true) ↔ IsClear folder e) (sym told) (over_is e names (left_files stage));
        at_most = inl (n, record { there = (all 0 [] (omega arith), made.answer); removed = made.removed; only = made.only });
        removed = λ stage. inl (n, record { there = (all 0 [] (omega arith), made.answer); removed = made.removed; only = made.only });
        fewer = λ is. omega arith;
        stage = (names, refl, λ i x lt. all (suc i) x (omega (arith, lt)));
        goes = λ stage. (names, refl, left_files stage);
        refused = tt;
        cause = made.cause;
      }

  -- or that is refused
  step_refused : (d e : DeviceState) (names : List (List ℕ)) (fault : DevError) → All (IsNameUnder folder) names → RemovesNext {T = Bool} (Some (map Remove names)) (Err fault) d e → Clears folder (Err fault) (Some (map Remove names)) (Some (map Remove names)) d e
  step_refused d e [] fault all (same, ok, cause) = absurd (cc ok)
  step_refused d e (n ∷ names) fault all removes =
      let made = removes n refl in record {
        answer = by_answer fault made.answer;
        exact = λ stage. by_fault fault ((files_of d (n ∷ names) stage).there 0 [] (omega arith)).1 made.answer;
        over = tt;
        none_left = λ stage. tt;
        at_most = tt;
        removed = λ stage. tt;
        fewer = tt;
        stage = (n ∷ names, refl, all);
        goes = λ stage. (n ∷ names, refl, unchanged_files d e (n ∷ names) made.refused (files_of d (n ∷ names) stage));
        refused = (refl, made.refused);
        cause = made.cause;
      }
    where
      by_answer : (x : DevError) → RemoveAnswers {T = Bool} (d.file n) (Err x) → ClearAnswers {T = Bool} (Some (map Remove (n ∷ names))) d (Err x)
      by_answer Failed a = tt
      by_answer Full a = absurd a
      by_answer NoFile a = (n, refl, a)
      by_answer Range a = absurd a
      by_answer Memory a = tt

      by_fault : (x : DevError) → IsSome (d.file n).len → RemoveAnswers {T = Bool} (d.file n) (Err x) → NamesAnswers {T = Bool} (Err x)
      by_fault Failed there a = tt
      by_fault Full there a = absurd a
      by_fault NoFile there a = absurd (not_both (d.file n).len a there)
      by_fault Range there a = absurd a
      by_fault Memory there a = tt

  -- ## the calls, from what their parts say

  over_after : (d e : DeviceState) (changes : List Change) → IsClearStageOf folder (Some changes) → (after : Option (List Change)) (over : Bool) → RemovesNext {T = Bool} (Some changes) (Ok over) d e → after ≡ passed (Some changes) → over ≡ is_over after → Clears folder (Ok over) (Some changes) after d e
  over_after d e changes entry after over removes after_is told =
      subst (λ (a : Option (List Change)). Clears folder (Ok over) (Some changes) a d e) (sym after_is)
      (subst (λ (l : List Change). Clears folder (Ok over) (Some l) (passed (Some l)) d e) (sym entry.1)
      (step_done d e entry.0 over (told ∙ ap is_over after_is ∙ ap (λ (l : List Change). is_over (passed (Some l))) entry.1) entry.2 (subst (λ (l : List Change). RemovesNext {T = Bool} (Some l) (Ok over) d e) entry.1 removes)))

  refused_after : (d e : DeviceState) (changes : List Change) → IsClearStageOf folder (Some changes) → (fault : DevError) → RemovesNext {T = Bool} (Some changes) (Err fault) d e → Clears folder (Err fault) (Some changes) (Some changes) d e
  refused_after d e changes entry fault removes =
      subst (λ (l : List Change). Clears folder (Err fault) (Some l) (Some l) d e) (sym entry.1)
      (step_refused d e entry.0 fault entry.2 (subst (λ (l : List Change). RemovesNext {T = Bool} (Some l) (Err fault) d e) entry.1 removes))

  -- a later call
  pub later_may : (stage : Option (List Change)) → is_none stage ≡ false → IsClearStageOf folder stage → MayRemoveNext stage
  later_may None some entry = absurd (cc some)
  later_may (Some changes) some entry = subst (λ (l : List Change). MayRemoveNext (Some l)) (sym entry.1) (may_next entry.0 entry.2)

  pub later : (d e : DeviceState) (stage after : Option (List Change)) (result : Result Bool DevError) → is_none stage ≡ false → IsClearStageOf folder stage → RemovesNext stage result d e → OnOk result (after ≡ passed stage) → IfOk result (λ over. over ≡ is_over after) → OnErr result (after ≡ stage) → Clears folder result stage after d e
  later d e None after result some entry removes after_is told same = absurd (cc some)
  later d e (Some changes) after (Ok over) some entry removes after_is told same = over_after d e changes entry after over removes after_is told
  later d e (Some changes) after (Err fault) some entry removes after_is told same = subst (λ (a : Option (List Change)). Clears folder (Err fault) (Some changes) a d e) (sym same) (refused_after d e changes entry fault removes)

  new_stage : (s : Option (List Change)) → is_none s ≡ true → s ≡ None
  new_stage None is = refl
  new_stage (Some l) is = absurd (cc is)

  at_none : (d : DeviceState) (fault : DevError) → NamesAnswers {T = Bool} (Err fault) → ClearAnswers {T = Bool} None d (Err fault)
  at_none d Failed a = tt
  at_none d Full a = absurd a
  at_none d NoFile a = absurd a
  at_none d Range a = absurd a
  at_none d Memory a = tt

  -- a first call whose files were found
  module _ (c d e : DeviceState) (stage fresh : Option (List Change)) (is_new : is_none stage ≡ true) (changes : List Change) (is_begun : fresh ≡ Some changes) (few : left fresh < 2 ^ 64)
      (found : IsClearStage folder c (Some changes)) (same : IsUnchanged c d) (faults : d.faults ≡ c.faults) where
    back : d ≡ c
    back = same ∙ ap (λ (n : ℕ). record c { faults = n }) faults

    named : IsClearStageOf folder (Some changes)
    named = (found.0, found.1, names_of c found.0 found.2)

    pub first_may : MayRemoveNext fresh
    first_may = subst MayRemoveNext (sym is_begun) (later_may (Some changes) refl named)

    at_first : (over : Bool) (after : Option (List Change)) → left (Some changes) < 2 ^ 64 → Clears folder (Ok over) (Some changes) after c e → Clears folder (Ok over) None after c e
    at_first over after few_changes drops = record {
      answer = λ name is. absurd (cc is);
      exact = λ stage. tt;
      over = drops.over;
      none_left = λ stage. drops.none_left found;
      at_most = drops.at_most;
      removed = λ stage. drops.removed found;
      fewer = λ is. let less = drops.fewer is in omega (arith, less, few_changes);
      stage = drops.stage;
      goes = λ stage. drops.goes found;
      refused = tt;
      cause = drops.cause;
    }

    pub first_done : (after : Option (List Change)) (over : Bool) → RemovesNext {T = Bool} fresh (Ok over) d e → after ≡ passed fresh → over ≡ is_over after → Clears folder (Ok over) stage after c e
    first_done after over removes after_is over_is =
        subst (λ (s : Option (List Change)). Clears folder (Ok over) s after c e) (sym (new_stage stage is_new))
        (at_first over after (subst (λ (s : Option (List Change)). left s < 2 ^ 64) is_begun few)
        (over_after c e changes named after over
        (subst (λ (s : Option (List Change)). RemovesNext {T = Bool} s (Ok over) c e) is_begun (subst (λ (s : DeviceState). RemovesNext {T = Bool} fresh (Ok over) s e) back removes))
        (after_is ∙ ap passed is_begun) over_is))

    at_first_refused : (fault : DevError) → Clears folder (Err fault) (Some changes) (Some changes) c e → Clears folder (Err fault) None None c e
    at_first_refused fault drops = record {
      answer = at_none c fault (drops.exact found);
      exact = λ stage. drops.exact found;
      over = tt;
      none_left = λ stage. tt;
      at_most = tt;
      removed = λ stage. tt;
      fewer = tt;
      stage = tt;
      goes = λ stage. tt;
      refused = (refl, drops.refused.1);
      cause = drops.cause;
    }

    pub first_refused : (fault : DevError) → RemovesNext {T = Bool} fresh (Err fault) d e → Clears folder (Err fault) stage stage c e
    first_refused fault removes =
        subst (λ (s : Option (List Change)). Clears folder (Err fault) s s c e) (sym (new_stage stage is_new))
        (at_first_refused fault (refused_after c e changes named fault
        (subst (λ (s : Option (List Change)). RemovesNext {T = Bool} s (Err fault) c e) is_begun (subst (λ (s : DeviceState). RemovesNext {T = Bool} fresh (Err fault) s e) back removes))))
