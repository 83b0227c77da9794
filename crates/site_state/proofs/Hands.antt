-- The files of all ranks, and those of the dataset at hand.
use Rattle.std.proofs.Common.{◌≡◌, ◌≢◌, ℕ, zero, suc, ◌+◌, ◌≤◌, Bool, true, false, List, [], ◌∷◌, map, length, Option, Some, None, refl, sym, ap, ◌∙◌, slice_get, arith}
use Rattle.std.specs.Prelude.{not, ◌&&◌, nat_le, find, option_map, option_and_then, is_none, unwrap_or, slice_set, if◌then◌else◌}
use Rattle.std.proofs.lemmas.Option.{unwrap_or-slice_get}
use Rattle.scr_base.specs.Same.{same_id}
use Rattle.scr_base.specs.Calls.{or_else, refuse_if, has_bad_name, allows, is_output, is_restart}
use Rattle.scr_base.specs.declared.shape.DataId.{DataId}
use Rattle.scr_base.specs.declared.answers.Phase.{Phase}
use Rattle.scr_base.specs.declared.answers.Phase.TheVariants as phase
use Rattle.scr_base.specs.declared.answers.Refusal.TheVariants as refusal
use Rattle.scr_base.specs.declared.content.Step.{Step}
use Rattle.scr_base.specs.declared.content.Step.TheVariants as step
use Rattle.filemap.specs.Rows.{is_routed}
use Rattle.filemap.specs.Maps.{rows_of}
use Rattle.filemap.specs.declared.rows.FileRow.{FileRow}
use Rattle.ckpt_model.specs.Dataset.{Dataset, File, files_of, file_named}
use Rattle.ckpt_model.specs.Machine.{Setup, Kept}
use Rattle.ckpt_model.specs.Questions.{dataset_in, dataset_at_hand, files_at_hand, file_at_hand, misses_file, passes_limit, local_verdict, is_id_of, kept_of as the_kept}
use Rattle.site_state.specs.declared.cache.Cached.{Cached}
use Rattle.site_state.specs.declared.cache.Manifest.{Manifest}
use Rattle.site_state.specs.declared.run_state.RunState.{RunState}
use Rattle.site_state.specs.Shown.{Contents, running, setup_of, set_of, kept_of, rank_files, all_files}
use Rattle.site_state.specs.Choosing.{set_in, hand_in, at_hand, rows_in, rows_at, lacks_file, is_over_limit, local_verdict_of}
use Rattle.site_state.proofs.Files.{missing_is, length_is}

-- ## The files of all ranks

pub rank-get : (b : ℕ → ℕ → List ℕ) (r : ℕ) (files : List (List FileRow)) (rank : ℕ) → slice_get (all_files b r files) rank ≡ option_map (rank_files (b (r + rank)) 0) (slice_get files rank)
rank-get b r [] rank = refl
rank-get b r (rows ∷ more) zero = ap (λ (k : ℕ). Some (rank_files (b k) 0 rows)) (let e : r ≡ r + 0 = omega arith in e)
rank-get b r (rows ∷ more) (suc rank) = rank-get b (r + 1) more rank ∙ ap (λ (k : ℕ). option_map (rank_files (b k) 0) (slice_get more rank)) (let e : (r + 1) + rank ≡ r + suc rank = omega arith in e)

files-get : (b : ℕ → ℕ → List ℕ) (files : List (List FileRow)) (rank : ℕ) (o : Option (List FileRow)) → slice_get files rank ≡ o → unwrap_or (option_map (rank_files (b rank) 0) o) [] ≡ rank_files (b rank) 0 (unwrap_or o [])
files-get b files rank None is = refl
files-get b files rank (Some rows) is = refl

pub rank_files_are : (s : Setup) (bytes : Contents) (m : Manifest) (rank : ℕ) → files_of (set_of s bytes m) rank ≡ rank_files (bytes m.desc.which rank) 0 (rows_of m.files rank)
rank_files_are s bytes m rank =
    ap (λ (o : Option (List File)). unwrap_or o []) (rank-get (bytes m.desc.which) 0 m.files rank ∙ ap (λ (k : ℕ). option_map (rank_files (bytes m.desc.which k) 0) (slice_get m.files rank)) (let e : 0 + rank ≡ rank = omega arith in e))
    ∙ files-get (bytes m.desc.which) m.files rank (slice_get m.files rank) refl
    ∙ ap (rank_files (bytes m.desc.which rank) 0) (unwrap_or-slice_get m.files rank [])

pub same_all : (b d : ℕ → ℕ → List ℕ) (r : ℕ) (files : List (List FileRow)) → ((k : ℕ) → r ≤ k → (j : ℕ) → b k j ≡ d k j) → all_files b r files ≡ all_files d r files
same_all b d r [] same = refl
same_all b d r (rows ∷ more) same = rw (Rattle.site_state.proofs.Files.same_files (b r) (d r) 0 rows (λ j le. same r (omega arith) j), same_all b d (r + 1) more (λ k le. same k (omega (arith, le)))) refl

-- the files of one rank are others
pub rank-set : (b d : ℕ → ℕ → List ℕ) (r : ℕ) (files : List (List FileRow)) (rank : ℕ) (rows : List FileRow) → ((k : ℕ) → k ≢ r + rank → (j : ℕ) → d k j ≡ b k j)
    → all_files d r (slice_set files rank rows) ≡ slice_set (all_files b r files) rank (rank_files (d (r + rank)) 0 rows)
rank-set b d r [] rank rows others = refl
rank-set b d r (old ∷ more) zero rows others =
    ap (λ (fs : List (List File)). rank_files (d r) 0 rows ∷ fs) (same_all d b (r + 1) more (λ k le. others k (omega (arith, le))))
    ∙ ap (λ (k : ℕ). rank_files (d k) 0 rows ∷ all_files b (r + 1) more) (let e : r ≡ r + 0 = omega arith in e)
rank-set b d r (old ∷ more) (suc rank) rows others =
    let moved : (r + 1) + rank ≡ r + suc rank = omega arith in
    ap (λ (f : List File). f ∷ all_files d (r + 1) (slice_set more rank rows)) (Rattle.site_state.proofs.Files.same_files (d r) (b r) 0 old (λ j le. others r (omega arith) j))
    ∙ ap (λ (fs : List (List File)). rank_files (b r) 0 old ∷ fs) (rank-set b d (r + 1) more rank rows (λ k other. others k (λ is. other (is ∙ sym moved)))
    ∙ ap (λ (k : ℕ). slice_set (all_files b (r + 1) more) rank (rank_files (d k) 0 rows)) moved)

-- ## The dataset at hand

found-set : (s : Setup) (bytes : Contents) (places : List ℕ) (which : DataId) (xs : List Cached) → option_map (λ (k : Kept). k.dataset) (find (is_id_of which) (map (kept_of s bytes places) xs)) ≡ option_map (set_of s bytes) (set_in xs which)
found-set s bytes places which [] = refl
found-set s bytes places which (x ∷ xs) = pick (same_id x.manifest.desc.which which) (found-set s bytes places which xs) where
  pick : (b : Bool) → option_map (λ (k : Kept). k.dataset) (find (is_id_of which) (map (kept_of s bytes places) xs)) ≡ option_map (set_of s bytes) (set_in xs which)
      → option_map (λ (k : Kept). k.dataset) (if b then Some (kept_of s bytes places x) else find (is_id_of which) (map (kept_of s bytes places) xs))
      ≡ option_map (set_of s bytes) (option_map (λ (y : Cached). y.manifest) (if b then Some x else find (λ y. same_id y.manifest.desc.which which) xs))
  pick true more = refl
  pick false more = more

offered-set : (c : RunState) (bytes : Contents) (o : Option DataId) → option_map (λ (k : Kept). k.dataset) (option_and_then (the_kept (running bytes c)) o) ≡ option_map (set_of (setup_of c) bytes) (option_and_then (set_in c.kept) o)
offered-set c bytes None = refl
offered-set c bytes (Some which) = found-set (setup_of c) bytes c.places which c.kept

hand-in : (c : RunState) (bytes : Contents) (p : Phase) → dataset_in p (running bytes c) ≡ option_map (set_of (setup_of c) bytes) (hand_in p c)
hand-in c bytes phase.Idle = refl
hand-in c bytes phase.Output = refl
hand-in c bytes phase.Offered = refl
hand-in c bytes phase.Restart = offered-set c bytes c.offer
hand-in c bytes phase.Final = refl

pub hand_is : (c : RunState) (bytes : Contents) → dataset_at_hand (running bytes c) ≡ option_map (set_of (setup_of c) bytes) (at_hand c)
hand_is c bytes = hand-in c bytes c.phase

-- the bytes of a rank's files of it
abbrev pub bytes_in : Contents → Option Manifest → ℕ → ℕ → List ℕ
bytes_in bytes None rank j = []
bytes_in bytes (Some m) rank j = bytes m.desc.which rank j

files-in : (s : Setup) (bytes : Contents) (rank : ℕ) (o : Option Manifest) → unwrap_or (option_map (λ d. files_of d rank) (option_map (set_of s bytes) o)) [] ≡ rank_files (bytes_in bytes o rank) 0 (rows_in o rank)
files-in s bytes rank None = refl
files-in s bytes rank (Some m) = rank_files_are s bytes m rank

pub files_are : (c : RunState) (bytes : Contents) (rank : ℕ) → files_at_hand (running bytes c) rank ≡ rank_files (bytes_in bytes (at_hand c) rank) 0 (rows_at c rank)
files_are c bytes rank = ap (λ (o : Option Dataset). unwrap_or (option_map (λ d. files_of d rank) o) []) (hand_is c bytes) ∙ files-in (setup_of c) bytes rank (at_hand c)

missing : (c : RunState) (bytes : Contents) (rank : ℕ) (name : List ℕ) → is_none (file_at_hand (running bytes c) rank name) ≡ not (is_routed (rows_at c rank) name)
missing c bytes rank name = ap (λ (fs : List File). is_none (file_named fs name)) (files_are c bytes rank) ∙ missing_is (bytes_in bytes (at_hand c) rank) 0 (rows_at c rank) name

many : (c : RunState) (bytes : Contents) (rank : ℕ) → length (files_at_hand (running bytes c) rank) ≡ length (rows_at c rank)
many c bytes rank = ap length (files_are c bytes rank) ∙ length_is (bytes_in bytes (at_hand c) rank) 0 (rows_at c rank)

-- ## The verdict on a rank's own step

misses_is : (c : RunState) (bytes : Contents) (rank : ℕ) (call : Step) → misses_file (running bytes c) rank call ≡ lacks_file c rank call
misses_is c bytes rank (step.Route name) = ap (λ (b : Bool). is_restart c.phase && b) (missing c bytes rank name)
misses_is c bytes rank (step.Write name at content) = missing c bytes rank name
misses_is c bytes rank (step.Read name at len) = missing c bytes rank name
misses_is c bytes rank (step.Start name flags) = refl
misses_is c bytes rank step.Need = refl
misses_is c bytes rank (step.Complete valid) = refl
misses_is c bytes rank step.Have = refl
misses_is c bytes rank step.Restart = refl
misses_is c bytes rank (step.Restarted valid) = refl
misses_is c bytes rank step.Exit = refl
misses_is c bytes rank step.Finalize = refl
misses_is c bytes rank step.End = refl

passes_is : (c : RunState) (bytes : Contents) (rank : ℕ) (call : Step) → passes_limit (running bytes c) rank call ≡ is_over_limit c rank call
passes_is c bytes rank (step.Route name) = ap (λ (b : Bool). is_output c.phase && b && nat_le 16 (length (files_at_hand (running bytes c) rank))) (missing c bytes rank name)
    ∙ ap (λ (n : ℕ). is_output c.phase && not (is_routed (rows_at c rank) name) && nat_le 16 n) (many c bytes rank)
passes_is c bytes rank (step.Write name at content) = refl
passes_is c bytes rank (step.Read name at len) = refl
passes_is c bytes rank (step.Start name flags) = refl
passes_is c bytes rank step.Need = refl
passes_is c bytes rank (step.Complete valid) = refl
passes_is c bytes rank step.Have = refl
passes_is c bytes rank step.Restart = refl
passes_is c bytes rank (step.Restarted valid) = refl
passes_is c bytes rank step.Exit = refl
passes_is c bytes rank step.Finalize = refl
passes_is c bytes rank step.End = refl

pub local_verdict_is : (c : RunState) (bytes : Contents) (rank : ℕ) (call : Step) → local_verdict (running bytes c) rank call ≡ local_verdict_of c rank call
local_verdict_is c bytes rank call =
    ap (λ (b : Bool). or_else (refuse_if (not (allows c.phase call)) (refusal.Phase c.phase)) (or_else (refuse_if (has_bad_name call) refusal.BadName) (or_else (refuse_if b refusal.NoFile) (refuse_if (passes_limit (running bytes c) rank call) refusal.Limit)))) (misses_is c bytes rank call)
    ∙ ap (λ (b : Bool). or_else (refuse_if (not (allows c.phase call)) (refusal.Phase c.phase)) (or_else (refuse_if (has_bad_name call) refusal.BadName) (or_else (refuse_if (lacks_file c rank call) refusal.NoFile) (refuse_if b refusal.Limit)))) (passes_is c bytes rank call)
