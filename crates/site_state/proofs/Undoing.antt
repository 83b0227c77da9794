-- A file that was routed, and is taken back.
use Rattle.std.proofs.Common.{◌≡◌, ◌-◌, ◌+◌, ◌<◌, ◌≤◌, ℕ, zero, suc, false, true, Bool, List, [], ◌∷◌, ◌++◌, length, take, get_or, set, Option, Some, None, refl, sym, ap, ◌∙◌, subst, arith, length-append, cond}
use Rattle.std.specs.Prelude.{slice_set, option_map}
use Rattle.std.proofs.Math.Seq.{take-append_seam}
use Rattle.std.proofs.lemmas.List.{set-get_or, get_or-set_same}
use Rattle.filemap.specs.Rows.{routed, unrouted, is_routed}
use Rattle.filemap.specs.Maps.{rows_of}
use Rattle.filemap.specs.declared.rows.FileRow.{FileRow}
use Rattle.site_state.specs.declared.cache.Manifest.{Manifest}
use Rattle.site_state.specs.declared.run_state.RunState.{RunState}
use Rattle.site_state.specs.Choosing.{at_hand, rows_at, rows_in}
use Rattle.site_state.specs.Cores.{with_rows, unrouted_core}

set_again : {A : Type 0} (xs : List A) (i : ℕ) (a b : A) → set (set xs i a) i b ≡ set xs i b
set_again [] i a b = refl
set_again (x ∷ xs) zero a b = refl
set_again (x ∷ xs) (suc i) a b = ap (λ (l : List _). x ∷ l) (set_again xs i a b)

last_off : (rows : List FileRow) (row : FileRow) → unrouted (rows ++ row ∷ []) ≡ rows
last_off rows row = ap (λ (n : ℕ). take n (rows ++ row ∷ [])) (let one : length (rows ++ row ∷ []) - 1 ≡ length rows = omega (arith, length-append rows (row ∷ [])) in one) ∙ take-append_seam rows (row ∷ [])

new_off : (rows : List FileRow) (name : List ℕ) → is_routed rows name ≡ false → unrouted (routed rows name) ≡ rows
new_off rows name new = ap (λ (b : Bool). unrouted (cond b rows (rows ++ record { name = name; len = 0 } ∷ []))) new ∙ last_off rows (record { name = name; len = 0 })

-- a new file of a rank is taken back
pub taken_back : (c : RunState) (m : Manifest) (rank : ℕ) (name : List ℕ) → c.opened ≡ Some m → rank < length m.files → is_routed (rows_of m.files rank) name ≡ false
    → unrouted_core (record c { opened = Some (with_rows m rank (routed (rows_of m.files rank) name)) }) rank ≡ c
taken_back c m rank name opened within new =
    let old = rows_of m.files rank in
    let later = slice_set m.files rank (routed old name) in
    let row : unrouted (rows_of later rank) ≡ old = ap unrouted (get_or-set_same m.files rank (routed old name) [] within) ∙ new_off old name new in
    let files : slice_set later rank (unrouted (rows_of later rank)) ≡ m.files = ap (λ (r : List FileRow). slice_set later rank r) row ∙ set_again m.files rank (routed old name) old ∙ set-get_or m.files rank [] in
    ap (λ (f : List (List FileRow)). record c { opened = Some (record m { files = f }) }) files ∙ ap (λ (o : Option Manifest). record c { opened = o }) (sym opened)

-- what the run's memory was before a file was routed, it is again
pub routed_back : (c route back : RunState) (m : Manifest) (rank : ℕ) (name word : List ℕ) → c.opened ≡ Some m → at_hand c ≡ Some m → rank < length m.files → is_routed (rows_at c rank) word ≡ false → name ≡ word
    → route ≡ record c { opened = Some (with_rows m rank (routed (rows_of m.files rank) name)) } → back ≡ unrouted_core route rank → back ≡ c
routed_back c route back m rank name word opened hand within new same routed_is back_is =
    let fresh : is_routed (rows_of m.files rank) name ≡ false = ap (λ (w : List ℕ). is_routed (rows_of m.files rank) w) same ∙ ap (λ (o : Option Manifest). is_routed (rows_in o rank) word) (sym hand) ∙ new in
    back_is ∙ ap (λ (x : RunState). unrouted_core x rank) routed_is ∙ taken_back c m rank name opened within fresh
