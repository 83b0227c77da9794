-- What the calls of a rank's own step say.
use Rattle.std.proofs.Common.{◌≡◌, ◌⊎◌, inl, inr, ℕ, zero, suc, ◌+◌, ◌-◌, ◌<◌, ◌≤◌, Bool, true, false, List, [], ◌∷◌, ◌++◌, length, min, take, drop, Option, Some, None, refl, sym, ap, ◌∙◌, subst, get_or, arith, length-drop}
use Rattle.std.specs.Prelude.{IsTrue, ◌&&◌, ◌||◌, not, nat_lt, nat_le, slice_set, if◌then◌else◌}
use Rattle.std.specs.List.{range_with_len}
use Rattle.std.proofs.lemmas.Bool.Decides.{nat_tests}
use Rattle.std.proofs.lemmas.List.{length-map, set-get_or, drop_min, take_min}
use Rattle.std.proofs.lemmas.List.FromFn.{length-range_with_len}
use Rattle.scr_base.specs.Bytes.{bytes_for}
use Rattle.scr_base.specs.Calls.{or_else, refuse_if, has_bad_name, allows, is_output, is_restart}
use Rattle.scr_base.specs.Fill.{fill_byte, fill_bytes}
use Rattle.scr_base.specs.Words.{is_name}
use Rattle.scr_base.specs.declared.answers.Phase.{Phase}
use Rattle.scr_base.specs.declared.answers.Phase.TheVariants as phase
use Rattle.scr_base.specs.declared.answers.Refusal.{Refusal}
use Rattle.scr_base.specs.declared.answers.Refusal.TheVariants as refusal
use Rattle.scr_base.specs.declared.content.Content.{Content}
use Rattle.scr_base.specs.declared.content.Step.{Step}
use Rattle.scr_base.specs.declared.content.Step.TheVariants as step
use Rattle.filemap.specs.Rows.{IsRows, is_routed, routed, extended, place_of}
use Rattle.filemap.specs.Maps.{rows_of}
use Rattle.filemap.specs.declared.rows.FileRow.{FileRow}
use Rattle.filemap.proofs.RowLaws.{rows_push}
use Rattle.site_state.specs.declared.cache.Manifest.{Manifest}
use Rattle.site_state.specs.declared.run_state.RunState.{RunState}
use Rattle.site_state.specs.Choosing.{local_verdict_of, rows_at, lacks_file, is_over_limit}

-- ## Bytes

pub fill_length : (seed rank len : ℕ) → length (fill_bytes seed rank len) ≡ len
fill_length seed rank len = length-map (range_with_len 0 len) (fill_byte seed rank) ∙ length-range_with_len 0 len

-- what is asked for past the end gives no byte
pub read_within : (xs : List ℕ) (at len : ℕ) → take (min len (length xs - at)) (drop (min at (length xs)) xs) ≡ take len (drop at xs)
read_within xs at len =
    ap (λ (ys : List ℕ). take (min len (length xs - at)) ys) (drop_min at xs)
    ∙ ap (λ (n : ℕ). take (min len n) (drop at xs)) (sym (length-drop at xs))
    ∙ take_min len (drop at xs)

-- ## Rows

extended_name : (rows : List FileRow) (j len k : ℕ) (d : FileRow) → (get_or (extended rows j len) k d).name ≡ (get_or rows k d).name
extended_name [] j len k d = refl
extended_name (r ∷ rs) zero len zero d = refl
extended_name (r ∷ rs) zero len (suc k) d = refl
extended_name (r ∷ rs) (suc j) len zero d = refl
extended_name (r ∷ rs) (suc j) len (suc k) d = extended_name rs j len k d

extended_short : (rows : List FileRow) (j len k : ℕ) (d : FileRow) → len ≤ 1048576 → (get_or rows k d).len ≤ 1048576 → (get_or (extended rows j len) k d).len ≤ 1048576
extended_short [] j len k d few was = was
extended_short (r ∷ rs) zero len zero d few was = grind (arith, few, was)
extended_short (r ∷ rs) zero len (suc k) d few was = was
extended_short (r ∷ rs) (suc j) len zero d few was = was
extended_short (r ∷ rs) (suc j) len (suc k) d few was = extended_short rs j len k d few was

extended_count : (rows : List FileRow) (j len : ℕ) → length (extended rows j len) ≡ length rows
extended_count [] j len = refl
extended_count (r ∷ rs) zero len = refl
extended_count (r ∷ rs) (suc j) len = ap suc (extended_count rs j len)

pub extended_rows : (rows : List FileRow) (j len : ℕ) → len ≤ 1048576 → IsRows rows → IsRows (extended rows j len)
extended_rows rows j len few is = record {
  few = omega (arith, is.few, extended_count rows j len);
  fit = λ k d lt. let old = is.fit k d (omega (arith, lt, extended_count rows j len)) in
      record { named = subst (λ (n : List ℕ). IsTrue (is_name n)) (sym (extended_name rows j len k d)) old.named; short = extended_short rows j len k d few old.short };
  distinct = λ i k d lt below same. is.distinct i k d lt (omega (arith, below, extended_count rows j len)) (sym (extended_name rows j len i d) ∙ same ∙ extended_name rows j len k d);
}

not_below : (a b : ℕ) → nat_lt a b ≡ false → b ≤ a
not_below a b e = grind (arith, nat_tests, e)

is_below : (a b : ℕ) → nat_lt a b ≡ true → a < b
is_below a b e = grind (arith, nat_tests, e)

pub place_there : (rows : List FileRow) (name : List ℕ) → is_routed rows name ≡ true → place_of rows name < length rows
place_there rows name there = is_below (place_of rows name) (length rows) there

-- a new file stands last
pub place_new : (rows : List FileRow) (name : List ℕ) (n : ℕ) → is_routed rows name ≡ false → n ≡ place_of rows name → n ≤ length rows → n ≡ length rows
place_new rows name n new is within = omega (arith, is, within, not_below (place_of rows name) (length rows) new)

pub routed_rows : (rows : List FileRow) (name : List ℕ) → is_routed rows name ≡ false → length rows < 16 → is_name name ≡ true → IsRows rows → IsRows (routed rows name)
routed_rows rows name new room named is =
    let row : FileRow = record { name = name; len = 0 } in
    subst (λ (b : Bool). IsRows (if b then rows else rows ++ row ∷ [])) (sym new)
    (rows_push rows row is room (record { named = named; short = omega arith }) (not_below (place_of rows name) (length rows) new))

-- a file that is there stays as it is
pub routed_there : (m : Manifest) (rank : ℕ) (name : List ℕ) → is_routed (rows_of m.files rank) name ≡ true → slice_set m.files rank (routed (rows_of m.files rank) name) ≡ m.files
routed_there m rank name there =
    ap (λ (b : Bool). slice_set m.files rank (if b then rows_of m.files rank else rows_of m.files rank ++ (let r : FileRow = record { name = name; len = 0 } in r) ∷ [])) there
    ∙ set-get_or m.files rank []

-- ## Nothing speaks against it

none_of : (a b : Option Refusal) → or_else a b ≡ None → (a ≡ None) × (b ≡ None)
none_of None b e = (refl, e)
none_of (Some a) b e = absurd (cc e)

not_refused : (b : Bool) (r : Refusal) → refuse_if b r ≡ None → b ≡ false
not_refused true r e = absurd (cc e)
not_refused false r e = refl

not_not : (b : Bool) → not b ≡ false → b ≡ true
not_not true e = refl
not_not false e = absurd (cc e)

output_is : (p : Phase) → is_output p ≡ true → p ≡ phase.Output
output_is phase.Output e = refl
output_is phase.Idle e = absurd (cc e)
output_is phase.Offered e = absurd (cc e)
output_is phase.Restart e = absurd (cc e)
output_is phase.Final e = absurd (cc e)

restart_is : (p : Phase) → is_restart p ≡ true → p ≡ phase.Restart
restart_is phase.Restart e = refl
restart_is phase.Idle e = absurd (cc e)
restart_is phase.Offered e = absurd (cc e)
restart_is phase.Output e = absurd (cc e)
restart_is phase.Final e = absurd (cc e)

-- what it means that nothing speaks against a step
record IsClear (c : RunState) (rank : ℕ) (call : Step) : Type 0 where
  allowed : allows c.phase call ≡ true
  named : has_bad_name call ≡ false
  there : lacks_file c rank call ≡ false
  within : is_over_limit c rank call ≡ false

clear_is : (c : RunState) (rank : ℕ) (call : Step) → local_verdict_of c rank call ≡ None → IsClear c rank call
clear_is c rank call e =
    let a = none_of (refuse_if (not (allows c.phase call)) (refusal.Phase c.phase)) _ e in
    let b = none_of (refuse_if (has_bad_name call) refusal.BadName) _ a.1 in
    let d = none_of (refuse_if (lacks_file c rank call) refusal.NoFile) _ b.1 in
    record {
      allowed = not_not (allows c.phase call) (not_refused (not (allows c.phase call)) (refusal.Phase c.phase) a.0);
      named = not_refused (has_bad_name call) refusal.BadName b.0;
      there = not_refused (lacks_file c rank call) refusal.NoFile d.0;
      within = not_refused (is_over_limit c rank call) refusal.Limit d.1;
    }

pub record IsClearWrite (c : RunState) (rank : ℕ) (name : List ℕ) (at : ℕ) (content : Content) : Type 0 where
  pub output : c.phase ≡ phase.Output
  pub there : is_routed (rows_at c rank) name ≡ true
  pub short : at + length (bytes_for content rank) ≤ 1048576

pub clear_write : (c : RunState) (rank : ℕ) (name : List ℕ) (at : ℕ) (content : Content) → local_verdict_of c rank (step.Write name at content) ≡ None → IsClearWrite c rank name at content
clear_write c rank name at content e =
    let k = clear_is c rank (step.Write name at content) e in
    record { output = output_is c.phase k.allowed; there = not_not (is_routed (rows_at c rank) name) k.there; short = not_below 1048576 (at + length (bytes_for content rank)) k.within }

pub clear_read : (c : RunState) (rank : ℕ) (name : List ℕ) (at len : ℕ) → local_verdict_of c rank (step.Read name at len) ≡ None → is_routed (rows_at c rank) name ≡ true
clear_read c rank name at len e = not_not (is_routed (rows_at c rank) name) (clear_is c rank (step.Read name at len) e).there

either : (p : Phase) → is_output p || is_restart p ≡ true → (p ≡ phase.Output) ⊎ (p ≡ phase.Restart)
either phase.Output e = inl refl
either phase.Restart e = inr refl
either phase.Idle e = absurd (cc e)
either phase.Offered e = absurd (cc e)
either phase.Final e = absurd (cc e)

pub clear_route : (c : RunState) (rank : ℕ) (name : List ℕ) → local_verdict_of c rank (step.Route name) ≡ None → (c.phase ≡ phase.Output) ⊎ (c.phase ≡ phase.Restart)
clear_route c rank name e = either c.phase (clear_is c rank (step.Route name) e).allowed

pub record IsClearNew (c : RunState) (rank : ℕ) (name : List ℕ) : Type 0 where
  pub output : c.phase ≡ phase.Output
  pub named : is_name name ≡ true
  pub room : length (rows_at c rank) < 16

pub clear_new : (c : RunState) (rank : ℕ) (name : List ℕ) → local_verdict_of c rank (step.Route name) ≡ None → is_routed (rows_at c rank) name ≡ false → IsClearNew c rank name
clear_new c rank name e new =
    let k = clear_is c rank (step.Route name) e in
    let output = first_one c.phase (is_routed (rows_at c rank) name) k.allowed k.there new in
    record {
      output = output;
      named = not_not (is_name name) k.named;
      room = room_for (length (rows_at c rank)) (sym (ap (λ (p : Phase). is_output p && not (is_routed (rows_at c rank) name) && nat_le 16 (length (rows_at c rank))) output ∙ ap (λ (b : Bool). true && not b && nat_le 16 (length (rows_at c rank))) new) ∙ k.within);
    } where
      first_one : (p : Phase) (there : Bool) → is_output p || is_restart p ≡ true → is_restart p && not there ≡ false → there ≡ false → p ≡ phase.Output
      first_one phase.Output there a l n = refl
      first_one phase.Restart true a l n = absurd (cc n)
      first_one phase.Restart false a l n = absurd (cc l)
      first_one phase.Idle there a l n = absurd (cc a)
      first_one phase.Offered there a l n = absurd (cc a)
      first_one phase.Final there a l n = absurd (cc a)

      room_for : (n : ℕ) → nat_le 16 n ≡ false → n < 16
      room_for n e = grind (arith, nat_tests, e)

-- what stands first
pub front_is : (n : ℕ) (xs ys : List ℕ) → n ≡ length xs → take n (xs ++ ys) ≡ xs
front_is n xs ys is = ap (λ (k : ℕ). take k (xs ++ ys)) is ∙ front xs where
  front : (zs : List ℕ) → take (length zs) (zs ++ ys) ≡ zs
  front [] = refl
  front (z ∷ zs) = ap (λ (ws : List ℕ). z ∷ ws) (front zs)
