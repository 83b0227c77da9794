-- Sealing, settling and mending as steps of the machine.
use Rattle.std.proofs.Common.{◌≡◌, ℕ, ◌+◌, ◌<◌, ◌≤◌, Bool, true, false, List, [], ◌∷◌, ◌++◌, map, Option, Some, None, refl, sym, ap, ◌∙◌, arith}
use Rattle.std.specs.Prelude.{not, ◌&&◌, ◌||◌, nat_lt, nat_le, find, option_map, option_and_then, is_none, unwrap_or, if◌then◌else◌}
use Rattle.std.specs.List.{list_all, list_any}
use Rattle.std.proofs.lemmas.Bool.Decides.{nat_tests}
use Rattle.scr_base.specs.Same.{same_id}
use Rattle.scr_base.specs.Calls.{is_complete_call}
use Rattle.scr_base.specs.declared.shape.DataId.{DataId}
use Rattle.scr_base.specs.declared.answers.Refusal.{Refusal}
use Rattle.scr_base.specs.declared.content.Step.{Step}
use Rattle.scr_base.specs.declared.content.Step.TheVariants as step
use Rattle.ckpt_model.specs.declared.event.Event.TheVariants as event
use Rattle.ckpt_model.specs.Dataset.{Dataset, is_checkpoint}
use Rattle.ckpt_model.specs.Machine.{Machine, Setup, Kept, is_sealing, is_mending}
use Rattle.ckpt_model.specs.Questions.{is_id_of}
use Rattle.ckpt_model.specs.Steps.{is_untreated, kept_mended, add_sealing, add_kept, kept_sealing, sealing_dataset, to_be_sealed, is_that, kept_settled, count_checkpoint}
use Rattle.ckpt_model.specs.Runs.{StepsTo}
use Rattle.ckpt_model.proofs.SameLemmas.{id-same}
use Rattle.round_core.specs.Seats.{is_complete, first_call, seat_is_valid}
use Rattle.site_state.specs.declared.cache.Cached.{Cached}
use Rattle.site_state.specs.declared.cache.Manifest.{Manifest}
use Rattle.site_state.specs.declared.cache.Mark.{Mark}
use Rattle.site_state.specs.declared.cache.Mark.TheVariants as mark
use Rattle.site_state.specs.declared.run_state.RunState.{RunState}
use Rattle.site_state.specs.Shown.{Contents, running, setup_of, set_of, kept_of, mends, come_to, settled_if}
use Rattle.site_state.specs.Choosing.{verdict_of, seals, AscendFrom, AreBelow, is_checkpoint_one, count_one}
use Rattle.site_state.proofs.Ranks.{map-map, any-map, all-map, first_is}
use Rattle.site_state.proofs.Gates.{both, round_is}
use Rattle.site_state.proofs.Rounds.{verdict_is, all_valid_is}

-- ## One dataset changes

module _ (s : Setup) (bytes : Contents) (places : List ℕ) (which : DataId) (f : Kept → Kept) (same : (x : Cached) → f (kept_of s bytes places x) ≡ kept_of s bytes places (come_to mark.Settled x)) where
  change-one : (x : Cached) → (if is_id_of which (kept_of s bytes places x) then f (kept_of s bytes places x) else kept_of s bytes places x) ≡ kept_of s bytes places (settled_if which x)
  change-one x = pick (same_id x.manifest.desc.which which) where
    pick : (b : Bool) → (if b then f (kept_of s bytes places x) else kept_of s bytes places x) ≡ kept_of s bytes places (if b then come_to mark.Settled x else x)
    pick true = same x
    pick false = refl

  pub changed : (xs : List Cached) → map (λ k. if is_id_of which k then f k else k) (map (kept_of s bytes places) xs) ≡ map (kept_of s bytes places) (map (settled_if which) xs)
  changed xs =
      map-map (λ k. if is_id_of which k then f k else k) (kept_of s bytes places) (λ (x : Cached). kept_of s bytes places (settled_if which x)) change-one xs
      ∙ sym (map-map (kept_of s bytes places) (settled_if which) (λ (x : Cached). kept_of s bytes places (settled_if which x)) (λ x. refl) xs)

-- ## Mending

waits_at : ℕ → Cached → Bool
waits_at n x = not (mends x) || nat_le n x.manifest.desc.which.id

or-true : (a b : Bool) → b ≡ true → a || b ≡ true
or-true true b e = refl
or-true false b e = e

later-wait : (n low : ℕ) (xs : List Cached) → n ≤ low → AscendFrom low xs → list_all (λ (x : Cached). not (mends x) || nat_le n x.manifest.desc.which.id) xs ≡ true
later-wait n low [] le rise = refl
later-wait n low (x ∷ xs) le rise =
    both _ _ (or-true (not (mends x)) _ (grind (arith, nat_tests, le, rise.0))) (later-wait n (x.manifest.desc.which.id + 1) xs (omega (arith, le, rise.0)) rise.1)

some-same : (x y : Cached) → Some x ≡ Some y → x ≡ y
some-same x y e = cc

next-waits : (low : ℕ) (xs : List Cached) (x : Cached) → find mends xs ≡ Some x → AscendFrom low xs → list_all (λ (y : Cached). not (mends y) || nat_le x.manifest.desc.which.id y.manifest.desc.which.id) xs ≡ true
next-waits low [] x e rise = refl
next-waits low (y ∷ ys) x e rise = pick (mends y) refl e (λ f. next-waits (y.manifest.desc.which.id + 1) ys x f rise.1) where
  pick : (b : Bool) → mends y ≡ b → (if b then Some y else find mends ys) ≡ Some x → (find mends ys ≡ Some x → list_all (λ (y : Cached). not (mends y) || nat_le x.manifest.desc.which.id y.manifest.desc.which.id) ys ≡ true)
      → list_all (λ (y : Cached). not (mends y) || nat_le x.manifest.desc.which.id y.manifest.desc.which.id) (y ∷ ys) ≡ true
  pick true m is more =
      let same : y.manifest.desc.which.id ≡ x.manifest.desc.which.id = ap (λ (z : Cached). z.manifest.desc.which.id) (some-same y x is) in
      both _ _ (or-true (not (mends y)) _ (grind (arith, nat_tests, same))) (later-wait x.manifest.desc.which.id (y.manifest.desc.which.id + 1) ys (omega (arith, same)) rise.1)
  pick false m is more = both _ _ (ap (λ (b : Bool). not b || nat_le x.manifest.desc.which.id y.manifest.desc.which.id) m) (more is)

found-mends : (xs : List Cached) (x : Cached) → find mends xs ≡ Some x → list_any (λ (y : Cached). same_id y.manifest.desc.which x.manifest.desc.which && mends y) xs ≡ true
found-mends [] x e = absurd (cc e)
found-mends (y ∷ ys) x e = pick (mends y) refl e (found-mends ys x) where
  pick : (b : Bool) → mends y ≡ b → (if b then Some y else find mends ys) ≡ Some x → (find mends ys ≡ Some x → list_any (λ (y : Cached). same_id y.manifest.desc.which x.manifest.desc.which && mends y) ys ≡ true)
      → list_any (λ (y : Cached). same_id y.manifest.desc.which x.manifest.desc.which && mends y) (y ∷ ys) ≡ true
  pick true m is more = ap (λ (b : Bool). b || list_any (λ (y : Cached). same_id y.manifest.desc.which x.manifest.desc.which && mends y) ys) (both _ _ (ap (λ (z : Cached). same_id y.manifest.desc.which z.manifest.desc.which) (sym (some-same y x is)) ∙ id-same y.manifest.desc.which) m)
  pick false m is more = or-true (same_id y.manifest.desc.which x.manifest.desc.which && mends y) _ (more is)

mending_mark : (m : Mark) → is_mending (Rattle.site_state.specs.Shown.marked m) ≡ Rattle.site_state.specs.Shown.is_to_mend m
mending_mark mark.Mending = refl
mending_mark mark.Sealing = refl
mending_mark mark.Settled = refl

untreated_mark : (m : Mark) → is_untreated (Rattle.site_state.specs.Shown.marked m) ≡ Rattle.site_state.specs.Shown.is_to_mend m
untreated_mark mark.Mending = refl
untreated_mark mark.Sealing = refl
untreated_mark mark.Settled = refl

pub mended : (c : RunState) (bytes : Contents) (x : Cached) → find mends c.kept ≡ Some x → AscendFrom 0 c.kept
    → StepsTo (setup_of c) (running bytes c) (event.Mended x.manifest.desc.which) (running bytes (record c { kept = map (settled_if x.manifest.desc.which) c.kept }))
mended c bytes x first rise =
    let s = setup_of c in
    let which = x.manifest.desc.which in (
      both _ _
          (any-map (λ (k : Kept). is_id_of which k && is_mending k.mark) (kept_of s bytes c.places) (λ (y : Cached). same_id y.manifest.desc.which which && mends y) (λ y. ap (λ (b : Bool). same_id y.manifest.desc.which which && b) (mending_mark y.mark)) c.kept ∙ found-mends c.kept x first)
          (all-map (λ (k : Kept). not (is_untreated k.mark) || nat_le which.id k.dataset.which.id) (kept_of s bytes c.places) (λ (y : Cached). not (mends y) || nat_le which.id y.manifest.desc.which.id) (λ y. ap (λ (b : Bool). not b || nat_le which.id y.manifest.desc.which.id) (untreated_mark y.mark)) c.kept ∙ next-waits 0 c.kept x first rise),
      ap (λ (ks : List Kept). let m : Machine = running bytes c in record m { kept = ks }) (sym (changed s bytes c.places which (kept_mended c.places) (λ y. refl) c.kept)),
    )

-- ## Sealing

is_less : (a b : ℕ) → a < b → nat_lt a b ≡ true
is_less a b lt = grind (arith, nat_tests, lt)

add-last : (k : Kept) (s : Setup) (bytes : Contents) (places : List ℕ) (xs : List Cached) → AreBelow k.dataset.which.id xs → add_kept k (map (kept_of s bytes places) xs) ≡ map (kept_of s bytes places) xs ++ k ∷ []
add-last k s bytes places [] below = refl
add-last k s bytes places (x ∷ xs) below =
    ap (λ (b : Bool). if b then kept_of s bytes places x ∷ add_kept k (map (kept_of s bytes places) xs) else k ∷ kept_of s bytes places x ∷ map (kept_of s bytes places) xs) (is_less x.manifest.desc.which.id k.dataset.which.id below.0)
    ∙ ap (λ (ks : List Kept). kept_of s bytes places x ∷ ks) (add-last k s bytes places xs below.1)

map-push : (g : Cached → Kept) (xs : List Cached) (x : Cached) → map g (xs ++ x ∷ []) ≡ map g xs ++ g x ∷ []
map-push g [] x = refl
map-push g (y ∷ ys) x = ap (λ (ks : List Kept). g y ∷ ks) (map-push g ys x)

pub sealing : (c : RunState) (bytes : Contents) (valid : Bool) (m : Manifest) → is_complete c.ranks ≡ true → first_call c.ranks ≡ Some (step.Complete valid) → verdict_of c (step.Complete valid) ≡ None → list_all seat_is_valid c.ranks ≡ true
    → c.opened ≡ Some m → AreBelow m.desc.which.id c.kept
    → StepsTo (setup_of c) (running bytes c) (event.Sealing m.desc.which) (running bytes (record c { opened = None; kept = c.kept ++ (record { manifest = m; mark = mark.Sealing }) ∷ [] }))
sealing c bytes valid m complete first clear all opened below =
    let s = setup_of c in
    let call = step.Complete valid in
    let d = set_of s bytes m in
    let chosen : sealing_dataset s (running bytes c) ≡ Some d =
    ap (λ (o : Option Step). option_and_then (to_be_sealed s (running bytes c)) o) (first_is c.ranks ∙ first)
    ∙ ap (λ (b : Bool). if b then option_map (set_of s bytes) c.opened else None) (all_valid_is c bytes ∙ all)
    ∙ ap (λ (o : Option Manifest). option_map (set_of s bytes) o) opened in (
      both _ _ (both _ _ (round_is c bytes ∙ complete) (ap (λ (v : Option Refusal). is_none v) (verdict_is c bytes call first ∙ clear)))
          (ap (λ (o : Option Dataset). is_that (option_map (λ d. d.which) o) m.desc.which) chosen ∙ id-same m.desc.which),
      sym (ap (λ (o : Option Dataset). unwrap_or (option_map (add_sealing (running bytes c)) o) (running bytes c)) chosen
          ∙ ap (λ (ks : List Kept). let x : Machine = running bytes c in record x { kept = ks; open_dataset = None })
          (add-last (kept_sealing c.places d) s bytes c.places c.kept below ∙ sym (map-push (kept_of s bytes c.places) c.kept (record { manifest = m; mark = mark.Sealing })))),
    )

sealing_mark : (m : Mark) → is_sealing (Rattle.site_state.specs.Shown.marked m) ≡ Rattle.site_state.specs.Choosing.is_being_sealed m
sealing_mark mark.Mending = refl
sealing_mark mark.Sealing = refl
sealing_mark mark.Settled = refl

pub settles : (c : RunState) (bytes : Contents) (valid : Bool) (which : DataId) → is_complete c.ranks ≡ true → first_call c.ranks ≡ Some (step.Complete valid)
    → list_any (λ (y : Cached). same_id y.manifest.desc.which which && seals y) c.kept ≡ true
    → StepsTo (setup_of c) (running bytes c) (event.Settled which) (running bytes (record c { kept = map (settled_if which) c.kept; settled = c.settled + count_one which c.kept }))
settles c bytes valid which complete first sealed =
    let s = setup_of c in (
      both _ _ (both _ _ (round_is c bytes ∙ complete) (ap (λ (o : Option Step). unwrap_or (option_map is_complete_call o) false) (first_is c.ranks ∙ first)))
          (any-map (λ (k : Kept). is_id_of which k && is_sealing k.mark) (kept_of s bytes c.places) (λ (y : Cached). same_id y.manifest.desc.which which && seals y) (λ y. ap (λ (b : Bool). same_id y.manifest.desc.which which && b) (sealing_mark y.mark)) c.kept ∙ sealed),
      sym (ap (λ (ks : List Kept). let m : Machine = running bytes c in record m { kept = ks; done = c.settled + count_checkpoint (running bytes c) which }) (changed s bytes c.places which kept_settled (λ y. refl) c.kept)
          ∙ ap (λ (b : Bool). let m : Machine = running bytes c in record m { kept = map (kept_of s bytes c.places) (map (settled_if which) c.kept); done = c.settled + (if b then 1 else 0) })
          (any-map (λ (k : Kept). is_id_of which k && is_checkpoint k.dataset) (kept_of s bytes c.places) (is_checkpoint_one which) (λ y. refl) c.kept)),
    )
