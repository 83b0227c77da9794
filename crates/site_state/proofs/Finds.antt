-- Beginning a run, and what a look finds where nothing was lost.
use Rattle.std.proofs.Common.{◌≡◌, ℕ, suc, ◌+◌, Bool, true, false, List, [], ◌∷◌, map, length, Option, Some, None, refl, sym, ap, ◌∙◌, subst, arith}
use Rattle.std.specs.Prelude.{not, ◌||◌, ◌==◌, bytes_eq, nat_lt, filter, fold, max, option_map, is_some, unwrap_or, slice_index, if◌then◌else◌}
use Rattle.std.proofs.lemmas.Bool.Decides.{nat_tests}
use Rattle.scr_base.specs.Sets.{is_among, numbers_below}
use Rattle.ckpt_model.specs.declared.event.Event.TheVariants as event
use Rattle.ckpt_model.specs.declared.event.FoundRow.{FoundRow}
use Rattle.ckpt_model.specs.Dataset.{bears}
use Rattle.ckpt_model.specs.Machine.{Machine, Setup, Kept, MemberState, Mark as Marked}
use Rattle.ckpt_model.specs.Loss.{kept_without, kept_without_all, member_without, looked, may_find, may_miss, are_nodes, kept_found, map_members, member_found, kept_taken_up, member_mending, lost_nodes, has_no_home}
use Rattle.ckpt_model.specs.Steps.{members_at, outside, kept_after_look, largest_id, physical_count}
use Rattle.ckpt_model.specs.Runs.{StepsTo}
use Rattle.ckpt_model.proofs.SameLemmas.{number-same, id-same}
use Rattle.site_state.specs.declared.cache.Cached.{Cached}
use Rattle.site_state.specs.declared.cache.Mark.TheVariants as mark
use Rattle.site_state.specs.declared.run_state.RunState.{RunState}
use Rattle.site_state.specs.Shown.{Contents, setup_of, kept_of, come_to, begun, row_of, greatest_id}
use Rattle.site_state.proofs.Ranks.{map-map}
use Rattle.site_state.proofs.Gates.{both}
use Rattle.site_state.proofs.Best.{none_homeless, bears_nothing_lost}

-- ## Nothing is lost with a node outside

or-false : (a b : Bool) → a || b ≡ false → (a ≡ false) × (b ≡ false)
or-false true b e = absurd (cc e)
or-false false b e = (refl, e)

members-without : (p : ℕ) (places : List ℕ) → is_among p places ≡ false → map (member_without p) (members_at places) ≡ members_at places
members-without p [] e = refl
members-without p (q ∷ places) e =
    let parts = or-false (q == p) (is_among p places) e in
    rw (parts.0, members-without p places parts.1) refl

kept-without : (s : Setup) (bytes : Contents) (places : List ℕ) (x : Cached) (p : ℕ) → is_among p places ≡ false → kept_without p (kept_of s bytes places x) ≡ kept_of s bytes places x
kept-without s bytes places x p e = ap (λ (ms : List MemberState). let k : Kept = kept_of s bytes places x in record k { members = ms }) (members-without p places e)

without-all : (s : Setup) (bytes : Contents) (places : List ℕ) (x : Cached) (ps : List ℕ) → fold (λ kept p. kept_without p kept) (kept_of s bytes places x) (filter (λ p. not (is_among p places)) ps) ≡ kept_of s bytes places x
without-all s bytes places x [] = refl
without-all s bytes places x (p ∷ ps) = pick (is_among p places) refl (without-all s bytes places x ps) where
  pick : (b : Bool) → is_among p places ≡ b → fold (λ kept p. kept_without p kept) (kept_of s bytes places x) (filter (λ p. not (is_among p places)) ps) ≡ kept_of s bytes places x
      → fold (λ kept p. kept_without p kept) (kept_of s bytes places x) (if not b then p ∷ filter (λ p. not (is_among p places)) ps else filter (λ p. not (is_among p places)) ps) ≡ kept_of s bytes places x
  pick true e more = more
  pick false e more = ap (λ (k : Kept). fold (λ kept p. kept_without p kept) k (filter (λ p. not (is_among p places)) ps)) (kept-without s bytes places x p e) ∙ more

-- ## The look

none_among : (ns : List ℕ) → filter (λ i. is_among i []) ns ≡ []
none_among [] = refl
none_among (n ∷ ns) = none_among ns

none_missed : (places : List ℕ) (node : ℕ) → may_miss [] node (members_at places) ≡ true
none_missed [] node = refl
none_missed (p ∷ places) node = none_missed places (node + 1)

found-all : (places : List ℕ) (node : ℕ) → map_members (member_found []) node (members_at places) ≡ members_at places
found-all [] node = refl
found-all (p ∷ places) node = ap (λ (ms : List MemberState). (let m : MemberState = record { homes = p ∷ []; unsure = false } in m) ∷ ms) (found-all places (node + 1))

found-one : (s : Setup) (bytes : Contents) (p : ℕ) (places : List ℕ) (x : Cached) → may_find [] (kept_of s bytes (p ∷ places) x) ≡ true
found-one s bytes p places x =
    both _ _ (both _ _ (ap (bytes_eq []) (none_among (numbers_below (length (members_at (p ∷ places)))))) (below (length (members_at places)))) (none_missed (p ∷ places) 0) where
      below : (n : ℕ) → nat_lt 0 (suc n) ≡ true
      below n = grind (arith, nat_tests)

look-finds : (s : Setup) (bytes : Contents) (p : ℕ) (places : List ℕ) (xs : List Cached) → looked (map row_of xs) (map (kept_of s bytes (p ∷ places)) xs) ≡ Some (map (kept_of s bytes (p ∷ places)) xs)
look-finds s bytes p places [] = refl
look-finds s bytes p places (x ∷ xs) =
    ap (λ (b : Bool). if b then (if may_find [] (kept_of s bytes (p ∷ places) x) then option_map (λ found. kept_found [] (kept_of s bytes (p ∷ places) x) ∷ found) (looked (map row_of xs) (map (kept_of s bytes (p ∷ places)) xs)) else None)
    else (if Rattle.ckpt_model.specs.Loss.may_leave (kept_of s bytes (p ∷ places) x) then looked (row_of x ∷ map row_of xs) (map (kept_of s bytes (p ∷ places)) xs) else None)) (id-same x.manifest.desc.which)
    ∙ ap (λ (b : Bool). if b then option_map (λ found. kept_found [] (kept_of s bytes (p ∷ places) x) ∷ found) (looked (map row_of xs) (map (kept_of s bytes (p ∷ places)) xs)) else None) (found-one s bytes p places x)
    ∙ ap (λ (o : Option (List Kept)). option_map (λ found. kept_found [] (kept_of s bytes (p ∷ places) x) ∷ found) o) (look-finds s bytes p places xs)
    ∙ ap (λ (ms : List MemberState). Some ((let k : Kept = kept_of s bytes (p ∷ places) x in record k { members = ms }) ∷ map (kept_of s bytes (p ∷ places)) xs)) (found-all (p ∷ places) 0)

-- ## Taken up

among-self : (p : ℕ) → is_among p (p ∷ []) ≡ true
among-self p = rw (number-same p) refl

taken-up : (places rest : List ℕ) (node : ℕ) → ((i : ℕ) → slice_index places (node + i) ≡ slice_index rest i) → map_members (member_mending places []) node (members_at rest) ≡ members_at rest
taken-up places [] node same = refl
taken-up places (p ∷ rest) node same =
    let here : slice_index places node ≡ p = ap (slice_index places) (let e : node ≡ node + 0 = omega arith in e) ∙ same 0 in
    let head : member_mending places [] node (record { homes = p ∷ []; unsure = false }) ≡ record { homes = p ∷ []; unsure = false } = rw (here, among-self p) refl in
    ap (λ (m : MemberState). m ∷ map_members (member_mending places []) (node + 1) (members_at rest)) head
    ∙ ap (λ (ms : List MemberState). (let m : MemberState = record { homes = p ∷ []; unsure = false } in m) ∷ ms)
    (taken-up places rest (node + 1) (λ i. ap (slice_index places) (let e : (node + 1) + i ≡ node + suc i = omega arith in e) ∙ same (suc i)))

-- settled, as the run before left it
abbrev pub is_settled_set : Cached → Bool
is_settled_set set = Rattle.site_state.specs.Choosing.is_at_rest set.mark

taken-one : (s : Setup) (bytes : Contents) (places : List ℕ) (x : Cached) → kept_taken_up places (kept_of s bytes places (come_to mark.Settled x)) ≡ kept_of s bytes places (come_to mark.Mending x)
taken-one s bytes places x =
    let k = kept_of s bytes places (come_to mark.Settled x) in
    ap (λ (b : Bool). if b then record k { mark = Marked.Mending; members = map_members (member_mending places (lost_nodes k)) 0 k.members } else record k { mark = Marked.Condemned })
    (ap (bears k.dataset) (none_homeless places 0) ∙ bears_nothing_lost k.dataset)
    ∙ ap (λ (lost : List ℕ). record k { mark = Marked.Mending; members = map_members (member_mending places lost) 0 k.members }) (none_homeless places 0)
    ∙ ap (λ (ms : List MemberState). record k { mark = Marked.Mending; members = ms }) (taken-up places places 0 (λ i. ap (slice_index places) (let e : 0 + i ≡ i = omega arith in e)))

greatest-is : (s : Setup) (bytes : Contents) (places : List ℕ) (xs : List Cached) (n : ℕ) → fold (λ n k. max n k.dataset.which.id) n (map (kept_of s bytes places) (map (come_to mark.Mending) xs)) ≡ fold (λ n (set : Cached). max n set.manifest.desc.which.id) n xs
greatest-is s bytes places [] n = refl
greatest-is s bytes places (x ∷ xs) n = greatest-is s bytes places xs (max n x.manifest.desc.which.id)

-- a run finds what the one before settled, each of it whole
pub finds : (c : RunState) (bytes : Contents) (p : ℕ) (places : List ℕ) (next : ℕ) (xs : List Cached) → c.places ≡ p ∷ places
    → StepsTo (setup_of c) (begun c next (map (kept_of (setup_of c) bytes c.places) (map (come_to mark.Settled) xs))) (event.Found (map row_of xs) [])
    (let m : Machine = begun c next (map (kept_of (setup_of c) bytes c.places) (map (come_to mark.Mending) xs)) in record m { stage = Rattle.ckpt_model.specs.Machine.Stage.Running; next = greatest_id xs + 1 })
finds c bytes p places next xs is =
    let s = setup_of c in
    let old = map (kept_of s bytes c.places) (map (come_to mark.Settled) xs) in
    let new = map (kept_of s bytes c.places) (map (come_to mark.Mending) xs) in
    let m = begun c next old in
    let gone : map (kept_without_all (outside s m)) old ≡ old =
    map-map (kept_without_all (outside s m)) (kept_of s bytes c.places) (kept_of s bytes c.places) (λ x. without-all s bytes c.places x (numbers_below (physical_count s))) (map (come_to mark.Settled) xs) in
    let rows : map row_of xs ≡ map row_of (map (come_to mark.Settled) xs) = sym (map-map row_of (come_to mark.Settled) row_of (λ x. refl) xs) in
    let look : kept_after_look s m (map row_of xs) ≡ Some old =
    ap (λ (ks : List Kept). looked (map row_of xs) ks) gone
    ∙ ap (λ (rs : List FoundRow). looked rs old) rows
    ∙ subst (λ (ps : List ℕ). looked (map row_of (map (come_to mark.Settled) xs)) (map (kept_of s bytes ps) (map (come_to mark.Settled) xs)) ≡ Some (map (kept_of s bytes ps) (map (come_to mark.Settled) xs))) (sym is) (look-finds s bytes p places (map (come_to mark.Settled) xs)) in
    let taken : map (kept_taken_up c.places) old ≡ new =
    map-map (kept_taken_up c.places) (kept_of s bytes c.places) (λ x. kept_taken_up c.places (kept_of s bytes c.places x)) (λ x. refl) (map (come_to mark.Settled) xs)
    ∙ map-map (λ (x : Cached). kept_taken_up c.places (kept_of s bytes c.places x)) (come_to mark.Settled) (λ (x : Cached). kept_of s bytes c.places (come_to mark.Mending x)) (λ x. taken-one s bytes c.places x) xs
    ∙ sym (map-map (kept_of s bytes c.places) (come_to mark.Mending) (λ (x : Cached). kept_of s bytes c.places (come_to mark.Mending x)) (λ x. refl) xs) in (
      both _ _ (both _ _ refl (ap is_some look)) refl,
      sym (ap (λ (o : Option (List Kept)). let kept = map (kept_taken_up c.places) (unwrap_or o []) in record m { stage = Rattle.ckpt_model.specs.Machine.Stage.Running; kept = kept; next = largest_id kept [] + 1 }) look
          ∙ ap (λ (ks : List Kept). record m { stage = Rattle.ckpt_model.specs.Machine.Stage.Running; kept = ks; next = largest_id ks [] + 1 }) taken
          ∙ ap (λ (n : ℕ). record m { stage = Rattle.ckpt_model.specs.Machine.Stage.Running; kept = new; next = max n 0 + 1 }) (greatest-is s bytes c.places xs 0)
          ∙ ap (λ (n : ℕ). record m { stage = Rattle.ckpt_model.specs.Machine.Stage.Running; kept = new; next = n + 1 }) (let e : max (greatest_id xs) 0 ≡ greatest_id xs = omega arith in e)),
    )
