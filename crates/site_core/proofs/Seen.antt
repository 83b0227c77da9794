-- What recovery makes of the members of a node.
use Rattle.std.proofs.Common.{◌≡◌, ℕ, suc, ◌+◌, ◌<◌, Bool, true, false, List, [], ◌∷◌, ◌++◌, length, map, filter, Option, Some, None, option_map, refl, sym, ap, ◌∙◌, subst, slice_get, max, fold, arith}
use Rattle.std.specs.Prelude.{find, if◌then◌else◌}
use Rattle.std.specs.List.{list_any}
use Rattle.std.proofs.lemmas.Option.{slice_get_within, get_or_from_slice_get}
use Rattle.std.proofs.lemmas.List.FromFn.{length-range_with_len}
use Rattle.scr_base.specs.declared.content.Step.{Step}
use Rattle.node_device.specs.DeviceState.{DeviceState}
use Rattle.member_store.specs.Members.{AreMembers}
use Rattle.member_store.specs.declared.member.Member.{Member}
use Rattle.ckpt_model.specs.declared.event.Event.{Event}
use Rattle.ckpt_model.specs.declared.event.Event.TheVariants as event
use Rattle.ckpt_model.specs.declared.event.FoundRow.{FoundRow}
use Rattle.ckpt_model.specs.Machine.{Machine}
use Rattle.site_state.specs.declared.cache.Cached.{Cached}
use Rattle.site_state.specs.declared.cache.Manifest.{Manifest}
use Rattle.site_state.specs.declared.run_state.RunState.{RunState}
use Rattle.site_state.specs.declared.run_state.RunStage.TheVariants as stage
use Rattle.site_state.specs.Shown.{setup_of, mends, row_of, settled_if}
use Rattle.site_state.specs.Cores.{recovered, seen_core}
use Rattle.site_state.specs.Looks.{is_standing, found_member}
use Rattle.site_core.specs.Holds.{Leads, settled_set}
use Rattle.site_core.proofs.Puts.{place_is}
use Rattle.site_state.proofs.Ranks.{map-map}
use Rattle.site_core.proofs.Recovering.{found_set, looking, found, mends_one, serves_now}
use Rattle.site_core.proofs.Scanned.{manifest_of, scanned, is_standing_one}

-- recovery is over once nothing is left to look after
pub recovers : (first : Machine) (c : RunState) (programs : List (List Step)) (states : ℕ → DeviceState) (events : List Event) → c.stage ≡ stage.Mending → Leads first c programs states events → Leads first (recovered c) programs states events
recovers first c programs states events at leads = pick (list_any mends c.kept) refl where
  pick : (b : Bool) → list_any mends c.kept ≡ b → Leads first (if b then c else record c { stage = stage.Serving }) programs states events
  pick true e = leads
  pick false e = serves_now first c programs states events at e leads

-- ## A dataset is looked after

found_one : {X Y : Type 0} (f : X → Y) (o : Option X) (y : Y) → option_map f o ≡ Some y → (x : X) × (o ≡ Some x) × (f x ≡ y)
found_one f None y e = absurd (cc e)
found_one {Y = Y} f (Some x) y e = (x, refl, same (f x) y e) where
  same : (a b : Y) → Some a ≡ Some b → a ≡ b
  same a b e = cc

pub mended : (first : Machine) (c : RunState) (programs : List (List Step)) (states : ℕ → DeviceState) (events events' : List Event) (which : Rattle.scr_base.specs.declared.shape.DataId.DataId) → c.stage ≡ stage.Mending
    → option_map (λ (set : Cached). set.manifest.desc.which) (find mends c.kept) ≡ Some which → events' ≡ events ++ event.Mended which ∷ [] → Leads first c programs states events
    → Leads first (recovered (record c { kept = map (settled_if which) c.kept })) programs states events'
mended first c programs states events events' which at next more leads =
    let x = found_one (λ (set : Cached). set.manifest.desc.which) (find mends c.kept) which next in
    let l = mends_one first c programs states events events' x.0 at x.1 leads (more ∙ ap (λ (w : Rattle.scr_base.specs.declared.shape.DataId.DataId). events ++ event.Mended w ∷ []) (sym x.2)) in
    let m = subst (λ (w : Rattle.scr_base.specs.declared.shape.DataId.DataId). Leads first (record c { kept = map (settled_if w) c.kept }) programs states events') x.2 l in
    recovers first (record c { kept = map (settled_if which) c.kept }) programs states events' at m

-- ## The members

filter_all : {X : Type 0} (test : X → Bool) (xs : List X) → ((i : ℕ) (x : X) → slice_get xs i ≡ Some x → test x ≡ true) → filter test xs ≡ xs
filter_all test [] all = refl
filter_all {X} test (x ∷ xs) all = ap (λ (b : Bool). if b then x ∷ filter test xs else filter test xs) (all 0 x refl) ∙ ap (λ (ys : List X). x ∷ ys) (filter_all test xs (λ i y at. all (suc i) y at))

greatest_same : (sets : List Manifest) (n : ℕ) → fold (λ k (set : Cached). max k set.manifest.desc.which.id) n (map found_set sets) ≡ fold (λ k (set : Cached). max k set.manifest.desc.which.id) n (map settled_set sets)
greatest_same [] n = refl
greatest_same (m ∷ ms) n = greatest_same ms (max n m.desc.which.id)

rows_same : (sets : List Manifest) → map row_of (map found_set sets) ≡ map row_of (map settled_set sets)
rows_same sets = map-map row_of found_set (λ m. row_of (settled_set m)) (λ m. refl) sets ∙ sym (map-map row_of settled_set (λ m. row_of (settled_set m)) (λ m. refl) sets)

-- the run with what it found
pub seen : (first : Machine) (c : RunState) (programs : List (List Step)) (states : ℕ → DeviceState) (events events' : List Event) (place : ℕ) (members : List Member) (kept : List Cached) → c.stage ≡ stage.Looking → slice_get c.places 0 ≡ Some place
    → AreMembers c.shape (states place) members → kept ≡ map found_member (filter is_standing members) → events' ≡ events ++ event.Found (map row_of kept) [] ∷ [] → Leads first c programs states events
    → Leads first (recovered (seen_core c kept)) programs states events'
seen first c programs states events events' place members kept at home are kept_by more leads =
    let look = looking c.stage c states leads.state at leads.holds in
    let sets = look.sets in
    let some : 0 < c.shape.nodes = omega (arith, slice_get_within c.places 0 place home, ap length look.fresh.places, length-range_with_len 0 c.shape.nodes) in
    let low : place < c.shape.nodes = omega (arith, some, get_or_from_slice_get c.places 0 place 0 home, place_is c.shape c.places 0 look.fresh.places some) in
    let all : filter is_standing members ≡ members = filter_all is_standing members (is_standing_one (setup_of c) states c.run place sets members look.store low are) in
    let kept_is : kept ≡ map found_set sets = kept_by ∙ ap (map found_member) all ∙ sym (map-map found_set manifest_of found_member (λ x. refl) members) ∙ ap (map found_set) (scanned (setup_of c) states c.run place sets members look.store low are) in
    let told : events' ≡ events ++ event.Found (map row_of (map settled_set sets)) [] ∷ [] = more ∙ ap (λ (rows : List FoundRow). events ++ event.Found rows [] ∷ []) (ap (map row_of) kept_is ∙ rows_same sets) in
    let l = found first c programs states events events' sets leads at refl some told in
    let m : Leads first (seen_core c (map found_set sets)) programs states events' = subst (λ (n : ℕ). Leads first (record c { stage = stage.Mending; kept = map found_set sets; next = n + 1 }) programs states events') (sym (greatest_same sets 0)) l in
    recovers first (seen_core c kept) programs states events' refl (subst (λ (k : List Cached). Leads first (seen_core c k) programs states events') (sym kept_is) m)
