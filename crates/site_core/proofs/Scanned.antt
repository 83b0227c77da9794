-- What a scan of a node gives is what the store holds.
use Rattle.std.proofs.Common.{◌≡◌, ◌≢◌, ◌⊎◌, inl, inr, ℕ, zero, suc, ◌+◌, ◌*◌, ◌<◌, ◌≤◌, true, List, [], ◌∷◌, length, map, Option, Some, None, refl, sym, ap, ◌∙◌, subst, slice_get, arith}
use Rattle.std.proofs.lemmas.Bool.{cases_eq}
use Rattle.std.proofs.lemmas.Option.{slice_get_within, slice_get-get_or, get_or_from_slice_get}
use Rattle.std.proofs.lemmas.List.FromFn.{length-range_with_len, get_or-range_with_len}
use Rattle.scr_base.specs.declared.shape.DataId.{DataId}
use Rattle.scr_base.specs.Sets.{numbers_below}
use Rattle.node_device.specs.File.{bytes_of}
use Rattle.node_device.specs.DeviceState.{DeviceState}
use Rattle.member_store.specs.Names.{record_name, IsPlace}
use Rattle.member_store.specs.Members.{AreMembers, ReadsMember, IsBefore}
use Rattle.member_store.specs.declared.member.Member.{Member}
use Rattle.ckpt_model.specs.Machine.{Setup}
use Rattle.site_state.specs.declared.cache.Manifest.{Manifest}
use Rattle.site_core.specs.Stored.{cells_of}
use Rattle.site_core.specs.Holds.{StoreHolds, settled_set}
use Rattle.site_state.specs.Choosing.{AscendFrom}
use Rattle.site_state.specs.Looks.{is_standing}
use Rattle.site_core.proofs.Frames.{is_place, data-same}
use Rattle.site_state.proofs.Shapes.{few_nodes}

-- what a member's record says of its dataset
abbrev pub manifest_of : Member → Manifest
manifest_of x = record { desc = x.desc; files = x.files }

some_same : {X : Type 0} (x y : X) → Some x ≡ Some y → x ≡ y
some_same x y e = cc

-- ## Lists whose numbers rise

-- the numbers rise from this one on
abbrev Rise : ℕ → List Manifest → Type 0
Rise low [] = Unit {0}
Rise low (m ∷ ms) = (low ≤ m.desc.which.id) × Rise (m.desc.which.id + 1) ms

rise-at : (low : ℕ) (ms : List Manifest) (i : ℕ) (m : Manifest) → Rise low ms → slice_get ms i ≡ Some m → low ≤ m.desc.which.id
rise-at low [] i m rise at = absurd (cc at)
rise-at low (x ∷ xs) zero m rise at = subst (λ (y : Manifest). low ≤ y.desc.which.id) (some_same x m at) rise.0
rise-at low (x ∷ xs) (suc i) m rise at = omega (arith, rise.0, rise-at (x.desc.which.id + 1) xs i m rise.1 at)

-- the first of a list has the least number
is-first : (x m : Manifest) (xs : List Manifest) (low i : ℕ) → Rise low (x ∷ xs) → slice_get (x ∷ xs) i ≡ Some m → m.desc.which.id ≤ x.desc.which.id → x ≡ m
is-first x m xs low zero rise at le = some_same x m at
is-first x m xs low (suc i) rise at le = absurd (omega (arith, le, rise-at (x.desc.which.id + 1) xs i m rise.1 at))

least : (x m : Manifest) (xs : List Manifest) (low i : ℕ) → Rise low (x ∷ xs) → slice_get (x ∷ xs) i ≡ Some m → x.desc.which.id ≤ m.desc.which.id
least x m xs low zero rise at = subst (λ (y : Manifest). x.desc.which.id ≤ y.desc.which.id) (some_same x m at) (let le : x.desc.which.id ≤ x.desc.which.id = omega arith in le)
least x m xs low (suc i) rise at = omega (arith, rise-at (x.desc.which.id + 1) xs i m rise.1 at)

-- a later one, past the first
past-first : (x m : Manifest) (xs : List Manifest) (i : ℕ) → slice_get (x ∷ xs) i ≡ Some m → x.desc.which.id < m.desc.which.id → (k : ℕ) × (slice_get xs k ≡ Some m)
past-first x m xs zero at lt = absurd (omega (arith, lt, ap (λ (y : Manifest). y.desc.which.id) (some_same x m at)))
past-first x m xs (suc i) at lt = (i, at)

AllIn : List Manifest → List Manifest → Type 0
AllIn xs ys = (i : ℕ) (m : Manifest) → slice_get xs i ≡ Some m → (k : ℕ) × (slice_get ys k ≡ Some m)

-- two rising lists of the same elements are one
pub same_list : (low : ℕ) (xs ys : List Manifest) → Rise low xs → Rise low ys → ((i : ℕ) (m : Manifest) → slice_get xs i ≡ Some m → (k : ℕ) × (slice_get ys k ≡ Some m)) → ((i : ℕ) (m : Manifest) → slice_get ys i ≡ Some m → (k : ℕ) × (slice_get xs k ≡ Some m)) → xs ≡ ys
same_list low [] [] rx ry there back = refl
same_list low [] (y ∷ ys) rx ry there back = absurd (cc ((back 0 y refl).1))
same_list low (x ∷ xs) [] rx ry there back = absurd (cc ((there 0 x refl).1))
same_list low (x ∷ xs) (y ∷ ys) rx ry there back =
    let t = there 0 x refl in
    let b = back 0 y refl in
    let same : y ≡ x = is-first y x ys low t.0 ry t.1 (least x y xs low b.0 rx b.1) in
    let rest : xs ≡ ys = same_list (x.desc.which.id + 1) xs ys rx.1 (subst (λ (z : Manifest). Rise (z.desc.which.id + 1) ys) same ry.1)
    (λ i m at. let k = there (suc i) m at in past-first y m ys k.0 k.1 (omega (arith, rise-at (x.desc.which.id + 1) xs i m rx.1 at, ap (λ (z : Manifest). z.desc.which.id) same)))
    (λ i m at. let k = back (suc i) m at in past-first x m xs k.0 k.1 (omega (arith, rise-at (y.desc.which.id + 1) ys i m ry.1 at, ap (λ (z : Manifest). z.desc.which.id) same))) in
    ap (λ (z : Manifest). z ∷ xs) (sym same) ∙ ap (λ (zs : List Manifest). y ∷ zs) rest

-- ## One node

find-one : (sets : List Manifest) (which : DataId) → ((i : ℕ) × (m : Manifest) × (slice_get sets i ≡ Some m) × (m.desc.which ≡ which)) ⊎ ((i : ℕ) (m : Manifest) → slice_get sets i ≡ Some m → m.desc.which ≡ which → ⊥)
find-one [] which = inr (λ i m at same. absurd (cc at))
find-one (x ∷ xs) which = pick (cases_eq x.desc.which.id which.id) (cases_eq x.desc.which.run which.run) (find-one xs which) where
  later : (x.desc.which ≡ which → ⊥) → ((i : ℕ) × (m : Manifest) × (slice_get xs i ≡ Some m) × (m.desc.which ≡ which)) ⊎ ((i : ℕ) (m : Manifest) → slice_get xs i ≡ Some m → m.desc.which ≡ which → ⊥)
      → ((i : ℕ) × (m : Manifest) × (slice_get (x ∷ xs) i ≡ Some m) × (m.desc.which ≡ which)) ⊎ ((i : ℕ) (m : Manifest) → slice_get (x ∷ xs) i ≡ Some m → m.desc.which ≡ which → ⊥)
  later other (inl found) = inl (suc found.0, found.1, found.2, found.3)
  later other (inr none) = inr (λ i m at same. not_here i m at same) where
    not_here : (i : ℕ) (m : Manifest) → slice_get (x ∷ xs) i ≡ Some m → m.desc.which ≡ which → ⊥
    not_here zero m at same = other (ap (λ (y : Manifest). y.desc.which) (some_same x m at) ∙ same)
    not_here (suc i) m at same = none i m at same

  pick : (x.desc.which.id ≡ which.id) ⊎ (x.desc.which.id ≢ which.id) → (x.desc.which.run ≡ which.run) ⊎ (x.desc.which.run ≢ which.run)
      → ((i : ℕ) × (m : Manifest) × (slice_get xs i ≡ Some m) × (m.desc.which ≡ which)) ⊎ ((i : ℕ) (m : Manifest) → slice_get xs i ≡ Some m → m.desc.which ≡ which → ⊥)
      → ((i : ℕ) × (m : Manifest) × (slice_get (x ∷ xs) i ≡ Some m) × (m.desc.which ≡ which)) ⊎ ((i : ℕ) (m : Manifest) → slice_get (x ∷ xs) i ≡ Some m → m.desc.which ≡ which → ⊥)
  pick (inl i) (inl r) rest = inl (0, x, refl, data-same x.desc.which which i r)
  pick (inr o) r rest = later (λ e. o (ap (λ (d : DataId). d.id) e)) rest
  pick (inl i) (inr o) rest = later (λ e. o (ap (λ (d : DataId). d.run) e)) rest

module _ (s : Setup) (states : ℕ → DeviceState) (run p : ℕ) (sets : List Manifest) (members : List Member) (store : StoreHolds s (cells_of states) run sets) (lt : p < s.shape.nodes) (are : AreMembers s.shape (states p) members) where
  home : slice_get (numbers_below s.shape.nodes) p ≡ Some p
  home = slice_get-get_or (numbers_below s.shape.nodes) p 0 (omega (arith, lt, length-range_with_len 0 s.shape.nodes)) ∙ ap Some (get_or-range_with_len 0 s.shape.nodes p 0 lt ∙ (let e : 0 + p ≡ p = omega arith in e))

  reads-at : (k : ℕ) (x : Member) → slice_get members k ≡ Some x → ReadsMember s.shape (record_name x.which x.node) ((states p).file (record_name x.which x.node)).now x
  reads-at k x at = subst (λ (y : Member). ReadsMember s.shape (record_name y.which y.node) ((states p).file (record_name y.which y.node)).now y) (get_or_from_slice_get members k x x at) (are.read k x (slice_get_within members k x at))

  -- a member's record is one of the store's
  pub of_store : (k : ℕ) (x : Member) → slice_get members k ≡ Some x → (x.node ≡ p) × ((i : ℕ) × (m : Manifest) × (slice_get sets i ≡ Some m) × (m.desc.which ≡ x.which))
  of_store k x at = pick (cases_eq x.node p) (find-one sets x.which) where
    r : ReadsMember s.shape (record_name x.which x.node) ((states p).file (record_name x.which x.node)).now x
    r = reads-at k x at

    place : IsPlace x.which x.node
    place = subst (λ (w : DataId). IsPlace w x.node) r.member.which (is_place x.desc x.node (omega (arith, r.member.node, r.member.nodes, few_nodes s.shape)))

    there : cells_of states p (record_name x.which x.node) ≡ None → ⊥
    there none = absurd (omega (arith, r.body.whole, ap (λ (o : Option (List ℕ)). length (bytes_of o)) none))

    low : p < 32
    low = omega (arith, lt, few_nodes s.shape)

    at_home : (node : ℕ) → slice_get (numbers_below s.shape.nodes) node ≡ Some p → node ≡ p
    at_home node is =
        let within : node < s.shape.nodes = omega (arith, slice_get_within (numbers_below s.shape.nodes) node p is, length-range_with_len 0 s.shape.nodes) in
        (let e : node ≡ 0 + node = omega arith in e) ∙ sym (get_or-range_with_len 0 s.shape.nodes node 0 within) ∙ get_or_from_slice_get (numbers_below s.shape.nodes) node p 0 is

    pick : (x.node ≡ p) ⊎ (x.node ≢ p) → ((i : ℕ) × (m : Manifest) × (slice_get sets i ≡ Some m) × (m.desc.which ≡ x.which)) ⊎ ((i : ℕ) (m : Manifest) → slice_get sets i ≡ Some m → m.desc.which ≡ x.which → ⊥)
        → (x.node ≡ p) × ((i : ℕ) × (m : Manifest) × (slice_get sets i ≡ Some m) × (m.desc.which ≡ x.which))
    pick (inl same) (inl found) = (same, found)
    pick (inl same) (inr none) = absurd (there (store.others p x.which x.node low place (λ m known is h. none known.0 m known.1 is)))
    pick (inr other) found = absurd (there (store.others p x.which x.node low place (λ m known is h. other (at_home x.node h))))

  -- each dataset's record on this node is a member
  own : (i : ℕ) (m : Manifest) → slice_get sets i ≡ Some m → (k : ℕ) × (slice_get members k ≡ Some (record { which = m.desc.which; node = p; whole = true; sealed = true; desc = m.desc; files = m.files }))
  own i m at =
      let rec = store.records m (i, at) p p home in
      let of = store.sets_are m (i, at) in
      let y : Member = record { which = m.desc.which; node = p; whole = true; sealed = true; desc = m.desc; files = m.files } in
      let reads : ReadsMember s.shape (record_name m.desc.which p) ((states p).file (record_name m.desc.which p)).now y = record {
        named = refl;
        body = rec.body;
        whole = sym rec.whole_is;
        sealed = sym rec.sealed_is;
        member = record {
          named = of.named;
          which = refl;
          nodes = of.nodes;
          ranks = of.ranks;
          node = omega (arith, lt, of.nodes);
          files = subst (λ (n : ℕ). Rattle.filemap.specs.Maps.IsMap (n * m.desc.ranks) m.files) (sym of.nodes) (subst (λ (r : ℕ). Rattle.filemap.specs.Maps.IsMap (s.shape.nodes * r) m.files) (sym of.ranks) of.files);
        };
      } in
      let c = are.every (record_name m.desc.which p) y reads in
      (c.0, slice_get-get_or members c.0 y c.1 ∙ ap Some c.2)

  -- two members of one dataset are one
  not_before : (a b : Member) → IsBefore a b → a.which ≡ b.which → a.node ≡ b.node → ⊥
  not_before a b (inl less) same node = absurd (omega (arith, less, ap (λ (d : DataId). d.id) same))
  not_before a b (inr rest) same node = elim rest.1 [
    | inl less ↦ absurd (omega (arith, less, ap (λ (d : DataId). d.run) same))
    | inr last ↦ absurd (omega (arith, last.1, node))
  ]

  one-member : (k j : ℕ) (a b : Member) → slice_get members k ≡ Some a → slice_get members j ≡ Some b → a.which ≡ b.which → a.node ≡ b.node → a ≡ b
  one-member k j a b ka jb same node = pick (tri k j) where
    tri : (x y : ℕ) → (x < y) ⊎ ((x ≡ y) ⊎ (y < x))
    tri x y = grind arith

    pick : (k < j) ⊎ ((k ≡ j) ⊎ (j < k)) → a ≡ b
    pick (inl lt) = absurd (not_before a b (are.ascending k j a b lt ka jb) same node)
    pick (inr (inl is)) = some_same a b (sym ka ∙ ap (slice_get members) is ∙ jb)
    pick (inr (inr lt)) = absurd (not_before b a (are.ascending j k b a lt jb ka) (sym same) (sym node))

  -- what a member says is what the store has
  says : (k : ℕ) (x : Member) → slice_get members k ≡ Some x → (i : ℕ) × (slice_get sets i ≡ Some (manifest_of x))
  says k x at =
      let of = of_store k x at in
      let found = of.1 in
      let mine = own found.0 found.1 found.2 in
      let same = one-member k mine.0 x _ at mine.1 (sym found.3) of.0 in
      (found.0, found.2 ∙ ap (λ (y : Member). Some (manifest_of y)) (sym same))

  -- each member of the store is whole and sealed
  pub is_standing_one : (k : ℕ) (x : Member) → slice_get members k ≡ Some x → is_standing x ≡ true
  is_standing_one k x at =
      let of = of_store k x at in
      let found = of.1 in
      let mine = own found.0 found.1 found.2 in
      ap is_standing (one-member k mine.0 x _ at mine.1 (sym found.3) of.0)

  same-id : (i j : ℕ) (a b : Manifest) (low : ℕ) (ms : List Manifest) → Rise low ms → slice_get ms i ≡ Some a → slice_get ms j ≡ Some b → a.desc.which.id ≡ b.desc.which.id → a ≡ b
  same-id i j a b low [] rise at bt same = absurd (cc at)
  same-id zero zero a b low (x ∷ xs) rise at bt same = sym (some_same x a at) ∙ some_same x b bt
  same-id zero (suc j) a b low (x ∷ xs) rise at bt same = absurd (omega (arith, same, ap (λ (y : Manifest). y.desc.which.id) (some_same x a at), rise-at (x.desc.which.id + 1) xs j b rise.1 bt))
  same-id (suc i) zero a b low (x ∷ xs) rise at bt same = absurd (omega (arith, same, ap (λ (y : Manifest). y.desc.which.id) (some_same x b bt), rise-at (x.desc.which.id + 1) xs i a rise.1 at))
  same-id (suc i) (suc j) a b low (x ∷ xs) rise at bt same = same-id i j a b (x.desc.which.id + 1) xs rise.1 at bt same

  rise_of : (low : ℕ) (ms : List Manifest) → AscendFrom low (map settled_set ms) → Rise low ms
  rise_of low [] rise = tt
  rise_of low (m ∷ ms) rise = (rise.0, rise_of (m.desc.which.id + 1) ms rise.1)

  ids-rise : (k j : ℕ) (a b : Member) → k < j → slice_get members k ≡ Some a → slice_get members j ≡ Some b → a.desc.which.id < b.desc.which.id
  ids-rise k j a b lt ka jb = pick (are.ascending k j a b lt ka jb) where
    wa : a.desc.which ≡ a.which
    wa = (reads-at k a ka).member.which

    wb : b.desc.which ≡ b.which
    wb = (reads-at j b jb).member.which

    pick : IsBefore a b → a.desc.which.id < b.desc.which.id
    pick (inl less) = omega (arith, less, ap (λ (d : DataId). d.id) wa, ap (λ (d : DataId). d.id) wb)
    pick (inr rest) =
        let sa = says k a ka in
        let sb = says j b jb in
        let same : manifest_of a ≡ manifest_of b = same-id sa.0 sb.0 (manifest_of a) (manifest_of b) 1 sets (rise_of 1 sets store.rise) sa.1 sb.1 (ap (λ (d : DataId). d.id) wa ∙ rest.0 ∙ sym (ap (λ (d : DataId). d.id) wb)) in
        absurd (not_before a b (inr rest) (sym wa ∙ ap (λ (m : Manifest). m.desc.which) same ∙ wb) ((of_store k a ka).0 ∙ sym (of_store j b jb).0))

rise-members : (low : ℕ) (ms : List Member) → ((k : ℕ) (a : Member) → slice_get ms k ≡ Some a → low ≤ a.desc.which.id) → ((k j : ℕ) (a b : Member) → k < j → slice_get ms k ≡ Some a → slice_get ms j ≡ Some b → a.desc.which.id < b.desc.which.id) → Rise low (map manifest_of ms)
rise-members low [] above rise = tt
rise-members low (x ∷ xs) above rise =
    (above 0 x refl, rise-members (x.desc.which.id + 1) xs (λ k a at. omega (arith, rise 0 (suc k) x a (omega arith) refl at)) (λ k j a b lt ka jb. rise (suc k) (suc j) a b (omega (arith, lt)) ka jb))

map-at : (ms : List Member) (i : ℕ) (m : Manifest) → slice_get (map manifest_of ms) i ≡ Some m → (x : Member) × (slice_get ms i ≡ Some x) × (manifest_of x ≡ m)
map-at [] i m at = absurd (cc at)
map-at (x ∷ xs) zero m at = (x, refl, some_same (manifest_of x) m at)
map-at (x ∷ xs) (suc i) m at = map-at xs i m at

map-there : (ms : List Member) (i : ℕ) (x : Member) → slice_get ms i ≡ Some x → slice_get (map manifest_of ms) i ≡ Some (manifest_of x)
map-there [] i x at = absurd (cc at)
map-there (y ∷ ys) zero x at = ap Some (ap manifest_of (some_same y x at))
map-there (y ∷ ys) (suc i) x at = map-there ys i x at

-- a scan of a node gives the datasets of the store, in order
pub scanned : (s : Setup) (states : ℕ → DeviceState) (run p : ℕ) (sets : List Manifest) (members : List Member) → StoreHolds s (cells_of states) run sets → p < s.shape.nodes → AreMembers s.shape (states p) members → map manifest_of members ≡ sets
scanned s states run p sets members store lt are =
    let says_of = says s states run p sets members store lt are in
    let own_of = own s states run p sets members store lt are in
    let rise = rise_of s states run p sets members store lt are 1 sets store.rise in
    same_list 1 (map manifest_of members) sets
    (rise-members 1 members (λ k a at. let x = says_of k a at in rise-at 1 sets x.0 (manifest_of a) rise x.1) (ids-rise s states run p sets members store lt are)) rise
    (λ i m at. let x = map-at members i m at in let t = says_of i x.0 x.1 in (t.0, t.1 ∙ ap Some x.2))
    (λ i m at. let k = own_of i m at in (k.0, map-there members k.0 _ k.1))
