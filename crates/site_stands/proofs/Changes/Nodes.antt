-- An event changes the state, and the devices stay: what is left to show is the one dataset that it changes.
use Rattle.std.proofs.Common.{◌≡◌, ◌≢◌, ◌⊎◌, inl, inr, ◌<◌, ℕ, zero, suc, Bool, true, false, List, [], ◌∷◌, map, Some, refl, sym, ◌∙◌, ap, subst, arith}
use Rattle.std.specs.Prelude.{slice_get, ◌||◌, not, filter, nat_lt, if◌then◌else◌}
use Rattle.std.specs.List.{list_any}
use Rattle.scr_base.specs.declared.shape.DataId.{DataId}
use Rattle.scr_base.specs.declared.shape.Shape.{Shape}
use Rattle.scr_base.specs.Same.{same_id}
use Rattle.scr_base.specs.Sets.{is_among}
use Rattle.node_device.specs.File.{MayLeave, IsPartlySynced}
use Rattle.node_device.specs.DeviceState.{DeviceState, ChangesOnly}
use Rattle.member_store.specs.Names.{record_name, part_name, IsPlace, IsNameOf}
use Rattle.member_store.specs.declared.part.Part.TheVariants.{File as FilePart}
use Rattle.ckpt_model.specs.Dataset.{Dataset, File as RankFile}
use Rattle.ckpt_model.specs.Machine.{Machine, Setup, Kept, MemberState, Mark}
use Rattle.ckpt_model.specs.Loss.{member_shaken, kept_shaken}
use Rattle.ckpt_model.specs.Questions.{is_kept, is_id_of}
use Rattle.ckpt_model.specs.Steps.{change_kept, drop_kept, add_kept, add_sealing, kept_sealing}
use Rattle.ckpt_model.proofs.ShowsLemmas.{mapped_at}
use Rattle.ckpt_model.proofs.Plays.{same_id_is}
use Rattle.site_stands.specs.Cells.{physical_nodes}
use Rattle.site_stands.specs.Described.{IsFileAt}
use Rattle.site_stands.specs.Members.{MemberStands, NodeStands, KeptStands, NoneSealed}
use Rattle.site_stands.specs.Site.{NodesStand, SiteStands}
use Rattle.site_stands.specs.Frame.{LeavesNoMore, KeepsAll}
use Rattle.site_stands.specs.Moves.{MovesDataset, HoldsOne}
use Rattle.site_stands.proofs.Lists.{kept_at, any_there, same_or_other, not_both}
use Rattle.site_stands.proofs.Keeping.Kept.{same_file, dataset_step}

-- ## The general event

-- each dataset that is kept then stands, or was kept; each that isn't is left unsealed, or wasn't kept
pub nodes_event : (s : Setup) (states : ℕ → DeviceState) (m new : Machine) → new.run ≡ m.run
    → ((i : ℕ) (k : Kept) → slice_get new.kept i ≡ Some k → KeptStands s.shape states k ⊎ ((j : ℕ) × (slice_get m.kept j ≡ Some k)))
    → ((which : DataId) → is_kept new which ≡ false → NoneSealed s.shape states which ⊎ (is_kept m which ≡ false))
    → NodesStand s states m → NodesStand s states new
nodes_event s states m new run from gone stands = record {
  kept = λ i k at. elim (from i k at) [ inl anew ↦ anew | inr was ↦ stands.kept was.0 k was.1 ];
  others = λ which not. elim (gone which not) [ inl unsealed ↦ unsealed | inr was ↦ stands.others which was ];
  later = λ which later. stands.later which (subst (λ (n : ℕ). n < which.run) run later);
}

-- ## A change of one dataset

any_changed : (g : Kept → Kept) (which w : DataId) (xs : List Kept) → ((k : Kept) → (g k).dataset ≡ k.dataset) → list_any (is_id_of w) (map (λ k. if is_id_of which k then g k else k) xs) ≡ list_any (is_id_of w) xs
any_changed g which w [] same = refl
any_changed g which w (x ∷ xs) same = rw (one (is_id_of which x)) (ap (λ (b : Bool). is_id_of w x || b) (any_changed g which w xs same))
  where
    one : (b : Bool) → is_id_of w (if b then g x else x) ≡ is_id_of w x
    one true = ap (λ (d : Dataset). same_id d.which w) (same x)
    one false = refl

pub change_event : (s : Setup) (states : ℕ → DeviceState) (m : Machine) (g : Kept → Kept) (which : DataId) → ((k : Kept) → (g k).dataset ≡ k.dataset)
    → ((i : ℕ) (k : Kept) → slice_get m.kept i ≡ Some k → k.dataset.which ≡ which → KeptStands s.shape states k → KeptStands s.shape states (g k)) → NodesStand s states m → NodesStand s states (change_kept g which m)
change_event s states m g which same step stands = nodes_event s states m (change_kept g which m) refl from (λ w not. inr (sym (any_changed g which w m.kept same) ∙ not)) stands
  where
    from : (i : ℕ) (k : Kept) → slice_get (map (λ x. if is_id_of which x then g x else x) m.kept) i ≡ Some k → KeptStands s.shape states k ⊎ ((j : ℕ) × (slice_get m.kept j ≡ Some k))
    from i k at =
        let of = mapped_at (λ x. if is_id_of which x then g x else x) m.kept i k at in
        pick of.0 of.1 (is_id_of which of.0) refl of.2
      where
        pick : (x : Kept) → slice_get m.kept i ≡ Some x → (b : Bool) → is_id_of which x ≡ b → k ≡ (if b then g x else x) → KeptStands s.shape states k ⊎ ((j : ℕ) × (slice_get m.kept j ≡ Some k))
        pick x there true is e = inl (subst (λ (y : Kept). KeptStands s.shape states y) (sym e) (step i x there (same_id_is x.dataset.which which is) (stands.kept i x there)))
        pick x there false is e = inr (i, there ∙ ap Some (sym e))

-- in doubt nothing is said of gate `sealed`: so a refused first closing is safe before its event (evicting, failing, discarding)
pub doubted : (shape : Shape) (states : ℕ → DeviceState) (k : Kept) (mark : Mark) → KeptStands shape states k → KeptStands shape states (record k { mark = mark; doubt = true })
doubted shape states k mark stands node st at = record {
  present = λ home sure. let h = (stands node st at).present home sure in record { home = h.home; is_home = h.is_home; place = h.place; member = h.member; whole = h.whole; sealed = λ certain. absurd (cc certain) };
  exact = (stands node st at).exact;
}

pub doubt_event : (s : Setup) (states : ℕ → DeviceState) (m : Machine) (mark : Mark) (which : DataId) → NodesStand s states m → NodesStand s states (change_kept (λ k. record k { mark = mark; doubt = true }) which m)
doubt_event s states m mark which stands = change_event s states m (λ k. record k { mark = mark; doubt = true }) which (λ k. refl) (λ i k at same stood. doubted s.shape states k mark stood) stands

-- ## A dataset leaves

in_filter : (t : Kept → Bool) (xs : List Kept) (i : ℕ) (k : Kept) → slice_get xs i ≡ Some k → t k ≡ true → (j : ℕ) × (slice_get (filter t xs) j ≡ Some k)
in_filter t [] i k at is = absurd (cc at)
in_filter t (x ∷ xs) zero k at is = let same : x ≡ k = cc at in first (t x) (ap t same ∙ is) (ap Some same)
  where
    first : (b : Bool) → b ≡ true → Some x ≡ Some k → (j : ℕ) × (slice_get (if b then x ∷ filter t xs else filter t xs) j ≡ Some k)
    first true is_true here = (0, here)
    first false is_true here = absurd (cc is_true)
in_filter t (x ∷ xs) (suc i) k at is = behind (t x) (in_filter t xs i k at is)
  where
    behind : (b : Bool) → (j : ℕ) × (slice_get (filter t xs) j ≡ Some k) → (j : ℕ) × (slice_get (if b then x ∷ filter t xs else filter t xs) j ≡ Some k)
    behind true rest = (suc rest.0, rest.1)
    behind false rest = rest

of_filter : (t : Kept → Bool) (xs : List Kept) (i : ℕ) (k : Kept) → slice_get (filter t xs) i ≡ Some k → (j : ℕ) × (slice_get xs j ≡ Some k)
of_filter t [] i k at = absurd (cc at)
of_filter t (x ∷ xs) i k at = pick (t x) i at (λ j there. of_filter t xs j k there)
  where
    pick : (b : Bool) (i : ℕ) → slice_get (if b then x ∷ filter t xs else filter t xs) i ≡ Some k → ((j : ℕ) → slice_get (filter t xs) j ≡ Some k → (n : ℕ) × (slice_get xs n ≡ Some k)) → (n : ℕ) × (slice_get (x ∷ xs) n ≡ Some k)
    pick true zero there go = (0, there)
    pick true (suc i) there go = let rest = go i there in (suc rest.0, rest.1)
    pick false i there go = let rest = go i there in (suc rest.0, rest.1)

-- once no stop leaves a record of it sealed, it may leave (evicted, failed, discarded)
pub drop_event : (s : Setup) (states : ℕ → DeviceState) (m : Machine) (which : DataId) → NoneSealed s.shape states which → NodesStand s states m → NodesStand s states (drop_kept which m)
drop_event s states m which unsealed stands = nodes_event s states m (drop_kept which m) refl (λ i k at. inr (of_filter (λ x. not (is_id_of which x)) m.kept i k at)) gone stands
  where
    gone : (w : DataId) → is_kept (drop_kept which m) w ≡ false → NoneSealed s.shape states w ⊎ (is_kept m w ≡ false)
    gone w not_there = elim (same_or_other w which) [
      | inl same ↦ inl (subst (λ (x : DataId). NoneSealed s.shape states x) (sym same) unsealed)
      | inr other ↦ inr (was (is_kept m w) refl other)
    ]
      where
        was : (b : Bool) → is_kept m w ≡ b → w ≢ which → is_kept m w ≡ false
        was false is other = is
        was true is other =
            let k = kept_at w m.kept is in
            let stays : not (is_id_of which k.0) ≡ true = test (is_id_of which k.0) refl in
            let at = in_filter (λ x. not (is_id_of which x)) m.kept k.1 k.0 k.2 stays in
            let there : is_kept (drop_kept which m) w ≡ true = subst (λ (x : DataId). list_any (is_id_of x) (filter (λ y. not (is_id_of which y)) m.kept) ≡ true) k.3 (any_there k.0 (filter (λ y. not (is_id_of which y)) m.kept) at.0 at.1) in
            not_both (is_kept (drop_kept which m) w) there not_there
          where
            test : (b : Bool) → is_id_of which (kept_at w m.kept is).0 ≡ b → not b ≡ true
            test false e = refl
            test true e = absurd (other (sym (kept_at w m.kept is).3 ∙ same_id_is (kept_at w m.kept is).0.dataset.which which e))

-- ## A dataset comes

of_add : (n : Kept) (xs : List Kept) (i : ℕ) (k : Kept) → slice_get (add_kept n xs) i ≡ Some k → (n ≡ k) ⊎ ((j : ℕ) × (slice_get xs j ≡ Some k))
of_add n [] zero k at = inl (cc at)
of_add n [] (suc i) k at = absurd (cc at)
of_add n (x ∷ xs) i k at = pick (nat_lt x.dataset.which.id n.dataset.which.id) i at (λ j there. of_add n xs j k there)
  where
    pick : (b : Bool) (i : ℕ) → slice_get (if b then x ∷ add_kept n xs else n ∷ x ∷ xs) i ≡ Some k → ((j : ℕ) → slice_get (add_kept n xs) j ≡ Some k → (n ≡ k) ⊎ ((l : ℕ) × (slice_get xs l ≡ Some k))) → (n ≡ k) ⊎ ((l : ℕ) × (slice_get (x ∷ xs) l ≡ Some k))
    pick true zero there go = inr (0, there)
    pick true (suc i) there go = elim (go i there) [ inl is ↦ inl is | inr rest ↦ inr (suc rest.0, rest.1) ]
    pick false zero there go = inl (cc there)
    pick false (suc i) there go = inr (i, there)

in_add : (n : Kept) (xs : List Kept) (w : DataId) → list_any (is_id_of w) (add_kept n xs) ≡ false → list_any (is_id_of w) xs ≡ false
in_add n [] w not_there = refl
in_add n (x ∷ xs) w not_there = pick (nat_lt x.dataset.which.id n.dataset.which.id) not_there (λ rest. in_add n xs w rest)
  where
    both : (a b : Bool) → a || b ≡ false → (a ≡ false) × (b ≡ false)
    both false b is = (refl, is)
    both true b is = absurd (cc is)

    pick : (b : Bool) → list_any (is_id_of w) (if b then x ∷ add_kept n xs else n ∷ x ∷ xs) ≡ false → (list_any (is_id_of w) (add_kept n xs) ≡ false → list_any (is_id_of w) xs ≡ false) → is_id_of w x || list_any (is_id_of w) xs ≡ false
    pick true is go = let parts = both (is_id_of w x) (list_any (is_id_of w) (add_kept n xs)) is in rw parts.0 (go parts.1)
    pick false is go = (both (is_id_of w n) (is_id_of w x || list_any (is_id_of w) xs) is).1

-- the dataset whose members are whole is sealing from now on; before the event it is enough that none of its records is left sealed
pub sealing_event : (s : Setup) (states : ℕ → DeviceState) (m : Machine) (d : Dataset) → KeptStands s.shape states (kept_sealing m.places d) → NodesStand s states m → NodesStand s states (add_sealing m d)
sealing_event s states m d anew stands = nodes_event s states m (add_sealing m d) refl
    (λ i k at. elim (of_add (kept_sealing m.places d) m.kept i k at) [ inl is ↦ inl (subst (λ (x : Kept). KeptStands s.shape states x) is anew) | inr was ↦ inr was ])
    (λ w not_there. inr (in_add (kept_sealing m.places d) m.kept w not_there)) stands

-- ## A node that is being emptied

any_shaken : (p : ℕ) (w : DataId) (xs : List Kept) → list_any (is_id_of w) (map (kept_shaken p) xs) ≡ list_any (is_id_of w) xs
any_shaken p w [] = refl
any_shaken p w (x ∷ xs) = ap (λ (b : Bool). is_id_of w x || b) (any_shaken p w xs)

pub shaken_event : (s : Setup) (states : ℕ → DeviceState) (m : Machine) (p : ℕ) → NodesStand s states m → NodesStand s states (record m { kept = map (kept_shaken p) m.kept })
shaken_event s states m p stands = nodes_event s states m (record m { kept = map (kept_shaken p) m.kept }) refl from (λ w not_there. inr (sym (any_shaken p w m.kept) ∙ not_there)) stands
  where
    shaken : (k : Kept) → KeptStands s.shape states k → KeptStands s.shape states (kept_shaken p k)
    shaken k stood node st at =
        let of = mapped_at (member_shaken p) k.members node st at in
        subst (λ (y : MemberState). NodeStands s.shape states k.dataset k.doubt node y) (sym of.2) (one of.0 (stood node of.0 of.1) (is_among p of.0.homes))
      where
        one : (old : MemberState) → NodeStands s.shape states k.dataset k.doubt node old → (b : Bool) → NodeStands s.shape states k.dataset k.doubt node (if b then record old { unsure = true } else old)
        one old was true = record { present = λ home sure. absurd (cc sure); exact = was.exact }
        one old was false = was

    from : (i : ℕ) (k : Kept) → slice_get (map (kept_shaken p) m.kept) i ≡ Some k → KeptStands s.shape states k ⊎ ((j : ℕ) × (slice_get m.kept j ≡ Some k))
    from i k at = let of = mapped_at (kept_shaken p) m.kept i k at in inl (subst (λ (y : Kept). KeptStands s.shape states y) (sym of.2) (shaken of.0 (stands.kept i of.0 of.1)))

-- ## What a call does to what is said of the site

-- a sync of one device, done or refused
pub sync_keeps : (place : ℕ) (old new : ℕ → DeviceState) → ((p : ℕ) → p ≢ place → new p ≡ old p) → ((q : List ℕ) → IsPartlySynced ((old place).file q) ((new place).file q)) → KeepsAll old new
sync_keeps place old new others partly p q low = elim (Rattle.std.proofs.lemmas.Bool.cases_eq p place) [
  | inl same ↦ (λ o may. subst (λ (x : ℕ). MayLeave ((old x).file q) o) (sym same) ((partly q).outcomes o (subst (λ (x : ℕ). MayLeave ((new x).file q) o) same may)))
  | inr other ↦ same_file ((old p).file q) ((new p).file q) (ap (λ (d : DeviceState). d.file q) (others p other))
]

-- a change of one file of a dataset, on one node, with the law that a name is of one dataset alone
pub file_moves : (s : Setup) (place : ℕ) (name : List ℕ) (which : DataId) (old new : ℕ → DeviceState) → place < physical_nodes s.shape → ((p : ℕ) → p ≢ place → new p ≡ old p) → ChangesOnly name (old place) (new place)
    → ((other : DataId) (node : ℕ) (q : List ℕ) → other ≢ which → IsPlace other node → IsNameOf other node q → q ≢ name) → MovesDataset s.shape which old new
file_moves s place name which old new low others only apart = record {
  others = λ other differs p node q low_p is_place is. elim (Rattle.std.proofs.lemmas.Bool.cases_eq p place) [
    | inl same ↦ subst (λ (x : ℕ). LeavesNoMore ((old x).file q) ((new x).file q)) (sym same) (same_file ((old place).file q) ((new place).file q) (only.others q (apart other node q differs is_place is)))
    | inr away ↦ same_file ((old p).file q) ((new p).file q) (ap (λ (d : DeviceState). d.file q) (others p away))
  ];
  prefix = λ q. same_file ((old 32).file q) ((new 32).file q) (ap (λ (d : DeviceState). d.file q) (others 32 (λ is. absurd (omega (arith, is, low, Rattle.site_stands.proofs.Lists.physical_low s.shape)))));
}

-- ## A read

-- what a rank reads of its file, where its member stands
pub file_read : (shape : Shape) (disk : DeviceState) (d : Dataset) (node local j : ℕ) (f : RankFile) → ((q : List ℕ) → MayLeave (disk.file q) (disk.file q).now) → MemberStands shape disk d node → IsFileAt shape d node local j f → (disk.file (part_name d.which node (FilePart local j))).now ≡ Some f.bytes
file_read shape disk d node local j f law stands at = stands.files local j f at (disk.file (part_name d.which node (FilePart local j))).now (law (part_name d.which node (FilePart local j)))

-- ## A rank's own write

-- a file that is no record of a dataset that isn't kept is changed: nothing is left to show of it
pub part_one : (s : Setup) (place : ℕ) (name : List ℕ) (which : DataId) (old new : ℕ → DeviceState) (m : Machine) → is_kept m which ≡ false → ((p : ℕ) → p ≢ place → new p ≡ old p) → ChangesOnly name (old place) (new place)
    → ((node : ℕ) → record_name which node ≢ name) → HoldsOne s which old new m
part_one s place name which old new m not_kept others only no_record = record {
  kept = λ i k at same stood. absurd (let there = any_there k m.kept i at in let gone = subst (λ (w : DataId). is_kept m w ≡ false) (sym same) not_kept in cc (there, gone));
  others = λ gone none p node low o may reads opens seals. none p node low o (still p node o may) reads opens seals;
  later = λ later none p node low o may reads. none p node low o (still p node o may) reads;
}
  where
    still : (p node : ℕ) → LeavesNoMore ((old p).file (record_name which node)) ((new p).file (record_name which node))
    still p node = elim (Rattle.std.proofs.lemmas.Bool.cases_eq p place) [
      | inl same ↦ subst (λ (x : ℕ). LeavesNoMore ((old x).file (record_name which node)) ((new x).file (record_name which node))) (sym same) (same_file ((old place).file (record_name which node)) ((new place).file (record_name which node)) (only.others (record_name which node) (no_record node)))
      | inr away ↦ same_file ((old p).file (record_name which node)) ((new p).file (record_name which node)) (ap (λ (d : DeviceState). d.file (record_name which node)) (others p away))
    ]

-- so a rank's write into the open dataset keeps what the devices stand for, done or refused
pub own_write : (s : Setup) (place : ℕ) (name : List ℕ) (which : DataId) (old new : ℕ → DeviceState) (m : Machine) → place < physical_nodes s.shape → is_kept m which ≡ false → ((p : ℕ) → p ≢ place → new p ≡ old p) → ChangesOnly name (old place) (new place)
    → ((node : ℕ) → record_name which node ≢ name) → ((other : DataId) (node : ℕ) (q : List ℕ) → other ≢ which → IsPlace other node → IsNameOf other node q → q ≢ name) → SiteStands s old m → SiteStands s new m
own_write s place name which old new m low not_kept others only no_record apart stands =
    dataset_step s old new m which (file_moves s place name which old new low others only apart) (part_one s place name which old new m not_kept others only no_record) stands
