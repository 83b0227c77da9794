-- What the records of all physical nodes tell is what is found.
use Rattle.std.proofs.Common.{◌≡◌, ◌⊎◌, inl, inr, ◌<◌, ◌+◌, ℕ, zero, suc, Bool, true, false, List, [], ◌∷◌, ◌++◌, Some, map, filter, refl, sym, ◌∙◌, ap, subst, arith, slice_get}
use Rattle.std.specs.Prelude.{if◌then◌else◌, Contains, Option, not}
use Rattle.std.proofs.lemmas.Bool.Decides.{nat_tests}
use Rattle.std.proofs.lemmas.List.Elements.{Contains-append_left, Contains-append_right, Contains-append_cases}
use Rattle.scr_base.specs.Sets.{numbers_below}
use Rattle.scr_base.specs.declared.shape.DataId.{DataId}
use Rattle.scr_base.specs.declared.shape.Shape.{Shape}
use Rattle.node_device.specs.DeviceState.{DeviceState}
use Rattle.gated_record.specs.Record.{IsOpen, is_open}
use Rattle.member_store.specs.Names.{record_name}
use Rattle.member_store.specs.Members.{ReadsMember, AreMembers}
use Rattle.member_store.specs.declared.member.Member.{Member}
use Rattle.process_sets.proofs.Groups.{among_chosen}
use Rattle.site_stands.specs.Cells.{Cells, cells_of, physical_nodes}
use Rattle.site_stands.specs.View.{Opens, Seals}
use Rattle.recover_core.specs.Seen.{IsEarlier, AreRising, is_marked, IsWholeOf, IsSeen, AreSeen, AreOfNodes, is_sealed, found_of}
use Rattle.recover_core.specs.Look.{IsTold, IsFound, AreFound}
use Rattle.recover_core.specs.declared.found.FoundSet.{FoundSet}
use Rattle.recover_core.specs.declared.seen.SeenSet.{SeenSet}
use Rattle.recover_core.proofs.Numbers.{chosen_nodes, among_passes, fewer_chosen}

-- ## Reading

-- these are all members that the physical nodes before a bound have
pub record HasRead (shape : Shape) (cells : Cells) (bound : ℕ) (all : List Member) : Type 0 where
  pub read : (m : Member) → Contains all m → (p : ℕ) × (p < bound) × ReadsMember shape (record_name m.which m.node) (cells p (record_name m.which m.node)) m
  pub every : (p : ℕ) (name : List ℕ) (m : Member) → p < bound → ReadsMember shape name (cells p name) m → Contains all m

pub nothing_read : (shape : Shape) (cells : Cells) → HasRead shape cells 0 []
nothing_read shape cells = record {
  read = λ m known. absurd (omega (arith, known.1));
  every = λ p name m lt reads. absurd (omega (arith, lt));
}

reads_as : (shape : Shape) (d : DeviceState) (members : List Member) (m : Member) → AreMembers shape d members → Contains members m → ReadsMember shape (record_name m.which m.node) (d.file (record_name m.which m.node)).now m
reads_as shape d members m are known = subst (λ (x : Member). ReadsMember shape (record_name x.which x.node) (d.file (record_name x.which x.node)).now x) known.2 (are.read known.0 m known.1)

-- the node after them
pub next_read : (shape : Shape) (states : ℕ → DeviceState) (p : ℕ) (all members : List Member) → AreMembers shape (states p) members → HasRead shape (cells_of states) p all → HasRead shape (cells_of states) (p + 1) (all ++ members)
next_read shape states p all members are has = record {
  read = λ m known. old m (Contains-append_cases all members m known);
  every = λ q name m lt reads. there q name m reads (split q p lt);
}
  where
    old : (m : Member) → Contains all m ⊎ Contains members m → (q : ℕ) × (q < p + 1) × ReadsMember shape (record_name m.which m.node) (cells_of states q (record_name m.which m.node)) m
    old m (inl known) = let r = has.read m known in (r.0, omega (arith, r.1), r.2)
    old m (inr known) = (p, omega arith, reads_as shape (states p) members m are known)

    split : (u v : ℕ) → u < v + 1 → (u < v) ⊎ (u ≡ v)
    split u v lt = grind (arith, lt)

    there : (q : ℕ) (name : List ℕ) (m : Member) → ReadsMember shape name (cells_of states q name) m → (q < p) ⊎ (q ≡ p) → Contains (all ++ members) m
    there q name m reads (inl lt) = Contains-append_left all members m (has.every q name m lt reads)
    there q name m reads (inr same) = Contains-append_right all members m (are.every name m (subst (λ (k : ℕ). ReadsMember shape name (cells_of states k name) m) same reads))

-- each is of one of the site's nodes
pub of_nodes : (shape : Shape) (d : DeviceState) (members : List Member) → AreMembers shape d members → AreOfNodes shape.nodes members
of_nodes shape d members are m known = let r = reads_as shape d members m are known in subst (λ (n : ℕ). m.node < n) r.member.nodes r.member.node

-- ## What was read, in the words of what is shown

module _ (shape : Shape) (cells : Cells) (all : List Member) (has : HasRead shape cells (physical_nodes shape) all) where
  is_so : (o : Option (List ℕ)) (k : ℕ) → is_open o k ≡ true → IsOpen o k
  is_so o k is = grind (arith, nat_tests, is)

  so_is : (o : Option (List ℕ)) (k : ℕ) → IsOpen o k → is_open o k ≡ true
  so_is o k is = grind (arith, nat_tests, is)

  opens_by : (m : Member) (p : ℕ) → p < physical_nodes shape → ReadsMember shape (record_name m.which m.node) (cells p (record_name m.which m.node)) m → m.whole ≡ true → Opens shape cells p m.which m.node
  opens_by m p lt r whole = record {
    place = lt;
    reads = (m, record { which_is = refl; node_is = refl; reads = r });
    whole = is_so (cells p (record_name m.which m.node)) 0 (sym r.whole ∙ whole);
  }

  -- a whole member that was read is shown
  shown : (m : Member) (which : DataId) → IsWholeOf all which m → (p : ℕ) × Opens shape cells p which m.node
  shown m which is =
      let r = has.read m is.known in
      (r.0, subst (λ (d : DataId). Opens shape cells r.0 d m.node) (sym r.2.member.which ∙ is.which_is) (opens_by m r.0 r.1 r.2 is.whole))

  shown_sealed : (m : Member) (which : DataId) → IsWholeOf all which m → m.sealed ≡ true → (p : ℕ) × Seals shape cells p which m.node
  shown_sealed m which is sealed =
      let r = has.read m is.known in (
        r.0,
        subst (λ (d : DataId). Seals shape cells r.0 d m.node) (sym r.2.member.which ∙ is.which_is)
            (record { opens = opens_by m r.0 r.1 r.2 is.whole; sealed = is_so (cells r.0 (record_name m.which m.node)) 1 (sym r.2.sealed ∙ sealed) }),
      )

  -- what is shown was read
  known : (p : ℕ) (which : DataId) (node : ℕ) → Opens shape cells p which node → (m : Member) × IsWholeOf all which m × (m.node ≡ node)
  known p which node opens =
      let r = opens.reads.1 in
      (opens.reads.0, record { known = has.every p (record_name which node) opens.reads.0 opens.place r.reads; whole = r.reads.whole ∙ so_is (cells p (record_name which node)) 0 opens.whole; which_is = r.reads.member.which ∙ r.which_is }, r.node_is)

  known_sealed : (p : ℕ) (which : DataId) (node : ℕ) → Seals shape cells p which node → (m : Member) × IsWholeOf all which m × (m.sealed ≡ true)
  known_sealed p which node seals =
      let r = seals.opens.reads.1 in (
        seals.opens.reads.0,
        record { known = has.every p (record_name which node) seals.opens.reads.0 seals.opens.place r.reads; whole = r.reads.whole ∙ so_is (cells p (record_name which node)) 0 seals.opens.whole; which_is = r.reads.member.which ∙ r.which_is },
        r.reads.sealed ∙ so_is (cells p (record_name which node)) 1 seals.sealed,
      )

  its_node : (m : Member) (which : DataId) → IsWholeOf all which m → m.node < shape.nodes
  its_node m which is = let r = (has.read m is.known).2 in subst (λ (n : ℕ). m.node < n) r.member.nodes r.member.node

  -- ## A dataset that is found

  unmarked : List Bool → ℕ → Bool
  unmarked there node = not (is_marked there node)

  told_by : (x : SeenSet) → IsSeen shape.nodes all x → IsTold shape cells (found_of shape.nodes x)
  told_by x seen =
      let m = seen.told.0 in
      let r = has.read m seen.told.1.known in
      let same : m.which ≡ x.desc.which = sym r.2.member.which ∙ seen.told.1.which_is in
      record {
        place = r.0;
        member = m;
        low = r.1;
        reads = subst (λ (d : DataId). ReadsMember shape (record_name d m.node) (cells r.0 (record_name d m.node)) m) same r.2;
        whole = seen.told.1.whole;
        desc = seen.told.2;
        files = seen.told.3;
      }

  is_found : (x : SeenSet) → IsSeen shape.nodes all x → x.sealed ≡ true → IsFound shape cells (found_of shape.nodes x)
  is_found x seen sealed = record {
    told = told_by x seen;
    shows = record {
      nodes = chosen_nodes (λ node. not (is_marked x.there node)) shape.nodes;
      gone = λ node p among opens.
          let w = known p x.desc.which node opens in
          let marked : is_marked x.there node ≡ true = subst (λ (n : ℕ). is_marked x.there n ≡ true) w.2 (seen.marks.every w.0 w.1) in
          not_both (is_marked x.there node) marked (among_passes (λ n. not (is_marked x.there n)) (numbers_below shape.nodes) node among);
      found = λ node lt away.
          let marked : is_marked x.there node ≡ true = is_there (is_marked x.there node) (sym (among_chosen (λ n. not (is_marked x.there n)) shape.nodes node lt) ∙ away) in
          let w = seen.marks.there node marked in
          let o = shown w.0 x.desc.which w.1 in
          (o.0, subst (Opens shape cells o.0 x.desc.which) w.2 o.1);
    };
    few =
        let w = seen.marks.sealed sealed in
        fewer_chosen (λ n. not (is_marked x.there n)) shape.nodes w.0.node (its_node w.0 x.desc.which w.1) (ap not (seen.marks.every w.0 w.1));
    sealed = let w = seen.marks.sealed sealed in let s = shown_sealed w.0 x.desc.which w.1 w.2 in (s.0, w.0.node, s.1);
  }
    where
      not_both : (b : Bool) → b ≡ true → not b ≡ true → ⊥
      not_both true t n = cc n
      not_both false t n = cc t

      is_there : (b : Bool) → not b ≡ false → b ≡ true
      is_there true n = refl
      is_there false n = absurd (cc n)

-- ## All that are found

from_chosen : (nodes : ℕ) (sets : List SeenSet) (i : ℕ) (y : FoundSet) → slice_get (map (found_of nodes) (filter is_sealed sets)) i ≡ Some y → (k : ℕ) × (x : SeenSet) × (slice_get sets k ≡ Some x) × (x.sealed ≡ true) × (found_of nodes x ≡ y)
from_chosen nodes [] i y at = absurd (cc at)
from_chosen nodes (s ∷ sets) i y at = pick s.sealed refl i at (λ j. from_chosen nodes sets j y) where
  Found : List SeenSet → Type 0
  Found xs = (k : ℕ) × (x : SeenSet) × (slice_get xs k ≡ Some x) × (x.sealed ≡ true) × (found_of nodes x ≡ y)

  up : Found sets → Found (s ∷ sets)
  up f = (suc f.0, f.1, f.2, f.3, f.4)

  pick : (b : Bool) → s.sealed ≡ b → (j : ℕ) → slice_get (map (found_of nodes) (if b then s ∷ filter is_sealed sets else filter is_sealed sets)) j ≡ Some y → ((k : ℕ) → slice_get (map (found_of nodes) (filter is_sealed sets)) k ≡ Some y → Found sets) → Found (s ∷ sets)
  pick true e zero at rest = let same : found_of nodes s ≡ y = cc at in (0, s, refl, e, same)
  pick true e (suc j) at rest = up (rest j at)
  pick false e j at rest = up (rest j at)

to_chosen : (nodes : ℕ) (sets : List SeenSet) (k : ℕ) (x : SeenSet) → slice_get sets k ≡ Some x → x.sealed ≡ true → (i : ℕ) × (slice_get (map (found_of nodes) (filter is_sealed sets)) i ≡ Some (found_of nodes x))
to_chosen nodes [] k x at sealed = absurd (cc at)
to_chosen nodes (s ∷ sets) zero x at sealed = let same : s ≡ x = cc at in pick s.sealed (ap is_sealed same ∙ sealed) same where
  pick : (b : Bool) → b ≡ true → s ≡ x → (i : ℕ) × (slice_get (map (found_of nodes) (if b then s ∷ filter is_sealed sets else filter is_sealed sets)) i ≡ Some (found_of nodes x))
  pick true e same = (0, ap (λ (z : SeenSet). Some (found_of nodes z)) same)
  pick false e same = absurd (cc e)
to_chosen nodes (s ∷ sets) (suc k) x at sealed = pick s.sealed (to_chosen nodes sets k x at sealed) where
  pick : (b : Bool) → (i : ℕ) × (slice_get (map (found_of nodes) (filter is_sealed sets)) i ≡ Some (found_of nodes x)) → (i : ℕ) × (slice_get (map (found_of nodes) (if b then s ∷ filter is_sealed sets else filter is_sealed sets)) i ≡ Some (found_of nodes x))
  pick true r = (suc r.0, r.1)
  pick false r = r

abbrev AreRisingFound : List FoundSet → Type 0
AreRisingFound found = (i j : ℕ) (x y : FoundSet) → i < j → slice_get found i ≡ Some x → slice_get found j ≡ Some y → IsEarlier x.desc.which y.desc.which

rising_chosen : (nodes : ℕ) (sets : List SeenSet) → AreRising sets → AreRisingFound (map (found_of nodes) (filter is_sealed sets))
rising_chosen nodes [] rising i j x y lt ix jy = absurd (cc ix)
rising_chosen nodes (s ∷ sets) rising i j x y lt ix jy = pick s.sealed i j lt ix jy (rising_chosen nodes sets (λ a b u v l au bv. rising (suc a) (suc b) u v (omega (arith, l)) au bv)) where
  pick : (b : Bool) → (i j : ℕ) → i < j → slice_get (map (found_of nodes) (if b then s ∷ filter is_sealed sets else filter is_sealed sets)) i ≡ Some x → slice_get (map (found_of nodes) (if b then s ∷ filter is_sealed sets else filter is_sealed sets)) j ≡ Some y → AreRisingFound (map (found_of nodes) (filter is_sealed sets)) → IsEarlier x.desc.which y.desc.which
  pick false i j lt ix jy rest = rest i j x y lt ix jy
  pick true i zero lt ix jy rest = absurd (omega (arith, lt))
  pick true zero (suc j) lt ix jy rest =
      let same : found_of nodes s ≡ x = cc ix in
      let f = from_chosen nodes sets j y jy in
      subst (λ (d : DataId). IsEarlier d y.desc.which) (ap (λ (z : FoundSet). z.desc.which) same) (subst (λ (d : DataId). IsEarlier s.desc.which d) (ap (λ (z : FoundSet). z.desc.which) f.4) (rising 0 (suc f.0) s f.1 (omega arith) refl f.2))
  pick true (suc i) (suc j) lt ix jy rest = rest i j x y (omega (arith, lt)) ix jy

pub found_all : (shape : Shape) (cells : Cells) (all : List Member) (sets : List SeenSet) → HasRead shape cells (physical_nodes shape) all → AreSeen shape.nodes all sets → AreFound shape cells (map (found_of shape.nodes) (filter is_sealed sets))
found_all shape cells all sets has seen = record {
  rising = rising_chosen shape.nodes sets seen.rising;
  sets = λ i y at. let f = from_chosen shape.nodes sets i y at in subst (IsFound shape cells) f.4 (is_found shape cells all has f.1 (seen.each f.0 f.1 f.2) f.3);
  every = λ p which node seals.
      let w = known_sealed shape cells all has p which node seals in
      let e = seen.every w.0 w.1.known w.1.whole in
      let sealed = (seen.each e.0 e.1 e.2).marks.seals w.0 (record { known = w.1.known; whole = w.1.whole; which_is = sym e.3 }) w.2 in
      let c = to_chosen shape.nodes sets e.0 e.1 e.2 sealed in
      (c.0, found_of shape.nodes e.1, c.1, e.3 ∙ w.1.which_is);
}
