-- One kept dataset at the look: what it leaves is what the devices hold.
use Rattle.std.proofs.Common.{◌≡◌, ◌<◌, ◌+◌, ℕ, zero, suc, Bool, true, false, List, [], ◌∷◌, ◌++◌, length, Option, Some, refl, sym, ◌∙◌, ap, subst, arith}
use Rattle.std.specs.Prelude.{IsTrue, ◌||◌, ◌&&◌, ◌==◌, not, nat_lt, slice_get, slice_index, if◌then◌else◌}
use Rattle.std.specs.List.{list_all}
use Rattle.std.proofs.lemmas.Bool.Decides.{nat_tests}
use Rattle.scr_base.specs.declared.shape.DataId.{DataId}
use Rattle.scr_base.specs.declared.shape.Shape.{Shape}
use Rattle.scr_base.specs.Sets.{is_among}
use Rattle.node_device.specs.File.{MayLeave}
use Rattle.node_device.specs.DeviceState.{DeviceState}
use Rattle.gated_record.specs.Record.{IsOpen}
use Rattle.member_store.specs.Names.{record_name}
use Rattle.ckpt_model.specs.declared.event.FoundRow.{FoundRow}
use Rattle.ckpt_model.specs.Dataset.{bears}
use Rattle.ckpt_model.specs.Machine.{Kept, MemberState, Mark}
use Rattle.ckpt_model.specs.Loss.{has_no_home, map_members, homeless_from, lost_nodes, may_miss, may_find, may_leave, member_found, kept_found, member_mending, kept_taken_up}
use Rattle.ckpt_model.proofs.LookLemmas.{may_miss_each}
use Rattle.site_stands.specs.Cells.{cells_of}
use Rattle.site_stands.specs.View.{Opens, Seals, Reads}
use Rattle.site_stands.specs.Members.{HomeHolds, NodeStands, KeptStands, NoneSealed}
use Rattle.site_stands.specs.Look.{IsUntouched, RowShows}
use Rattle.site_stands.proofs.Safety.Nodes.{reads_of}

-- ## Lists of members

pub members_mapped : (f : ℕ → MemberState → MemberState) (start : ℕ) (ms : List MemberState) (node : ℕ) (st : MemberState) → slice_get (map_members f start ms) node ≡ Some st
    → (old : MemberState) × (slice_get ms node ≡ Some old) × (st ≡ f (start + node) old)
members_mapped f start [] node st at = absurd (cc at)
members_mapped f start (m ∷ ms) zero st at = (m, refl, (let same : f start m ≡ st = cc at in sym same ∙ ap (λ (n : ℕ). f n m) (omega arith)))
members_mapped f start (m ∷ ms) (suc node) st at = let there = members_mapped f (start + 1) ms node st at in (there.0, there.1, there.2 ∙ ap (λ (n : ℕ). f n there.0) (omega arith))

-- a member with no home is in the list of such
pub homeless_there : (start : ℕ) (ms : List MemberState) (node : ℕ) (st : MemberState) → slice_get ms node ≡ Some st → has_no_home st ≡ true → IsTrue (is_among (start + node) (homeless_from start ms))
homeless_there start [] node st at none = absurd (cc at)
homeless_there start (m ∷ ms) zero st at none = let same : m ≡ st = cc at in first (has_no_home m) (ap has_no_home same ∙ none)
  where
    first : (b : Bool) → b ≡ true → IsTrue (is_among (start + 0) (if b then start ∷ homeless_from (start + 1) ms else homeless_from (start + 1) ms))
    first true is = grind (arith, nat_tests)
    first false is = absurd (cc is)
homeless_there start (m ∷ ms) (suc node) st at none = behind (has_no_home m) (subst (λ (n : ℕ). IsTrue (is_among n (homeless_from (start + 1) ms))) (omega arith) (homeless_there (start + 1) ms node st at none))
  where
    behind : (b : Bool) → IsTrue (is_among (start + suc node) (homeless_from (start + 1) ms)) → IsTrue (is_among (start + suc node) (if b then start ∷ homeless_from (start + 1) ms else homeless_from (start + 1) ms))
    behind true rest = later (start == start + suc node) rest
      where
        later : (c : Bool) → IsTrue (is_among (start + suc node) (homeless_from (start + 1) ms)) → IsTrue (c || is_among (start + suc node) (homeless_from (start + 1) ms))
        later true is = refl
        later false is = is
    behind false rest = rest

-- ## What reads show

-- one that isn't shown as sealed isn't after a stop
pub unseen_unsealed : (shape : Shape) (states : ℕ → DeviceState) (which : DataId) → IsUntouched shape states which → ((p node : ℕ) → Seals shape (cells_of states) p which node → ⊥) → NoneSealed shape states which
unseen_unsealed shape states which fixed unseen p node low = λ o may reads opens seals. unseen p node (record {
  opens = record {
    place = low;
    reads = subst (λ (x : Option (List ℕ)). Reads shape x which node) (fixed p node low o may) reads;
    whole = subst (λ (x : Option (List ℕ)). IsOpen x 0) (fixed p node low o may) opens;
  };
  sealed = subst (λ (x : Option (List ℕ)). IsOpen x 1) (fixed p node low o may) seals;
})

module _ (shape : Shape) (states : ℕ → DeviceState) (law : (p : ℕ) (q : List ℕ) → MayLeave ((states p).file q) ((states p).file q).now) (k : Kept) (stands : KeptStands shape states k) where
  home_opens : (node : ℕ) (homes : List ℕ) (h : HomeHolds shape states k.dataset k.doubt node homes) → Opens shape (cells_of states) h.home k.dataset.which node
  home_opens node homes h =
      let q = record_name k.dataset.which node in
      record {
        place = h.place;
        reads = reads_of shape (cells_of states h.home q) k.dataset node h.member.desc h.member.rows h.member.describes h.member.small (h.member.body (cells_of states h.home q) (law h.home q));
        whole = h.whole (cells_of states h.home q) (law h.home q);
      }

  -- and a look may leave it
  pub unseen_may_leave : ((p node : ℕ) → Seals shape (cells_of states) p k.dataset.which node → ⊥) → IsTrue (may_leave k)
  unseen_may_leave unseen = split k.doubt refl
    where
      each : k.doubt ≡ false → (node : ℕ) (st : MemberState) → slice_get k.members node ≡ Some st → IsTrue (has_no_home st || st.unsure)
      each certain node st at = test (has_no_home st) st.unsure refl refl
        where
          test : (a b : Bool) → has_no_home st ≡ a → st.unsure ≡ b → IsTrue (a || b)
          test true b is_a is_b = refl
          test false true is_a is_b = refl
          test false false is_a is_b =
              let h = (stands node st at).present is_a is_b in
              absurd (unseen h.home node (record { opens = home_opens node st.homes h; sealed = h.sealed certain (cells_of states h.home (record_name k.dataset.which node)) (law h.home (record_name k.dataset.which node)) }))

      all_of : (ms : List MemberState) → ((node : ℕ) (st : MemberState) → slice_get ms node ≡ Some st → IsTrue (has_no_home st || st.unsure)) → IsTrue (list_all (λ m. has_no_home m || m.unsure) ms)
      all_of [] f = refl
      all_of (m ∷ ms) f = rw (f 0 m refl) (all_of ms (λ node st at. f (suc node) st at))

      split : (b : Bool) → k.doubt ≡ b → IsTrue (b || list_all (λ m. has_no_home m || m.unsure) k.members)
      split true is = refl
      split false is = all_of k.members (each is)

  -- one that is shown with these nodes lost may be found so
  pub seen_may_find : (row : FoundRow) → row.which ≡ k.dataset.which → length k.members ≡ shape.nodes → IsTrue (nat_lt (length row.lost) shape.nodes) → RowShows shape (cells_of states) row → IsTrue (may_find row.lost k)
  seen_may_find row same count_is fewer shows =
      three _ _ _ (subst (λ (n : ℕ). IsTrue (Rattle.ckpt_model.specs.Loss.are_nodes n row.lost)) (sym count_is) shows.nodes) (subst (λ (n : ℕ). IsTrue (nat_lt (length row.lost) n)) (sym count_is) fewer)
      (may_miss_each row.lost 0 k.members (λ i st at. subst (λ (n : ℕ). IsTrue (if is_among n row.lost then has_no_home st || st.unsure else not (has_no_home st))) (omega arith) (count i st at (is_among i row.lost) refl)))
    where
      three : (a b c : Bool) → IsTrue a → IsTrue b → IsTrue c → IsTrue (a && b && c)
      three true true true x y z = refl
      three true true false x y z = absurd (cc z)
      three true false c x y z = absurd (cc y)
      three false b c x y z = absurd (cc x)

      below_of : (ms : List MemberState) (i : ℕ) (st : MemberState) → slice_get ms i ≡ Some st → i < length ms
      below_of [] i st at = absurd (cc at)
      below_of (m ∷ ms) zero st at = omega arith
      below_of (m ∷ ms) (suc i) st at = omega (arith, below_of ms i st at)

      not_empty : (p : ℕ) (hs : List ℕ) → IsTrue (is_among p hs) → IsTrue (not (length hs == 0))
      not_empty p [] h = cc
      not_empty p (q ∷ qs) h = grind (arith, nat_tests)

      count : (i : ℕ) (st : MemberState) → slice_get k.members i ≡ Some st → (c : Bool) → is_among i row.lost ≡ c → IsTrue (if is_among i row.lost then has_no_home st || st.unsure else not (has_no_home st))
      count i st at true is = rw is (test (has_no_home st) st.unsure refl refl)
        where
          test : (a b : Bool) → has_no_home st ≡ a → st.unsure ≡ b → IsTrue (a || b)
          test true b is_a is_b = refl
          test false true is_a is_b = refl
          test false false is_a is_b = let h = (stands i st at).present is_a is_b in absurd (shows.gone i h.home is (subst (λ (w : DataId). Opens shape (cells_of states) h.home w i) (sym same) (home_opens i st.homes h)))
      count i st at false is = rw is (let there = shows.found i (omega (arith, below_of k.members i st at, count_is)) is in found there.0 (subst (λ (w : DataId). Opens shape (cells_of states) there.0 w i) same there.1))
        where
          found : (p : ℕ) → Opens shape (cells_of states) p k.dataset.which i → IsTrue (not (has_no_home st))
          found p opens = not_empty p st.homes ((stands i st at).exact p opens.place (cells_of states p (record_name k.dataset.which i)) (law p (record_name k.dataset.which i)) opens.reads opens.whole).is_home

  -- the dataset as it is found
  pub found_stands : IsUntouched shape states k.dataset.which → (lost : List ℕ) → ((node p : ℕ) → is_among node lost ≡ true → Opens shape (cells_of states) p k.dataset.which node → ⊥) → KeptStands shape states (kept_found lost k)
  found_stands fixed lost gone node st at =
      let of = members_mapped (member_found lost) 0 k.members node st at in
      subst (λ (x : MemberState). NodeStands shape states k.dataset k.doubt node x) (sym of.2)
      (subst (λ (n : ℕ). NodeStands shape states k.dataset k.doubt node (member_found lost n of.0)) (omega arith) (by_list node of.0 of.1 (is_among node lost) refl))
    where
      by_list : (i : ℕ) (old : MemberState) → slice_get k.members i ≡ Some old → (b : Bool) → is_among i lost ≡ b → NodeStands shape states k.dataset k.doubt i (if b then record { homes = []; unsure = false } else old)
      by_list i old there true is = record {
        present = λ home sure. absurd (cc home);
        exact = λ p low o may reads opens. absurd (gone i p is (record {
          place = low;
          reads = subst (λ (x : Option (List ℕ)). Reads shape x k.dataset.which i) (fixed p i low o may) reads;
          whole = subst (λ (x : Option (List ℕ)). IsOpen x 0) (fixed p i low o may) opens;
        }));
      }
      by_list i old there false is = stands i old there

-- ## The dataset as it is taken up

more_homes : (p place : ℕ) (hs : List ℕ) → IsTrue (is_among p hs) → IsTrue (is_among p (if is_among place hs then hs else hs ++ place ∷ []))
more_homes p place hs is = split (is_among place hs)
  where
    in_front : (xs : List ℕ) → IsTrue (is_among p xs) → IsTrue (is_among p (xs ++ place ∷ []))
    in_front [] h = absurd (cc h)
    in_front (x ∷ xs) h = step (x == p) h (λ rest. in_front xs rest)
      where
        step : (c : Bool) → IsTrue (c || is_among p xs) → (IsTrue (is_among p xs) → IsTrue (is_among p (xs ++ place ∷ []))) → IsTrue (c || is_among p (xs ++ place ∷ []))
        step true g ih = refl
        step false g ih = ih g

    split : (b : Bool) → IsTrue (is_among p (if b then hs else hs ++ place ∷ []))
    split true = is
    split false = in_front hs is

or_false : (a b : Bool) → a || b ≡ false → (a ≡ false) × (b ≡ false)
or_false false false is = (refl, refl)
or_false false true is = absurd (cc is)
or_false true b is = absurd (cc is)

mending_node : (shape : Shape) (states : ℕ → DeviceState) (places : List ℕ) (k : Kept) (node : ℕ) (st : MemberState) → slice_get k.members node ≡ Some st → NodeStands shape states k.dataset k.doubt node st → NodeStands shape states k.dataset k.doubt node (member_mending places (lost_nodes k) node st)
mending_node shape states places k node st at stands = record {
  present = λ home sure.
      let both = or_false st.unsure (is_among node (lost_nodes k)) sure in
      let h = stands.present (has_one (has_no_home st) refl both.1) both.0 in
      record { home = h.home; is_home = more_homes h.home (slice_index places node) st.homes h.is_home; place = h.place; member = h.member; whole = h.whole; sealed = h.sealed };
  exact = λ p low o may reads opens. let copy = stands.exact p low o may reads opens in record { is_home = more_homes p (slice_index places node) st.homes copy.is_home; member = copy.member };
}
  where
    has_one : (b : Bool) → has_no_home st ≡ b → is_among node (lost_nodes k) ≡ false → has_no_home st ≡ false
    has_one true is not_lost = absurd (let lost = homeless_there 0 k.members node st at is in let there : is_among node (lost_nodes k) ≡ true = subst (λ (n : ℕ). IsTrue (is_among n (homeless_from 0 k.members))) (omega arith) lost in cc (there, not_lost))
    has_one false is not_lost = is

-- A dataset that a run takes up, to mend it or to discard it.
pub taken_stands : (shape : Shape) (states : ℕ → DeviceState) (places : List ℕ) (k : Kept) → KeptStands shape states k → KeptStands shape states (kept_taken_up places k)
taken_stands shape states places k stands = split (bears k.dataset (lost_nodes k))
  where
    split : (b : Bool) → KeptStands shape states (if b then record k { mark = Mark.Mending; members = map_members (member_mending places (lost_nodes k)) 0 k.members } else record k { mark = Mark.Condemned })
    split false = λ node st at. stands node st at
    split true = λ node st at.
        let of = members_mapped (member_mending places (lost_nodes k)) 0 k.members node st at in
        subst (λ (x : MemberState). NodeStands shape states k.dataset k.doubt node x) (sym of.2)
        (subst (λ (n : ℕ). NodeStands shape states k.dataset k.doubt node (member_mending places (lost_nodes k) n of.0)) (omega arith) (mending_node shape states places k node of.0 of.1 (stands node of.0 of.1)))

pub taken_dataset : (places : List ℕ) (k : Kept) → (kept_taken_up places k).dataset ≡ k.dataset
taken_dataset places k = split (bears k.dataset (lost_nodes k))
  where
    split : (b : Bool) → (if b then record k { mark = Mark.Mending; members = map_members (member_mending places (lost_nodes k)) 0 k.members } else record k { mark = Mark.Condemned }).dataset ≡ k.dataset
    split true = refl
    split false = refl
