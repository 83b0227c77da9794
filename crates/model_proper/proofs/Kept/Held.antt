-- What steps do to a kept dataset leaves it its members, on nodes of the site; and to which dataset it is, nothing.
use Rattle.std.proofs.Common.{◌≡◌, ◌+◌, ◌==◌, ℕ, zero, suc, Bool, true, false, List, [], ◌∷◌, ◌++◌, map, length, refl, sym, ◌∙◌, ap, subst, arith}
use Rattle.std.specs.Prelude.{IsTrue, ◌&&◌, not, filter, nat_lt, slice_index, if◌then◌else◌}
use Rattle.std.specs.List.{list_all}
use Rattle.std.proofs.lemmas.Bool.Decides.{nat_tests}
use Rattle.std.proofs.lemmas.List.{length-map}
use Rattle.scr_base.specs.declared.shape.DataId.{DataId}
use Rattle.scr_base.specs.Sets.{is_among}
use Rattle.ckpt_model.specs.Dataset.{Dataset, bears}
use Rattle.ckpt_model.specs.Machine.{Setup, Kept, Entry, MemberState, Mark}
use Rattle.ckpt_model.specs.Loss.{map_members, lost_nodes, member_off, member_without, kept_without, kept_without_all, member_shaken, kept_shaken, member_found, kept_found, member_mending, kept_taken_up}
use Rattle.ckpt_model.specs.Questions.{is_id_of, is_entry_of}
use Rattle.ckpt_model.specs.Steps.{members_at, are_places, are_distinct}
use Rattle.model_proper.proofs.Lists.{both, front, behind, In, in_map}
use Rattle.model_proper.proofs.Fair.Passes.{of_kept, of_index, IsHeld}

-- each home of a member passes
abbrev pub homes_pass : (ℕ → Bool) → MemberState → Bool
homes_pass t m = list_all t m.homes

filter_all : (t u : ℕ → Bool) (xs : List ℕ) → IsTrue (list_all t xs) → IsTrue (list_all t (filter u xs))
filter_all t u [] all = refl
filter_all t u (x ∷ xs) all = split (u x) (filter_all t u xs (behind (t x) (list_all t xs) all))
  where
    split : (b : Bool) → IsTrue (list_all t (filter u xs)) → IsTrue (list_all t (if b then x ∷ filter u xs else filter u xs))
    split true rest = both (t x) (list_all t (filter u xs)) (front (t x) (list_all t xs) all) rest
    split false rest = rest

append_all : (t : ℕ → Bool) (xs ys : List ℕ) → IsTrue (list_all t xs) → IsTrue (list_all t ys) → IsTrue (list_all t (xs ++ ys))
append_all t [] ys all more = more
append_all t (x ∷ xs) ys all more = both (t x) (list_all t (xs ++ ys)) (front (t x) (list_all t xs) all) (append_all t xs ys (behind (t x) (list_all t xs) all) more)

map_homes : (t : ℕ → Bool) (f : MemberState → MemberState) → ((m : MemberState) → IsTrue (homes_pass t m) → IsTrue (homes_pass t (f m))) → (ms : List MemberState) → IsTrue (list_all (homes_pass t) ms) → IsTrue (list_all (homes_pass t) (map f ms))
map_homes t f keeps [] all = refl
map_homes t f keeps (m ∷ ms) all = both (homes_pass t (f m)) (list_all (homes_pass t) (map f ms)) (keeps m (front (homes_pass t m) (list_all (homes_pass t) ms) all)) (map_homes t f keeps ms (behind (homes_pass t m) (list_all (homes_pass t) ms) all))

members_homes : (t : ℕ → Bool) (f : ℕ → MemberState → MemberState) → ((i : ℕ) (m : MemberState) → IsTrue (homes_pass t m) → IsTrue (homes_pass t (f i m))) → (node : ℕ) (ms : List MemberState) → IsTrue (list_all (homes_pass t) ms) → IsTrue (list_all (homes_pass t) (map_members f node ms))
members_homes t f keeps node [] all = refl
members_homes t f keeps node (m ∷ ms) all = both (homes_pass t (f node m)) (list_all (homes_pass t) (map_members f (node + 1) ms)) (keeps node m (front (homes_pass t m) (list_all (homes_pass t) ms) all)) (members_homes t f keeps (node + 1) ms (behind (homes_pass t m) (list_all (homes_pass t) ms) all))

members_length : (f : ℕ → MemberState → MemberState) (node : ℕ) (ms : List MemberState) → length (map_members f node ms) ≡ length ms
members_length f node [] = refl
members_length f node (m ∷ ms) = ap suc (members_length f (node + 1) ms)

abbrev low : Setup → ℕ → Bool
low s p = nat_lt p (s.shape.nodes + s.shape.spares)

-- ## Member by member

held_map : (s : Setup) (f : MemberState → MemberState) → ((m : MemberState) → IsTrue (homes_pass (low s) m) → IsTrue (homes_pass (low s) (f m))) → (k : Kept) → IsHeld s k → IsHeld s (record k { members = map f k.members })
held_map s f keeps k is = record {
  members = subst (λ (n : ℕ). IsTrue (n == s.shape.nodes)) (sym (length-map k.members f)) is.members;
  homes = map_homes (low s) f keeps k.members is.homes;
}

held_members : (s : Setup) (f : ℕ → MemberState → MemberState) → ((i : ℕ) (m : MemberState) → IsTrue (homes_pass (low s) m) → IsTrue (homes_pass (low s) (f i m))) → (k : Kept) (mark : Mark) → IsHeld s k → IsHeld s (record k { mark = mark; members = map_members f 0 k.members })
held_members s f keeps k mark is = record {
  members = subst (λ (n : ℕ). IsTrue (n == s.shape.nodes)) (sym (members_length f 0 k.members)) is.members;
  homes = members_homes (low s) f keeps 0 k.members is.homes;
}

pub held_without : (s : Setup) (p : ℕ) (k : Kept) → IsHeld s k → IsHeld s (kept_without p k)
held_without s p k is = held_map s (member_without p) (λ m all. split m all (is_among p m.homes)) k is
  where
    split : (m : MemberState) → IsTrue (homes_pass (low s) m) → (b : Bool) → IsTrue (homes_pass (low s) (if b then member_off p m else m))
    split m all true = filter_all (low s) (λ q. not (q == p)) m.homes all
    split m all false = all

pub held_without_all : (s : Setup) (ps : List ℕ) (k : Kept) → IsHeld s k → IsHeld s (kept_without_all ps k)
held_without_all s [] k is = is
held_without_all s (p ∷ ps) k is = held_without_all s ps (kept_without p k) (held_without s p k is)

pub held_shaken : (s : Setup) (p : ℕ) (k : Kept) → IsHeld s k → IsHeld s (kept_shaken p k)
held_shaken s p k is = held_map s (member_shaken p) (λ m all. split m all (is_among p m.homes)) k is
  where
    split : (m : MemberState) → IsTrue (homes_pass (low s) m) → (b : Bool) → IsTrue (homes_pass (low s) (if b then record m { unsure = true } else m))
    split m all true = all
    split m all false = all

pub held_found : (s : Setup) (lost : List ℕ) (k : Kept) → IsHeld s k → IsHeld s (kept_found lost k)
held_found s lost k is = held_members s (member_found lost) (λ i m all. split m all (is_among i lost)) k k.mark is
  where
    split : (m : MemberState) → IsTrue (homes_pass (low s) m) → (b : Bool) → IsTrue (homes_pass (low s) (if b then record { homes = []; unsure = false } else m))
    split m all true = refl
    split m all false = all

-- a run's places are nodes of the site
place_low : (s : Setup) (places : List ℕ) → IsTrue (list_all (low s) places) → (i : ℕ) → IsTrue (low s (slice_index places i))
place_low s [] all i = none
  where
    none : IsTrue (nat_lt 0 (s.shape.nodes + s.shape.spares))
    none = grind (arith, nat_tests, s.shape.limits)
place_low s (p ∷ ps) all zero = front (low s p) (list_all (low s) ps) all
place_low s (p ∷ ps) all (suc i) = place_low s ps (behind (low s p) (list_all (low s) ps) all) i

pub places_low : (s : Setup) (places : List ℕ) → IsTrue (are_places s places) → IsTrue (list_all (low s) places)
places_low s places is = behind (length places == s.shape.nodes) (list_all (low s) places) (front (length places == s.shape.nodes && list_all (low s) places) (are_distinct places) is)

pub places_count : (s : Setup) (places : List ℕ) → IsTrue (are_places s places) → IsTrue (length places == s.shape.nodes)
places_count s places is = front (length places == s.shape.nodes) (list_all (low s) places) (front (length places == s.shape.nodes && list_all (low s) places) (are_distinct places) is)

pub held_taken_up : (s : Setup) (places : List ℕ) (k : Kept) → IsTrue (are_places s places) → IsHeld s k → IsHeld s (kept_taken_up places k)
held_taken_up s places k at is = split (bears k.dataset (lost_nodes k))
  where
    add : (m : MemberState) (p : ℕ) → IsTrue (low s p) → IsTrue (homes_pass (low s) m) → (b : Bool) → IsTrue (list_all (low s) (if b then m.homes else m.homes ++ p ∷ []))
    add m p is_low all true = all
    add m p is_low all false = append_all (low s) m.homes (p ∷ []) all (both (low s p) true is_low refl)

    split : (b : Bool) → IsHeld s (if b then record k { mark = Mark.Mending; members = map_members (member_mending places (lost_nodes k)) 0 k.members } else record k { mark = Mark.Condemned })
    split true = held_members s (member_mending places (lost_nodes k)) (λ i m all. add m (slice_index places i) (place_low s places (places_low s places at) i) all (is_among (slice_index places i) m.homes)) k Mark.Mending is
    split false = record { members = is.members; homes = is.homes }

-- members at a run's places
at_homes : (s : Setup) (places : List ℕ) → IsTrue (list_all (low s) places) → IsTrue (list_all (homes_pass (low s)) (members_at places))
at_homes s [] all = refl
at_homes s (p ∷ ps) all = both (low s p && true) (list_all (homes_pass (low s)) (members_at ps)) (both (low s p) true (front (low s p) (list_all (low s) ps) all) refl) (at_homes s ps (behind (low s p) (list_all (low s) ps) all))

pub held_at : (s : Setup) (places : List ℕ) (k : Kept) → IsTrue (are_places s places) → k.members ≡ members_at places → IsHeld s k
held_at s places k at is = record {
  members = subst (λ (ms : List MemberState). IsTrue (length ms == s.shape.nodes)) (sym is)
      (subst (λ (n : ℕ). IsTrue (n == s.shape.nodes)) (sym (length-map places (λ p. record { homes = p ∷ []; unsure = false })))
      (places_count s places at));
  homes = subst (λ (ms : List MemberState). IsTrue (list_all (homes_pass (low s)) ms)) (sym is) (at_homes s places (places_low s places at));
}

-- ## Which dataset it is

pub same_without_all : (ps : List ℕ) (k : Kept) → (kept_without_all ps k).dataset ≡ k.dataset
same_without_all [] k = refl
same_without_all (p ∷ ps) k = same_without_all ps (kept_without p k)

pub same_taken_up : (places : List ℕ) (k : Kept) → (kept_taken_up places k).dataset ≡ k.dataset
same_taken_up places k = split (bears k.dataset (lost_nodes k))
  where
    split : (b : Bool) → (if b then record k { mark = Mark.Mending; members = map_members (member_mending places (lost_nodes k)) 0 k.members } else record k { mark = Mark.Condemned }).dataset ≡ k.dataset
    split true = refl
    split false = refl

pub same_kept : (f : Kept → Kept) → ((k : Kept) → (f k).dataset ≡ k.dataset) → (ks : List Kept) → of_kept (map f ks) ≡ of_kept ks
same_kept f same [] = refl
same_kept f same (k ∷ ks) = ap (λ (d : Dataset). d ∷ of_kept (map f ks)) (same k) ∙ ap (λ (ds : List Dataset). k.dataset ∷ ds) (same_kept f same ks)

pub same_index : (f : Entry → Entry) → ((e : Entry) → (f e).dataset ≡ e.dataset) → (es : List Entry) → of_index (map f es) ≡ of_index es
same_index f same [] = refl
same_index f same (e ∷ es) = ap (λ (d : Dataset). d ∷ of_index (map f es)) (same e) ∙ ap (λ (ds : List Dataset). e.dataset ∷ ds) (same_index f same es)

-- the one of an identity is changed
pub same_that : (f : Kept → Kept) → ((k : Kept) → (f k).dataset ≡ k.dataset) → (which : DataId) (k : Kept) → (if is_id_of which k then f k else k).dataset ≡ k.dataset
same_that f same which k = split (is_id_of which k)
  where
    split : (b : Bool) → (if b then f k else k).dataset ≡ k.dataset
    split true = same k
    split false = refl

pub same_entry : (f : Entry → Entry) → ((e : Entry) → (f e).dataset ≡ e.dataset) → (which : DataId) (e : Entry) → (if is_entry_of which e then f e else e).dataset ≡ e.dataset
same_entry f same which e = split (is_entry_of which e)
  where
    split : (b : Bool) → (if b then f e else e).dataset ≡ e.dataset
    split true = same e
    split false = refl

pub held_that : (s : Setup) (f : Kept → Kept) → ((k : Kept) → IsHeld s k → IsHeld s (f k)) → (which : DataId) (k : Kept) → IsHeld s k → IsHeld s (if is_id_of which k then f k else k)
held_that s f keeps which k is = split (is_id_of which k)
  where
    split : (b : Bool) → IsHeld s (if b then f k else k)
    split true = keeps k is
    split false = is

-- all that are kept
pub held_all : (s : Setup) (f : Kept → Kept) → ((k : Kept) → IsHeld s k → IsHeld s (f k)) → (ks : List Kept) → ((k : Kept) → In ks k → IsHeld s k) → (k : Kept) → In (map f ks) k → IsHeld s k
held_all s f keeps ks held k at = let from = in_map f ks k at in subst (λ (x : Kept). IsHeld s x) from.2 (keeps from.0 (held from.0 from.1))
