-- What the records of some physical nodes tell of each dataset, record by record.
use Rattle.std.specs.Prelude.{◌≡◌, ◌⊎◌, ◌<◌, ◌≤◌, ◌||◌, not, ℕ, Bool, true, false, List, ◌++◌, length, replicate, filter, insert, slice_get, slice_set, slice_index_or, Some, Contains}
use Rattle.scr_base.specs.Sets.{numbers_below}
use Rattle.scr_base.specs.declared.shape.DataId.{DataId}
use Rattle.member_store.specs.declared.member.Member.{Member}
use Rattle.recover_core.specs.declared.found.FoundSet.{FoundSet}
use Rattle.recover_core.specs.declared.seen.SeenSet.{SeenSet}

-- by number, and then by run
abbrev pub IsEarlier : DataId → DataId → Type 0
IsEarlier a b = (a.id < b.id) ⊎ ((a.id ≡ b.id) × (a.run < b.run))

-- each dataset is before the later ones
abbrev pub AreRising : List SeenSet → Type 0
AreRising sets = (i j : ℕ) (x y : SeenSet) → i < j → slice_get sets i ≡ Some x → slice_get sets j ≡ Some y → IsEarlier x.desc.which y.desc.which

-- all in front of the place are before the identity, and the one at the place isn't
pub record IsPlaceOf (sets : List SeenSet) (which : DataId) (place : ℕ) : Type 0 where
  pub within : place ≤ length sets
  pub before : (i : ℕ) (x : SeenSet) → i < place → slice_get sets i ≡ Some x → IsEarlier x.desc.which which
  pub stop : (x : SeenSet) → slice_get sets place ≡ Some x → ¬ IsEarlier x.desc.which which

-- the node is marked
abbrev pub is_marked : List Bool → ℕ → Bool
is_marked there node = slice_index_or there node false

-- which of so many nodes aren't
abbrev pub lost_among : ℕ → List Bool → List ℕ
lost_among nodes there = filter (λ node. not (is_marked there node)) (numbers_below nodes)

-- with a member of this node more
abbrev pub marked_with : ℕ → Bool → SeenSet → SeenSet
marked_with node sealed x = record x { there = slice_set x.there node true; sealed = x.sealed || sealed }

abbrev pub marked : Member → SeenSet → SeenSet
marked m x = marked_with m.node m.sealed x

-- the dataset of a member, of which nothing is there yet
abbrev pub set_of : ℕ → Member → SeenSet
set_of nodes m = record { desc = m.desc; files = m.files; there = replicate nodes false; sealed = false }

-- a dataset of that identity stands in the place, or none does
abbrev pub IsThere : List SeenSet → ℕ → DataId → Bool → Type 0
IsThere sets place which true = (x : SeenSet) × (slice_get sets place ≡ Some x) × (x.desc.which ≡ which)
IsThere sets place which false = (x : SeenSet) → slice_get sets place ≡ Some x → ¬ (x.desc.which ≡ which)

-- the dataset was there, and is marked
pub record MarksOne (m : Member) (old new : List SeenSet) : Type 0 where
  pub place : ℕ
  pub set : SeenSet
  pub at : slice_get old place ≡ Some set
  pub which : set.desc.which ≡ m.desc.which
  pub is : new ≡ slice_set old place (marked m set)

-- it wasn't, and has come to its place
pub record PutsOne (nodes : ℕ) (m : Member) (old new : List SeenSet) : Type 0 where
  pub place : ℕ
  pub is_place : IsPlaceOf old m.desc.which place
  pub other : (x : SeenSet) → slice_get old place ≡ Some x → ¬ (x.desc.which ≡ m.desc.which)
  pub is : new ≡ insert old place (marked m (set_of nodes m))

-- what the record of a member tells was taken up, if the member is whole
abbrev pub TakesMember : ℕ → Member → List SeenSet → List SeenSet → Type 0
TakesMember nodes m old new = (m.whole ≡ false → new ≡ old) × (m.whole ≡ true → MarksOne m old new ⊎ PutsOne nodes m old new)

-- ## What is seen so far

-- a member that was read is a whole one of the dataset
pub record IsWholeOf (all : List Member) (which : DataId) (m : Member) : Type 0 where
  pub known : Contains all m
  pub whole : m.whole ≡ true
  pub which_is : m.desc.which ≡ which

-- a dataset with just the marks that the members tell
pub record IsMarkedBy (nodes : ℕ) (all : List Member) (x : SeenSet) : Type 0 where
  pub long : length x.there ≡ nodes
  pub there : (node : ℕ) → is_marked x.there node ≡ true → (m : Member) × IsWholeOf all x.desc.which m × (m.node ≡ node)
  pub every : (m : Member) → IsWholeOf all x.desc.which m → is_marked x.there m.node ≡ true
  pub sealed : x.sealed ≡ true → (m : Member) × IsWholeOf all x.desc.which m × (m.sealed ≡ true)
  pub seals : (m : Member) → IsWholeOf all x.desc.which m → m.sealed ≡ true → x.sealed ≡ true

-- and one of them says what it is
pub record IsSeen (nodes : ℕ) (all : List Member) (x : SeenSet) : Type 0 where
  pub marks : IsMarkedBy nodes all x
  pub told : (m : Member) × IsWholeOf all x.desc.which m × (m.desc ≡ x.desc) × (m.files ≡ x.files)

-- the datasets of which these members tell a whole one, in order
pub record AreSeen (nodes : ℕ) (all : List Member) (sets : List SeenSet) : Type 0 where
  pub rising : AreRising sets
  pub each : (i : ℕ) (x : SeenSet) → slice_get sets i ≡ Some x → IsSeen nodes all x
  pub every : (m : Member) → Contains all m → m.whole ≡ true → (i : ℕ) × (x : SeenSet) × (slice_get sets i ≡ Some x) × (x.desc.which ≡ m.desc.which)

-- each member is of one of so many nodes
abbrev pub AreOfNodes : ℕ → List Member → Type 0
AreOfNodes nodes members = (m : Member) → Contains members m → m.node < nodes

-- what these members tell was taken up
abbrev pub TakesMembers : ℕ → List Member → List SeenSet → List SeenSet → Type 0
TakesMembers nodes members old new = (all : List Member) → AreOfNodes nodes members → AreSeen nodes all old → AreSeen nodes (all ++ members) new

-- ## What is found

-- is a member of it sealed
abbrev pub is_sealed : SeenSet → Bool
is_sealed x = x.sealed

-- as it is found
abbrev pub found_of : ℕ → SeenSet → FoundSet
found_of nodes x = record { desc = x.desc; files = x.files; lost = lost_among nodes x.there }
