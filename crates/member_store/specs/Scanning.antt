-- What a scan knows of the members so far.
use Rattle.std.specs.Prelude.{◌≡◌, ◌<◌, ◌≤◌, ◌==◌, ◌/◌, ◌%◌, ℕ, List, length, All, Contains, insert, slice_get, Some}
use Rattle.scr_base.specs.declared.shape.Shape.{Shape}
use Rattle.node_device.specs.DeviceState.{DeviceState}
use Rattle.gated_record.specs.declared.reading.Record.{Record}
use Rattle.member_store.specs.Names.{record_name}
use Rattle.member_store.specs.Members.{IsMember, ReadsMember, IsBefore, member_body}
use Rattle.member_store.specs.declared.member.Member.{Member}
use Rattle.member_store.specs.declared.tree.Found.{Found}

-- the member of a record with these gates that says this
abbrev pub member_of : ℕ → Found → Member
member_of gates f = record { which = f.desc.which; node = f.node; whole = gates % 2 == 1; sealed = gates / 2 % 2 == 1; desc = f.desc; files = f.files }

-- a record that stands under this name reads as this member on a site of this shape
pub record RecordReads (shape : Shape) (name : List ℕ) (r : Record) (m : Member) : Type 0 where
  pub named : name ≡ record_name m.which m.node
  pub body : r.body ≡ member_body m.desc m.node m.files
  pub whole : m.whole ≡ (r.gates % 2 == 1)
  pub sealed : m.sealed ≡ (r.gates / 2 % 2 == 1)
  pub member : IsMember shape m

-- all members in front of the place are before this one, and the one at the place isn't
pub record IsPlaceFor (members : List Member) (m : Member) (place : ℕ) : Type 0 where
  pub within : place ≤ length members
  pub before : (i : ℕ) (a : Member) → i < place → slice_get members i ≡ Some a → IsBefore a m
  pub stop : (a : Member) → slice_get members place ≡ Some a → ¬ IsBefore a m

-- the member has come to the place behind those that are before it
pub record PutsMember (old : List Member) (m : Member) (new : List Member) : Type 0 where
  pub place : ℕ
  pub is_place : IsPlaceFor old m place
  pub put : new ≡ insert old place m

-- each member is before the later ones
abbrev pub AreAscending : List Member → Type 0
AreAscending members = (i j : ℕ) (a b : Member) → i < j → slice_get members i ≡ Some a → slice_get members j ≡ Some b → IsBefore a b

-- the file of a member's record reads as this member, and its name is one of these
pub record IsMet (shape : Shape) (d : DeviceState) (names : List (List ℕ)) (m : Member) : Type 0 where
  pub reads : ReadsMember shape (record_name m.which m.node) (d.file (record_name m.which m.node)).now m
  pub met : Contains names (record_name m.which m.node)

-- these are all the members that the files of these names read as, in order
pub record AreMet (shape : Shape) (d : DeviceState) (names : List (List ℕ)) (members : List Member) : Type 0 where
  pub ascending : AreAscending members
  pub read : All (IsMet shape d names) members
  pub every : (name : List ℕ) (m : Member) → Contains names name → ReadsMember shape name (d.file name).now m → Contains members m
