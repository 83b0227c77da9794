-- Records and syncs before the first gate: what they make of the commit and of the site.
use Rattle.std.proofs.Common.{◌≡◌, ◌<◌, ◌+◌, ℕ, true, false, List, length, Some, refl, sym, ◌∙◌, ap, subst, arith}
use Rattle.std.specs.Prelude.{slice_get}
use Rattle.std.proofs.lemmas.Bool.Decides.{nat_tests}
use Rattle.std.proofs.lemmas.Option.{slice_get_within}
use Rattle.scr_base.specs.declared.shape.Shape.{Shape}
use Rattle.node_device.specs.DeviceState.{DeviceState}
use Rattle.node_device.specs.Rack.{OnlyAt}
use Rattle.member_store.specs.Names.{record_name, IsPlace}
use Rattle.member_store.specs.Members.{member_body}
use Rattle.ckpt_model.specs.Dataset.{Dataset}
use Rattle.ckpt_model.specs.Machine.{Machine, Setup}
use Rattle.ckpt_model.specs.Questions.{is_kept}
use Rattle.site_stands.specs.Cells.{physical_nodes}
use Rattle.site_stands.specs.Gate.{Gate, GatesHold}
use Rattle.site_stands.specs.MemberMoves.{WritesBodyAt, SyncsAt}
use Rattle.site_stands.specs.Site.{SiteStands}
use Rattle.site_stands.proofs.Lists.{physical_low}
use Rattle.site_stands.proofs.Changes.Nodes.{sync_keeps}
use Rattle.site_stands.proofs.Keeping.Kept.{site_kept}
use Rattle.site_stands.proofs.Moving.Files.{of_body, change_moves}
use Rattle.site_calls.specs.Calls.{Tells, Synced, Recorded, Unrecorded, KeptAlike}
use Rattle.commit_core.specs.declared.set.CommitSet.{CommitSet}
use Rattle.commit_core.specs.Fill.{IsUnused, Fill, FillIs, FillHolds, FitsNames}
use Rattle.commit_core.specs.Holds.{IsCommitOf}
use Rattle.commit_core.specs.Opened.{opened_to, filled_to}
use Rattle.commit_core.proofs.Filling.{fits_names, fill_step, unused_written, body_written, body_refused, node_synced, fills_kept, all_filled, set_fill}
use Rattle.commit_core.proofs.GateTurns.{gates_as, opened_none}

-- fills as they are called otherwise
pub fills_as : (shape : Shape) (states : ℕ → DeviceState) (places : List ℕ) (d : Dataset) (fills other : ℕ → Fill) → ((node : ℕ) → node < length places → other node ≡ fills node) → FillHolds shape states places d fills → FillHolds shape states places d other
fills_as shape states places d fills other alike holds = record {
  unused = holds.unused;
  members = λ i p at. let was = holds.members i p at in (was.0, subst (λ (f : Fill). FillIs shape (states p) d i f) (sym (alike i (slice_get_within places i p at))) was.1);
}

filled_set : (node : ℕ) (a b : Fill) (i : ℕ) → filled_to node b i ≡ set_fill (filled_to node a) node b i
filled_set node a b i = grind (arith, nat_tests)

filled_here : (node : ℕ) (a : Fill) → filled_to node a node ≡ a
filled_here node a = grind (arith, nat_tests)

pub filled_next : (node i : ℕ) → filled_to (node + 1) Fill.Parts i ≡ filled_to node Fill.Stable i
filled_next node i = grind (arith, nat_tests)

pub filled_none : (i : ℕ) → filled_to 0 Fill.Parts i ≡ Fill.Parts
filled_none i = grind (arith, nat_tests)

pub filled_all : (node i : ℕ) → i < node + 1 → filled_to node Fill.Stable i ≡ Fill.Stable
filled_all node i lt = grind (arith, nat_tests)

-- ## A device call is one at one place

pub synced_at : (place : ℕ) (old new : ℕ → DeviceState) → OnlyAt place Synced old new → SyncsAt place old new
synced_at place old new done = record { elsewhere = done.others; here = λ q. record { outcomes = (done.here.partly q).outcomes; now = (done.here.alike.files q).now } }

pub kept_at : (place : ℕ) (old new : ℕ → DeviceState) → OnlyAt place KeptAlike old new → SyncsAt place old new
kept_at place old new done = record { elsewhere = done.others; here = λ q. record { outcomes = (done.here.partly q).outcomes; now = (done.here.alike.files q).now } }

-- a sync, done or refused, leaves the site as it stands
pub synced_site : (s : Setup) (m : Machine) (place : ℕ) (old new : ℕ → DeviceState) → OnlyAt place Synced old new → SiteStands s old m → SiteStands s new m
synced_site s m place old new done stands = site_kept s old new m (sync_keeps place old new done.others done.here.partly) stands

pub unsynced_site : (s : Setup) (m : Machine) (place : ℕ) (old new : ℕ → DeviceState) → OnlyAt place KeptAlike old new → SiteStands s old m → SiteStands s new m
unsynced_site s m place old new done stands = site_kept s old new m (sync_keeps place old new done.others done.here.partly) stands

-- ## The dataset that is committed

pub places_count : (s : Setup) (m : Machine) (d : Dataset) (set : CommitSet) → IsCommitOf s m d set → length m.places ≡ s.shape.nodes
places_count s m d set of = ap (length {A = ℕ}) (sym of.places) ∙ set.fits.places_are ∙ of.describes.nodes

pub names_fit : (s : Setup) (m : Machine) (d : Dataset) (set : CommitSet) → IsCommitOf s m d set → FitsNames s.shape d
names_fit s m d set of = fits_names s.shape set.desc set.files d of.describes

module _ (s : Setup) (m : Machine) (d : Dataset) (set : CommitSet) (of : IsCommitOf s m d set) (old new : ℕ → DeviceState) (node place : ℕ) (home : slice_get m.places node ≡ Some place) where
  pub small : node < s.shape.nodes
  small = let count = places_count s m d set of in omega (arith, count, slice_get_within m.places node place home)

  pub is_place : IsPlace d.which node
  is_place = (names_fit s m d set of).places node small

  pub place_low : place < physical_nodes s.shape
  place_low = of.low node place home

  pub place_tells : Tells old → (old place).tells ≡ true
  place_tells told = told place (omega (arith, place_low, physical_low s.shape))

  body_site : is_kept m d.which ≡ false → WritesBodyAt d.which node place old new → IsUnused s.shape old d.which → SiteStands s old m → SiteStands s new m
  body_site free writes unused stands = fill_step s old new m d.which free of.so_far (change_moves s.shape d.which node (record_name d.which node) place old new is_place (of_body d.which node place old new writes) place_low) (unused_written s.shape d.which node place old new is_place writes unused) stands

  -- a record is written
  pub record_done : is_kept m d.which ≡ false → Tells old → OnlyAt place (Recorded (record_name d.which node) (member_body set.desc node set.files)) old new → FillHolds s.shape old m.places d (filled_to node Fill.Parts) → SiteStands s old m
      → SiteStands s new m × FillHolds s.shape new m.places d (filled_to node Fill.Written)
  record_done free told done holds stands = (
    body_site free writes holds.unused stands,
    fills_as s.shape new m.places d (set_fill (filled_to node Fill.Parts) node Fill.Written) (filled_to node Fill.Written) (λ i lt. filled_set node Fill.Parts Fill.Written i)
        (body_written s.shape d (names_fit s m d set of) old new m.places (places_count s m d set of) node place home writes (filled_to node Fill.Parts) (filled_here node Fill.Parts)
        (λ parts. record { desc = set.desc; rows = set.files; describes = of.describes; small = small; body = done.here.body_is (place_tells told); parts = parts }) holds),
  )
    where
      writes : WritesBodyAt d.which node place old new
      writes = record { elsewhere = done.others; others = done.here.only.others; shut = done.here.shut }

  -- or refused
  pub record_failed : is_kept m d.which ≡ false → OnlyAt place (Unrecorded (record_name d.which node)) old new → FillHolds s.shape old m.places d (filled_to node Fill.Parts) → SiteStands s old m
      → SiteStands s new m × FillHolds s.shape new m.places d (filled_to node Fill.Parts)
  record_failed free done holds stands = (
    body_site free writes holds.unused stands,
    fills_as s.shape new m.places d (set_fill (filled_to node Fill.Parts) node Fill.Parts) (filled_to node Fill.Parts) (λ i lt. filled_set node Fill.Parts Fill.Parts i)
        (body_refused s.shape d (names_fit s m d set of) old new m.places (places_count s m d set of) node place home writes (filled_to node Fill.Parts) (filled_here node Fill.Parts) holds),
  )
    where
      writes : WritesBodyAt d.which node place old new
      writes = record { elsewhere = done.others; others = done.here.only.others; shut = done.here.shut }

  -- the node is synced
  pub record_synced : OnlyAt place Synced old new → FillHolds s.shape old m.places d (filled_to node Fill.Written) → FillHolds s.shape new m.places d (filled_to node Fill.Stable)
  record_synced done holds = fills_as s.shape new m.places d (set_fill (filled_to node Fill.Written) node Fill.Stable) (filled_to node Fill.Stable) (λ i lt. filled_set node Fill.Written Fill.Stable i)
      (node_synced s.shape d (names_fit s m d set of) old new m.places (places_count s m d set of) node place home (filled_to node Fill.Written) (filled_here node Fill.Written) (synced_at place old new done) done.here.partly done.here.at_rest holds)

  -- or its sync is refused
  pub record_unsynced : OnlyAt place KeptAlike old new → FillHolds s.shape old m.places d (filled_to node Fill.Written) → FillHolds s.shape new m.places d (filled_to node Fill.Written)
  record_unsynced done holds = fills_kept s.shape d (names_fit s m d set of) old new m.places (places_count s m d set of) (filled_to node Fill.Written) place (kept_at place old new done) done.here.partly holds

-- the next node's record comes
pub next_record : (s : Setup) (states : ℕ → DeviceState) (m : Machine) (d : Dataset) (node : ℕ) → FillHolds s.shape states m.places d (filled_to node Fill.Stable) → FillHolds s.shape states m.places d (filled_to (node + 1) Fill.Parts)
next_record s states m d node holds = fills_as s.shape states m.places d (filled_to node Fill.Stable) (filled_to (node + 1) Fill.Parts) (λ i lt. filled_next node i) holds

-- after the last one the gates come
pub first_gate : (s : Setup) (states : ℕ → DeviceState) (m : Machine) (d : Dataset) (node : ℕ) → length m.places ≡ node + 1 → FillHolds s.shape states m.places d (filled_to node Fill.Stable) → GatesHold s.shape states m.places d (opened_to 0 Gate.Shut) (λ i. Gate.Shut)
first_gate s states m d node last holds = gates_as s.shape states m.places d (λ i. Gate.Shut) (λ i. Gate.Shut) (opened_to 0 Gate.Shut) (λ i. Gate.Shut) (λ i lt. (opened_none i, refl))
    (all_filled s.shape states m.places d (filled_to node Fill.Stable) (λ i lt. filled_all node i (omega (arith, lt, last))) holds)
