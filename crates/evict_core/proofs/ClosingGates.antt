-- A gate `sealed` is closed, done or refused, and its node is synced: what it makes of a dataset in cache and of the site.
use Rattle.std.proofs.Common.{◌≡◌, ◌≤◌, inl, inr, ◌<◌, ℕ, suc, true, List, length, set, Option, Some, refl, sym, ◌∙◌, ap, subst, arith}
use Rattle.std.specs.Prelude.{slice_get}
use Rattle.std.specs.Option.{option_map}
use Rattle.std.proofs.lemmas.List.{get_or-set_same}
use Rattle.scr_base.specs.declared.shape.DataId.{DataId}
use Rattle.node_device.specs.File.{bytes_of, byte_at}
use Rattle.node_device.specs.DeviceState.{DeviceState, IsSound}
use Rattle.node_device.specs.Outcomes.{is_there}
use Rattle.node_device.specs.Rack.{OnlyAt}
use Rattle.gated_record.specs.Record.{HasBody, KeepsBody, open_gate_byte}
use Rattle.gate_outcomes.specs.Leaves.{HasByte}
use Rattle.member_store.specs.Names.{record_name, IsPlace}
use Rattle.member_store.specs.Members.{member_body}
use Rattle.ckpt_model.specs.Dataset.{Dataset}
use Rattle.ckpt_model.specs.Machine.{Machine, Setup, Kept}
use Rattle.site_stands.specs.Cells.{physical_nodes}
use Rattle.site_stands.specs.Gate.{Gate, GateIs, GatesHold}
use Rattle.site_stands.specs.MemberMoves.{WritesAt, SyncsAt}
use Rattle.site_stands.specs.Members.{KeptStands}
use Rattle.site_stands.specs.Site.{SiteStands}
use Rattle.site_stands.proofs.Changes.Nodes.{sync_keeps}
use Rattle.site_stands.proofs.Keeping.Kept.{site_kept}
use Rattle.site_stands.proofs.Moving.Datasets.{kept_step}
use Rattle.site_stands.proofs.Moving.Files.{change_moves}
use Rattle.site_stands.proofs.Moving.Records.{gate_written, record_there}
use Rattle.site_stands.proofs.Turning.Gates.{gates_stand}
use Rattle.site_calls.specs.Calls.{Synced, Unturned, KeptAlike}
use Rattle.evict_core.specs.declared.closing.Closing.{Closing}
use Rattle.evict_core.specs.Changes.{Closed}
use Rattle.evict_core.specs.Holds.{closed_to, going_at, mark_of, IsKeptAs, ShutTo}
use Rattle.evict_core.proofs.GateTurns.{close_turn, close_synced, closed_here, shut_written, shut_synced, shut_more, rest_stays}

-- ## One gate of a member that stands

module _ (which : DataId) (node place : ℕ) (old new : ℕ → DeviceState) (body : List ℕ) (told : (old place).tells ≡ true) (sound : IsSound (old place)) (stands : KeepsBody ((old place).file (record_name which node)) body) where
  has : HasBody ((old place).file (record_name which node)).now body
  has = stands ((old place).file (record_name which node)).now (sound.now_allowed (record_name which node))

  there : HasByte ((old place).file (record_name which node)) 1
  there = record_there ((old place).file (record_name which node)) body 1 (omega arith) (sound.now_allowed (record_name which node)) stands

  long : 1 < length (bytes_of ((old place).file (record_name which node)).now)
  long = let whole = has.whole in omega (arith, whole)

  pub closed_at : OnlyAt place (Closed (record_name which node)) old new → WritesAt which node 1 place old new
  closed_at done = record {
    elsewhere = done.others;
    here = gate_written which node 1 (old place) (new place) (omega arith) done.here.only.others there done.here.torn
        (inr (0, done.here.now told long ∙ sym (ap (option_map (λ b. set b 1 0)) (is_there ((old place).file (record_name which node)).now there.there))));
  }

  pub unclosed_at : OnlyAt place (Unturned (record_name which node) 1) old new → WritesAt which node 1 place old new
  unclosed_at done = record {
    elsewhere = done.others;
    here = gate_written which node 1 (old place) (new place) (omega arith) done.here.only.others there done.here.torn (inl (done.here.refused.alike.files (record_name which node)).now);
  }

  pub closed_reads : OnlyAt place (Closed (record_name which node)) old new → GateIs ((new place).file (record_name which node)) 1 Gate.Closing
  closed_reads done = λ opens. absurd (other (byte_at ((new place).file (record_name which node)).now 1)
      (ap (λ (o : Option (List ℕ)). byte_at o 1) (done.here.now told long) ∙ get_or-set_same (bytes_of ((old place).file (record_name which node)).now) 1 0 0 long) opens)
    where
      other : (byte : ℕ) → byte ≡ 0 → byte ≡ open_gate_byte → ⊥
      other byte shut opens = absurd (omega (arith, shut, opens))

-- ## Syncs

pub synced_at : (place : ℕ) (old new : ℕ → DeviceState) → OnlyAt place Synced old new → SyncsAt place old new
synced_at place old new done = record { elsewhere = done.others; here = λ q. record { outcomes = (done.here.partly q).outcomes; now = (done.here.alike.files q).now } }

-- a sync, done or refused, leaves the site as it stands
pub synced_site : (s : Setup) (m : Machine) (place : ℕ) (old new : ℕ → DeviceState) → OnlyAt place Synced old new → SiteStands s old m → SiteStands s new m
synced_site s m place old new done stands = site_kept s old new m (sync_keeps place old new done.others done.here.partly) stands

pub unsynced_site : (s : Setup) (m : Machine) (place : ℕ) (old new : ℕ → DeviceState) → OnlyAt place KeptAlike old new → SiteStands s old m → SiteStands s new m
unsynced_site s m place old new done stands = site_kept s old new m (sync_keeps place old new done.others done.here.partly) stands

-- ## The dataset in cache whose gates are closed

module _ (s : Setup) (m : Machine) (d : Dataset) (why : Closing) (kept : IsKeptAs m d (going_at why m.places d)) (so_far : d.which.run ≤ m.run) (named : (node : ℕ) → node < s.shape.nodes → IsPlace d.which node) (old new : ℕ → DeviceState) (node place : ℕ) (small : node < s.shape.nodes)
    (home : slice_get m.places node ≡ Some place) (low : place < physical_nodes s.shape) (told : (old place).tells ≡ true) (sound : IsSound (old place)) (stands : SiteStands s old m) (holds : GatesHold s.shape old m.places d (λ i. Gate.Open) (closed_to node Gate.Open)) where
  abbrev body : List ℕ
  body = let x = (holds.members node place home).1.member in member_body x.desc node x.rows

  keeps : KeepsBody ((old place).file (record_name d.which node)) body
  keeps = (holds.members node place home).1.member.body

  -- in doubt every gate `sealed` is allowed
  written_site : (g : Gate) → WritesAt d.which node 1 place old new → GatesHold s.shape new m.places d (λ i. Gate.Open) (closed_to node g) → SiteStands s new m
  written_site g writes gates = kept_step s old new m d.which kept.there so_far
      (change_moves s.shape d.which node (record_name d.which node) place old new (named node small) (record { its = inl refl; elsewhere = writes.elsewhere; others = writes.here.others }) low)
      (λ i k at same stood. subst (λ (x : Kept). KeptStands s.shape new x) (sym (kept.alone i k at same)) (gates_stand s.shape new m.places d (λ i. Gate.Open) (closed_to node g) gates (mark_of why) true (λ node. refl) (λ certain. absurd (cc certain)))) stands

  pub close_done : OnlyAt place (Closed (record_name d.which node)) old new → SiteStands s new m × GatesHold s.shape new m.places d (λ i. Gate.Open) (closed_to node Gate.Closing)
  close_done done =
      let writes = closed_at d.which node place old new body told sound keeps done in
      let gates = close_turn s.shape old new m.places d node place home (named node small) writes done.here.only Gate.Closing (closed_reads d.which node place old new body told sound keeps done) holds in
      (written_site Gate.Closing writes gates, gates)

  pub close_failed : OnlyAt place (Unturned (record_name d.which node) 1) old new → SiteStands s new m
  close_failed done =
      let writes = unclosed_at d.which node place old new body told sound keeps done in
      written_site Gate.Loose writes (close_turn s.shape old new m.places d node place home (named node small) writes done.here.only Gate.Loose tt holds)

  pub close_shut : OnlyAt place (Closed (record_name d.which node)) old new → ShutTo old m.places d.which node → ShutTo new m.places d.which node
  close_shut done shut = shut_written old new m.places d.which node place (λ i lt. named i (omega (arith, lt, small))) done.others done.here.only shut

-- ## Its node is synced

module _ (s : Setup) (m : Machine) (d : Dataset) (old new : ℕ → DeviceState) (node place : ℕ) (home : slice_get m.places node ≡ Some place) (done : OnlyAt place Synced old new) (holds : GatesHold s.shape old m.places d (λ i. Gate.Open) (closed_to node Gate.Closing)) where
  pub sync_gates : GatesHold s.shape new m.places d (λ i. Gate.Open) (closed_to node Gate.Shut)
  sync_gates = close_synced s.shape old new m.places d place (synced_at place old new done) node home done.here.at_rest holds

  pub sync_shut : ShutTo old m.places d.which node → ShutTo new m.places d.which (suc node)
  sync_shut shut = shut_more new m.places d.which node place home
      (rest_stays ((new place).file (record_name d.which node)) (done.here.at_rest (record_name d.which node)) (subst (λ (g : Gate). GateIs ((new place).file (record_name d.which node)) 1 g) (closed_here node Gate.Shut) (sync_gates.members node place home).1.second))
      (shut_synced old new m.places d.which node place done.others done.here.partly shut)
