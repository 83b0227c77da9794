-- Where nothing is pending, what reads give is all that a stop may leave: so devices that stand for a state between two runs hold it file by file.
use Rattle.std.proofs.Common.{◌≡◌, ◌<◌, inl, inr, ℕ, Bool, false, List, Option, Some, refl, sym, ◌∙◌, subst, arith}
use Rattle.std.specs.Prelude.{IsTrue, slice_get, codes}
use Rattle.scr_base.specs.declared.shape.DataId.{DataId}
use Rattle.scr_base.specs.Sets.{is_among}
use Rattle.node_device.specs.File.{File, IsAtRest}
use Rattle.node_device.specs.DeviceState.{DeviceState}
use Rattle.node_device.specs.Outcomes.{rest_leaves}
use Rattle.gated_record.specs.Record.{IsOpen, is_open}
use Rattle.gated_record.specs.Pair.{copy_name, newer, value_in}
use Rattle.gate_outcomes.specs.Leaves.{Leaves}
use Rattle.member_store.specs.Names.{record_name, part_name}
use Rattle.member_store.specs.declared.part.Part.TheVariants.{File as FilePart, Share as SharePart}
use Rattle.ckpt_model.specs.Dataset.{Dataset}
use Rattle.ckpt_model.specs.Machine.{Machine, Setup, Kept, MemberState, Entry, EntryMark, Pending}
use Rattle.ckpt_model.specs.Questions.{is_kept, is_failed}
use Rattle.ckpt_model.specs.Stops.{pending_of, halt_left, mark_left}
use Rattle.ckpt_model.specs.Shows.{Shows, StandsAtHome}
use Rattle.ckpt_model.specs.declared.event.StopCause.{StopCause}
use Rattle.site_stands.specs.Cells.{cells_of, IsQuiet, IsLeftBy, physical_nodes, prefix_place}
use Rattle.site_stands.specs.Entry.{entry_name, flushed_name, ReadsEntry, mark_in}
use Rattle.site_stands.specs.View.{Reads, Opens, IsMemberOf, Lists, site_view, run_in}
use Rattle.site_stands.specs.Members.{MemberStands, HomeHolds, KeptStands, NoneSealed, NoneReads}
use Rattle.site_stands.specs.Prefix.{NeverOpen, EntryStands, GatesFit, EntryHolds, OfEntry, PairsStand}
use Rattle.site_stands.specs.Site.{Stands, SiteStands, IsSafeToStop, StandsAfterStop}
use Rattle.site_stands.proofs.Lists.{any_there, not_both}
use Rattle.site_stands.proofs.Safety.Index.{test_open, test_is}
use Rattle.site_stands.proofs.Rise.{proper_alone}

-- what reads give is so after every stop
pub at_rest : (P : Option (List ℕ) → Type 0) (f : File) → IsAtRest f → P f.now → Leaves f P
at_rest P f rest now o may = subst P (sym (rest_leaves f o rest may)) now

module _ (s : Setup) (states : ℕ → DeviceState) (m : Machine) (quiet : IsQuiet s.shape states) (shows : Shows s (site_view s.shape (cells_of states)) m)
    (alone : (k other : Kept) (i j : ℕ) → slice_get m.kept i ≡ Some k → slice_get m.kept j ≡ Some other → other.dataset.which ≡ k.dataset.which → other ≡ k) where
  rest_at : (p : ℕ) (q : List ℕ) → p < physical_nodes s.shape → IsAtRest ((states p).file q)
  rest_at p q low = quiet.nodes p q low

  rest_prefix : (q : List ℕ) → IsAtRest ((states prefix_place).file q)
  rest_prefix q = quiet.prefix q

  -- a member that is shown stands
  member_stands : (p : ℕ) (d : Dataset) (node : ℕ) → p < physical_nodes s.shape → IsMemberOf s.shape (cells_of states p) d node → MemberStands s.shape (states p) d node
  member_stands p d node low is = record {
    desc = is.desc;
    rows = is.rows;
    describes = is.describes;
    small = is.small;
    body = λ o may. at_rest (λ x. Rattle.gated_record.specs.Record.HasBody x (Rattle.member_store.specs.Members.member_body is.desc node is.rows)) ((states p).file (record_name d.which node)) (rest_at p (record_name d.which node) low) is.body o may;
    files = λ local j f at. at_rest (λ x. x ≡ Some f.bytes) ((states p).file (part_name d.which node (FilePart local j))) (rest_at p (part_name d.which node (FilePart local j)) low) (is.files_are local j f at);
    shares = λ local lt coded. let share = is.shares local lt coded in record { share = share.0; is = share.1; stands = at_rest (λ x. x ≡ Some share.0) ((states p).file (part_name d.which node (SharePart local))) (rest_at p (part_name d.which node (SharePart local)) low) share.2 };
  }

  -- a record that opens is that of its dataset's member, on one of its homes
  own : (k : Kept) (i : ℕ) (node : ℕ) (st : MemberState) → slice_get m.kept i ≡ Some k → slice_get k.members node ≡ Some st → (p : ℕ) → Opens s.shape (cells_of states) p k.dataset.which node → IsTrue (is_among p st.homes) × IsMemberOf s.shape (cells_of states p) k.dataset node
  own k i node st at is p opens = elim (shows.members.exact p k.dataset.which node opens) [
    | inl of ↦
        let same : of.kept ≡ k = alone k of.kept i of.member.place at of.member.kept of.same in
        let there : slice_get k.members node ≡ Some of.state = subst (λ (x : Kept). slice_get x.members node ≡ Some of.state) same of.member.state in
        let state : of.state ≡ st = one_state of.state st there is in
        (subst (λ (x : MemberState). IsTrue (is_among p x.homes)) state of.is_home, subst (λ (x : Kept). IsMemberOf s.shape (cells_of states p) x.dataset node) same of.exact)
    | inr over ↦ absurd (let there = any_there k m.kept i at in let gone = over.not_kept in cc (there, gone))
  ]
    where
      one_state : (a b : MemberState) → slice_get k.members node ≡ Some a → slice_get k.members node ≡ Some b → a ≡ b
      one_state a b x y = cc (x, y)

  kept_rests : (i : ℕ) (k : Kept) → slice_get m.kept i ≡ Some k → KeptStands s.shape states k
  kept_rests i k at node st is = record {
    present = λ home sure. home_of (shows.members.present k node st (record { place = i; kept = at; state = is }) home sure);
    exact = λ p low o may reads opens.
        let now = rest_leaves ((states p).file (record_name k.dataset.which node)) o (rest_at p (record_name k.dataset.which node) low) may in
        let shown : Opens s.shape (cells_of states) p k.dataset.which node = record {
          place = low;
          reads = subst (λ (x : Option (List ℕ)). Reads s.shape x k.dataset.which node) now reads;
          whole = subst (λ (x : Option (List ℕ)). IsOpen x 0) now opens;
        } in
        let of = own k i node st at is p shown in
        record { is_home = of.0; member = member_stands p k.dataset node low of.1 };
  }
    where
      home_of : StandsAtHome (site_view s.shape (cells_of states)) k node st → HomeHolds s.shape states k.dataset k.doubt node st.homes
      home_of h = record {
        home = h.home;
        is_home = h.is_home;
        place = h.whole.place;
        member = member_stands h.home k.dataset node h.whole.place (own k i node st at is h.home h.whole).1;
        whole = at_rest (λ x. IsOpen x 0) ((states h.home).file (record_name k.dataset.which node)) (rest_at h.home (record_name k.dataset.which node) h.whole.place) h.whole.whole;
        sealed = λ certain. at_rest (λ x. IsOpen x 1) ((states h.home).file (record_name k.dataset.which node)) (rest_at h.home (record_name k.dataset.which node) h.whole.place) (h.sealed certain).sealed;
      }

  others_rest : (which : DataId) → is_kept m which ≡ false → NoneSealed s.shape states which
  others_rest which not p node low o may reads opens seals =
      let now = rest_leaves ((states p).file (record_name which node)) o (rest_at p (record_name which node) low) may in
      let shown : Opens s.shape (cells_of states) p which node = record {
        place = low;
        reads = subst (λ (x : Option (List ℕ)). Reads s.shape x which node) now reads;
        whole = subst (λ (x : Option (List ℕ)). IsOpen x 0) now opens;
      } in
      elim (shows.members.exact p which node shown) [
        | inl of ↦ absurd (let there = any_there of.kept m.kept of.member.place of.member.kept in let gone = subst (λ (w : DataId). is_kept m w ≡ false) (sym of.same) not in cc (there, gone))
        | inr over ↦ over.shut (record { opens = shown; sealed = subst (λ (x : Option (List ℕ)). IsOpen x 1) now seals })
      ]

  later_rest : (which : DataId) → m.run < which.run → NoneReads s.shape states which
  later_rest which later p node low o may reads =
      let now = rest_leaves ((states p).file (record_name which node)) o (rest_at p (record_name which node) low) may in
      let le = shows.prefix.no_later which.run (which, refl, inl (p, node, low, subst (λ (x : Option (List ℕ)). Reads s.shape x which node) now reads)) in
      absurd (omega (arith, le, later))

  never_open : (x : Entry) → Lists (cells_of states prefix_place) x.dataset.which false → NeverOpen ((states prefix_place).file (entry_name x.dataset.which)) 1
  never_open x l o may opens = let now = rest_leaves ((states prefix_place).file (entry_name x.dataset.which)) o (rest_prefix (entry_name x.dataset.which)) may in not_both (is_open (cells_of states prefix_place (entry_name x.dataset.which)) 1) (test_open (cells_of states prefix_place (entry_name x.dataset.which)) 1 (subst (λ (y : Option (List ℕ)). IsOpen y 1) now opens)) l.failed_is

  gates_rest : (e : Entry) (mark : EntryMark) → Lists (cells_of states prefix_place) e.dataset.which (is_failed mark) → GatesFit (pending_of m.stage) e mark ((states prefix_place).file (entry_name e.dataset.which))
  gates_rest e EntryMark.Indexing lists = never_open e lists
  gates_rest e EntryMark.Flushed lists = (λ drop. at_rest (λ x. IsOpen x 0) ((states prefix_place).file (entry_name e.dataset.which)) (rest_prefix (entry_name e.dataset.which)) lists.indexed, never_open e lists)
  gates_rest e EntryMark.Failing lists = at_rest (λ x. IsOpen x 0) ((states prefix_place).file (entry_name e.dataset.which)) (rest_prefix (entry_name e.dataset.which)) lists.indexed
  gates_rest e EntryMark.Failed lists = (λ drop. at_rest (λ x. IsOpen x 0) ((states prefix_place).file (entry_name e.dataset.which)) (rest_prefix (entry_name e.dataset.which)) lists.indexed, at_rest (λ x. IsOpen x 1) ((states prefix_place).file (entry_name e.dataset.which)) (rest_prefix (entry_name e.dataset.which)) (test_is (cells_of states prefix_place (entry_name e.dataset.which)) 1 lists.failed_is))

  entry_rests : (i : ℕ) (e : Entry) → slice_get m.index i ≡ Some e → EntryHolds s.shape (states prefix_place) (pending_of m.stage) e
  entry_rests i e at =
      let is = shows.prefix.present e (record { place = i; entry = at }) in
      record {
        stands = record {
          desc = is.1.desc;
          rows = is.1.rows;
          describes = is.1.describes;
          body = λ o may. at_rest (λ x. Rattle.gated_record.specs.Record.HasBody x (Rattle.site_stands.specs.Entry.entry_body is.1.desc is.1.rows)) ((states prefix_place).file (entry_name e.dataset.which)) (rest_prefix (entry_name e.dataset.which)) is.1.body o may;
          flushed = λ rank j f there. at_rest (λ x. x ≡ Some f.bytes) ((states prefix_place).file (flushed_name e.dataset.name rank f.name)) (rest_prefix (flushed_name e.dataset.name rank f.name)) (is.1.flushed rank j f there);
        };
        gates = gates_rest e e.mark is.0;
      }

  indexed_rest : (which : DataId) → Rattle.site_stands.specs.Prefix.IsIndexed (states prefix_place) m which
  indexed_rest which o may reads opens =
      let now = rest_leaves ((states prefix_place).file (entry_name which)) o (rest_prefix (entry_name which)) may in
      let of = shows.prefix.exact which (is_open (cells_of states prefix_place (entry_name which)) 1) (record {
        reads = subst (λ (x : Option (List ℕ)). ReadsEntry x which) now reads;
        indexed = subst (λ (x : Option (List ℕ)). IsOpen x 0) now opens;
        failed_is = refl;
      }) in
      record { entry = of.entry; at = of.at; same = of.same }

  pair_rests : (stem : List ℕ) (P : Option Rattle.gated_record.specs.declared.pair.PairValue.PairValue → Type 0) → P (Rattle.gated_record.specs.Pair.pair_value stem (cells_of states prefix_place)) → Rattle.gated_record.specs.PairStages.PairLeaves stem (states prefix_place) P
  pair_rests stem P now first second may_first may_second =
      let a = rest_leaves ((states prefix_place).file (copy_name stem 0)) first (rest_prefix (copy_name stem 0)) may_first in
      let b = rest_leaves ((states prefix_place).file (copy_name stem 1)) second (rest_prefix (copy_name stem 1)) may_second in
      subst (λ (x : Option (List ℕ)). P (newer (value_in 0 x) (value_in 1 second))) (sym a) (subst (λ (y : Option (List ℕ)). P (newer (value_in 0 (cells_of states prefix_place (copy_name stem 0))) (value_in 1 y))) (sym b) now)

  pub rests : SiteStands s states m
  rests = record {
    proper = shows.proper;
    nodes = record { kept = kept_rests; others = others_rest; later = later_rest };
    prefix = record {
      entries = entry_rests;
      others = indexed_rest;
      later = λ which later o may reads.
          let now = rest_leaves ((states prefix_place).file (entry_name which)) o (rest_prefix (entry_name which)) may in
          let le = shows.prefix.no_later which.run (which, refl, inr (subst (λ (x : Option (List ℕ)). ReadsEntry x which) now reads)) in
          absurd (omega (arith, le, later));
      pairs = record {
        run = pair_rests (codes "run") (λ v. Rattle.site_stands.specs.Prefix.IsRunOf m (run_in v)) (record { stored = false; may = refl; is = shows.prefix.run });
        halt = pair_rests (codes "halt") (λ v. (took : Bool) × (Rattle.halt_file.specs.Stores.halt_in v ≡ halt_left (pending_of m.stage) took m.halt)) (false, shows.prefix.halt ∙ same_halt (pending_of m.stage));
        mark = pair_rests (codes "cur") (λ v. (took : Bool) × (mark_in v ≡ mark_left (pending_of m.stage) took m.mark)) (false, shows.prefix.mark ∙ same_mark (pending_of m.stage));
      };
    };
  }
    where
      same_halt : (p : Pending) → m.halt ≡ halt_left p false m.halt
      same_halt Pending.Nothing = refl
      same_halt (Pending.DropOf id) = refl
      same_halt (Pending.MarkOf which) = refl
      same_halt (Pending.HaltOf new) = refl

      same_mark : (p : Pending) → m.mark ≡ mark_left p false m.mark
      same_mark Pending.Nothing = refl
      same_mark (Pending.DropOf id) = refl
      same_mark (Pending.MarkOf which) = refl
      same_mark (Pending.HaltOf new) = refl

-- Devices that stand for a state between two runs hold it dataset by dataset, entry by entry and pair by pair.
pub stands_hold : (s : Setup) (states : ℕ → DeviceState) (m : Machine) → Stands s states m → SiteStands s states m
stands_hold s states m stands = rests s states m stands.quiet stands.shows (proper_alone s m stands.shows.proper)

-- What a safe stop leaves stands for a state after it.
pub safe_stands : (s : Setup) (old new : ℕ → DeviceState) (m : Machine) (why : StopCause) → IsSafeToStop s old why m → IsLeftBy s.shape old new → StandsAfterStop s new why m
safe_stands s old new m why safe left = let shown = safe (cells_of new) left.left in (shown.0, shown.1, record { quiet = left.quiet; shows = shown.2 })
