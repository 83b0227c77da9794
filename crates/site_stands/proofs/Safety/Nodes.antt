-- What a stop leaves of the nodes shows the members in cache.
use Rattle.std.proofs.Common.{◌≡◌, ◌≢◌, ◌⊎◌, inl, inr, ◌<◌, ◌≤◌, ◌+◌, ◌*◌, ◌==◌, ℕ, Bool, true, false, List, length, Option, Some, None, refl, sym, ◌∙◌, ap, subst, arith}
use Rattle.std.specs.Prelude.{IsTrue, slice_get}
use Rattle.std.proofs.lemmas.Bool.Decides.{nat_tests}
use Rattle.scr_base.specs.declared.shape.DataId.{DataId}
use Rattle.scr_base.specs.declared.shape.Shape.{Shape}
use Rattle.node_device.specs.File.{MayLeave}
use Rattle.node_device.specs.DeviceState.{DeviceState}
use Rattle.gated_record.specs.Record.{HasBody, is_open}
use Rattle.filemap.specs.Maps.{IsMap}
use Rattle.member_store.specs.Names.{record_name, part_name}
use Rattle.member_store.specs.Members.{member_body}
use Rattle.member_store.specs.declared.member.Member.{Member}
use Rattle.member_store.specs.declared.part.Part.TheVariants.{File as FilePart, Share as SharePart}
use Rattle.ckpt_model.specs.Dataset.{Dataset}
use Rattle.ckpt_model.specs.Machine.{Machine, Setup, Kept, MemberState}
use Rattle.ckpt_model.specs.Proper.{IsProper, has_members}
use Rattle.ckpt_model.specs.Questions.{is_kept}
use Rattle.ckpt_model.specs.Shows.{StandsAtHome, IsOfKept, IsLeftOver, ShowsMembers}
use Rattle.site_stands.specs.Cells.{Cells, physical_nodes, LeavesBay}
use Rattle.site_stands.specs.Described.{Describes}
use Rattle.site_stands.specs.View.{Reads, Opens, IsMemberOf, site_view}
use Rattle.site_stands.specs.Members.{MemberStands, HomeHolds}
use Rattle.site_stands.specs.Site.{NodesStand}
use Rattle.site_stands.proofs.Lists.{physical_low, kept_at, all_at}

-- what a whole record reads as
pub reads_of : (shape : Shape) (o : Option (List ℕ)) (d : Dataset) (node : ℕ) (desc : Rattle.dataset_desc.specs.declared.desc.Desc.Desc) (rows : List (List Rattle.filemap.specs.declared.rows.FileRow.FileRow)) → Describes shape desc rows d → node < shape.nodes → HasBody o (member_body desc node rows) → Reads shape o d.which node
reads_of shape o d node desc rows describes small body =
    let x : Member = record { which = d.which; node = node; whole = is_open o 0; sealed = is_open o 1; desc = desc; files = rows } in (
      x,
      record {
        which_is = refl;
        node_is = refl;
        reads = record {
          named = refl;
          body = body;
          whole = refl;
          sealed = refl;
          member = record {
            named = describes.named;
            which = describes.which;
            nodes = describes.nodes;
            ranks = describes.ranks;
            node = omega (arith, small, describes.nodes);
            files = subst (λ (n : ℕ). IsMap (n * desc.ranks) rows) (sym describes.nodes) (subst (λ (r : ℕ). IsMap (shape.nodes * r) rows) (sym describes.ranks) describes.map);
          };
        };
      },
    )

-- the node of a record that reads is one of the site
pub reads_small : (shape : Shape) (o : Option (List ℕ)) (which : DataId) (node : ℕ) → Reads shape o which node → node < shape.nodes
reads_small shape o which node r = omega (arith, r.1.reads.member.node, r.1.reads.member.nodes, r.1.node_is)

-- a proper state has each node's member
pub has_all : (s : Setup) (m : Machine) → IsProper s m → (i : ℕ) (k : Kept) → slice_get m.kept i ≡ Some k → length k.members ≡ s.shape.nodes
has_all s m proper i k at = number (length k.members) s.shape.nodes (all_at (has_members s) m.kept i k proper.members at)
  where
    number : (a b : ℕ) → IsTrue (a == b) → a ≡ b
    number a b is = grind (arith, nat_tests)

pub member_there : {A : Type 0} (xs : List A) (i : ℕ) → i < length xs → (o : Option A) → slice_get xs i ≡ o → (x : A) × (slice_get xs i ≡ Some x)
member_there xs i lt (Some x) is = (x, is)
member_there {A} (Rattle.std.proofs.Common.[]) i lt None is = absurd (omega (arith, lt))
member_there {A} (Rattle.std.proofs.Common.◌∷◌ y ys) Rattle.std.proofs.Common.zero lt None is = absurd (cc is)
member_there {A} (Rattle.std.proofs.Common.◌∷◌ y ys) (Rattle.std.proofs.Common.suc i) lt None is = member_there ys i (omega (arith, lt)) None is

module _ (s : Setup) (states : ℕ → DeviceState) (left : Cells) (outcome : LeavesBay states left) where
  at_name : (p : ℕ) (q : List ℕ) → p < physical_nodes s.shape → MayLeave ((states p).file q) (left p q)
  at_name p q low = outcome p q (omega (arith, low, physical_low s.shape))

  pub member_left : (p : ℕ) (d : Dataset) (node : ℕ) → p < physical_nodes s.shape → MemberStands s.shape (states p) d node → IsMemberOf s.shape (left p) d node
  member_left p d node low member = record {
    desc = member.desc;
    rows = member.rows;
    describes = member.describes;
    small = member.small;
    body = member.body (left p (record_name d.which node)) (at_name p (record_name d.which node) low);
    files_are = λ local j f at. member.files local j f at (left p (part_name d.which node (FilePart local j))) (at_name p (part_name d.which node (FilePart local j)) low);
    shares = λ local lt coded. let share = member.shares local lt coded in (share.share, share.is, share.stands (left p (part_name d.which node (SharePart local))) (at_name p (part_name d.which node (SharePart local)) low));
  }

  home_left : (k : Kept) (node : ℕ) (st : MemberState) → HomeHolds s.shape states k.dataset k.doubt node st.homes → StandsAtHome (site_view s.shape left) k node st
  home_left k node st h =
      let q = record_name k.dataset.which node in
      let may = at_name h.home q h.place in
      let opens : Opens s.shape left h.home k.dataset.which node = record {
        place = h.place;
        reads = reads_of s.shape (left h.home q) k.dataset node h.member.desc h.member.rows h.member.describes h.member.small (h.member.body (left h.home q) may);
        whole = h.whole (left h.home q) may;
      } in
      record {
        home = h.home;
        is_home = h.is_home;
        whole = opens;
        sealed = λ certain. record { opens = opens; sealed = h.sealed certain (left h.home q) may };
      }

  pub nodes_show : (m : Machine) → IsProper s m → NodesStand s states m → ShowsMembers (site_view s.shape left) m
  nodes_show m proper stands = record {
    present = λ k node st at home sure. home_left k node st ((stands.kept at.place k at.kept node st at.state).present home sure);
    exact = λ p which node opens. split p which node opens (is_kept m which) refl;
  }
    where
      split : (p : ℕ) (which : DataId) (node : ℕ) → Opens s.shape left p which node → (b : Bool) → is_kept m which ≡ b → IsOfKept (site_view s.shape left) m p which node ⊎ IsLeftOver (site_view s.shape left) m p which node
      split p which node opens false not = inr (record { not_kept = not; shut = λ seals. stands.others which not p node opens.place (left p (record_name which node)) (at_name p (record_name which node) opens.place) opens.reads opens.whole seals.sealed })
      split p which node opens true there =
          let k = kept_at which m.kept there in
          let its : Opens s.shape left p k.0.dataset.which node = subst (λ (w : DataId). Opens s.shape left p w node) (sym k.3) opens in
          let small = reads_small s.shape (left p (record_name which node)) which node opens.reads in
          let st = member_there k.0.members node (omega (arith, small, has_all s m proper k.1 k.0 k.2)) (slice_get k.0.members node) refl in
          let copy = (stands.kept k.1 k.0 k.2 node st.0 st.1).exact p its.place (left p (record_name k.0.dataset.which node)) (at_name p (record_name k.0.dataset.which node) its.place) its.reads its.whole in
          let of : IsOfKept (site_view s.shape left) m p k.0.dataset.which node = record {
            kept = k.0;
            state = st.0;
            member = record { place = k.1; kept = k.2; state = st.1 };
            same = refl;
            is_home = copy.is_home;
            exact = member_left p k.0.dataset node its.place copy.member;
          } in
          inl (subst (λ (w : DataId). IsOfKept (site_view s.shape left) m p w node) k.3 of)
