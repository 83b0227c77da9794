-- A physical node on which no record is left: the devices stand for the state after its loss.
use Rattle.std.proofs.Common.{◌≡◌, ◌≢◌, ◌<◌, ◌⊎◌, inl, inr, ℕ, Bool, true, false, List, [], ◌∷◌, map, Option, Some, None, refl, sym, ◌∙◌, ap, subst, arith}
use Rattle.std.specs.Prelude.{IsTrue, slice_get, not, filter, ◌==◌, ◌||◌, if◌then◌else◌}
use Rattle.std.specs.List.{list_any}
use Rattle.std.proofs.lemmas.Bool.{cases_eq}
use Rattle.std.proofs.lemmas.Bool.Decides.{nat_tests}
use Rattle.scr_base.specs.declared.shape.DataId.{DataId}
use Rattle.scr_base.specs.Sets.{is_among}
use Rattle.node_device.specs.File.{MayLeave, IsEmpty}
use Rattle.node_device.specs.DeviceState.{DeviceState}
use Rattle.node_device.specs.Outcomes.{rest_leaves}
use Rattle.ckpt_model.specs.Machine.{Machine, Setup, Kept, MemberState}
use Rattle.ckpt_model.specs.Loss.{has_no_home, member_off, member_without, kept_without}
use Rattle.ckpt_model.specs.Questions.{is_id_of}
use Rattle.ckpt_model.specs.Steps.{after_loss}
use Rattle.ckpt_model.specs.Proper.{IsProper}
use Rattle.ckpt_model.proofs.ShowsLemmas.{mapped_at}
use Rattle.member_store.specs.Names.{record_name}
use Rattle.site_stands.specs.Cells.{physical_nodes, prefix_place}
use Rattle.site_stands.specs.View.{Reads}
use Rattle.site_stands.specs.Members.{IsBare, HomeHolds, NodeStands, KeptStands, NoneSealed, NoneReads}
use Rattle.site_stands.specs.Site.{NodesStand, PrefixStands, SiteStands}
use Rattle.site_stands.specs.Frame.{KeepsPrefix, LeavesNoMore}
use Rattle.model_proper.proofs.Lists.{thins_self, thins_same}
use Rattle.model_proper.proofs.Fair.Passes.{of_kept, of_index, thinner_proper}
use Rattle.model_proper.proofs.Kept.Held.{held_without, same_kept, held_all}
use Rattle.site_stands.proofs.Keeping.Kept.{prefix_kept}

-- nothing reads where there is nothing
pub none_reads : (s : Setup) (which : DataId) (node : ℕ) → Reads s.shape None which node → ⊥
none_reads s which node r = absurd (omega (arith, r.1.reads.body.whole))

pub empty_bare : (s : Setup) (disk : DeviceState) → ((q : List ℕ) → IsEmpty (disk.file q)) → IsBare s.shape disk
empty_bare s disk empty which node o may reads =
    let is = empty (record_name which node) in
    none_reads s which node (subst (λ (x : Option (List ℕ)). Reads s.shape x which node) (rest_leaves (disk.file (record_name which node)) o is.at_rest may ∙ is.now) reads)

-- ## Homes after the loss

or_right : (a b c : Bool) → (IsTrue b → IsTrue c) → IsTrue (a || b) → IsTrue (a || c)
or_right true b c f h = refl
or_right false b c f h = f h

home_stays : (p q : ℕ) (hs : List ℕ) → (q ≡ p → ⊥) → IsTrue (is_among q hs) → IsTrue (is_among q (filter (λ r. not (r == p)) hs))
home_stays p q [] ne h = h
home_stays p q (r ∷ rs) ne h = step (r == p) refl (home_stays p q rs ne)
  where
    step : (b : Bool) → (r == p) ≡ b → (IsTrue (is_among q rs) → IsTrue (is_among q (filter (λ x. not (x == p)) rs))) → IsTrue (is_among q (if not b then r ∷ filter (λ x. not (x == p)) rs else filter (λ x. not (x == p)) rs))
    step true e ih = ih (only (r == q) refl h)
      where
        only : (c : Bool) → (r == q) ≡ c → IsTrue (c || is_among q rs) → IsTrue (is_among q rs)
        only true d g = absurd (grind (arith, nat_tests))
        only false d g = g
    step false e ih = or_right (r == q) _ _ ih h

pub home_off : (p q : ℕ) (st : MemberState) → (q ≡ p → ⊥) → IsTrue (is_among q st.homes) → IsTrue (is_among q (member_without p st).homes)
home_off p q st ne h = split (is_among p st.homes)
  where
    split : (b : Bool) → IsTrue (is_among q (if b then member_off p st else st).homes)
    split true = home_stays p q st.homes ne h
    split false = h

-- a member that is sure after the loss didn't stand on the node, and is as before
sure_member : (p : ℕ) (st : MemberState) → has_no_home (member_without p st) ≡ false → (member_without p st).unsure ≡ false → (is_among p st.homes ≡ false) × (member_without p st ≡ st)
sure_member p st h u = split (is_among p st.homes) refl h u
  where
    never : (c : Bool) → c ≡ false → not c ≡ false → ⊥
    never true h u = cc h
    never false h u = cc u

    split : (b : Bool) → is_among p st.homes ≡ b → has_no_home (if b then member_off p st else st) ≡ false → (if b then member_off p st else st).unsure ≡ false → (b ≡ false) × ((if b then member_off p st else st) ≡ st)
    split true is h u = absurd (never (has_no_home (member_off p st)) h u)
    split false is h u = (refl, refl)

kept_same : (p : ℕ) (which : DataId) (ks : List Kept) → list_any (is_id_of which) (map (kept_without p) ks) ≡ list_any (is_id_of which) ks
kept_same p which [] = refl
kept_same p which (k ∷ ks) = ap (λ b. is_id_of which k || b) (kept_same p which ks)

-- ## A proper state stays proper

pub proper_off : (s : Setup) (m : Machine) (p : ℕ) → IsProper s m → IsProper s (after_loss m p)
proper_off s m p = thinner_proper s m (after_loss m p) (record {
  kept = thins_same (of_kept m.kept) (of_kept (map (kept_without p) m.kept)) (same_kept (kept_without p) (λ k. refl) m.kept);
  index = thins_self (of_index m.index);
  run = omega arith;
  held = λ held. held_all s (kept_without p) (held_without s p) m.kept held;
})

-- ## The nodes

module _ (s : Setup) (old new : ℕ → DeviceState) (m : Machine) (lost : ℕ) (bare : IsBare s.shape (new lost)) (keeps : (p : ℕ) (q : List ℕ) → p < physical_nodes s.shape → p ≢ lost → LeavesNoMore ((old p).file q) ((new p).file q)) where
  same_or_not : (p : ℕ) → (p ≡ lost) ⊎ (p ≢ lost)
  same_or_not p = cases_eq p lost

  member_off_node : (k : Kept) (node : ℕ) (st : MemberState) → NodeStands s.shape old k.dataset k.doubt node st → NodeStands s.shape new k.dataset k.doubt node (member_without lost st)
  member_off_node k node st stands = record {
    present = λ home sure. let is = sure_member lost st home sure in
        still is.0 (subst (λ (x : MemberState). HomeHolds s.shape old k.dataset k.doubt node x.homes) (sym is.1) (stands.present (subst (λ (x : MemberState). has_no_home x ≡ false) is.1 home) (subst (λ (x : MemberState). x.unsure ≡ false) is.1 sure))) is.1;
    exact = λ p low o may reads opens. elim (same_or_not p) [
      | inl same ↦ absurd (bare k.dataset.which node o (subst (λ (x : ℕ). MayLeave ((new x).file (record_name k.dataset.which node)) o) same may) reads)
      | inr other ↦
          let copy = stands.exact p low o (keeps p (record_name k.dataset.which node) low other o may) reads opens in
          record { is_home = home_off lost p st other copy.is_home; member = moved p low other copy.member }
    ];
  }
    where
      moved : (p : ℕ) → p < physical_nodes s.shape → p ≢ lost → Rattle.site_stands.specs.Members.MemberStands s.shape (old p) k.dataset node → Rattle.site_stands.specs.Members.MemberStands s.shape (new p) k.dataset node
      moved p low other is = record {
        desc = is.desc;
        rows = is.rows;
        describes = is.describes;
        small = is.small;
        body = λ o may. is.body o (keeps p _ low other o may);
        files = λ local j f at o may. is.files local j f at o (keeps p _ low other o may);
        shares = λ local lt coded. let share = is.shares local lt coded in record { share = share.share; is = share.is; stands = λ o may. share.stands o (keeps p _ low other o may) };
      }

      still : is_among lost st.homes ≡ false → HomeHolds s.shape old k.dataset k.doubt node (member_without lost st).homes → member_without lost st ≡ st → HomeHolds s.shape new k.dataset k.doubt node (member_without lost st).homes
      still off h same =
          let other : h.home ≢ lost = λ is. absurd (let a : IsTrue (is_among lost st.homes) = subst (λ (x : MemberState). IsTrue (is_among lost x.homes)) same (subst (λ (x : ℕ). IsTrue (is_among x (member_without lost st).homes)) is h.is_home) in cc (a, off)) in
          record {
            home = h.home;
            is_home = h.is_home;
            place = h.place;
            member = moved h.home h.place other h.member;
            whole = λ o may. h.whole o (keeps h.home (record_name k.dataset.which node) h.place other o may);
            sealed = λ certain o may. h.sealed certain o (keeps h.home (record_name k.dataset.which node) h.place other o may);
          }

  pub nodes_off : NodesStand s old m → NodesStand s new (after_loss m lost)
  nodes_off stands = record {
    kept = λ i k at node st is.
        let of = mapped_at (kept_without lost) m.kept i k at in
        let there = mapped_at (member_without lost) of.0.members node st (subst (λ (x : Kept). slice_get x.members node ≡ Some st) of.2 is) in
        let stood = member_off_node of.0 node there.0 (stands.kept i of.0 of.1 node there.0 there.1) in
        subst (λ (x : Kept). NodeStands s.shape new x.dataset x.doubt node st) (sym of.2) (subst (λ (y : MemberState). NodeStands s.shape new of.0.dataset of.0.doubt node y) (sym there.2) stood);
    others = λ which not p node low o may reads opens seals. elim (same_or_not p) [
      | inl same ↦ absurd (bare which node o (subst (λ (x : ℕ). MayLeave ((new x).file (record_name which node)) o) same may) reads)
      | inr other ↦ stands.others which (sym (kept_same lost which m.kept) ∙ not) p node low o (keeps p (record_name which node) low other o may) reads opens seals
    ];
    later = λ which later p node low o may reads. elim (same_or_not p) [
      | inl same ↦ absurd (bare which node o (subst (λ (x : ℕ). MayLeave ((new x).file (record_name which node)) o) same may) reads)
      | inr other ↦ stands.later which later p node low o (keeps p (record_name which node) low other o may) reads
    ];
  }

  -- The devices stand for the state after the loss.
  pub site_off : KeepsPrefix (old prefix_place) (new prefix_place) → SiteStands s old m → SiteStands s new (after_loss m lost)
  site_off prefix stands = record {
    proper = proper_off s m lost stands.proper;
    nodes = nodes_off stands.nodes;
    prefix = again (prefix_kept s (old prefix_place) (new prefix_place) m prefix stands.prefix);
  }
    where
      again : PrefixStands s (new prefix_place) m → PrefixStands s (new prefix_place) (after_loss m lost)
      again is = record {
        entries = is.entries;
        others = λ which o may reads opens. let of = is.others which o may reads opens in record { entry = of.entry; at = record { place = of.at.place; entry = of.at.entry }; same = of.same };
        later = is.later;
        pairs = record {
          run = λ x y a b. let r = is.pairs.run x y a b in record { stored = r.stored; may = r.may; is = r.is };
          halt = is.pairs.halt;
          mark = is.pairs.mark;
        };
      }
