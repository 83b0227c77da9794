-- A dataset that is being mended stands at any time, and stands as mended once each node is done.
use Rattle.std.proofs.Common.{◌≡◌, inl, inr, ◌<◌, ℕ, zero, suc, false, List, [], ◌∷◌, length, Some, refl, sym, subst, arith}
use Rattle.std.specs.Prelude.{slice_get}
use Rattle.std.proofs.lemmas.Bool.{cases_eq}
use Rattle.std.proofs.lemmas.Option.{slice_get_within}
use Rattle.scr_base.specs.declared.shape.Shape.{Shape}
use Rattle.scr_base.specs.declared.shape.DataId.{DataId}
use Rattle.node_device.specs.DeviceState.{DeviceState}
use Rattle.ckpt_model.specs.Machine.{Machine, Setup, Kept, MemberState}
use Rattle.ckpt_model.specs.Steps.{kept_mended, change_kept}
use Rattle.ckpt_model.proofs.ShowsLemmas.{mapped_at}
use Rattle.site_stands.specs.Members.{IsHidden, NodeStands, KeptStands}
use Rattle.site_stands.specs.Site.{NodesStand}
use Rattle.site_stands.specs.Mend.{Mend, MendIs, MendsKept}
use Rattle.site_stands.proofs.Lists.{alone}
use Rattle.site_stands.proofs.Changes.Nodes.{change_event}

pub mends_stand : (shape : Shape) (states : ℕ → DeviceState) (places : List ℕ) (k : Kept) (mends : ℕ → Mend) → MendsKept shape states places k mends → KeptStands shape states k
mends_stand shape states places k mends holds node st at = (holds node st at).2.stands

got : (xs : List MemberState) (i : ℕ) → i < length xs → (st : MemberState) × (slice_get xs i ≡ Some st)
got [] i lt = absurd (omega (arith, lt))
got (x ∷ xs) zero lt = (x, refl)
got (x ∷ xs) (suc i) lt = got xs i (omega (arith, lt))

pub mended_stand : (shape : Shape) (states : ℕ → DeviceState) (places : List ℕ) (k : Kept) (mends : ℕ → Mend) → length places ≡ length k.members → ((node : ℕ) → node < length places → mends node ≡ Mend.Done) → MendsKept shape states places k mends
    → KeptStands shape states (kept_mended places k)
mended_stand shape states places k mends alike done holds node st at =
    let of = mapped_at (λ (p : ℕ). let x : MemberState = record { homes = p ∷ []; unsure = false } in x) places node st at in
    let lt = slice_get_within places node of.0 of.1 in
    let old = got k.members node (omega (arith, lt, alike)) in
    let held = holds node old.0 old.1 in
    let is : MendIs shape states k node old.0 held.0 Mend.Done = subst (λ (m : Mend). MendIs shape states k node old.0 held.0 m) (done node lt) held.2.at in
    let same : held.0 ≡ of.0 = same_place held.0 of.0 held.1 of.1 in
    subst (λ (x : MemberState). NodeStands shape states k.dataset false node x) (sym of.2)
    (subst (λ (p : ℕ). let x : MemberState = record { homes = p ∷ []; unsure = false } in NodeStands shape states k.dataset false node x) same (record {
      present = λ home sure. record { home = held.0; is_home = alone held.0 held.0 refl; place = held.2.below; member = is.0.member; whole = is.0.first; sealed = λ certain. is.0.second };
      exact = λ p low o may reads opens. elim (cases_eq p held.0) [
        | inl here ↦ record { is_home = alone p held.0 here; member = subst (λ (x : ℕ). Rattle.site_stands.specs.Members.MemberStands shape (states x) k.dataset node) (sym here) is.0.member }
        | inr off ↦ absurd (is.1 p low low off o may reads opens)
      ];
    }))
  where
    same_place : (a b : ℕ) → slice_get places node ≡ Some a → slice_get places node ≡ Some b → a ≡ b
    same_place a b x y = cc (x, y)

pub mended_event : (s : Setup) (states : ℕ → DeviceState) (m : Machine) (which : DataId) → ((k : Kept) (i : ℕ) → slice_get m.kept i ≡ Some k → k.dataset.which ≡ which → KeptStands s.shape states (kept_mended m.places k))
    → NodesStand s states m → NodesStand s states (change_kept (kept_mended m.places) which m)
mended_event s states m which mended stands = change_event s states m (kept_mended m.places) which (λ k. refl) (λ i k at same stood. mended k i at same) stands
