-- One move of the commit as its core states it: a gate `sealed` is written, done or refused; and what makes it safe.
use Rattle.std.proofs.Common.{◌≡◌, ◌≢◌, inl, inr, ◌<◌, ℕ, Bool, true, false, List, [], ◌∷◌, Some, refl, sym, ◌∙◌, ap, subst, arith}
use Rattle.std.specs.Prelude.{IsTrue, slice_get, ◌&&◌}
use Rattle.std.proofs.lemmas.Bool.{cases_eq}
use Rattle.scr_base.specs.declared.shape.Shape.{Shape}
use Rattle.node_device.specs.DeviceState.{DeviceState}
use Rattle.member_store.specs.Names.{record_name, part_name, IsPlace}
use Rattle.member_store.specs.declared.part.Part.TheVariants.{File as FilePart, Share as SharePart}
use Rattle.ckpt_model.specs.Dataset.{Dataset}
use Rattle.ckpt_model.specs.Machine.{Machine, Setup, Kept, Mark}
use Rattle.ckpt_model.specs.Moves.{may}
use Rattle.ckpt_model.specs.Steps.{add_sealing, kept_sealing}
use Rattle.ckpt_model.specs.Stops.{may_stop}
use Rattle.ckpt_model.specs.declared.event.Event.TheVariants as event
use Rattle.ckpt_model.specs.declared.event.StopCause.TheVariants as cause
use Rattle.model_proper.specs.Next.{IsSealedNext}
use Rattle.site_stands.specs.Cells.{physical_nodes, prefix_place}
use Rattle.site_stands.specs.Members.{MemberStands, KeptStands, NoneReads}
use Rattle.site_stands.specs.Site.{PrefixStands, SiteStands, IsSafeToStop}
use Rattle.site_stands.specs.Frame.{LeavesNoMore}
use Rattle.site_stands.specs.Moves.{MovesDataset}
use Rattle.site_stands.specs.Gate.{Gate, GateIs, MemberIs, GatesHold, TurnsOneGate}
use Rattle.site_stands.proofs.Keeping.Kept.{same_file, read_place, nodes_step, prefix_kept}
use Rattle.site_stands.proofs.Changes.Nodes.{sealing_event}
use Rattle.site_stands.proofs.Changes.Prefix.{prefix_event}
use Rattle.site_stands.proofs.Turning.Gates.{gates_stand}
use Rattle.site_stands.proofs.Safety.Made.{made_safe}

module _ (shape : Shape) (old new : ℕ → DeviceState) (places : List ℕ) (d : Dataset) (node place : ℕ) (home : slice_get places node ≡ Some place) (turns : TurnsOneGate old new d node place 1 0) where
  member_then : MemberStands shape (old place) d node → MemberStands shape (new place) d node
  member_then is = record {
    desc = is.desc;
    rows = is.rows;
    describes = is.describes;
    small = is.small;
    body = turns.body (Rattle.member_store.specs.Members.member_body is.desc node is.rows) is.body;
    files = λ local j f at o may. is.files local j f at o (same_file ((old place).file (part_name d.which node (FilePart local j))) ((new place).file (part_name d.which node (FilePart local j))) (turns.only.others (part_name d.which node (FilePart local j)) (turns.no_part (FilePart local j))) o may);
    shares = λ local lt coded. let share = is.shares local lt coded in record {
      share = share.share;
      is = share.is;
      stands = λ o may. share.stands o (same_file ((old place).file (part_name d.which node (SharePart local))) ((new place).file (part_name d.which node (SharePart local))) (turns.only.others (part_name d.which node (SharePart local)) (turns.no_part (SharePart local))) o may);
    };
  }

  -- the gates `sealed` are as they were but for the one that is turned
  pub sealed_turn : (sealed upon : ℕ → Gate) → ((i : ℕ) → i ≢ node → upon i ≡ sealed i) → GateIs ((new place).file (record_name d.which node)) 1 (upon node)
      → ((i p : ℕ) → i ≢ node → slice_get places i ≡ Some p → MemberIs shape (old p) d i Gate.Open (sealed i) → MemberIs shape (new p) d i Gate.Open (sealed i))
      → GatesHold shape old places d (λ i. Gate.Open) sealed → GatesHold shape new places d (λ i. Gate.Open) upon
  sealed_turn sealed upon alike turned keeps holds = record {
    members = λ i p at. elim (cases_eq i node) [
      | inl same ↦
          let here : p ≡ place = one_place p place (subst (λ (x : ℕ). slice_get places x ≡ Some p) same at) home in
          let was = holds.members node place home in
          subst (λ (x : ℕ). (p < physical_nodes shape) × MemberIs shape (new p) d x Gate.Open (upon x)) (sym same)
          (subst (λ (x : ℕ). (x < physical_nodes shape) × MemberIs shape (new x) d node Gate.Open (upon node)) (sym here) (was.0, record { member = member_then was.1.member; first = turns.stays was.1.first; second = turned }))
      | inr other ↦ let was = holds.members i p at in (was.0, subst (λ (g : Gate). MemberIs shape (new p) d i Gate.Open g) (sym (alike i other)) (keeps i p other at was.1))
    ];
    elsewhere = λ p i low off o may reads opens. elim (cases_eq i node) [
      | inl same ↦ elim (cases_eq p place) [
        | inl here ↦ absurd (off (subst (λ (x : ℕ). slice_get places x ≡ Some p) (sym same) (home ∙ ap Some (sym here))))
        | inr away ↦ holds.elsewhere p i low off o (same_file ((old p).file (record_name d.which i)) ((new p).file (record_name d.which i)) (ap (λ (x : DeviceState). x.file (record_name d.which i)) (turns.others p away)) o may) reads opens
      ]
      | inr other ↦ holds.elsewhere p i low off o (moved p i other (read_place shape o d.which i reads) o may) reads opens
    ];
  }
    where
      one_place : (a b : ℕ) → slice_get places node ≡ Some a → slice_get places node ≡ Some b → a ≡ b
      one_place a b x y = cc (x, y)

      moved : (p i : ℕ) → i ≢ node → IsPlace d.which i → LeavesNoMore ((old p).file (record_name d.which i)) ((new p).file (record_name d.which i))
      moved p i other is_place = elim (cases_eq p place) [
        | inl here ↦ subst (λ (x : ℕ). LeavesNoMore ((old x).file (record_name d.which i)) ((new x).file (record_name d.which i))) (sym here) (same_file ((old place).file (record_name d.which i)) ((new place).file (record_name d.which i)) (turns.only.others (record_name d.which i) (turns.apart i (record_name d.which i) other is_place (inl refl))))
        | inr away ↦ same_file ((old p).file (record_name d.which i)) ((new p).file (record_name d.which i)) (ap (λ (x : DeviceState). x.file (record_name d.which i)) (turns.others p away))
      ]

-- ## The first gate `sealed`

-- a refused write of it: the devices hold for the state after the event already, so the stop is safe
pub first_seal_refused : (s : Setup) (old new : ℕ → DeviceState) (m : Machine) (d : Dataset) (before upon : ℕ → Gate) (place count : ℕ) → IsTrue (may_stop m (cause.Device place count)) → IsTrue (may s m (event.Sealing d.which)) → IsSealedNext s m d
    → SiteStands s old m → GatesHold s.shape old m.places d (λ i. Gate.Open) before → MovesDataset s.shape d.which old new → GatesHold s.shape new m.places d (λ i. Gate.Open) upon
    → IsSafeToStop s new (cause.Device place count) m
first_seal_refused s old new m d before upon place count stop may_seal is_next stands held moves holds =
    made_safe s new m (cause.Device place count) (event.Sealing d.which ∷ []) stop (one (may s m (event.Sealing d.which)) may_seal)
    (subst (λ (x : Machine). SiteStands s new x) (sym is_next.after_is) (record {
      proper = is_next.proper;
      nodes = nodes_step s old new (add_sealing m d) d.which moves.others (record {
        kept = λ i k at same stood. subst (λ (x : Kept). KeptStands s.shape new x) (sym (is_next.alone i k at same)) (in_doubt new upon holds);
        others = λ gone none. let there = is_next.there in absurd (cc (gone, there));
        later = λ later none. none_later later none;
      }) (sealing_event s old m d (in_doubt old before held) stands.nodes);
      prefix = again (prefix_kept s (old prefix_place) (new prefix_place) m moves.prefix stands.prefix);
    }))
  where
    in_doubt : (states : ℕ → DeviceState) (sealed : ℕ → Gate) → GatesHold s.shape states m.places d (λ i. Gate.Open) sealed → KeptStands s.shape states (kept_sealing m.places d)
    in_doubt states sealed all = gates_stand s.shape states m.places d (λ i. Gate.Open) sealed all Mark.Sealing true (λ node. refl) (λ certain. absurd (cc certain))

    one : (b : Bool) → IsTrue b → IsTrue ((true && b) && true)
    one true is_true = refl
    one false is_true = absurd (cc is_true)

    none_later : m.run < d.which.run → NoneReads s.shape old d.which → NoneReads s.shape new d.which
    none_later later none = absurd (let low = is_next.run_low in omega (arith, later, low))

    again : PrefixStands s (new prefix_place) m → PrefixStands s (new prefix_place) (add_sealing m d)
    again is_it = prefix_event s (new prefix_place) m (add_sealing m d) (record { run = refl; halt = refl; mark = refl; pending = refl; stores = λ stored may_be. may_be }) (λ i e at. inr (i, at)) (λ which. inr (λ of. record { entry = of.entry; at = record { place = of.at.place; entry = of.at.entry }; same = of.same })) is_it
