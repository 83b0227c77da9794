-- Files and bodies that are written in a place, before its gates: what is left to show of other members, datasets and of the site; and files that are closed, removed and synced before that.
use Rattle.std.proofs.Common.{◌≡◌, ◌≢◌, inl, inr, ◌<◌, ℕ, false, List, set, Option, Some, None, refl, sym, ◌∙◌, ap, subst, arith}
use Rattle.std.specs.Prelude.{slice_index}
use Rattle.std.specs.Option.{option_map}
use Rattle.std.proofs.lemmas.Bool.{cases_eq}
use Rattle.std.proofs.lemmas.List.{ext_get_or, get_or-set_same, get_or-set_other, length-set}
use Rattle.scr_base.specs.declared.shape.DataId.{DataId}
use Rattle.scr_base.specs.declared.shape.Shape.{Shape}
use Rattle.node_device.specs.File.{File, MayLeave, IsAtRest, IsRemoved, Torn, byte_at}
use Rattle.node_device.specs.DeviceState.{DeviceState}
use Rattle.node_device.specs.Outcomes.{rest_leaves}
use Rattle.gated_record.specs.Record.{HasBody, HasShutGates, is_open, open_gate_byte}
use Rattle.gate_outcomes.specs.Leaves.{HasByte}
use Rattle.gate_outcomes.proofs.Bytes.{left_before, body_set}
use Rattle.gate_outcomes.proofs.Stays.{rest_shut, removed_shut}
use Rattle.member_store.specs.Names.{record_name, part_name, IsPlace, IsPart, IsNameOf}
use Rattle.member_store.specs.Members.{member_body}
use Rattle.member_store.specs.declared.member.Member.{Member}
use Rattle.member_store.proofs.Distinct.{one_member}
use Rattle.member_store.specs.declared.part.Part.{Part}
use Rattle.site_stands.specs.Cells.{physical_nodes}
use Rattle.site_stands.specs.View.{Reads}
use Rattle.site_stands.specs.Members.{IsBlank, IsHidden}
use Rattle.site_stands.specs.Moves.{MovesDataset}
use Rattle.site_stands.proofs.Lists.{physical_low}
use Rattle.site_stands.proofs.Keeping.Kept.{same_file}
use Rattle.site_stands.specs.MemberMoves.{ElseKept, StaysPut, ChangesAt, WritesPartAt, WritesBodyAt}
use Rattle.site_stands.proofs.Moving.Members.{same_no_worse}

-- ## One file of a member changes

pub of_part : (which : DataId) (node : ℕ) (part : Part) (p : ℕ) (old new : ℕ → DeviceState) → IsPart part → WritesPartAt which node part p old new → ChangesAt which node (part_name which node part) p old new
of_part which node part p old new small writes = record { its = inr (part, small, refl); elsewhere = writes.elsewhere; others = writes.others }

pub of_body : (which : DataId) (node p : ℕ) (old new : ℕ → DeviceState) → WritesBodyAt which node p old new → ChangesAt which node (record_name which node) p old new
of_body which node p old new writes = record { its = inl refl; elsewhere = writes.elsewhere; others = writes.others }

module _ (shape : Shape) (which : DataId) (node : ℕ) (name : List ℕ) (p : ℕ) (old new : ℕ → DeviceState) (is_place : IsPlace which node) (changes : ChangesAt which node name p old new) where
  -- the member stays on the other physical_nodes nodes
  pub change_else : ElseKept shape which node p old new
  change_else q low other n named is = same_no_worse ((old q).file n) ((new q).file n) (ap (λ (s : DeviceState). s.file n) (changes.elsewhere q other))

  file_same : (q : ℕ) (n : List ℕ) → n ≢ name → (new q).file n ≡ (old q).file n
  file_same q n apart = elim (cases_eq q p) [
    | inl here ↦ subst (λ (x : ℕ). (new x).file n ≡ (old x).file n) (sym here) (changes.others n apart)
    | inr away ↦ ap (λ (s : DeviceState). s.file n) (changes.elsewhere q away)
  ]

  -- other members stay
  pub change_beside : (other : ℕ) → other ≢ node → StaysPut shape which other old new
  change_beside other differs q low n named is = same_no_worse ((old q).file n) ((new q).file n) (file_same q n (λ same. differs (one_member which which other node n named is_place is (subst (λ (x : List ℕ). IsNameOf which node x) (sym same) changes.its)).1))

  -- other datasets stay, and the prefix
  pub change_moves : p < physical_nodes shape → MovesDataset shape which old new
  change_moves low = record {
    others = λ other differs q i n low_q named is. same_file ((old q).file n) ((new q).file n) (file_same q n (λ same. differs (one_member other which i node n named is_place is (subst (λ (x : List ℕ). IsNameOf which node x) (sym same) changes.its)).0));
    prefix = λ n. same_file ((old 32).file n) ((new 32).file n) (ap (λ (s : DeviceState). s.file n) (changes.elsewhere 32 (λ is. absurd (omega (arith, is, low, physical_low shape)))));
  }

-- ## Before a place is written

-- where nothing is, and nothing can come back, no gate is open
pub nothing_shut : (f : File) → IsAtRest f → f.now ≡ None → HasShutGates f
nothing_shut f rest none = record {
  shut = λ o may gate lt opens. closed o gate (rest_leaves f o rest may ∙ none) opens;
  untouched = λ gate lt. rest.untouched gate;
}
  where
    closed : (o : Option (List ℕ)) (gate : ℕ) → o ≡ None → byte_at o gate ≡ open_gate_byte → ⊥
    closed o gate is opens = absurd (not_zero (byte_at None gate) refl (ap (λ (x : Option (List ℕ)). byte_at x gate) (sym is) ∙ opens))
      where
        not_zero : (byte : ℕ) → byte ≡ 0 → byte ≡ open_gate_byte → ⊥
        not_zero byte zero opens = absurd (omega (arith, zero, opens))

-- what is removed was shut at rest: no stop leaves it whole, so a place stays hidden until the node's sync
pub removed_hidden : (shape : Shape) (f g : File) (which : DataId) (node : ℕ) → MayLeave f f.stable → IsAtRest f → is_open f.now 0 ≡ false → IsRemoved f g → IsHidden shape g which node
removed_hidden shape f g which node law rest shut gone = λ o may reads opens. (removed_shut f g 0 law gone (rest_shut f 0 rest shut)).shut o may opens

-- A file that doesn't read, whatever its gates: one of its gates is written, done or refused, and it doesn't read still. So gate `whole` of such a file
-- is closed and synced before it is removed, as that of a record that reads.
set_back : (c : List ℕ) (k b : ℕ) → c ≡ set (set c k b) k (slice_index c k)
set_back c k b = ext_get_or 0 c (set (set c k b) k (slice_index c k)) (omega (arith, length-set c k b, length-set (set c k b) k (slice_index c k))) (λ j lt. elim (cases_eq j k) [
  | inl same ↦ ap (λ (i : ℕ). slice_index c i) same ∙ sym (get_or-set_same (set c k b) k (slice_index c k) 0 (omega (arith, lt, same, length-set c k b))) ∙ ap (λ (i : ℕ). slice_index (set (set c k b) k (slice_index c k)) i) (sym same)
  | inr other ↦ sym (get_or-set_other (set c k b) k j (slice_index c k) 0 other ∙ get_or-set_other c k j b 0 other)
])

body_back : (o : Option (List ℕ)) (body : List ℕ) (k byte : ℕ) → k < 8 → HasBody (option_map (λ b. set b k byte) o) body → HasBody o body
body_back None body k byte lt has = has
body_back (Some c) body k byte lt has = subst (λ (x : List ℕ). HasBody (Some x) body) (sym (set_back c k byte)) (body_set (Some (set c k byte)) body k (slice_index c k) lt has)

reads_back : (shape : Shape) (o : Option (List ℕ)) (which : DataId) (node k byte : ℕ) → k < 8 → Reads shape (option_map (λ b. set b k byte) o) which node → Reads shape o which node
reads_back shape o which node k byte lt (x, is) =
    let y : Member = record x { whole = is_open o 0; sealed = is_open o 1 } in (
      y,
      record {
        which_is = is.which_is;
        node_is = is.node_is;
        reads = record {
          named = is.reads.named;
          body = body_back o (member_body x.desc x.node x.files) k byte lt is.reads.body;
          whole = refl;
          sealed = refl;
          member = record { named = is.reads.member.named; which = is.reads.member.which; nodes = is.reads.member.nodes; ranks = is.reads.member.ranks; node = is.reads.member.node; files = is.reads.member.files };
        };
      },
    )

pub blank_written : (shape : Shape) (f g : File) (which : DataId) (node k : ℕ) → k < 8 → HasByte f k → Torn k 1 f g → IsBlank shape f which node → IsBlank shape g which node
blank_written shape f g which node k lt there torn blank = λ o may reads.
    let before = left_before k f g o there torn may in
    blank before.old before.may (reads_back shape before.old which node k before.byte lt (subst (λ (x : Option (List ℕ)). Reads shape x which node) before.is reads))

pub blank_hidden : (shape : Shape) (f : File) (which : DataId) (node : ℕ) → IsBlank shape f which node → IsHidden shape f which node
blank_hidden shape f which node blank = λ o may reads opens. blank o may reads

pub blank_at_rest : (shape : Shape) (f : File) (which : DataId) (node : ℕ) → IsAtRest f → (Reads shape f.now which node → ⊥) → IsBlank shape f which node
blank_at_rest shape f which node rest shown = λ o may reads. shown (subst (λ (x : Option (List ℕ)). Reads shape x which node) (rest_leaves f o rest may) reads)
