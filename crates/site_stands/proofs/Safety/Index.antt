-- What the prefix is left with, as the index after a stop: an answer for each entry by itself.
use Rattle.std.proofs.Common.{◌≡◌, ◌⊎◌, inl, inr, ℕ, zero, suc, Bool, true, false, List, [], ◌∷◌, ◌++◌, map, Option, Some, refl, sym, ◌∙◌, ap, subst}
use Rattle.std.specs.Prelude.{IsTrue, slice_get, ◌==◌, ◌&&◌, not, if◌then◌else◌, codes}
use Rattle.std.proofs.lemmas.Bool.Decides.{eqb_tells}
use Rattle.scr_base.specs.declared.shape.DataId.{DataId}
use Rattle.scr_base.specs.Halt.{Halt}
use Rattle.node_device.specs.File.{byte_at, MayLeave}
use Rattle.node_device.specs.DeviceState.{DeviceState}
use Rattle.gated_record.specs.Record.{IsOpen, is_open, open_gate_byte}
use Rattle.gate_outcomes.specs.Gates.{StaysOpen}
use Rattle.filemap.specs.Maps.{IsMap}
use Rattle.ckpt_model.specs.Dataset.{Dataset}
use Rattle.ckpt_model.specs.Machine.{Machine, Setup, Entry, EntryMark, Pending}
use Rattle.ckpt_model.specs.Questions.{is_failed}
use Rattle.ckpt_model.specs.Stops.{entry_left, entry_if, index_left, pending_of, halt_left, mark_left, is_drop_of}
use Rattle.site_stands.specs.Entry.{entry_name, flushed_name, ReadsEntry}
use Rattle.site_stands.specs.View.{Lists, IsEntryOf}
use Rattle.site_stands.specs.Prefix.{NeverOpen, EntryStands, StaysListed, GatesFit}
use Rattle.site_stands.specs.Site.{PrefixStands}

pub test_open : (o : Option (List ℕ)) (k : ℕ) → IsOpen o k → is_open o k ≡ true
test_open o k is = elim (eqb_tells (byte_at o k) open_gate_byte) [ inl t ↦ t.0 | inr f ↦ absurd (f.1 is) ]

pub test_shut : (o : Option (List ℕ)) (k : ℕ) → (IsOpen o k → ⊥) → is_open o k ≡ false
test_shut o k not = elim (eqb_tells (byte_at o k) open_gate_byte) [ inl t ↦ absurd (not t.1) | inr f ↦ f.0 ]

pub test_is : (o : Option (List ℕ)) (k : ℕ) → is_open o k ≡ true → IsOpen o k
test_is o k is = elim (eqb_tells (byte_at o k) open_gate_byte) [ inl t ↦ t.1 | inr f ↦ absurd (cc (is, f.0)) ]

-- ## Lists behind one another

append_behind : (xs ys : List Entry) (i : ℕ) (e : Entry) → slice_get ys i ≡ Some e → (n : ℕ) × (slice_get (xs ++ ys) n ≡ Some e)
append_behind [] ys i e at = (i, at)
append_behind (x ∷ xs) ys i e at = let rest = append_behind xs ys i e at in (suc rest.0, rest.1)

append_from : (xs ys : List Entry) (i : ℕ) (e : Entry) → slice_get (xs ++ ys) i ≡ Some e → (slice_get xs i ≡ Some e) ⊎ ((j : ℕ) × (slice_get ys j ≡ Some e))
append_from [] ys i e at = inr (i, at)
append_from (x ∷ xs) ys zero e at = inl at
append_from (x ∷ xs) ys (suc i) e at = append_from xs ys i e at

-- the answer that the prefix gives where a stop decides
abbrev pub answer : (List ℕ → Option (List ℕ)) → DataId → EntryMark → Bool
answer files which EntryMark.Indexing = is_open (files (entry_name which)) 0
answer files which EntryMark.Failing = is_open (files (entry_name which)) 1
answer files which _ = not (is_open (files (entry_name which)) 0)

abbrev pub answer_for : (List ℕ → Option (List ℕ)) → Entry → Bool
answer_for files e = answer files e.dataset.which e.mark

abbrev pub answers : (List ℕ → Option (List ℕ)) → List Entry → List Bool
answers files es = map (answer_for files) es

module _ (p : Pending) (files : List ℕ → Option (List ℕ)) where
  abbrev shown : Entry → List Entry
  shown e = entry_left p (answer_for files e) e.mark e

  abbrev pub index_then : List Entry → List Entry
  index_then es = index_left p (answers files es) es

  index_in : (es : List Entry) (j : ℕ) (e new : Entry) → slice_get es j ≡ Some e → shown e ≡ new ∷ [] → (i : ℕ) × (slice_get (index_then es) i ≡ Some new)
  index_in [] j e new at is = absurd (cc at)
  index_in (x ∷ es) zero e new at is =
      let same : x ≡ e = cc at in
      let first : shown x ≡ new ∷ [] = subst (λ (y : Entry). shown y ≡ new ∷ []) (sym same) is in
      (0, ap (λ (l : List Entry). slice_get (l ++ index_then es) 0) first)
  index_in (x ∷ es) (suc j) e new at is =
      let rest = index_in es j e new at is in
      append_behind (shown x) (index_then es) rest.0 new rest.1

  index_from : (es : List Entry) (i : ℕ) (new : Entry) → slice_get (index_then es) i ≡ Some new → (e : Entry) × (j : ℕ) × (slice_get es j ≡ Some e) × (n : ℕ) × (slice_get (shown e) n ≡ Some new)
  index_from [] i new at = absurd (cc at)
  index_from (x ∷ es) i new at = elim (append_from (shown x) (index_then es) i new at) [
    | inl first ↦ (x, 0, refl, i, first)
    | inr rest ↦ let there = index_from es rest.0 new rest.1 in (there.0, suc there.1, there.2, there.3, there.4)
  ]

  -- what an entry that reads is: its dataset, its gates
  record ReadsAs (d : Dataset) (new : Entry) : Type 0 where
    pub dataset : new.dataset ≡ d
    pub first : is_open (files (entry_name d.which)) 0 ≡ true
    pub second : is_open (files (entry_name d.which)) 1 ≡ is_failed new.mark

  only_one : (d : Dataset) (e new : Entry) (n : ℕ) → slice_get (e ∷ []) n ≡ Some new → ReadsAs d e → ReadsAs d new
  only_one d e new zero at is = let same : e ≡ new = cc at in subst (λ (x : Entry). ReadsAs d x) same is
  only_one d e new (suc n) at is = absurd (cc at)

  module _ (disk : DeviceState) (outcome : (q : List ℕ) → MayLeave (disk.file q) (files q)) where
    open_then : (d : Dataset) (k : ℕ) → StaysOpen (disk.file (entry_name d.which)) k → is_open (files (entry_name d.which)) k ≡ true
    open_then d k stays = test_open (files (entry_name d.which)) k (stays (files (entry_name d.which)) (outcome (entry_name d.which)))

    shut_then : (d : Dataset) (k : ℕ) → NeverOpen (disk.file (entry_name d.which)) k → is_open (files (entry_name d.which)) k ≡ false
    shut_then d k never = test_shut (files (entry_name d.which)) k (never (files (entry_name d.which)) (outcome (entry_name d.which)))

    -- a settled entry that stays reads as it did
    settled_reads : (d : Dataset) (e new : Entry) (n : ℕ) (b drop : Bool) → is_open (files (entry_name d.which)) 0 ≡ b → is_drop_of p e ≡ drop → StaysListed p e (disk.file (entry_name d.which)) → e.dataset ≡ d → is_open (files (entry_name d.which)) 1 ≡ is_failed e.mark
        → slice_get (entry_if (not (not b && drop)) e) n ≡ Some new → ReadsAs d new
    settled_reads d e new n true drop first dropped listed same second at = only_one d e new n at (record { dataset = same; first = first; second = second })
    settled_reads d e new n false true first dropped listed same second at = absurd (cc at)
    settled_reads d e new n false false first dropped listed same second at = absurd (let opens = open_then d 0 (listed dropped) in cc (opens, first))

    -- an entry that reads, reads as its gates say
    entry_reads : (d : Dataset) (mark : EntryMark) (new : Entry) (n : ℕ) → GatesFit p (record { dataset = d; mark = mark }) mark (disk.file (entry_name d.which)) → slice_get (entry_left p (answer files d.which mark) mark (record { dataset = d; mark = mark })) n ≡ Some new → ReadsAs d new
    entry_reads d EntryMark.Indexing new n fits at = split (is_open (files (entry_name d.which)) 0) refl at
      where
        split : (b : Bool) → is_open (files (entry_name d.which)) 0 ≡ b → slice_get (entry_left p b EntryMark.Indexing (record { dataset = d; mark = EntryMark.Indexing })) n ≡ Some new → ReadsAs d new
        split true is there = only_one d (record { dataset = d; mark = EntryMark.Flushed }) new n there (record { dataset = refl; first = is; second = shut_then d 1 fits })
        split false is there = absurd (cc there)
    entry_reads d EntryMark.Flushed new n fits at = settled_reads d (record { dataset = d; mark = EntryMark.Flushed }) new n (is_open (files (entry_name d.which)) 0) (is_drop_of p (record { dataset = d; mark = EntryMark.Flushed })) refl refl fits.0 refl (shut_then d 1 fits.1) at
    entry_reads d EntryMark.Failing new n fits at = split (is_open (files (entry_name d.which)) 1) refl at
      where
        split : (b : Bool) → is_open (files (entry_name d.which)) 1 ≡ b → slice_get (entry_left p b EntryMark.Failing (record { dataset = d; mark = EntryMark.Failing })) n ≡ Some new → ReadsAs d new
        split true is there = only_one d (record { dataset = d; mark = EntryMark.Failed }) new n there (record { dataset = refl; first = open_then d 0 fits; second = is })
        split false is there = only_one d (record { dataset = d; mark = EntryMark.Flushed }) new n there (record { dataset = refl; first = open_then d 0 fits; second = is })
    entry_reads d EntryMark.Failed new n fits at = settled_reads d (record { dataset = d; mark = EntryMark.Failed }) new n (is_open (files (entry_name d.which)) 0) (is_drop_of p (record { dataset = d; mark = EntryMark.Failed })) refl refl fits.0 refl (open_then d 1 fits.1) at

    -- an entry whose gate `indexed` is left open reads, with its gate `failed` as it is left
    entry_there : (d : Dataset) (mark : EntryMark) (b : Bool) → GatesFit p (record { dataset = d; mark = mark }) mark (disk.file (entry_name d.which)) → is_open (files (entry_name d.which)) 0 ≡ true → is_open (files (entry_name d.which)) 1 ≡ b
        → (new : Entry) × (entry_left p (answer files d.which mark) mark (record { dataset = d; mark = mark }) ≡ new ∷ []) × (new.dataset ≡ d) × (is_failed new.mark ≡ b)
    entry_there d EntryMark.Indexing b fits first second = (
      record { dataset = d; mark = EntryMark.Flushed },
      ap (λ (t : Bool). entry_left p t EntryMark.Indexing (record { dataset = d; mark = EntryMark.Indexing })) first,
      refl,
      sym (shut_then d 1 fits) ∙ second,
    )
    entry_there d EntryMark.Flushed b fits first second = (
      record { dataset = d; mark = EntryMark.Flushed },
      ap (λ (t : Bool). entry_left p (not t) EntryMark.Flushed (record { dataset = d; mark = EntryMark.Flushed })) first,
      refl,
      sym (shut_then d 1 fits.1) ∙ second,
    )
    entry_there d EntryMark.Failing true fits first second = (record { dataset = d; mark = EntryMark.Failed }, ap (λ (t : Bool). entry_left p t EntryMark.Failing (record { dataset = d; mark = EntryMark.Failing })) second, refl, refl)
    entry_there d EntryMark.Failing false fits first second = (record { dataset = d; mark = EntryMark.Flushed }, ap (λ (t : Bool). entry_left p t EntryMark.Failing (record { dataset = d; mark = EntryMark.Failing })) second, refl, refl)
    entry_there d EntryMark.Failed b fits first second = (
      record { dataset = d; mark = EntryMark.Failed },
      ap (λ (t : Bool). entry_left p (not t) EntryMark.Failed (record { dataset = d; mark = EntryMark.Failed })) first,
      refl,
      sym (open_then d 1 fits.1) ∙ second,
    )

-- which answer of a command the two pairs have in common
pub both_take : (p : Pending) (halt_took mark_took : Bool) (h : Halt) (k : Option DataId) → (took : Bool) × (halt_left p halt_took h ≡ halt_left p took h) × (mark_left p mark_took k ≡ mark_left p took k)
both_take Pending.Nothing a b h k = (false, refl, refl)
both_take (Pending.DropOf id) a b h k = (false, refl, refl)
both_take (Pending.MarkOf which) a b h k = (b, refl, refl)
both_take (Pending.HaltOf new) a b h k = (a, refl, refl)

module _ (s : Setup) (disk : DeviceState) (m : Machine) (stands : PrefixStands s disk m) (files : List ℕ → Option (List ℕ)) (outcome : (q : List ℕ) → MayLeave (disk.file q) (files q)) where
  abbrev pending : Pending
  pending = pending_of m.stage

  pub entry_left_so : (d : Dataset) → EntryStands s.shape disk d → IsEntryOf s.shape files d
  entry_left_so d is = record {
    desc = is.desc;
    rows = is.rows;
    describes = is.describes;
    body = is.body (files (entry_name d.which)) (outcome (entry_name d.which));
    flushed = λ rank j f at. is.flushed rank j f at (files (flushed_name d.name rank f.name)) (outcome (flushed_name d.name rank f.name));
  }

  reads_entry : (d : Dataset) → EntryStands s.shape disk d → ReadsEntry (files (entry_name d.which)) d.which
  reads_entry d is = record {
    desc = is.desc;
    rows = is.rows;
    which_is = is.describes.which;
    named = is.describes.named;
    map = subst (λ (n : ℕ). IsMap (Rattle.std.specs.Prelude.◌*◌ n is.desc.ranks) is.rows) (sym is.describes.nodes) (subst (λ (r : ℕ). IsMap (Rattle.std.specs.Prelude.◌*◌ s.shape.nodes r) is.rows) (sym is.describes.ranks) is.describes.map);
    body = is.body (files (entry_name d.which)) (outcome (entry_name d.which));
  }

  pub entry_shown : (i : ℕ) (e : Entry) → slice_get (index_then pending files m.index) i ≡ Some e → Lists files e.dataset.which (is_failed e.mark) × IsEntryOf s.shape files e.dataset
  entry_shown i e at =
      let from = index_from pending files m.index i e at in
      let there = stands.entries from.1 from.0 from.2 in
      let reads = entry_reads pending files disk outcome from.0.dataset from.0.mark e from.3 there.gates from.4 in
      subst (λ (d : Dataset). Lists files d.which (is_failed e.mark) × IsEntryOf s.shape files d) (sym reads.dataset)
      (record { reads = reads_entry from.0.dataset there.stands; indexed = test_is (files (entry_name from.0.dataset.which)) 0 reads.first; failed_is = reads.second }, entry_left_so from.0.dataset there.stands)

  pub entry_exact : (which : DataId) (failed : Bool) → Lists files which failed → (new : Entry) × (i : ℕ) × (slice_get (index_then pending files m.index) i ≡ Some new) × (new.dataset.which ≡ which) × (is_failed new.mark ≡ failed)
  entry_exact which failed lists =
      let of = stands.others which (files (entry_name which)) (outcome (entry_name which)) lists.reads lists.indexed in
      let first = subst (λ (w : DataId). is_open (files (entry_name w)) 0 ≡ true) (sym of.same) (test_open (files (entry_name which)) 0 lists.indexed) in
      let second = subst (λ (w : DataId). is_open (files (entry_name w)) 1 ≡ failed) (sym of.same) lists.failed_is in
      let there = entry_there pending files disk outcome of.entry.dataset of.entry.mark failed (stands.entries of.at.place of.entry of.at.entry).gates first second in
      let at = index_in pending files m.index of.at.place of.entry there.0 of.at.entry there.1 in
      (there.0, at.0, at.1, ap (λ (d : Dataset). d.which) there.2 ∙ of.same, there.3)
