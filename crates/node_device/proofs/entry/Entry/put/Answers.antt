use Rattle.std.proofs.Common.{◌||◌, not, true, List, ℕ, length, take, slice_index, ap, ◌∙◌, subst, sym}
use Rattle.node_device.specs.File.{Torn}
use Rattle.node_device.specs.Changes.{older_byte}
use Rattle.node_device.specs.Entry.{entry_file}
use Rattle.node_device.specs.Held.{IsSoundFile, file_of}
use Rattle.node_device.proofs.HeldChanges.{IsNoted, back, same_file, same_sound, torn_nowhere, written_sound, written_torn}
use Rattle.node_device.proofs.entry.Entry.put.Goals as goal

pub invariant_of-self-in-Err : goal.invariant_of-self-in-Err
invariant_of-self-in-Err c =
    let e = c.args.self.now in
    let same = back e.changes c.note.new.self c.take_back.new.self c.note.ensures.before c.note.ensures.first c.take_back.ensures.first (c.take_back.ensures.written ∙ c.notes-notes.ensures.written) (c.take_back.ensures.rest ∙ ap (λ (n : ℕ). take n c.note.new.self.rest.items) c.notes-notes.ensures.rest) in
    record {
      named = e.named;
      sound = same_sound e.there e.was_there e.fluid e.bytes.items c.put.new.bytes.items e.kept.items e.stable_len e.greatest e.changes c.take_back.new.self same c.in-Err.ensures.err e.sound;
    }

pub returns-in-Err-clause-spared : goal.returns-in-Err-clause-spared
returns-in-Err-clause-spared c =
    let e = c.args.self.now in
    let same = back e.changes c.note.new.self c.take_back.new.self c.note.ensures.before c.note.ensures.first c.take_back.ensures.first (c.take_back.ensures.written ∙ c.notes-notes.ensures.written) (c.take_back.ensures.rest ∙ ap (λ (n : ℕ). take n c.note.new.self.rest.items) c.notes-notes.ensures.rest) in
    same_file e.there e.was_there e.fluid e.bytes.items c.put.new.bytes.items e.kept.items e.stable_len e.greatest e.changes c.take_back.new.self same c.in-Err.ensures.err

pub returns-in-Err-clause-torn : goal.returns-in-Err-clause-torn
returns-in-Err-clause-torn c =
    let e = c.args.self.now in
    let same = back e.changes c.note.new.self c.take_back.new.self c.note.ensures.before c.note.ensures.first c.take_back.ensures.first (c.take_back.ensures.written ∙ c.notes-notes.ensures.written) (c.take_back.ensures.rest ∙ ap (λ (n : ℕ). take n c.note.new.self.rest.items) c.notes-notes.ensures.rest) in
    torn_nowhere c.args.at (length c.args.bytes.now) (entry_file e) _ (same_file e.there e.was_there e.fluid e.bytes.items c.put.new.bytes.items e.kept.items e.stable_len e.greatest e.changes c.take_back.new.self same c.in-Err.ensures.err)

pub invariant_of-self-2 : goal.invariant_of-self-2
invariant_of-self-2 c =
    let e = c.args.self.now in
    let n = c.in_ok-note.ensures in
    let noted : IsNoted c.args.at (length c.args.bytes.now) e.stable_len e.bytes.items e.changes c.note.new.self = record {
      inside = n.inside;
      outside = n.outside;
      others = n.others;
      kept = λ k byte le lt below. n.kept k byte le lt below ∙ ap (λ (l : List ℕ). older_byte e.changes k (slice_index l k)) c.deref.ensures.value;
    } in
    record {
      named = e.named;
      sound = subst (λ (i : ℕ). IsSoundFile true e.was_there (e.fluid || not e.there) c.put.new.bytes.items e.kept.items e.stable_len i c.note.new.self) (sym c.max-self.ensures)
          (written_sound e.there e.was_there e.fluid e.bytes.items e.kept.items e.stable_len e.greatest e.changes e.sound c.args.at c.args.bytes.now c.note.new.self noted c.put.new.bytes.items c.in_default.ensures.ok c.requires);
    }

pub returns-clause-torn : goal.returns-clause-torn
returns-clause-torn c =
    let e = c.args.self.now in
    let n = c.in_ok-note.ensures in
    let noted : IsNoted c.args.at (length c.args.bytes.now) e.stable_len e.bytes.items e.changes c.note.new.self = record {
      inside = n.inside;
      outside = n.outside;
      others = n.others;
      kept = λ k byte le lt below. n.kept k byte le lt below ∙ ap (λ (l : List ℕ). older_byte e.changes k (slice_index l k)) c.deref.ensures.value;
    } in
    subst (λ (i : ℕ). Torn c.args.at (length c.args.bytes.now) (entry_file e) (file_of true e.was_there (e.fluid || not e.there) c.put.new.bytes.items e.kept.items e.stable_len i c.note.new.self)) (sym c.max-self.ensures)
    (written_torn e.there e.was_there e.fluid e.bytes.items e.kept.items e.stable_len e.greatest e.changes e.sound c.args.at c.args.bytes.now c.note.new.self noted c.put.new.bytes.items c.in_default.ensures.ok)
