use Rattle.std.proofs.Common.{◌≡◌, ◌+◌, ◌-◌, ◌++◌, ℕ, min, List, length, take, drop, sym, ap, subst, ◌∙◌, arith}
use Rattle.std.specs.Prelude.{flat_map, get_or}
use Rattle.node_device.specs.DeviceState.{DeviceState}
use Rattle.member_store.specs.Names.{part_name}
use Rattle.member_store.specs.declared.part.Part.TheVariants.{File as FilePart}
use Rattle.ckpt_model.specs.Dataset.{File}
use Rattle.commit_core.specs.Sets.{rows_length}
use Rattle.commit_core.specs.Stretch.{IsStretch, IsFilled}
use Rattle.commit_core.proofs.Reading.{rows_more, lent_back, rank_more}
use Rattle.commit_core.proofs.stream.read_stream.Goals as goal

pub loop-file-preserved : goal.loop-file-preserved
loop-file-preserved g c =
    let was = c.loop-file.invariant in
    let old = c.loop-file.bytes.items in
    let new = c.read_file.new.into in
    let row = c.index-rows-file.result in
    let whole : length new ≡ length old = omega (arith, c.read_file.auto.into, c.deref_mut.ensures.value, c.deref_mut.ensures.len) in
    let back : take c.loop-file.bytes.len (new ++ drop (length new) old) ≡ new = lent_back c.loop-file.bytes.len old new (omega (arith, c.loop-file.bytes.ok.0)) whole in
    let own : ℕ = (get_or c.args.rows.now c.loop-file.file row).len in
    let more : rows_length (take (c.loop-file.file + 1) c.args.rows.now) ≡ rows_length (take c.loop-file.file c.args.rows.now) + own = rows_more c.args.rows.now c.loop-file.file row c.loop-file-test.true in
    let count : c.min-count.result ≡ min (own - c.loop-file.skip) (c.args.len - c.loop-file.done) = c.min-count.ensures ∙ ap (λ (n : ℕ). min n (c.args.len - c.loop-file.done)) c.saturating_sub.ensures in
    record {
      states = c.in_ok-read_file.ensures.only ∙ was.states;
      size = ap (length {A = ℕ}) back ∙ whole ∙ was.size;
      done = omega (arith, count, more, was.done, was.skip);
      skip = c.saturating_sub-skip.ensures ∙ omega (arith, more, was.skip);
      bytes = λ files reads. subst (λ (xs : List ℕ). IsStretch (flat_map (λ (f : File). f.bytes) (take (c.loop-file.file + 1) files)) c.args.from c.args.len xs) (sym back)
          (rank_more c.args.rows.now files c.loop-file.file row old new c.args.from c.args.len c.loop-file.done c.loop-file.skip c.min-count.result c.loop-file-test.true reads.lengths was.done was.skip count (was.bytes files reads)
          (λ f at. subst (λ (xs : List ℕ). IsFilled f.bytes c.loop-file.skip c.loop-file.done c.min-count.result xs new) c.deref_mut.ensures.value
          (c.in_ok-read_file.ensures.filled f.bytes (ap (λ (s : ℕ → DeviceState). (s c.args.rank.place).tells) was.states ∙ reads.tells) (ap (λ (s : ℕ → DeviceState). ((s c.args.rank.place).file (part_name c.args.rank.which c.args.rank.node (FilePart c.args.rank.local c.loop-file.file))).now) was.states ∙ reads.reads c.loop-file.file f at))));
    }
