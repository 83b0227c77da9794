use Rattle.std.proofs.Common.{◌≡◌, ◌-◌, min, List, length, take}
use Rattle.std.specs.Prelude.{flat_map}
use Rattle.node_device.specs.Rack.{states_of}
use Rattle.ckpt_model.specs.Dataset.{File}
use Rattle.commit_core.specs.Reads.{RankReads}
use Rattle.commit_core.specs.Sets.{rows_length}
use Rattle.commit_core.specs.Stretch.{IsStretch}
use Rattle.commit_core.proofs.stream.read_stream.Given as goal

abbrev pub invariant-loop-file : goal.invariant-loop-file
invariant-loop-file g l = record {
  states : states_of g.D.Device.state l.bay ≡ states_of g.D.Device.state l.fn.bay;
  size : length l.bytes.items ≡ l.len;
  done : l.done ≡ min l.len (rows_length (take l.file l.rows) - l.from);
  skip : l.skip ≡ l.from - rows_length (take l.file l.rows);
  bytes : (files : List File) → RankReads (states_of g.D.Device.state l.fn.bay l.rank.place) l.rank.which l.rank.node l.rank.local l.rows files → IsStretch (flat_map (λ f. f.bytes) (take l.file files)) l.from l.len l.bytes.items;
}
