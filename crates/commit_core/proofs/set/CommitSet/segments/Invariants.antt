use Rattle.std.proofs.Common.{◌≡◌, All, length}
use Rattle.node_device.specs.Rack.{states_of}
use Rattle.scr_base.specs.declared.shape.Shape.{Shape}
use Rattle.ckpt_model.specs.Dataset.{Dataset}
use Rattle.commit_core.specs.Deposits.{input_place}
use Rattle.commit_core.specs.PieceSets.{group_streams}
use Rattle.commit_core.specs.Reads.{FilesRead}
use Rattle.commit_core.proofs.Segments.{HasInputs}
use Rattle.commit_core.proofs.set.CommitSet.segments.Given as goal

abbrev pub invariant-loop-member : goal.invariant-loop-member
invariant-loop-member g l = record {
  states : states_of g.D.Device.state l.bay ≡ states_of g.D.Device.state l.fn.bay;
  count : length l.inputs.items ≡ input_place l.stripes.members l.stripes.parity l.piece.stripe l.member;
  sizes : All (λ input. length input ≡ l.piece.len) l.inputs.items;
  inputs : (shape : Shape) (d : Dataset) → FilesRead l.self shape d (states_of g.D.Device.state l.fn.bay) → HasInputs l.stripes.members l.stripes.parity l.len l.piece.stripe l.piece.at l.piece.len l.member (group_streams d l.piece.group l.piece.local) l.inputs.items;
}
