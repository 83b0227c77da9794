use Rattle.std.proofs.Common.{◌≡◌, List}
use Rattle.node_device.specs.Rack.{states_of}
use Rattle.member_store.specs.declared.member.Member.{Member}
use Rattle.site_stands.specs.Cells.{cells_of}
use Rattle.site_calls.specs.Calls.{Tells}
use Rattle.recover_core.specs.Seen.{AreSeen}
use Rattle.recover_core.proofs.Finding.{HasRead}
use Rattle.recover_core.proofs.look.find_datasets.Given as goal

-- the devices are as they were, and what the physical nodes before this one hold was taken up
abbrev pub invariant-loop-place : goal.invariant-loop-place
invariant-loop-place g l = record {
  same : states_of g.D.Device.state l.bay ≡ states_of g.D.Device.state l.fn.bay;
  seen : Tells (states_of g.D.Device.state l.fn.bay) → (all : List Member) × HasRead l.shape (cells_of (states_of g.D.Device.state l.fn.bay)) l.place all × AreSeen l.shape.nodes all l.sets.items;
}
