use Rattle.std.proofs.Common.{◌≡◌, true, take}
use Rattle.prefix_index.specs.Listing.{AreMet}
use Rattle.prefix_index.proofs.listing.entries.Given as goal

-- the device is as it was, and the entries are those of the names so far
abbrev pub invariant-loop-name : goal.invariant-loop-name
invariant-loop-name g l = record {
  state_is : g.D.Device.state l.dev ≡ g.D.Device.state l.fn.dev;
  met : (g.D.Device.state l.fn.dev).tells ≡ true → AreMet (g.D.Device.state l.fn.dev) (take l.name-index (g.D.Device.state l.fn.dev).names) l.entries.items;
}
