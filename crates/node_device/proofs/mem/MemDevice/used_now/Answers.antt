use Rattle.std.proofs.Common.{sym, ◌∙◌}
use Rattle.node_device.specs.EntryLists.{used_is}
use Rattle.node_device.proofs.mem.MemDevice.used_now.Goals as goal

pub returns : goal.returns
returns c = c.args.self.now.counted ∙ sym (used_is c.args.self.now.entries.items c.args.self.now.ascending)
