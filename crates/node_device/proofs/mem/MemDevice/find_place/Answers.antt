use Rattle.node_device.specs.EntryLists.{absent_at}
use Rattle.node_device.proofs.mem.MemDevice.find_place.Goals as goal

pub returns-clause-absent : goal.returns-clause-absent
returns-clause-absent c = absent_at c.args.self.now.entries.items c.args.name.now c.place.result c.args.self.now.ascending c.deref.result.now c.deref.ensures.value c.place.ensures.absent
