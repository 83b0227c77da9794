use Rattle.member_store.specs.Calls.{Drops}
use Rattle.node_device.proofs.Racks.{only_at}
use Rattle.site_calls.proofs.bay_calls.drop_file_at.Goals as goal

pub returns-clause-drops : goal.returns-clause-drops
returns-clause-drops g c =
    only_at g.D.Device.state c.args.bay.now c.device.ensures.full c.args.place c.requires (Drops c.args.removal.now.which c.args.removal.now.node c.step.result c.args.removal.now.changes c.step.new.self.changes) c.device.result.now c.step.new.dev c.device.ensures.value c.step.ensures.drops
