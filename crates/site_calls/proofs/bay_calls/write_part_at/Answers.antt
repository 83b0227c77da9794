use Rattle.member_store.specs.Calls.{WritesPart}
use Rattle.node_device.proofs.Racks.{only_at}
use Rattle.site_calls.proofs.bay_calls.write_part_at.Goals as goal

pub returns : goal.returns
returns g c = only_at g.D.Device.state c.args.bay.now c.device.ensures.full c.args.place c.requires (WritesPart c.args.which c.args.node c.args.part c.args.at c.args.bytes.now c.write_part.result) c.device.result.now c.write_part.new.dev c.device.ensures.value c.write_part.ensures
