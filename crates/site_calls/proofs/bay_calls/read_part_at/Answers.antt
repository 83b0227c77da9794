use Rattle.member_store.specs.Calls.{ReadsPart}
use Rattle.std.specs.Prelude.{length}
use Rattle.node_device.proofs.Racks.{only_at}
use Rattle.site_calls.proofs.bay_calls.read_part_at.Goals as goal

pub returns : goal.returns
returns g c = only_at g.D.Device.state c.args.bay.now c.device.ensures.full c.args.place c.requires (ReadsPart c.args.which c.args.node c.args.part c.args.at (length c.args.into.now) c.read_part.new.into c.read_part.result) c.device.result.now c.read_part.new.dev c.device.ensures.value c.read_part.ensures
