use Rattle.member_store.specs.Calls.{WritesMember}
use Rattle.node_device.proofs.Racks.{only_at}
use Rattle.site_calls.proofs.bay_calls.write_member_at.Goals as goal

pub returns : goal.returns
returns g c = only_at g.D.Device.state c.args.bay.now c.device.ensures.full c.args.place c.requires.place (WritesMember c.args.desc.now.which c.args.node c.args.desc.now c.args.files.now c.write_member.result) c.device.result.now c.write_member.new.dev c.device.ensures.value c.write_member.ensures
