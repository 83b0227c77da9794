use Rattle.member_store.specs.Calls.{Scans}
use Rattle.node_device.proofs.Racks.{only_at}
use Rattle.site_calls.proofs.bay_calls.scan_at.Goals as goal

pub returns : goal.returns
returns g c = only_at g.D.Device.state c.args.bay.now c.device.ensures.full c.args.place c.requires (Scans c.args.shape c.scan.result) c.device.result.now c.scan.new.dev c.device.ensures.value c.scan.ensures
