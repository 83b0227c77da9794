use Rattle.std.proofs.Common.{◌∙◌, subst}
use Rattle.node_device.specs.DeviceState.{IsDeviceName}
use Rattle.prefix_index.proofs.DropBegins.{begun_from}
use Rattle.prefix_index.proofs.dropping.changes_of.Goals as goal

pub returns-clause-changes : goal.returns-clause-changes
returns-clause-changes g c =
    begun_from c.args.entry.now.desc.which c.args.entry.now.desc.name (g.D.Device.state c.args.dev.now) c.in_ok-name.name c.in_ok-name-2.name
    c.in_ok-changes.changes.items c.push_back.new.self.items c.push_front.new.self.items c.push_front-2.new.self.items
    c.in_ok-changes.ensures.found (subst IsDeviceName c.of-record.ensures.name c.of-record.ensures.short)
    (c.in_ok-name.ensures ∙ c.bytes.ensures ∙ c.of-record.ensures.name) (c.in_ok-name-2.ensures ∙ c.bytes-2.ensures ∙ c.of-record.ensures.name)
    c.in_ok-push_back.ensures.items c.in_ok-push_front.ensures.items c.in_ok-push_front-2.ensures.items
