use Rattle.node_device.specs.Rack.{states_of}
use Rattle.site_stands.specs.Cells.{IsLeftBy, prefix_place, cells_of}
use Rattle.site_core.proofs.site.stop_devices.Goals as goal

pub returns-clause-stands : goal.returns-clause-stands
returns-clause-stands g c = λ tells s why m safe.
    let state = g.D.Device.state in
    let crash = c.stop.ensures.each in
    let left : IsLeftBy s.shape (states_of state c.args.bay.now) (states_of state c.stop.new.self) = record {
      left = λ p q low. (crash p).outcome (tells p low) q;
      quiet = record { nodes = λ p q low. (crash p).at_rest q; prefix = λ q. (crash prefix_place).at_rest q };
    } in
    let shown = safe (cells_of (states_of state c.stop.new.self)) left.left in
    (shown.0, shown.1, record { quiet = left.quiet; shows = shown.2 })
