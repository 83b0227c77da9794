use Rattle.node_device.specs.Rack.{states_of}
use Rattle.member_store.specs.Names.{record_name}
use Rattle.member_store.specs.Calls.{gate_number}
use Rattle.site_calls.proofs.Telling.{on_ok}
use Rattle.commit_core.proofs.Making.{write_fits}
use Rattle.commit_core.proofs.set.CommitSet.open.Goals as goal

pub returns : goal.returns
returns g c =
    let old = states_of g.D.Device.state c.args.bay.now in
    record {
      place = c.place_of.result;
      home = c.place_of.ensures.place;
      done = c.put_gate.ensures.turned;
      refused = c.put_gate.ensures.refused;
      cause = c.put_gate.ensures.cause;
      fits = on_ok c.put_gate.result (write_fits old c.place_of.result (record_name c.args.self.now.desc.which c.args.node) (gate_number c.args.gate) 1) c.put_gate.ensures.fits;
      sure = c.put_gate.ensures.alone;
      tells = c.put_gate.ensures.tells;
    }
