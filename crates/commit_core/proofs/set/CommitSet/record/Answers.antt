use Rattle.std.proofs.Common.{length, ◌+◌}
use Rattle.node_device.specs.Rack.{states_of}
use Rattle.member_store.specs.Names.{record_name}
use Rattle.member_store.specs.Members.{member_body}
use Rattle.site_calls.proofs.Telling.{on_ok}
use Rattle.commit_core.proofs.Making.{write_fits}
use Rattle.commit_core.proofs.set.CommitSet.record.Goals as goal

pub returns : goal.returns
returns g c =
    let old = states_of g.D.Device.state c.args.bay.now in
    record {
      place = c.place_of-place.result;
      home = c.place_of-place.ensures.place;
      done = c.put_member.ensures.recorded;
      refused = c.put_member.ensures.refused;
      cause = c.put_member.ensures.cause;
      fits = on_ok c.put_member.result (write_fits old c.place_of-place.result (record_name c.args.self.now.desc.which c.args.node) 8 (8 + length (member_body c.args.self.now.desc c.args.node c.args.self.now.files))) c.put_member.ensures.fits;
      sure = tt;
      tells = c.put_member.ensures.tells;
    }
