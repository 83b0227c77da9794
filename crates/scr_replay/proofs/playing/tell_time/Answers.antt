use Rattle.std.proofs.Common.{inr}
use Rattle.std.proofs.lemmas.Result.{on_ok_weaker}
use Rattle.site_core.proofs.Readings.{told_times}
use Rattle.site_core.proofs.Faults.{time_accounts}
use Rattle.scr_replay.proofs.playing.tell_time.Goals as goal

pub returns-clause-timed : goal.returns-clause-timed
returns-clause-timed g c =
    on_ok_weaker c.tell_time.result
    (λ told. told_times (g.C.Clock.reading c.args.clock.now) (g.C.Clock.reading c.now-now.new.self) c.now-now.result c.args.site.now.history.events c.tell_time.new.self.history.events told.events c.now-now.ensures.told c.now-now.ensures.after)
    c.tell_time.ensures.told

pub returns-clause-goes : goal.returns-clause-goes
returns-clause-goes g c = on_ok_weaker c.tell_time.result (λ lt. inr lt) c.tell_time.ensures.lowers

pub returns-clause-accounts : goal.returns-clause-accounts
returns-clause-accounts g c = on_ok_weaker c.tell_time.result (λ told. time_accounts g.D.Device.state c.now-now.result c.args.site.now c.tell_time.new.self told) c.tell_time.ensures.told
