use Rattle.site_core.proofs.Readings.{turn_times}
use Rattle.site_core.proofs.Faults.{turn_accounts}
use Rattle.scr_replay.proofs.Goes.{turn_goes}
use Rattle.scr_replay.proofs.playing.take_plain_turn.Goals as goal

pub returns-in-Ok-clause-timed : goal.returns-in-Ok-clause-timed
returns-in-Ok-clause-timed g c = λ next. turn_times next c.args.actor c.args.site.now.history.events c.turn.new.self.history.events c.in-Ok.ensures.told.told c.in-Ok.ensures.told.is c.in-Ok.ensures.told.own

pub returns-in-Ok-clause-goes : goal.returns-in-Ok-clause-goes
returns-in-Ok-clause-goes g c = turn_goes c.in-Ok.field-0 c.args.site.now c.turn.new.self c.in-Ok.ensures.lowers c.in-Ok.ensures.still

pub returns-in-Ok-clause-accounts : goal.returns-in-Ok-clause-accounts
returns-in-Ok-clause-accounts g c = turn_accounts g.D.Device.state g.met.D.Device.sound c.args.actor c.args.site.now c.turn.new.self c.in-Ok.ensures.told c.in-Ok.ensures.accounted c.in-Ok.ensures.kept
