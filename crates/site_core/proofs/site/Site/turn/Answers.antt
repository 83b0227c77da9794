use Rattle.site_core.proofs.Accounts.{accounted}
use Rattle.site_core.proofs.Sparing.{keeps_run}
use Rattle.site_calls.proofs.Telling.{on_ok}
use Rattle.site_core.proofs.site.Site.turn.Goals as goal

pub returns-clause-accounted : goal.returns-clause-accounted
returns-clause-accounted g c = on_ok c.take_turn-answer.result (accounted g.D.Device.state c.args.self.now c.take_turn-answer.new.self c.moves_after-self.result c.args.actor) c.take_turn-answer.ensures.accounted

pub returns-clause-run : goal.returns-clause-run
returns-clause-run g c = keeps_run g.D.Device.state c.args.self.now c.take_turn-answer.new.self c.moves_after-self.result c.take_turn-answer.result g.met.D.Device.sound c.take_turn-answer.ensures.fixed c.take_turn-answer.ensures.run c.take_turn-answer.ensures.spared
