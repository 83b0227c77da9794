use Rattle.site_core.proofs.AheadCores.{stepped_run}
use Rattle.std.proofs.Common.{refl}
use Rattle.site_core.proofs.InOrder.{stepped_order}
use Rattle.site_core.proofs.site.Site.refuse_local.Goals as goal

pub returns-clause-lowers : goal.returns-clause-lowers
returns-clause-lowers g c = λ at next. stepped_run c.args.self.now c.go_past.new.self c.args.self.now.core c.args.rank c.args.step next at at refl refl c.go_past.ensures.fixed.programs c.go_past.ensures.core

pub returns-clause-order : goal.returns-clause-order
returns-clause-order g c = λ next. stepped_order c.args.self.now c.go_past.new.self c.args.self.now.core c.args.rank c.args.step next refl c.go_past.ensures.fixed.programs c.go_past.ensures.core
