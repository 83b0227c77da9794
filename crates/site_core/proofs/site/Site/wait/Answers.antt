use Rattle.std.proofs.Common.{sym}
use Rattle.site_state.proofs.Called.{all_called}
use Rattle.site_core.proofs.site.Site.wait.Goals as goal

pub decide-requires-clause-complete : goal.decide-requires-clause-complete
decide-requires-clause-complete g c = all_called c.args.self.now.core.ranks (sym c.in-None.ensures)
