use Rattle.std.proofs.Common.{arith}
use Rattle.std.proofs.lemmas.Grind.{common_steps}
use Rattle.commit_core.specs.LedgerBook.{is_done}
use Rattle.commit_core.proofs.Kept.{all_is}
use Rattle.commit_core.proofs.ledger.Ledger.is_done.Goals as goal

pub returns : goal.returns
returns c = rw (← c.self.view_is) (all_is is_done c.self.inside.standings.items c.self.inside.done _ c.self.invariant.done_counted (grind (arith, common_steps, c.self.invariant.count)))
