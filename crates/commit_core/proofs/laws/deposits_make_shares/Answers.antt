use Rattle.commit_core.proofs.Joined.{deposit_size, deposit_at, deposits_join}
use Rattle.commit_core.proofs.laws.deposits_make_shares.Goals as goal

pub returns-clause-size : goal.returns-clause-size
returns-clause-size c = λ scheme streams piece deposit asks. deposit_size scheme streams piece deposit asks

pub returns-clause-part : goal.returns-clause-part
returns-clause-part c = λ scheme streams piece deposit held asks own. deposit_at scheme streams piece deposit held.share asks own.share

pub returns-clause-whole : goal.returns-clause-whole
returns-clause-whole c = λ scheme local group i streams held deposits set l own asked. deposits_join scheme local group i streams held.share deposits set l own.share asked
