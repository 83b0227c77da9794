use Rattle.site_stands.proofs.Moving.Datasets.{cache_event}
use Rattle.site_stands.proofs.moves.an_event_of_the_cache_keeps_the_prefix.Goals as goal

pub returns : goal.returns
returns c = cache_event
