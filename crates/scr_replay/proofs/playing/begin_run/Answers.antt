use Rattle.scr_replay.proofs.Forms.{single_fits}
use Rattle.scr_replay.proofs.playing.begin_run.Goals as goal

pub begin-requires-clause-fits : goal.begin-requires-clause-fits
begin-requires-clause-fits g c = single_fits c.args.config.scheme c.args.config.size c.args.shape.nodes c.requires.single
