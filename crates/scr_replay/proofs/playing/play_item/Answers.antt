use Rattle.script_reader.specs.Values.{size_of}
use Rattle.script_reader.specs.declared.script.Item.TheVariants.{Run, Admin}
use Rattle.scr_replay.proofs.Forms.{built_as, no_item}
use Rattle.scr_replay.proofs.playing.play_item.Goals as goal

pub play-requires-clause-run : goal.play-requires-clause-run
play-requires-clause-run g c = built_as (size_of c.args.shape) c.args.item.now (Run c.in-Run.run') c.in-Run.is c.requires.item

pub play_command-requires : goal.play_command-requires
play_command-requires g c = built_as (size_of c.args.shape) c.args.item.now (Admin c.in-Admin.command) c.in-Admin.is c.requires.item

pub unreachable-requires : goal.unreachable-requires
unreachable-requires g c = no_item (size_of c.args.shape) c.args.item.now c.in_default.not-Run c.in_default.not-Admin c.requires.item
