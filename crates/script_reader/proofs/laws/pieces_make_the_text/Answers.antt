use Rattle.std.proofs.lemmas.List.Splits.{join_with_byte-slice_split}
use Rattle.script_reader.specs.Words.{pieces_of}
use Rattle.script_reader.proofs.laws.pieces_make_the_text.Goals as goal

pub returns : goal.returns
unfolding pieces_of
returns c = λ byte text. join_with_byte-slice_split byte text
