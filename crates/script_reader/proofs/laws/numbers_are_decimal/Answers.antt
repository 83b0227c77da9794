use Rattle.script_reader.proofs.Decimals.{read_is_decimal, decimal_is_read}
use Rattle.script_reader.proofs.laws.numbers_are_decimal.Goals as goal

pub returns : goal.returns
returns c = λ low high n word. (read_is_decimal low high n word, decimal_is_read low high n word)
