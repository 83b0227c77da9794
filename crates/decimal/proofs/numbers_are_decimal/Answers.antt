use Rattle.decimal.proofs.Laws.{number_says, number_is}
use Rattle.decimal.proofs.numbers_are_decimal.Goals as goal

pub returns : goal.returns
returns c = λ digits n. (number_says digits n, λ is. number_is digits n is.spelled is.fits)
