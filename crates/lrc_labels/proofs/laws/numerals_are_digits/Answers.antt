use Rattle.lrc_labels.proofs.Names.{numeral_from, numeral_is}
use Rattle.lrc_labels.proofs.laws.numerals_are_digits.Goals as goal

pub returns : goal.returns
returns c = λ bytes. (numeral_from bytes, numeral_is bytes)
