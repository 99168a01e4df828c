-- What is left of the digits writes the same number.
use Rattle.lrc_races_text.proofs.ActLemmas.{named}
use Rattle.lrc_races_text.proofs.acts.name_of.Goals as goal

pub returns : goal.returns
returns c = named c.args.digits.now c.without_zeros.result.now _ c.in_ok-read_number.ensures c.without_zeros.ensures.value
    c.without_zeros.ensures.numeral c.without_zeros.ensures.first
