use Rattle.lrc_acts_text_laws.proofs.Printing.{text_ranged}
use Rattle.lrc_acts_text_laws.proofs.laws.acts_of_a_text_are_in_range.Goals as goal

pub returns : goal.returns
returns c = text_ranged
