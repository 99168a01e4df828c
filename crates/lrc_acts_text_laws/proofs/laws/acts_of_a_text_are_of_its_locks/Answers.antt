use Rattle.lrc_acts_text_laws.proofs.OfText.{is_of}
use Rattle.lrc_acts_text_laws.proofs.laws.acts_of_a_text_are_of_its_locks.Goals as goal

pub returns : goal.returns
returns c = is_of
