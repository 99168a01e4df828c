use Rattle.lrc_explain.proofs.Left.{left_was_written}
use Rattle.lrc_explain.proofs.laws.what_acts_leave_in_a_word_was_written_last.Goals as goal

pub returns : goal.returns
returns c = λ run position word le. left_was_written run word position le
