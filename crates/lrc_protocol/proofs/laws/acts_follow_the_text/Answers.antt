use Rattle.lrc_protocol.proofs.Texts.{text, threads}
use Rattle.lrc_protocol.proofs.laws.acts_follow_the_text.Goals as goal

pub returns-clause-text : goal.returns-clause-text
returns-clause-text c = λ program nodes options events world e. text program nodes options events world e

pub returns-clause-threads : goal.returns-clause-threads
returns-clause-threads c = λ program nodes options events world n l e at. threads program nodes options events world e n l at
