use Rattle.lrc_protocol.proofs.Texts.{proper_at}
use Rattle.lrc_protocol.proofs.laws.messages_are_numbered_one_after_another.Goals as goal

pub returns : goal.returns
returns c = λ program nodes options events world n to l e at lt. (proper_at program nodes options events world e n l at).numbers to lt
