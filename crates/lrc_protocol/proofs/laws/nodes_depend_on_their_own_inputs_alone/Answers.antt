use Rattle.lrc_protocol.proofs.Texts.{follows_at}
use Rattle.lrc_protocol.proofs.laws.nodes_depend_on_their_own_inputs_alone.Goals as goal

pub returns-clause-turns : goal.returns-clause-turns
returns-clause-turns c = λ program nodes options events world n l e at. (follows_at program nodes options events world e n l at).replayed

pub returns-clause-acts : goal.returns-clause-acts
returns-clause-acts c = λ program nodes options events world n l e at. (follows_at program nodes options events world e n l at).deeds
