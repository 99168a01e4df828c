use Rattle.lrc_explain.proofs.Waiting.{waits_is}
use Rattle.lrc_explain.proofs.laws.a_node_waits_for_whom_its_acts_say.Goals as goal

pub returns : goal.returns
returns c = λ program nodes lines steps run node other synchronized inside within.
    waits_is program nodes lines steps run node other synchronized inside within
