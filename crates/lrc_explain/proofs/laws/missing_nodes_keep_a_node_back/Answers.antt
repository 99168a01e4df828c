use Rattle.lrc_explain.proofs.Spent.{number_is}
use Rattle.lrc_explain.proofs.Waiting.{may_depart, missing_is}
use Rattle.lrc_explain.proofs.laws.missing_nodes_keep_a_node_back.Goals as goal

pub returns-clause-number : goal.returns-clause-number
returns-clause-number c = λ steps run lines node number ask is. number_is steps run lines node number ask is

pub returns-clause-missing : goal.returns-clause-missing
returns-clause-missing c = λ program nodes lines steps run node missing. missing_is program nodes lines steps run node missing

pub returns-clause-departs : goal.returns-clause-departs
returns-clause-departs c = λ program nodes lines steps run node inside. may_depart program nodes lines steps run node inside
