use Rattle.lrc_explain.proofs.Spent.{cost_is, steps_counted, used_up_is}
use Rattle.lrc_explain.proofs.laws.steps_are_those_of_the_plain_machine.Goals as goal

pub returns-clause-deed : goal.returns-clause-deed
returns-clause-deed c = λ deed. cost_is deed

pub returns-clause-all : goal.returns-clause-all
returns-clause-all c = λ run node. steps_counted run node

pub returns-clause-used_up : goal.returns-clause-used_up
returns-clause-used_up c = λ steps run lines node ask. used_up_is steps run lines node ask
