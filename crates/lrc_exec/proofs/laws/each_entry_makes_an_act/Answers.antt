use Rattle.lrc_exec.proofs.PlainLaws.{plain-nodes}
use Rattle.lrc_exec.proofs.laws.each_entry_makes_an_act.Goals as goal

pub returns : goal.returns
returns c = λ program nodes order acts made. plain-nodes program nodes order acts made
