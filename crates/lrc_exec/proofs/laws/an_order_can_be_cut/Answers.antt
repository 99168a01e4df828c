use Rattle.lrc_exec.proofs.PlainLaws.{plain-take}
use Rattle.lrc_exec.proofs.laws.an_order_can_be_cut.Goals as goal

pub returns : goal.returns
returns c = λ program nodes cut order acts made. plain-take program nodes cut order acts made
