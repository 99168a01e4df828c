use Rattle.lrc_node_laws.proofs.Wrote.{wrote}
use Rattle.lrc_node_laws.proofs.laws.copies_are_made_by_the_open_interval.Goals as goal

pub returns : goal.returns
returns c = λ program nodes options me l leads. wrote program nodes options me leads.among l leads
