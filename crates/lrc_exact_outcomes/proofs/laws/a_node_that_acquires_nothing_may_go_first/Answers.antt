use Rattle.lrc_exact_outcomes.proofs.Fronting.{goes_first}
use Rattle.lrc_exact_outcomes.proofs.laws.a_node_that_acquires_nothing_may_go_first.Goals as goal

pub returns : goal.returns
returns c = goes_first
