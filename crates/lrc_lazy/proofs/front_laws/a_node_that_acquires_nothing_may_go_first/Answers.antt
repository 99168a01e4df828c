use Rattle.lrc_lazy.proofs.Front.{goes_first}
use Rattle.lrc_lazy.proofs.front_laws.a_node_that_acquires_nothing_may_go_first.Goals as goal

pub returns : goal.returns
returns c = goes_first
