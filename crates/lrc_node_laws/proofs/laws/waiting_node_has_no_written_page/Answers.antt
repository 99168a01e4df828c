use Rattle.lrc_node_laws.proofs.Always.{quiet_at}
use Rattle.lrc_node_laws.proofs.laws.waiting_node_has_no_written_page.Goals as goal

pub returns : goal.returns
returns c = λ node r. quiet_at node r
