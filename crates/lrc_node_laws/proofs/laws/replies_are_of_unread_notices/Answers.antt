use Rattle.lrc_node_laws.proofs.Always.{awaited_at}
use Rattle.lrc_node_laws.proofs.laws.replies_are_of_unread_notices.Goals as goal

pub returns : goal.returns
returns c = λ node from m r e. awaited_at node r from m e
