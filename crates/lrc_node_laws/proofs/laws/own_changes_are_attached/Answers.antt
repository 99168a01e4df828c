use Rattle.lrc_node_laws.proofs.Always.{attached_at, copied_at, others_lack, others_asked}
use Rattle.lrc_node_laws.proofs.OwnAsked.{own-known}
use Rattle.lrc_node_laws.proofs.laws.own_changes_are_attached.Goals as goal

pub returns-clause-attached : goal.returns-clause-attached
returns-clause-attached c = λ node r. attached_at node r

pub returns-clause-copied : goal.returns-clause-copied
returns-clause-copied c = λ node r. copied_at node r

pub returns-clause-known : goal.returns-clause-known
returns-clause-known c = λ node index page r n. own-known node.setting.me index page node.memory (attached_at node r) n

pub returns-clause-lacking : goal.returns-clause-lacking
returns-clause-lacking c = λ node page r. others_lack node r page

pub returns-clause-asked : goal.returns-clause-asked
returns-clause-asked c = λ node r. others_asked node r
