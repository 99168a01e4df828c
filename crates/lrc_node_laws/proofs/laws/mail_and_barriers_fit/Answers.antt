use Rattle.lrc_node_laws.proofs.Always.{mailed_at, sent_at, early_at, entered_at}
use Rattle.lrc_node_laws.proofs.laws.mail_and_barriers_fit.Goals as goal

pub returns-clause-sent : goal.returns-clause-sent
returns-clause-sent c = λ node r. sent_at node r

pub returns-clause-taken : goal.returns-clause-taken
returns-clause-taken c = λ node r. (mailed_at node r).taken

pub returns-clause-manager : goal.returns-clause-manager
returns-clause-manager c = λ node r. (mailed_at node r).manager

pub returns-clause-episode : goal.returns-clause-episode
returns-clause-episode c = λ node r. early_at node r

pub returns-clause-inside : goal.returns-clause-inside
returns-clause-inside c = λ node r. entered_at node r
