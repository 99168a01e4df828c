use Rattle.lrc_node_laws.proofs.Always.{text_at, inside_at}
use Rattle.lrc_node_laws.proofs.laws.texts_fit.Goals as goal

pub returns-clause-setting : goal.returns-clause-setting
returns-clause-setting c = λ node thread r e. text_at node r thread e

pub returns-clause-arrived : goal.returns-clause-arrived
returns-clause-arrived c = λ node thread r e. inside_at node r thread e
