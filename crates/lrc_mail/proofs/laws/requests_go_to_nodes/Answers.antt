use Rattle.lrc_mail.proofs.Receivers.{requests-below}
use Rattle.lrc_mail.proofs.laws.requests_go_to_nodes.Goals as goal

pub returns : goal.returns
returns c = requests-below
