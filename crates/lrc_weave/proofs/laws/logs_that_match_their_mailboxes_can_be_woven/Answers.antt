use Rattle.lrc_weave.proofs.Paired.{sent_where_alike}
use Rattle.lrc_weave.proofs.Weaving.{whole}
use Rattle.lrc_weave.proofs.laws.logs_that_match_their_mailboxes_can_be_woven.Goals as goal

pub returns : goal.returns
returns c = λ program nodes options logs wires are alike count. whole program nodes options logs are (sent_where_alike logs wires alike count)
