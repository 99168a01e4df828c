use Rattle.std.proofs.Common.{◌∙◌}
use Rattle.lrc_trace.proofs.Positions.{Does-one_node}
use Rattle.lrc_why_chains.proofs.Unordered.{known_is_earlier, accessed}
use Rattle.lrc_why_chains.proofs.laws.races_are_past_what_is_known.Goals as goal

pub returns : goal.returns
returns c run i j k p a d race first does known =
    let (x, q, word, conflict) = race.conflict in
    let (one, one_does) = accessed conflict.first in
    let (two, two_does) = accessed conflict.second in
    known_is_earlier i j k p q a two d race.earlier first two_does (λ e. conflict.apart (Does-one_node one_does first ∙ e)) race.unordered does known
