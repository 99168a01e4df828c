use Rattle.std.proofs.Common.{refl}
use Rattle.lrc_consistency_laws.proofs.UpToRace.{in_range}
use Rattle.lrc_protocol.proofs.Texts.{text}
use Rattle.lrc_order_laws.proofs.Timed.{synchronized, waits}
use Rattle.lrc_why_laws.proofs.Racing.{opponent_apart, race_apart}
use Rattle.lrc_why_laws.proofs.laws.what_is_told_of_a_race_is_why_it_is_one.Goals as goal

pub returns-clause-opponents : goal.returns-clause-opponents
returns-clause-opponents c = λ program nodes options events world node position opponent e is.
    opponent_apart (synchronized program nodes options events world e) (waits program nodes options events world e)
    (in_range (text program nodes options events world e)) node position opponent is

pub returns-clause-two : goal.returns-clause-two
returns-clause-two c = λ program nodes options events world earlier later parting first second e is.
    race_apart (synchronized program nodes options events world e) (waits program nodes options events world e)
    (in_range (text program nodes options events world e)) earlier later parting first second _ is refl
