use Rattle.lrc_orders.proofs.Meetings.{never_meets, no_race}
use Rattle.lrc_orders.proofs.laws.a_race_is_a_meeting.Goals as goal

pub returns : goal.returns
returns c = λ program nodes. (never_meets program nodes, no_race program nodes)
