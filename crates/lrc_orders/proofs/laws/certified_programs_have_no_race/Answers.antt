use Rattle.lrc_orders.proofs.Meetings.{certified}
use Rattle.lrc_orders.proofs.laws.certified_programs_have_no_race.Goals as goal

pub returns : goal.returns
returns c = certified
