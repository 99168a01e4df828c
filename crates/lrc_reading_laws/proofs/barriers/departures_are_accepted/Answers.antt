use Rattle.lrc_reading_laws.proofs.Arriving.DepartNews.{depart_expected}
use Rattle.lrc_reading_laws.proofs.barriers.departures_are_accepted.Goals as goal

pub returns : goal.returns
returns c = λ program nodes options events world e m l runs there is at.
    depart_expected program nodes options events world e m l runs there is at
