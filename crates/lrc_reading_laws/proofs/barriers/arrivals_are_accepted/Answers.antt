use Rattle.lrc_reading_laws.proofs.Arriving.ArriveLaw.{arrival_expected}
use Rattle.lrc_reading_laws.proofs.barriers.arrivals_are_accepted.Goals as goal

pub returns : goal.returns
returns c = λ program nodes options events world e m l runs there is at.
    arrival_expected program nodes options events world runs e m l there is at
