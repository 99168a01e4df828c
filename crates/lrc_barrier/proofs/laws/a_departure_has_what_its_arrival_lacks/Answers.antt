use Rattle.lrc_barrier.proofs.Told.{told}
use Rattle.lrc_barrier.proofs.laws.a_departure_has_what_its_arrival_lacks.Goals as goal

pub returns : goal.returns
returns c = λ arrivals to own interval. told arrivals own interval
