use Rattle.lrc_barrier.proofs.Told.{covers_all, covered_by_all}
use Rattle.lrc_barrier.proofs.laws.the_time_of_all_is_the_least_cover.Goals as goal

pub returns-clause-covers : goal.returns-clause-covers
returns-clause-covers c = λ nodes arrivals arrival there. covers_all nodes arrivals arrival there

pub returns-clause-least : goal.returns-clause-least
returns-clause-least c = λ nodes arrivals time all. covered_by_all nodes arrivals time all
