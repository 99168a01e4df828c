use Rattle.lrc_clock.proofs.Learning.{arrived-covers, arrived-least}
use Rattle.lrc_clock.proofs.laws.barrier_time_is_the_least_cover.Goals as goal

pub returns-clause-covers : goal.returns-clause-covers
returns-clause-covers c = λ nodes run times keeps. arrived-covers keeps

pub returns-clause-least : goal.returns-clause-least
returns-clause-least c = λ nodes run times keeps. arrived-least keeps
