use Rattle.lrc_clock.proofs.Learning.{complete-arrived, complete-released, sound-arrived, sound-released}
use Rattle.lrc_clock.proofs.laws.learned_time_is_cover.Goals as goal

pub returns-clause-released : goal.returns-clause-released
returns-clause-released c = λ nodes run times keeps ws. λ j l q k some. (sound-released keeps j l q k some, complete-released keeps ws j l q k)

pub returns-clause-arrived : goal.returns-clause-arrived
returns-clause-arrived c = λ nodes run times keeps ws. λ j number q k some. (sound-arrived keeps j number q k some, complete-arrived keeps ws j number q k)
