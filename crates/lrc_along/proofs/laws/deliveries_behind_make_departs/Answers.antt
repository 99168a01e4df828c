use Rattle.lrc_along.proofs.Behind.{departs_alone, stand_behind}
use Rattle.lrc_along.proofs.laws.deliveries_behind_make_departs.Goals as goal

pub returns-clause-stands : goal.returns-clause-stands
returns-clause-stands c = λ program nodes options along behind at end runs all goes.
    let s = stand_behind program nodes options at along behind end runs all goes in (s.0, s.1.0, s.1.1)

pub returns-clause-alone : goal.returns-clause-alone
returns-clause-alone c = λ program nodes options order along behind at end runs due done all goes.
    departs_alone program nodes options at order along behind end runs due done all goes
