use Rattle.std.proofs.Common.{subst}
use Rattle.lrc_races_trace.specs.Races.{Races}
use Rattle.lrc_races_trace.proofs.Told.{race_told}
use Rattle.lrc_races_trace.proofs.laws.an_access_is_told_exactly_where_it_races.Goals as goal

pub returns : goal.returns
returns c = λ events pairs j told. (
  λ (pair, has, at). (pair.earlier.position, subst (λ m. Races events pair.earlier.position m) at ((told.exact pair).0 has).races),
  λ (i, race). let (pair, has, at, of, le) = race_told events pairs told i j race.a race.first race in (pair, has, at),
)
