use Rattle.lrc_races_sure.proofs.Told.{none_race, none_told}
use Rattle.lrc_races_sure.proofs.laws.nothing_is_sure_where_nothing_races.Goals as goal

pub returns : goal.returns
returns c = λ events pairs told. (λ e i j race. none_race events pairs told e i j race, λ none. none_told events pairs told none)
