use Rattle.std.proofs.Common.{get_or}
use Rattle.std.proofs.lemmas.List.Elements.{All-contains_itself}
use Rattle.lrc_races_trace.proofs.laws.told_pairs_race.Goals as goal

pub returns : goal.returns
returns c = λ events pairs told k d lt. ((told.exact (get_or pairs k d)).0 (All-contains_itself pairs k d lt)).races
