use Rattle.lrc_races_sure.proofs.Taking.{positions, list, on_the_way, reordered}
use Rattle.lrc_races_sure.proofs.Formed.{list_formed}
use Rattle.lrc_races_sure.proofs.laws.each_sure_race_is_shown.Goals as goal

pub returns : goal.returns
returns c = λ events i j r. (
  positions events i j r,
  list events i j r,
  on_the_way events i j r,
  reordered events i j r,
  λ formed. list_formed events i j r formed,
)
