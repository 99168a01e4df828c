use Rattle.lrc_time.proofs.Times.{weight-covers_strictly}
use Rattle.lrc_time.proofs.laws.weight_rises_with_cover.Goals as goal

pub returns : goal.returns
returns c = weight-covers_strictly
