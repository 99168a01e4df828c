use Rattle.lrc_store.proofs.Ranks.{by_weight-covered}
use Rattle.lrc_store.proofs.laws.weight_order_extends_cover.Goals as goal

pub returns : goal.returns
returns c = by_weight-covered
