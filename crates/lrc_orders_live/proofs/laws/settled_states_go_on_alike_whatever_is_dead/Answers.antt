use Rattle.lrc_orders_live.proofs.Like.{goes_on_like}
use Rattle.lrc_orders_live.proofs.laws.settled_states_go_on_alike_whatever_is_dead.Goals as goal

pub returns : goal.returns
returns c = goes_on_like
