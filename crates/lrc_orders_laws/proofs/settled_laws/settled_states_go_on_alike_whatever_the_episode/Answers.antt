use Rattle.lrc_orders_laws.proofs.GoingOn.{goes_on_alike}
use Rattle.lrc_orders_laws.proofs.settled_laws.settled_states_go_on_alike_whatever_the_episode.Goals as goal

pub returns : goal.returns
returns c = goes_on_alike
