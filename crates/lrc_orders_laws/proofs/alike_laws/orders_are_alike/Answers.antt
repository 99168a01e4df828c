use Rattle.lrc_orders_laws.specs.Alike.{By}
use Rattle.lrc_orders_laws.proofs.Stepping.{runs}
use Rattle.lrc_orders_laws.proofs.alike_laws.orders_are_alike.Goals as goal

pub returns : goal.returns
returns c = λ related machine other final order acts go alike e. runs (By related) go machine other final order acts alike e
