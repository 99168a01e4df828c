use Rattle.lrc_orders_laws.specs.Alike.{By}
use Rattle.lrc_orders_laws.proofs.Stepping.{step}
use Rattle.lrc_orders_laws.proofs.alike_laws.steps_are_alike.Goals as goal

pub returns : goal.returns
returns c = λ related machine other after node deed go alike e. step (By related) go machine other alike node deed after e
