use Rattle.lrc_orders_laws.specs.Alike.{By}
use Rattle.lrc_orders_laws.proofs.Stepping.{Back, back, back_stand, meets, rests, sticks}
use Rattle.lrc_orders_laws.proofs.alike_laws.what_is_seen_is_alike.Goals as goal

pub returns-clause-meet : goal.returns-clause-meet
returns-clause-meet c = λ related machine other p q go alike. (
  meets (By related) go machine other alike p q,
  meets (Back (By related)) (back (By related) go) other machine (back_stand (By related) machine other alike) p q,
)

pub returns-clause-rest : goal.returns-clause-rest
returns-clause-rest c = λ related machine other go alike. (
  rests (By related) go machine other alike,
  rests (Back (By related)) (back (By related) go) other machine (back_stand (By related) machine other alike),
)

pub returns-clause-stuck : goal.returns-clause-stuck
returns-clause-stuck c = λ related machine other go alike. (
  sticks (By related) go machine other alike,
  sticks (Back (By related)) (back (By related) go) other machine (back_stand (By related) machine other alike),
)
