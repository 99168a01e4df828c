use Rattle.lrc_barrier.proofs.Told.{as_many, one_each}
use Rattle.lrc_barrier.proofs.laws.every_node_departs.Goals as goal

pub returns-clause-count : goal.returns-clause-count
returns-clause-count c = λ arrivals. as_many arrivals

pub returns-clause-order : goal.returns-clause-order
returns-clause-order c = λ arrivals node none nobody within. one_each arrivals node none nobody within
