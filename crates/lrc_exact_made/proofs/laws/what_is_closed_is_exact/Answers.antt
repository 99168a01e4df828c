use Rattle.lrc_exact_made.proofs.Closing.{closes_exactly, exactly}
use Rattle.lrc_exact_made.proofs.laws.what_is_closed_is_exact.Goals as goal

pub returns-clause-interval : goal.returns-clause-interval
returns-clause-interval c = exactly

pub returns-clause-node : goal.returns-clause-node
returns-clause-node c = closes_exactly
