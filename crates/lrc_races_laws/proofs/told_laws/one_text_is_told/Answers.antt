use Rattle.lrc_races_laws.proofs.TracesTold.{so_far, whole, stopped, failed, not_stopped, not_failed}
use Rattle.lrc_races_laws.proofs.told_laws.one_text_is_told.Goals as goal

pub returns-clause-so_far : goal.returns-clause-so_far
returns-clause-so_far c = λ form asked bytes one other a b. so_far form asked bytes one other a b

pub returns-clause-whole : goal.returns-clause-whole
returns-clause-whole c = λ form asked bytes one other status code a b. whole form asked bytes one other status code a b

pub returns-clause-stopped : goal.returns-clause-stopped
returns-clause-stopped c = λ form asked bytes one other line number a b. stopped form asked bytes one other line number a b

pub returns-clause-failed : goal.returns-clause-failed
returns-clause-failed c = λ form asked bytes one other line number a b. failed form asked bytes one other line number a b

pub returns-clause-not_stopped : goal.returns-clause-not_stopped
returns-clause-not_stopped c = λ form asked bytes one other line a b. not_stopped form asked bytes one other line a b

pub returns-clause-not_failed : goal.returns-clause-not_failed
returns-clause-not_failed c = λ form asked bytes one other status line a b. not_failed form asked bytes one other status line a b
