use Rattle.lrc_miss_laws.proofs.Missing.{none-known, none-known_then, all-asked, all-asked_then}
use Rattle.lrc_miss_laws.proofs.laws.all_that_is_missing_is_asked_for.Goals as goal

pub returns-clause-access : goal.returns-clause-access
returns-clause-access c = λ node page r none. none-known node page r none

pub returns-clause-upkeep : goal.returns-clause-upkeep
returns-clause-upkeep c = λ node from page m r e. none-known_then node from m r e page

pub returns-clause-at_miss : goal.returns-clause-at_miss
returns-clause-at_miss c = λ node page r idle. all-asked node page r idle

pub returns-clause-in_upkeep : goal.returns-clause-in_upkeep
returns-clause-in_upkeep c = λ node from m r e. all-asked_then node from m r e
