use Rattle.lrc_clock.proofs.Deciding.{decided, one_list, times_exist}
use Rattle.lrc_clock.proofs.laws.the_rule_determines_the_times.Goals as goal

pub returns-clause-exist : goal.returns-clause-exist
returns-clause-exist c = times_exist

pub returns-clause-one : goal.returns-clause-one
returns-clause-one c = one_list

pub returns-clause-decided : goal.returns-clause-decided
returns-clause-decided c = decided
