use Rattle.lrc_page.proofs.ChangeLists.{ascending-between, contains-between}
use Rattle.lrc_page.proofs.laws.changes_are_the_differences.Goals as goal

pub returns-clause-ascending : goal.returns-clause-ascending
returns-clause-ascending c = ascending-between

pub returns-clause-exact : goal.returns-clause-exact
returns-clause-exact c = contains-between
