use Rattle.lrc_table.proofs.Copies.{pending-closed, whole-twin}
use Rattle.lrc_table.proofs.Tables.{contains-state, rising-written, closed-none}
use Rattle.lrc_table.proofs.laws.closing_names_the_written_pages.Goals as goal

pub returns-clause-exact : goal.returns-clause-exact
returns-clause-exact c = contains-state

pub returns-clause-rising : goal.returns-clause-rising
returns-clause-rising c = rising-written

pub returns-clause-settled : goal.returns-clause-settled
returns-clause-settled c = closed-none

pub returns-clause-pending : goal.returns-clause-pending
returns-clause-pending c = pending-closed

pub returns-clause-twins : goal.returns-clause-twins
returns-clause-twins c = whole-twin
