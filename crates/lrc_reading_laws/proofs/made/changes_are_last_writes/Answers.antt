use Rattle.lrc_reading_laws.proofs.Acted.Writes.{given_last, last_given}
use Rattle.lrc_reading_laws.proofs.made.changes_are_last_writes.Goals as goal

pub returns-clause-given : goal.returns-clause-given
returns-clause-given c = λ size nodes made world x page offset value of c' lt e. given_last size nodes made world of x page offset c' lt value e

pub returns-clause-written : goal.returns-clause-written
returns-clause-written c = λ size nodes made world x page offset i value of c' lt w. last_given size nodes made world of x page offset c' lt i value w
