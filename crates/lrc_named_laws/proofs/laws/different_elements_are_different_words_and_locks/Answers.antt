-- By how items lie.
use Rattle.lrc_named_laws.proofs.Printed.{are_below_locks, are_below_words, are_locks, are_words}
use Rattle.lrc_named_laws.proofs.laws.different_elements_are_different_words_and_locks.Goals as goal

pub returns-clause-words : goal.returns-clause-words
returns-clause-words c = are_words

pub returns-clause-locks : goal.returns-clause-locks
returns-clause-locks c = are_locks

pub returns-clause-below_words : goal.returns-clause-below_words
returns-clause-below_words c = are_below_words

pub returns-clause-below_locks : goal.returns-clause-below_locks
returns-clause-below_locks c = are_below_locks
