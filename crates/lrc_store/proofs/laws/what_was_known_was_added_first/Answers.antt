use Rattle.lrc_store.proofs.KnownFirst.{last-known, none-known, known-added, known-next, known-attached, known-discarded}
use Rattle.lrc_store.proofs.laws.what_was_known_was_added_first.Goals as goal

pub returns-clause-last : goal.returns-clause-last
returns-clause-last c = λ store page sound. last-known store page sound

pub returns-clause-none : goal.returns-clause-none
returns-clause-none c = λ store page since none. none-known store page since none

pub returns-clause-added : goal.returns-clause-added
returns-clause-added c = λ store interval page since before new. known-added store interval page since before new

pub returns-clause-attached : goal.returns-clause-attached
returns-clause-attached c = λ store key changes page since before. known-attached store key changes page since before

pub returns-clause-discarded : goal.returns-clause-discarded
returns-clause-discarded c = λ store time page since before. known-discarded store time page since before

pub returns-clause-next : goal.returns-clause-next
returns-clause-next c = λ store interval page since before covers next. known-next store interval page since before covers next
