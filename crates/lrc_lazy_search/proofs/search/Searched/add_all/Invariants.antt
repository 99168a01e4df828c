-- Those that were taken so far are put to the others.
use Rattle.std.proofs.Common.{length}
use Rattle.lrc_lazy_search.proofs.Visiting.{Taken}
use Rattle.lrc_lazy_search.proofs.search.Searched.add_all.Given as goal

abbrev pub invariant-loop-state : goal.invariant-loop-state
invariant-loop-state l = Taken l.task.flat l.initial.self l.self l.initial.states.items l.states.items

abbrev pub decreases-loop-state : goal.decreases-loop-state
decreases-loop-state l = length l.states.items
