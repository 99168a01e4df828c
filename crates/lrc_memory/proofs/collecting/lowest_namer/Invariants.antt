use Rattle.lrc_store.proofs.Chained.{reach}
use Rattle.lrc_memory.proofs.Lowest.{IsSought}
use Rattle.lrc_memory.proofs.collecting.lowest_namer.Given as goal

abbrev pub invariant-loop-next : goal.invariant-loop-next
invariant-loop-next l = IsSought l.store l.page l.next l.lowest

abbrev pub decreases-loop-next : goal.decreases-loop-next
decreases-loop-next l = reach l.next
