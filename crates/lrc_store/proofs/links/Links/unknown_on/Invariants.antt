use Rattle.lrc_store.proofs.Chained.{reach}
use Rattle.lrc_store.proofs.Walks.{IsWalked}
use Rattle.lrc_store.proofs.links.Links.unknown_on.Given as goal

abbrev pub invariant-loop-next : goal.invariant-loop-next
invariant-loop-next l = IsWalked l.page l.since l.arena.notices l.next l.found.items

abbrev pub decreases-loop-next : goal.decreases-loop-next
decreases-loop-next l = reach l.next
