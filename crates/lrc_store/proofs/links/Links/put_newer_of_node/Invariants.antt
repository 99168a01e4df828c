use Rattle.std.proofs.Common.{map}
use Rattle.lrc_store.specs.Store.{interval_of}
use Rattle.lrc_store.proofs.Chained.{reach}
use Rattle.lrc_store.proofs.NodeWalks.{IsWalkedBehind, no_interval}
use Rattle.lrc_store.proofs.links.Links.put_newer_of_node.Given as goal

abbrev pub invariant-loop-next : goal.invariant-loop-next
invariant-loop-next l = IsWalkedBehind l.node l.since l.upto (map interval_of l.arena.entries) no_interval l.initial.found.items l.next l.found.items

abbrev pub decreases-loop-next : goal.decreases-loop-next
decreases-loop-next l = reach l.next
