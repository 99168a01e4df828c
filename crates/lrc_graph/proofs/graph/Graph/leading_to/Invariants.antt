-- The places reached so far against the edges.
use Rattle.std.proofs.Common.{◌-◌, length}
use Rattle.lrc_graph.proofs.Closing.{Closing}
use Rattle.lrc_graph.proofs.graph.Graph.leading_to.Given as goal

abbrev pub invariant-loop-at : goal.invariant-loop-at
invariant-loop-at l = Closing l.self l.ends l.reached l.at

abbrev pub decreases-loop-at : goal.decreases-loop-at
decreases-loop-at l = length l.self.before.items - l.at
