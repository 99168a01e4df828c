use Rattle.lrc_weave.proofs.Repeated.{AreSo}
use Rattle.lrc_weave.proofs.again.again_of.Given as goal

abbrev pub invariant-loop-place : goal.invariant-loop-place
invariant-loop-place l = AreSo l.log l.place l.seen.keys l.again.items

abbrev pub decreases-loop-place : goal.decreases-loop-place
decreases-loop-place l = l.place
