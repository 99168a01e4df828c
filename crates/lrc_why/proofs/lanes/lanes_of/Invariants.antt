-- The accesses from here on.
use Rattle.lrc_why.specs.Lanes.{AreLanesFrom}
use Rattle.lrc_why.proofs.lanes.lanes_of.Given as goal

abbrev pub invariant-loop-k : goal.invariant-loop-k
invariant-loop-k l = AreLanesFrom l.acts l.k (record { firsts = l.firsts; nexts = l.nexts })
