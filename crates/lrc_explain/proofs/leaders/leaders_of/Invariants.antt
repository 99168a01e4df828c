-- The sites of the pairs so far, and the first pair of each group of these.
use Rattle.lrc_explain.proofs.Leading.{AreLed}
use Rattle.lrc_explain.proofs.leaders.leaders_of.Given as goal

abbrev pub invariant-loop-pair : goal.invariant-loop-pair
invariant-loop-pair l = AreLed l.acts l.lines l.pairs l.pair-index l.sites l.leaders.items
