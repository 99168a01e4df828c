-- The names so far, and the first pair of each.
use Rattle.lrc_judge.proofs.Leading.{AreLeading}
use Rattle.lrc_judge.proofs.first_pairs.leaders_of.Given as goal

abbrev pub invariant-loop-pair : goal.invariant-loop-pair
invariant-loop-pair l = AreLeading l.acts l.intervals l.pairs l.pair-index l.named l.leaders.items
