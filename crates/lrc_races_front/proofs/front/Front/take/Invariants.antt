-- What is done of the block.
use Rattle.std.proofs.Common.{length}
use Rattle.lrc_races_front.proofs.FrontLemmas.{Invariant}
use Rattle.lrc_races_front.proofs.front.Front.take.Given as goal

abbrev pub invariant-loop-part : goal.invariant-loop-part
invariant-loop-part g l = Invariant g.K.Keep.has_kept l.initial.self l.block l.left l.self

abbrev pub decreases-loop-part : goal.decreases-loop-part
decreases-loop-part g l = length l.left
