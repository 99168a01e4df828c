use Rattle.std.proofs.Common.{◌≡◌, ℕ, ◌<◌}
use Rattle.lrc_exact.specs.Rule.{Knowledge, Shape, State}
use Rattle.lrc_exact_copies.specs.Copies.{CopyOf}
use Rattle.lrc_exact_copies.specs.Learned.{with_rows}
use Rattle.lrc_exact_copies.specs.Made.{AreAmong}
use Rattle.lrc_exact_copies.proofs.learning.learn_all.Given as goal

-- the intervals of the nodes so far are learned
abbrev pub invariant-loop-node : goal.invariant-loop-node
invariant-loop-node l =
    (shape : Shape) (node a : ℕ) (state : State) (news : Knowledge) → a < l.now → shape.size ≡ l.size → news.time ≡ l.time → AreAmong l.made news
    → CopyOf shape node a l.now l.initial.copy state → CopyOf shape node a l.now l.copy (with_rows l.node l.known news state)
