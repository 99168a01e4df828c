use Rattle.std.proofs.Common.{◌≡◌, ℕ, ◌<◌, ◌≤◌}
use Rattle.lrc_exact.specs.Rule.{Shape, State}
use Rattle.lrc_exact_copies.specs.Copies.{CopyOf}
use Rattle.lrc_exact_copies.specs.Learned.{with_row}
use Rattle.lrc_exact_copies.specs.Made.{in_row}
use Rattle.lrc_exact_copies.proofs.learning.learn_row.Given as goal

-- the intervals so far are learned
abbrev pub invariant-loop-index : goal.invariant-loop-index
invariant-loop-index l =
    (l.last ≤ l.first → l.index ≡ l.first)
    × ((shape : Shape) (node a : ℕ) (state : State) → a < l.now → shape.size ≡ l.size → CopyOf shape node a l.now l.initial.copy state
    → CopyOf shape node a l.now l.copy (with_row l.from (in_row l.row) l.first l.index state))
