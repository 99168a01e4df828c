use Rattle.std.proofs.Common.{◌≡◌, ◌<◌, ℕ, take}
use Rattle.lrc_exact.specs.Rule.{Shape, State}
use Rattle.lrc_exact_copies.specs.Copies.{CopyOf, with_all_changes}
use Rattle.lrc_exact_copies.proofs.Learned.{rank_of}
use Rattle.lrc_exact_copies.proofs.copy.NodeCopy.learn_changes.Given as goal

-- the changes so far are learned
abbrev pub invariant-loop-change : goal.invariant-loop-change
invariant-loop-change l = (shape : Shape) (node a : ℕ) (state : State) → a < l.now → shape.size ≡ l.size
    → CopyOf shape node a l.now l.initial.self state
    → CopyOf shape node a l.now l.self (with_all_changes (rank_of l.weight l.from) (take l.change-index l.changes) state)
