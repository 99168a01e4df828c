use Rattle.std.proofs.Common.{◌≡◌, ℕ, ◌*◌}
use Rattle.lrc_exact.specs.Rule.{Shape, State}
use Rattle.lrc_exact_copies.specs.Copies.{CopyOf, with_fixed_words}
use Rattle.lrc_exact_copies.proofs.copy.NodeCopy.fix_words.Given as goal

-- the words so far are fixed
abbrev pub invariant-loop-offset : goal.invariant-loop-offset
invariant-loop-offset l = (shape : Shape) (node a k : ℕ) (state : State) → shape.size ≡ l.size → CopyOf shape node a k l.initial.self state
    → CopyOf shape node a k l.self (with_fixed_words (l.page * l.size) l.offset l.values state)
