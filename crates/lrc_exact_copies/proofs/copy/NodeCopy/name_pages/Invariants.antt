use Rattle.std.proofs.Common.{ℕ, take}
use Rattle.lrc_exact.specs.Rule.{Shape, State}
use Rattle.lrc_exact_copies.specs.Copies.{CopyOf, with_all_pages}
use Rattle.lrc_exact_copies.proofs.copy.NodeCopy.name_pages.Given as goal

-- the pages so far are named
abbrev pub invariant-loop-page : goal.invariant-loop-page
invariant-loop-page l = (shape : Shape) (node a k : ℕ) (state : State) → CopyOf shape node a k l.initial.self state
    → CopyOf shape node a k l.self (with_all_pages (take l.page-index l.pages) state)
