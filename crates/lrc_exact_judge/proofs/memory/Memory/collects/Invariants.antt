use Rattle.std.proofs.Common.{◌≡◌, ℕ}
use Rattle.lrc_exact.specs.Rule.{some_asks}
use Rattle.lrc_exact_judge.specs.Memory.{Having, IsKept, all_of}
use Rattle.lrc_exact_judge.proofs.memory.Memory.collects.Given as goal

-- whether one of the nodes so far asks
abbrev pub invariant-loop-copy : goal.invariant-loop-copy
invariant-loop-copy l =
    (a k most : ℕ) (having : Having) → IsKept a k most l.self having
    → l.some ≡ some_asks l.copy-index l.self.layout.collect (all_of l.self.layout.nodes having.have)
