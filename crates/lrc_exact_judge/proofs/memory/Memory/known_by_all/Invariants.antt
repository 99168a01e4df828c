use Rattle.std.proofs.Common.{◌≡◌, ℕ, length}
use Rattle.lrc_exact.specs.Rule.{known_by_all}
use Rattle.lrc_exact_judge.specs.Memory.{Having, IsKept, all_of}
use Rattle.lrc_exact_judge.proofs.memory.Memory.known_by_all.Given as goal

-- what the nodes so far know
abbrev pub invariant-loop-copy : goal.invariant-loop-copy
invariant-loop-copy l =
    (length l.all ≡ l.self.layout.nodes)
    × ((a k most : ℕ) (having : Having) → IsKept a k most l.self having
    → l.all ≡ (known_by_all l.copy-index l.self.layout.nodes (all_of l.self.layout.nodes having.have)).time)
