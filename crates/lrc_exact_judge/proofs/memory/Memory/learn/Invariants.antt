use Rattle.std.proofs.Common.{◌≡◌, ◌<◌, ◌≤◌, ℕ}
use Rattle.lrc_exact.specs.Rule.{known_by_all, with_learned}
use Rattle.lrc_exact_judge.specs.Memory.{CountAlike, Having, IsKept, all_of}
use Rattle.lrc_exact_judge.proofs.Loops.{with_below}
use Rattle.lrc_exact_judge.proofs.memory.Memory.learn.Given as goal

-- the nodes so far have learned
abbrev pub invariant-loop-node : goal.invariant-loop-node
invariant-loop-node l = record {
  alike : CountAlike l.initial.self l.self;
  made : l.self.made ≡ l.initial.self.made;
  kept : (a k most : ℕ) (having : Having) → a < l.now → k ≤ l.now → IsKept a k most l.initial.self having
      → IsKept a l.now most l.self (with_below having
      (λ node have. with_learned l.initial.self.layout.nodes
      (known_by_all l.initial.self.layout.nodes l.initial.self.layout.nodes (all_of l.initial.self.layout.nodes having.have)) have) l.node);
}
