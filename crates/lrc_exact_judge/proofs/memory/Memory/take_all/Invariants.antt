use Rattle.std.proofs.Common.{◌≡◌, ℕ}
use Rattle.lrc_exact_judge.specs.Collecting.{with_values}
use Rattle.lrc_exact_judge.specs.Keepers.{AreValues}
use Rattle.lrc_exact_judge.specs.Memory.{CountAlike, Having, IsKept}
use Rattle.lrc_exact_judge.specs.Shape.{shape_of}
use Rattle.lrc_exact_judge.proofs.Loops.{with_below}
use Rattle.lrc_exact_judge.proofs.memory.Memory.take_all.Given as goal

-- the pages of the nodes so far are taken
abbrev pub invariant-loop-node : goal.invariant-loop-node
invariant-loop-node l = record {
  alike : CountAlike l.initial.self l.self;
  dropped : l.self.dropped ≡ l.initial.self.dropped;
  made : l.self.made ≡ l.initial.self.made;
  kept : (a k most : ℕ) (having : Having) (values : ℕ → ℕ) → AreValues (shape_of l.initial.self.layout) l.keepers having.have values
      → IsKept a k most l.initial.self having
      → IsKept a k most l.self (with_below having (λ node have. with_values (shape_of l.initial.self.layout) values have) l.node);
}
