use Rattle.std.proofs.Common.{◌≡◌, ℕ, take}
use Rattle.lrc_exact_judge.specs.Collecting.{with_taken}
use Rattle.lrc_exact_judge.specs.Keepers.{AreValues}
use Rattle.lrc_exact_judge.specs.Memory.{CountAlike, Having, IsKept, with_have}
use Rattle.lrc_exact_judge.specs.Shape.{shape_of}
use Rattle.lrc_exact_judge.proofs.memory.Memory.take_pages.Given as goal

-- the pages so far are taken
abbrev pub invariant-loop-page : goal.invariant-loop-page
invariant-loop-page l = record {
  alike : CountAlike l.initial.self l.self;
  dropped : l.self.dropped ≡ l.initial.self.dropped;
  made : l.self.made ≡ l.initial.self.made;
  kept : (a k most : ℕ) (having : Having) (values : ℕ → ℕ) → AreValues (shape_of l.initial.self.layout) l.keepers having.have values
      → IsKept a k most l.initial.self having
      → IsKept a k most l.self (with_have having l.place
      (with_taken (shape_of l.initial.self.layout) values (take l.page-index l.page-items) (having.have l.place)));
}
