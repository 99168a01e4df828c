use Rattle.std.proofs.Common.{◌≡◌, take}
use Rattle.lrc_exact.specs.Rule.{ReadsExactly}
use Rattle.lrc_exact_judge.specs.Current.{IsMemoryOf}
use Rattle.lrc_exact_judge.specs.Shape.{shape_of}
use Rattle.lrc_exact_judge.proofs.first.first_in.Given as goal

-- the memory is that after the acts so far, which read exactly
abbrev pub invariant-loop-position : goal.invariant-loop-position
invariant-loop-position l = record {
  layout : l.memory.layout ≡ l.fn.layout;
  memory : IsMemoryOf (take l.position l.acts) l.memory;
  reads : ReadsExactly (shape_of l.fn.layout) (take l.position l.acts);
}
