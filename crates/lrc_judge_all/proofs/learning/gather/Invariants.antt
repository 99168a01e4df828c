use Rattle.std.proofs.Common.{ℕ}
use Rattle.std.specs.Prelude.{IsTrue}
use Rattle.lrc_judge.specs.Adding.{Adds}
use Rattle.lrc_judge.specs.Order.{is_before}
use Rattle.lrc_judge_all.specs.Known.{IsPassed}
use Rattle.lrc_judge_all.proofs.learning.gather.Given as goal

-- the node's writes so far are added, and all happen before the position
abbrev pub invariant-loop-k : goal.invariant-loop-k
invariant-loop-k l = record {
  adds : Adds l.initial.batch.items l.batch.items (IsPassed l.acts l.node l.from l.k);
  known : (i : ℕ) → IsPassed l.acts l.node l.from l.k i → IsTrue (is_before l.order i l.position);
}
