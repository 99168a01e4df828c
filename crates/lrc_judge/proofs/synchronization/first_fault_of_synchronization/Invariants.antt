use Rattle.std.proofs.Common.{ℕ, ◌<◌}
use Rattle.lrc_judge.specs.Synchronization.{Breaks}
use Rattle.lrc_judge.specs.Standing.{IsStanding}
use Rattle.lrc_judge.proofs.synchronization.first_fault_of_synchronization.Given as goal

-- no position so far breaks it
abbrev pub invariant-loop-position : goal.invariant-loop-position
invariant-loop-position l = record {
  standing : IsStanding l.acts l.position l.standing;
  unbroken : (j : ℕ) → j < l.position → ¬ Breaks l.nodes l.acts j;
}
