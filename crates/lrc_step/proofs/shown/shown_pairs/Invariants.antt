-- The pairs of the acts so far are added.
use Rattle.lrc_judge.specs.Adding.{Adds}
use Rattle.lrc_judge.proofs.Additions.{IsBelow}
use Rattle.lrc_step.proofs.Standing.{IsOfAct}
use Rattle.lrc_step.proofs.shown.shown_pairs.Given as goal

abbrev pub invariant-loop-position : goal.invariant-loop-position
invariant-loop-position l = Adds l.initial.pairs.items l.pairs.items (IsBelow (IsOfAct l.acts l.part) l.position)
