-- What is kept is of the positions so far, and none of them races with an earlier one.
use Rattle.std.proofs.Common.{ℕ, ◌<◌}
use Rattle.lrc_trace.specs.Conflict.{Races}
use Rattle.lrc_judge.specs.Past.{IsPast}
use Rattle.lrc_judge.specs.Touched.{AreTouched}
use Rattle.lrc_judge.proofs.first.first_race.Given as goal

abbrev pub invariant-loop-position : goal.invariant-loop-position
invariant-loop-position l = record {
  past : IsPast l.acts l.position l.past;
  words : AreTouched l.acts l.position l.words;
  none : (i j : ℕ) → j < l.position → Races l.acts i j → ⊥;
}
