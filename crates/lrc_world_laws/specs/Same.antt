-- Runs that say the same beside their turns.
use Rattle.std.specs.Prelude.{◌≡◌}
use Rattle.lrc_world.specs.declared.run.Run.{Run}

-- the second has the acts, the ends, the races and the first race of the first, and is over where that is
pub record SaysTheSame (run again : Run) : Type 0 where
  pub acts : again.report.acts.items ≡ run.report.acts.items
  pub ends : again.report.ends.items ≡ run.report.ends.items
  pub races : again.report.races.items ≡ run.report.races.items
  pub first : again.report.first_race ≡ run.report.first_race
  pub over : again.is_over ≡ run.is_over
