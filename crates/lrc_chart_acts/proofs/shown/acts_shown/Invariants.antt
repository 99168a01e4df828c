use Rattle.std.proofs.Common.{◌≡◌, take}
use Rattle.lrc_chart_acts.specs.Shown.{acts_shown}
use Rattle.lrc_chart_acts.proofs.shown.acts_shown.Given as goal

-- the rows of the acts so far
abbrev pub invariant-loop-position : goal.invariant-loop-position
invariant-loop-position l = l.places.items ≡ acts_shown l.part (take l.position l.acts)
