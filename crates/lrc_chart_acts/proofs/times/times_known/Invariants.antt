use Rattle.std.proofs.Common.{◌≡◌, take}
use Rattle.lrc_text.specs.Each.{each}
use Rattle.lrc_timeline.specs.Timeline.{times_in}
use Rattle.lrc_chart_acts.specs.Times.{time_if}
use Rattle.lrc_chart_acts.proofs.times.times_known.Given as goal

-- the times of the acts so far
abbrev pub invariant-loop-position : goal.invariant-loop-position
invariant-loop-position l = times_in l.times ≡ each (time_if l.order l.acts l.nodes l.places) (take l.position l.acts)
