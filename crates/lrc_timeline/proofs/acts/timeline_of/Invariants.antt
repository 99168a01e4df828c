use Rattle.std.proofs.Common.{take}
use Rattle.lrc_timeline.specs.Timeline.{IsTimelineOf, timed}
use Rattle.lrc_timeline.proofs.acts.timeline_of.Given as goal

-- the times of the acts so far
abbrev pub invariant-loop-position : goal.invariant-loop-position
invariant-loop-position l = IsTimelineOf (timed (take l.position l.acts) l.times.items) l.line
