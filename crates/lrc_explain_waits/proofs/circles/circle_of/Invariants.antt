use Rattle.std.proofs.Common.{◌≡◌, ◌-◌, length}
use Rattle.lrc_explain_waits.specs.Circles.{circle_of, way_back}
use Rattle.lrc_explain_waits.proofs.Ways.{behind}
use Rattle.lrc_explain_waits.proofs.circles.circle_of.Given as goal

-- the way so far, and the way that is left, are the whole way
abbrev pub invariant-loop-step : goal.invariant-loop-step
invariant-loop-step l = circle_of l.waits l.first ≡ behind l.way.items (way_back l.waits l.first (length l.waits - l._step) l.at)
