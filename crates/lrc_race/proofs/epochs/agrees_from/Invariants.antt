use Rattle.std.proofs.Common.{◌≡◌, ℕ, ◌<◌, ◌≤◌, Some}
use Rattle.std.specs.Prelude.{slice_get}
use Rattle.lrc_time.specs.Time.{Knows}
use Rattle.lrc_trace.specs.declared.trace.Segment.{Segment}
use Rattle.lrc_race.proofs.epochs.agrees_from.Given as goal

-- the segments so far agree
abbrev pub invariant-loop-k : goal.invariant-loop-k
invariant-loop-k l = (m : ℕ) (s : Segment) → l.fn.from ≤ m → m < l.k → slice_get l.fn.a.segments m ≡ Some s
    → s.epoch < l.fn.t.epoch → Knows l.fn.t.time l.fn.a.node s.interval
