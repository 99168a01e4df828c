use Rattle.std.proofs.Common.{◌≡◌, ℕ, ◌<◌, ◌≤◌, Some}
use Rattle.std.specs.Prelude.{slice_get}
use Rattle.lrc_time.specs.Time.{Covers}
use Rattle.lrc_trace.specs.declared.trace.Segment.{Segment}
use Rattle.lrc_race.proofs.rising.times_rise.Given as goal

-- the times so far rise
abbrev pub invariant-loop-at : goal.invariant-loop-at
invariant-loop-at l = (i j : ℕ) (s t : Segment) → i ≤ j → j < l.at → slice_get l.segments i ≡ Some s
    → slice_get l.segments j ≡ Some t → Covers t.time s.time
