use Rattle.std.proofs.Common.{◌≡◌, ℕ, ◌<◌, ◌≤◌, Some}
use Rattle.std.specs.Prelude.{slice_get}
use Rattle.lrc_trace.specs.declared.trace.Segment.{Segment}
use Rattle.lrc_race.proofs.epochs.epochs_rise.Given as goal

-- the epochs so far rise
abbrev pub invariant-loop-at : goal.invariant-loop-at
invariant-loop-at l = (i j : ℕ) (s t : Segment) → i ≤ j → j < l.at → slice_get l.segments i ≡ Some s
    → slice_get l.segments j ≡ Some t → s.epoch ≤ t.epoch
