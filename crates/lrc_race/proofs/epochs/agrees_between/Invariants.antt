use Rattle.std.proofs.Common.{◌≡◌, ℕ, ◌≤◌, Some, length, take}
use Rattle.std.specs.Prelude.{Contains, slice_get}
use Rattle.lrc_trace.specs.declared.trace.Segment.{Segment}
use Rattle.lrc_race.specs.Epochs.{AgreesWith, KnowsBelow}
use Rattle.lrc_race.proofs.epochs.agrees_between.Given as goal

-- The segments so far agree, and what was passed by is known to all that follow.
abbrev pub invariant-loop-t : goal.invariant-loop-t
invariant-loop-t l = record {
  within : l.start ≤ length l.fn.a.segments;
  known : (i : ℕ) (t : Segment) → l.t-index ≤ i → slice_get l.fn.b.segments i ≡ Some t → KnowsBelow l.fn.a t l.start;
  agree : (t : Segment) → Contains (take l.t-index l.fn.b.segments) t → AgreesWith l.fn.a t;
}
