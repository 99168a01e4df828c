-- Where lines stand among the events of a trace.
use Rattle.std.specs.Prelude.{ℕ, ◌<◌, ◌≤◌, List, length, slice_index_or}
use Rattle.lrc_races_trace.specs.declared.event.Event.{Event}

-- the events before this place are on lesser lines, and that at it on no lesser one
pub record IsLinePlace (events : List Event) (line at : ℕ) : Type 0 where
  pub within : at ≤ length events
  pub below : (k : ℕ) (d : Event) → k < at → (slice_index_or events k d).line < line
  pub reached : (d : Event) → at < length events → line ≤ (slice_index_or events at d).line
