-- What comes before an event of a trace, as a vector: an entry for each thread.
use Rattle.std.specs.Prelude.{ℕ, ◌<◌, ◌↔◌, List, slice_index}
use Rattle.lrc_races_trace.specs.declared.event.Event.{Event}
use Rattle.lrc_races_trace.specs.Trace.{At}
use Rattle.lrc_races_trace.specs.Order.{Reaches}
use Rattle.lrc_races_sure.specs.Leading.{IsByWay}

-- An event is the one at this position, or happens before it, exactly where its own position is below its thread's entry.
pub record IsPast (events : List Event) (position : ℕ) (known : List ℕ) : Type 0 where
  pub exact : (p : ℕ) (a : Event) → At events p a → (p < slice_index known a.thread) ↔ Reaches events p position

-- The event at this position was reached by way of an event exactly where that one's own position is below its thread's entry.
pub record IsWay (events : List Event) (position : ℕ) (known : List ℕ) : Type 0 where
  pub exact : (p : ℕ) (a : Event) → At events p a → (p < slice_index known a.thread) ↔ IsByWay events p position
