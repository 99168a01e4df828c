-- The cycles of a barrier. A barrier has one open cycle at a time. An arrive is of the open one. A depart is of that of
-- its thread's last arrive; without one it is of none. The first depart of the open cycle closes it and opens the next.
use Rattle.std.specs.Prelude.{ℕ, zero, suc, ◌+◌, ◌==◌, if◌then◌else◌, List, Option, Some, None, slice_get}
use Rattle.lrc_races_trace.specs.declared.event.Event.{Event}
use Rattle.lrc_races_trace.specs.declared.event.Operation.{Operation}
use Rattle.lrc_races_trace.specs.declared.event.Operation.TheVariants.{Arrive, Depart}

-- the number of the open cycle, and of each thread that of its last arrive
pub record Cycles : Type 0 where
  pub current : ℕ
  pub of : ℕ → Option ℕ

-- before any event
abbrev pub no_cycles : Cycles
no_cycles = record { current = 0; of = λ thread. None }

-- the thread comes to the open cycle
abbrev pub arrived : ℕ → Cycles → Cycles
arrived thread cycles = record {
  current = cycles.current;
  of = λ other. if other == thread then Some cycles.current else cycles.of other;
}

-- one that departs from this cycle leaves this one open
abbrev pub opened : Option ℕ → ℕ → ℕ
opened (Some cycle) number = if cycle == number then number + 1 else number
opened None number = number

-- the thread goes on
abbrev pub departed : ℕ → Cycles → Cycles
departed thread cycles = record { current = opened (cycles.of thread) cycles.current; of = cycles.of }

-- what an operation of the thread makes of the barrier's cycles
abbrev pub after_operation : ℕ → ℕ → Operation → Cycles → Cycles
after_operation barrier thread (Arrive other) cycles = if other == barrier then arrived thread cycles else cycles
after_operation barrier thread (Depart other) cycles = if other == barrier then departed thread cycles else cycles
after_operation barrier thread _ cycles = cycles

abbrev pub after_event : ℕ → Option Event → Cycles → Cycles
after_event barrier (Some event) cycles = after_operation barrier event.thread event.operation cycles
after_event barrier None cycles = cycles

-- the barrier's cycles before this position
unfoldable pub cycles_before : List Event → ℕ → ℕ → Cycles
cycles_before events barrier zero = no_cycles
cycles_before events barrier (suc position) = after_event barrier (slice_get events position) (cycles_before events barrier position)
