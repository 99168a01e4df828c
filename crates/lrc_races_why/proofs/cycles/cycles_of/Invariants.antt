-- The numbers of the events so far.
use Rattle.std.proofs.Common.{◌≡◌, ℕ, ◌<◌, length}
use Rattle.std.specs.Prelude.{Some, slice_get}
use Rattle.lrc_races_trace.specs.declared.event.Event.{Event}
use Rattle.lrc_races_trace.specs.Trace.{At}
use Rattle.lrc_races_why.specs.Cycles.{cycle_in, AreCycles}
use Rattle.lrc_races_why.proofs.cycles.cycles_of.Given as goal

abbrev pub invariant-loop-event : goal.invariant-loop-event
invariant-loop-event l = record {
  kept : AreCycles l.events l.event-index l.barriers.items;
  all : length l.numbers.items ≡ l.event-index;
  each : (k : ℕ) (a : Event) → k < l.event-index → At l.events k a → slice_get l.numbers.items k ≡ Some (cycle_in l.events k a.thread a.operation);
}
