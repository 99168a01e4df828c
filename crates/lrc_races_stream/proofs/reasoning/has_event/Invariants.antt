-- None of the events so far is on the line.
use Rattle.std.proofs.Common.{◌≡◌, ℕ, ◌<◌}
use Rattle.lrc_races_trace.specs.declared.event.Event.{Event}
use Rattle.lrc_races_trace.specs.Trace.{At}
use Rattle.lrc_races_stream.proofs.reasoning.has_event.Given as goal

abbrev pub invariant-loop-event : goal.invariant-loop-event
invariant-loop-event l = (k : ℕ) (e : Event) → k < l.event-index → At l.events k e → e.line ≡ l.line → ⊥
