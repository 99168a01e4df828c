use Rattle.std.proofs.Common.{◌≡◌, take}
use Rattle.lrc_events.specs.Writing.{events_text}
use Rattle.lrc_events.proofs.writing.events_part.Given as goal

-- the lines of the events so far
abbrev pub invariant-loop-event : goal.invariant-loop-event
invariant-loop-event l = l.text.items ≡ events_text (take l.event-index l.events)
