use Rattle.std.proofs.Common.{◌≡◌, length, take}
use Rattle.lrc_text.specs.Lines.{lines_of}
use Rattle.lrc_events.specs.EventsText.{NameAll}
use Rattle.lrc_events.proofs.events.events_of.Given as goal

abbrev pub invariant-loop-line : goal.invariant-loop-line
invariant-loop-line l = record {
  counted : l.number ≡ length l.yielded;
  named : NameAll (take l.number (lines_of l.text)) l.events.items;
}
