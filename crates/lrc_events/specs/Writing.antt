-- What is written of a list of events.
use Rattle.std.specs.Prelude.{◌≤◌, ℕ, List, ◌++◌, All, codes, decimal}
use Rattle.std.specs.List.{flat_map}
use Rattle.lrc_protocol.specs.declared.event.Event.{Event}
use Rattle.lrc_protocol.specs.declared.event.Event.TheVariants.{Run, Deliver, Repeat}

-- the words of an event
abbrev pub event_text : Event → List ℕ
event_text (Run node) = codes "run " ++ decimal node
event_text (Deliver place) = codes "deliver " ++ decimal place
event_text (Repeat place) = codes "repeat " ++ decimal place

-- a line for each event, in order
abbrev pub events_text : List Event → List ℕ
events_text events = flat_map (λ event. event_text event ++ codes "\n") events

-- the number of an event
abbrev pub number_in : Event → ℕ
number_in (Run node) = node
number_in (Deliver place) = place
number_in (Repeat place) = place

-- the numbers of the events are in the range of an event's number
abbrev pub AreEvents : List Event → Type 0
AreEvents events = All (λ event. number_in event ≤ 4294967295) events
