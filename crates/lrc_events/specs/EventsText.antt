-- The text of a list of events, one on a line.
use Rattle.std.specs.Prelude.{◌≡◌, ◌≢◌, ◌<◌, ◌≤◌, ◌+◌, ◌⊎◌, ℕ, List, [], ◌∷◌, ◌++◌, length, codes, Result, Ok, Err}
use Rattle.lrc_text.specs.Digits.{IsNumber}
use Rattle.lrc_text.specs.Lines.{lines_of}
use Rattle.lrc_protocol.specs.declared.event.Event.{Event}
use Rattle.lrc_protocol.specs.declared.event.Event.TheVariants.{Run, Deliver, Repeat}
use Rattle.lrc_events.specs.declared.events.EventsFault.{EventsFault}
use Rattle.lrc_events.specs.declared.events.EventsFault.TheVariants.{BadEvent, NoMemory}

-- the line is this word, and then the number of an event in decimal digits
pub record IsLine (word line : List ℕ) (place : ℕ) : Type 0 where
  pub digits : List ℕ
  pub whole : line ≡ word ++ digits
  pub number : IsNumber digits 4294967295 place

-- the line names this event
abbrev pub NamesEvent : List ℕ → Event → Type 0
NamesEvent line (Run node) = IsLine (codes "run ") line node
NamesEvent line (Deliver place) = IsLine (codes "deliver ") line place
NamesEvent line (Repeat place) = IsLine (codes "repeat ") line place

-- the lines name these events in order, where an empty line names none
pub data NameAll : List (List ℕ) → List Event → Type 0 where
  none : NameAll [] []
  empty : {lines : List (List ℕ)} {events : List Event} → NameAll lines events → NameAll ([] ∷ lines) events
  more : {line : List ℕ} {event : Event} {lines : List (List ℕ)} {events : List Event}
      → NamesEvent line event → NameAll lines events → NameAll (line ∷ lines) (event ∷ events)

-- the line is not empty, and names no event
pub record IsBadEvent (line : List ℕ) : Type 0 where
  pub some : line ≢ []
  pub nameless : (event : Event) → ¬ NamesEvent line event

-- of the lines, the first bad one has this number, counted from 1
pub record IsFirstBadEvent (lines : List (List ℕ)) (number : ℕ) : Type 0 where
  pub before : List (List ℕ)
  pub line : List ℕ
  pub after : List (List ℕ)
  pub whole : lines ≡ before ++ line ∷ after
  pub counted : number ≡ length before + 1
  pub good : (events : List Event) × NameAll before events
  pub bad : IsBadEvent line

-- One of the lines names an event, and no line before it is bad. So there is an event to be kept.
pub record NamesSome (lines : List (List ℕ)) : Type 0 where
  pub before : List (List ℕ)
  pub line : List ℕ
  pub after : List (List ℕ)
  pub whole : lines ≡ before ++ line ∷ after
  pub good : (events : List Event) × NameAll before events
  pub names : (event : Event) × NamesEvent line event

-- the longest text, in bytes
abbrev pub most_events_bytes : ℕ
most_events_bytes = 16777216

-- What a text of events comes to: the events that its lines name, or the first line that names none, where a text that
-- is too long is wrong in its first line. Memory may run out at any text.
abbrev pub ReadsEvents : List ℕ → Result (List Event) EventsFault → Type 0
ReadsEvents text (Ok events) = (length text ≤ most_events_bytes) × NameAll (lines_of text) events
ReadsEvents text (Err (BadEvent line)) = ((most_events_bytes < length text) × (line ≡ 1))
    ⊎ ((length text ≤ most_events_bytes) × IsFirstBadEvent (lines_of text) line)
ReadsEvents text (Err NoMemory) = Unit {0}
