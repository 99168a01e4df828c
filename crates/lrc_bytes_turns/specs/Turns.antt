-- The lines of a run's turns, with the bytes of their messages.
use Rattle.std.specs.Prelude.{ℕ, ◌+◌, ◌&&◌, Bool, true, Option, None, Some, List, [], nat_le, nat_lt, if◌then◌else◌, slice_get, take}
use Rattle.lrc_envelope.specs.Envelope.{EnvelopeRecord}
use Rattle.lrc_protocol.specs.declared.event.Event.{Event}
use Rattle.lrc_protocol.specs.Run.{Input, run, taken}
use Rattle.lrc_text.specs.Each.{each}
use Rattle.lrc_turns_text.specs.Turns.{Made}
use Rattle.lrc_turns_text.specs.TurnsText.{acts_in, took_before}
use Rattle.lrc_bytes_text.specs.BytesText.{Line, turn_line}

-- the message that an input brings
abbrev pub brought : Input → Option EnvelopeRecord
brought run = None
brought (taken envelope) = Some envelope

-- a turn that an event makes, where so many turns and acts come before it
abbrev pub line_of : (place : ℕ) → Event → Made → (again : Bool) → (position : ℕ) → Line
line_of place event turn again position = record {
  number = place;
  event = event;
  node = turn.node;
  taken = brought turn.entry.input;
  again = again;
  position = position;
  act = turn.entry.turn.act;
  out = turn.entry.turn.out;
}

-- ---- which turns are shown

-- a turn, after which there are so many acts, is no earlier than that of the act at a position
abbrev pub is_from : Option ℕ → (after : ℕ) → Bool
is_from None after = true
is_from (Some position) after = nat_lt position after

-- a turn, before which there are so many acts, is no later than that of the act at a position
abbrev pub is_until : Option ℕ → (before : ℕ) → Bool
is_until None before = true
is_until (Some position) before = nat_le before position

-- From the turn that makes the act at `from` to the one that makes the act at `to`. Without them, from the beginning, and to the end.
abbrev pub is_shown : (from to : Option ℕ) → (before after : ℕ) → Bool
is_shown from to before after = is_from from after && is_until to before

-- ---- their lines

-- the line of a turn, by its event
abbrev pub event_line : (before : List Made) → (place : ℕ) → Option Event → Made → List ℕ
event_line before place None turn = []
event_line before place (Some event) turn = turn_line (line_of place event turn (took_before before turn.node turn.entry.input) (acts_in before))

-- the line of a turn at a place, if the turn is shown; `after` are the turns once it is made
abbrev pub shown_line : (from to : Option ℕ) → List Event → (before after : List Made) → (place : ℕ) → Made → List ℕ
shown_line from to events before after place turn =
    if is_shown from to (acts_in before) (acts_in after) then event_line before place (slice_get events place) turn else []

-- the turns that these events make, one after another, each with a line if it is shown
abbrev pub bytes_text : (from to : Option ℕ) → List Event → List Made → List ℕ
bytes_text from to events turns = each (λ place turn. shown_line from to events (take place turns) (take (place + 1) turns) place turn) turns
