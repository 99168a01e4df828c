-- The messages of a picture: of each row those that its turn sends.
use Rattle.std.specs.Prelude.{ℕ, ◌==◌, Bool, not, Option, None, Some, List, [], ◌∷◌, slice_get}
use Rattle.std.specs.List.{flat_map, position}
use Rattle.lrc_text.specs.Each.{each}
use Rattle.lrc_envelope.specs.Envelope.{EnvelopeRecord}
use Rattle.lrc_envelope.specs.declared.message.Message.{Message}
use Rattle.lrc_wire.specs.Kinds.{message_kind}
use Rattle.lrc_messages.specs.MessageText.{kind_name, message_text}
use Rattle.lrc_turns_text.specs.Turns.{Made}
use Rattle.lrc_chart_rows.specs.Takers.{takers}
use Rattle.lrc_chart_build.specs.Seen.{SeenArrow, SeenLost}
use Rattle.lrc_chart_build.specs.declared.part.Place.{Place}

-- the name of a message's kind
abbrev pub label_text : Message → List ℕ
label_text message = kind_name (message_kind message)

-- the place of the row of the turn at a position, if it is shown
abbrev pub place_of_turn : List Place → (turn : ℕ) → Option ℕ
place_of_turn rows turn = position (λ row. row.turn == turn) rows

-- ---- messages that were taken

-- an arrow to the row at this place
abbrev pub arrow_to : (from : ℕ) → EnvelopeRecord → (again : Bool) → ℕ → SeenArrow
arrow_to from envelope again to = record {
  from = from;
  sender = envelope.from;
  to = to;
  receiver = envelope.to;
  again = again;
  label = label_text envelope.message;
  hint = message_text envelope.message;
}

-- the same, if there is such a row
abbrev pub arrow_if : (from : ℕ) → EnvelopeRecord → (again : Bool) → Option ℕ → List SeenArrow
arrow_if from envelope again None = []
arrow_if from envelope again (Some to) = arrow_to from envelope again to ∷ []

-- whether a taker comes behind another one
abbrev pub is_later : ℕ → Bool
is_later place = not (place == 0)

-- the arrows of a message to the turns that take it
abbrev pub shown_message_arrows : List Place → (from : ℕ) → EnvelopeRecord → List ℕ → List SeenArrow
shown_message_arrows rows from envelope turns = each (λ place turn. arrow_if from envelope (is_later place) (place_of_turn rows turn)) turns

-- the messages that a turn sends, if there is the turn
abbrev pub sent_in_turn : Option Made → List EnvelopeRecord
sent_in_turn None = []
sent_in_turn (Some turn) = turn.entry.turn.out

-- An arrow for each message and each turn that takes it, from the row of the turn that sends it to the row of that turn, where both
-- are shown; all but the first taking are repeats.
abbrev pub shown_arrows : List Made → List Place → List SeenArrow
shown_arrows turns rows =
    each (λ from row. flat_map (λ envelope. shown_message_arrows rows from envelope (takers turns envelope)) (sent_in_turn (slice_get turns row.turn))) rows

-- ---- messages that were never taken

abbrev pub lost_one : (from : ℕ) → EnvelopeRecord → SeenLost
lost_one from envelope = record {
  from = from;
  sender = envelope.from;
  receiver = envelope.to;
  label = label_text envelope.message;
  hint = message_text envelope.message;
}

-- a message, if no turn takes it
abbrev pub lost_if : (from : ℕ) → EnvelopeRecord → List ℕ → List SeenLost
lost_if from envelope [] = lost_one from envelope ∷ []
lost_if from envelope (first ∷ more) = []

-- each message that is shown to be sent, and that no turn of the run takes
abbrev pub shown_lost : List Made → List Place → List SeenLost
shown_lost turns rows =
    each (λ from row. flat_map (λ envelope. lost_if from envelope (takers turns envelope)) (sent_in_turn (slice_get turns row.turn))) rows
