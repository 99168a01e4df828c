-- The turns that sent what nodes took.
use Rattle.std.specs.Prelude.{◌≡◌, ◌+◌, ℕ, Some, List, max, slice_get, take}
use Rattle.lrc_envelope.specs.Envelope.{EnvelopeRecord}
use Rattle.lrc_protocol.specs.Run.{taken, EntryRecord, last_stamp}

-- a message is among some
abbrev pub IsAmong : List EnvelopeRecord → EnvelopeRecord → Type 0
IsAmong out envelope = (at : ℕ) × (slice_get out at ≡ Some envelope)

-- a stamp is the next one behind the last of a node and the one that came with a message
abbrev pub IsNextTo : ℕ → ℕ → ℕ → Type 0
IsNextTo last came stamp = stamp ≡ max last came + 1

-- a turn of a log sent a message, with a stamp that gives this one behind the last
abbrev pub IsSentIn : List EntryRecord → ℕ → ℕ → EnvelopeRecord → Type 0
IsSentIn log last stamp envelope = (place : ℕ) × (turn : EntryRecord) × (slice_get log place ≡ Some turn)
    × IsNextTo last turn.stamp stamp × IsAmong turn.turn.out envelope

-- the message is for this node, and a turn of the logs sent it so
abbrev pub HasSource : List (List EntryRecord) → ℕ → ℕ → ℕ → EnvelopeRecord → Type 0
HasSource logs node last stamp envelope =
    (envelope.to ≡ node) × ((sender : ℕ) × (log : List EntryRecord) × (slice_get logs sender ≡ Some log) × IsSentIn log last stamp envelope)

-- the message that a node took in a turn has such a source, if it took one
abbrev pub IsTakeSent : List (List EntryRecord) → ℕ → ℕ → EntryRecord → Type 0
IsTakeSent logs node last entry = (envelope : EnvelopeRecord) → entry.input ≡ taken envelope → HasSource logs node last entry.stamp envelope

-- each message that a node's log takes has
abbrev pub AreSentTo : List (List EntryRecord) → ℕ → List EntryRecord → Type 0
AreSentTo logs node log =
    (k : ℕ) (entry : EntryRecord) → slice_get log k ≡ Some entry → IsTakeSent logs node (last_stamp (take k log)) entry
