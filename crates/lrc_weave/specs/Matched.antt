-- Logs and mailboxes that tell of the same messages.
use Rattle.std.specs.Prelude.{◌≡◌, ℕ, ◌<◌, ◌==◌, ◌&&◌, Bool, true, false, if◌then◌else◌, Option, Some, None, option_map, Result, Ok, Err, List}
use Rattle.std.specs.Prelude.{[], ◌∷◌, ◌++◌, length, map, filter, filter_map, flat_map, slice_get}
use Rattle.lrc_wire.specs.declared.fault.WireFault.{WireFault}
use Rattle.lrc_envelope.specs.Envelope.{EnvelopeRecord}
use Rattle.lrc_wire.specs.Reading.{envelope_of}
use Rattle.lrc_wire.specs.Spelling.{bytes_of}
use Rattle.lrc_post.specs.declared.parcel.Wire.{Wire}
use Rattle.lrc_post.specs.declared.parcel.Wire.TheVariants.{Put, Took}
use Rattle.lrc_post.specs.Mailbox.{MailboxRecord}
use Rattle.lrc_protocol.specs.Run.{Input, run, taken, EntryRecord, next_stamp, Flying}
use Rattle.lrc_weave.specs.Logs.{sent_to}

-- these bytes are those
abbrev pub same_bytes : List ℕ → List ℕ → Bool
same_bytes [] [] = true
same_bytes [] (b ∷ those) = false
same_bytes (a ∷ these) [] = false
same_bytes (a ∷ these) (b ∷ those) = a == b && same_bytes these those

-- what bytes were read as, if nodes write them so
abbrev pub if_written : List ℕ → Result EnvelopeRecord WireFault → Option EnvelopeRecord
if_written bytes (Ok envelope) = if same_bytes bytes (bytes_of envelope) then Some envelope else None
if_written bytes (Err fault) = None

-- the message that nodes write as these bytes, in version 2 of the format; none where they write none so
abbrev pub written_as : List ℕ → Option EnvelopeRecord
written_as bytes = if_written bytes (envelope_of bytes)

-- a message as a turn with this stamp sends it
abbrev pub sent_as : ℕ → EnvelopeRecord → Flying
sent_as stamp envelope = record { envelope = envelope; stamp = stamp; delivered = false }

-- the message of a put; none where its bytes are none that a node writes
abbrev pub message_of : Wire → Option Flying
message_of (Put from to stamp bytes) = option_map (sent_as stamp) (written_as bytes)
message_of (Took me place) = None

-- an entry of a history is a put by this node
abbrev pub is_put_by : ℕ → Wire → Bool
is_put_by node (Put from to stamp bytes) = from == node
is_put_by node (Took me place) = false

-- the messages that a node put, in order
abbrev pub puts_by : ℕ → List Wire → List (Option Flying)
puts_by node history = map message_of (filter (is_put_by node) history)

-- the bytes of a put
abbrev pub bytes_in : Wire → List ℕ
bytes_in (Put from to stamp bytes) = bytes
bytes_in (Took me place) = []

-- the bytes that a node put, in order, each message by itself
abbrev pub bytes_put_by : ℕ → List Wire → List (List ℕ)
bytes_put_by node history = map bytes_in (filter (is_put_by node) history)

-- the place that a take names
abbrev pub place_taken : Wire → Option ℕ
place_taken (Put from to stamp bytes) = None
place_taken (Took me place) = Some place

-- the message of the entry at a place
abbrev pub message_if : Option Wire → Option Flying
message_if None = None
message_if (Some wire) = message_of wire

abbrev pub message_at : List Wire → ℕ → Option Flying
message_at history place = message_if (slice_get history place)

-- the messages that were taken, in order, each as it was put
abbrev pub takes_in : List Wire → List (Option Flying)
takes_in history = map (message_at history) (filter_map place_taken history)

-- Entries of a log, those before them given first, take just these messages, in order, and each with the stamp that the
-- message's own one gives.
pub data Takes : List EntryRecord → List EntryRecord → List (Option Flying) → Type 0 where
  takes_none : {before : List EntryRecord} → Takes before [] []
  takes_not : {before log : List EntryRecord} {entry : EntryRecord} {messages : List (Option Flying)}
      → entry.input ≡ run → Takes (before ++ entry ∷ []) log messages → Takes before (entry ∷ log) messages
  takes_one : {before log : List EntryRecord} {entry : EntryRecord} {flying : Flying} {messages : List (Option Flying)}
      → entry.input ≡ taken flying.envelope → entry.stamp ≡ next_stamp before flying.stamp
      → Takes (before ++ entry ∷ []) log messages → Takes before (entry ∷ log) (Some flying ∷ messages)

-- an entry of a history is a put
abbrev pub is_put : Wire → Bool
is_put (Put from to stamp bytes) = true
is_put (Took me place) = false

-- an entry of a history is its owner's: a take, or a put by the owner itself
abbrev pub is_own : ℕ → Wire → Bool
is_own owner (Put from to stamp bytes) = from == owner
is_own owner (Took me place) = true

-- of each of the owner's entries, in order, whether it is a put
abbrev pub own_in : ℕ → List Wire → List Bool
own_in owner history = map is_put (filter (is_own owner) history)

-- for a message that is taken, a take; for a run, none
abbrev pub own_takes : Input → List Bool
own_takes run = []
own_takes (taken envelope) = false ∷ []

-- a put for each message to the owner
abbrev pub own_puts : ℕ → List EnvelopeRecord → List Bool
own_puts owner messages = map (λ envelope. true) (filter (λ envelope. envelope.to == owner) messages)

-- the entries that a turn of the owner makes: first the take of its message, then a put for each message that it sends to the owner
abbrev pub own_of : ℕ → EntryRecord → List Bool
own_of owner entry = own_takes entry.input ++ own_puts owner entry.turn.out

-- What one node's mailbox kept is what the logs tell: each put is by a node of the run; what a node put is what its log
-- sends to the owner, in order; and what was taken is what the owner's log takes, in order.
pub record IsAlike (logs : List (List EntryRecord)) (owner : ℕ) (history : List Wire) : Type 0 where
  pub by_nodes : (place : ℕ) (from to stamp : ℕ) (bytes : List ℕ) → slice_get history place ≡ Some (Put from to stamp bytes)
      → from < length logs
  pub puts : (node : ℕ) (log : List EntryRecord) → slice_get logs node ≡ Some log → puts_by node history ≡ map Some (sent_to owner log)
  pub takes : (log : List EntryRecord) → slice_get logs owner ≡ Some log → Takes [] log (takes_in history)

-- the same of each mailbox
pub record AreAlike (logs : List (List EntryRecord)) (wires : List MailboxRecord) : Type 0 where
  pub each : (owner : ℕ) (mailbox : MailboxRecord) → slice_get wires owner ≡ Some mailbox → IsAlike logs owner mailbox.history

-- And the owner's takes and its puts to itself stand among each other as its turns made them. A thread that makes its turns one
-- after another leaves such a mailbox.
pub record IsMatched (logs : List (List EntryRecord)) (owner : ℕ) (history : List Wire) : Type 0 where
  pub alike : IsAlike logs owner history
  pub own : (log : List EntryRecord) → slice_get logs owner ≡ Some log → own_in owner history ≡ flat_map (own_of owner) log

-- the same of each mailbox
pub record AreMatched (logs : List (List EntryRecord)) (wires : List MailboxRecord) : Type 0 where
  pub each : (owner : ℕ) (mailbox : MailboxRecord) → slice_get wires owner ≡ Some mailbox → IsMatched logs owner mailbox.history
