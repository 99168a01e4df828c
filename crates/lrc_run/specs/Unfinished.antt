-- The turn that a node did not finish, as its log and what its mailbox kept tell.
use Rattle.std.specs.Prelude.{ℕ, Bool, true, false, Option, Some, None, option_and_then, Result, Ok, Err, List, count_by, filter_map, slice_get}
use Rattle.lrc_wire.specs.declared.fault.WireFault.{WireFault}
use Rattle.lrc_envelope.specs.Envelope.{EnvelopeRecord}
use Rattle.lrc_wire.specs.Reading.{envelope_of}
use Rattle.lrc_post.specs.declared.parcel.Wire.{Wire}
use Rattle.lrc_post.specs.declared.parcel.Wire.TheVariants.{Put, Took}
use Rattle.lrc_post.specs.Mailbox.{MailboxRecord}
use Rattle.lrc_protocol.specs.Run.{Input, run, taken, EntryRecord}
use Rattle.lrc_weave.specs.Matched.{place_taken}

-- a message was taken in a turn
abbrev pub takes_a_message : Input → Bool
takes_a_message run = false
takes_a_message (taken envelope) = true

unfoldable pub is_take : EntryRecord → Bool
is_take entry = takes_a_message entry.input

-- the bytes of a put
abbrev pub put_bytes : Wire → Option (List ℕ)
put_bytes (Put from to stamp bytes) = Some bytes
put_bytes (Took me place) = None

-- the bytes of what was put at a place of a history
abbrev pub put_at : List Wire → ℕ → Option (List ℕ)
put_at history place = option_and_then put_bytes (slice_get history place)

-- The bytes of the message that was taken next: of the puts that the history's takes name, in order, that behind as many as the log
-- takes.
abbrev pub next_taken : List EntryRecord → List Wire → Option (List ℕ)
next_taken log history =
    option_and_then (put_at history) (slice_get (filter_map place_taken history) (count_by is_take log))

-- what a node does with bytes that were read: it takes their message, or goes on by itself where they spell none
abbrev pub input_read : Result EnvelopeRecord WireFault → Input
input_read (Ok envelope) = taken envelope
input_read (Err fault) = run

-- the same with the bytes of a message, if there is one
abbrev pub input_of : Option (List ℕ) → Input
input_of None = run
input_of (Some bytes) = input_read (envelope_of bytes)

-- the input of that turn, where the node has a log and a mailbox
abbrev pub input_behind : Option (List EntryRecord) → Option MailboxRecord → Option Input
input_behind None mailbox = None
input_behind (Some log) None = None
input_behind (Some log) (Some mailbox) = Some (input_of (next_taken log mailbox.history))

-- the same of the logs and mailboxes of nodes of which this one stopped in a turn: by the message that was taken next, or by itself
abbrev pub unfinished : List (List EntryRecord) → List MailboxRecord → ℕ → Option Input
unfinished logs wires node = input_behind (slice_get logs node) (slice_get wires node)
