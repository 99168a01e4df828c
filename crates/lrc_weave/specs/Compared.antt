-- What the comparison of logs and mailboxes finds, step by step.
use Rattle.std.specs.Prelude.{◌≡◌, ℕ, ◌+◌, ◌<◌, ◌==◌, Bool, true, false, Option, Some, None, List, [], ◌∷◌}
use Rattle.std.specs.Prelude.{◌++◌, length, map, max, filter, filter_map, flat_map, is_some, nat_lt, slice_get, slice_index_or, slice_set}
use Rattle.std.specs.List.{range_with_len}
use Rattle.lrc_envelope.specs.Envelope.{EnvelopeRecord}
use Rattle.lrc_post.specs.declared.parcel.Wire.{Wire}
use Rattle.lrc_post.specs.declared.parcel.Wire.TheVariants.{Put, Took}
use Rattle.lrc_post.specs.Mailbox.{MailboxRecord}
use Rattle.lrc_protocol.specs.Run.{Input, run, taken, EntryRecord, Flying}
use Rattle.lrc_weave.specs.Logs.{sent_to}
use Rattle.lrc_weave.specs.declared.lines.Lines.{Lines}
use Rattle.lrc_weave.specs.declared.putting.PutsByNode.{PutsByNode}
use Rattle.lrc_weave.specs.declared.takes.TakesLeft.{TakesLeft}
use Rattle.lrc_weave.specs.Matched.{is_put_by, message_of, place_taken, message_at, own_in, own_of}

-- those of some messages that are for a node
abbrev pub only_to : ℕ → List Flying → List Flying
only_to to messages = filter (λ flying. flying.envelope.to == to) messages

-- an entry of a history is no put by a node that is none of so many
abbrev pub is_by_node : ℕ → Wire → Bool
is_by_node nodes (Put from to stamp bytes) = nat_lt from nodes
is_by_node nodes (Took me place) = true

-- each put is by one of so many nodes
abbrev pub AreByNodes : ℕ → List Wire → Type 0
AreByNodes nodes history = (place : ℕ) (from to stamp : ℕ) (bytes : List ℕ) → slice_get history place ≡ Some (Put from to stamp bytes) → from < nodes

-- for each of so many nodes its own puts of a history
abbrev pub puts_by_each : ℕ → List Wire → List (List Wire)
puts_by_each nodes history = map (λ node. filter (is_put_by node) history) (range_with_len 0 nodes)

-- an entry is put behind those of its node, if it is a put by a node that has a line
abbrev pub with_put : List (List Wire) → Wire → List (List Wire)
with_put lines (Put from to stamp bytes) = slice_set lines from (slice_index_or lines from [] ++ Put from to stamp bytes ∷ [])
with_put lines (Took me place) = lines

-- the puts of a mailbox, a line for each node
abbrev pub puts_in : PutsByNode → List (List Wire)
puts_in puts = map (λ line. map (λ wire. wire.now) line.items) puts.lines.items

-- the puts of a node that are still to be compared, a line for each mailbox
abbrev pub puts_left : Lines → List (List Wire)
puts_left lines = map (λ line. map (λ wire. wire.now) line.now) lines.lines.items

-- their messages
abbrev pub messages_left : Lines → List (List (Option Flying))
messages_left lines = map (λ line. map (λ wire. message_of wire.now) line.now) lines.lines.items

-- the line of what a node put into the mailbox of an owner
abbrev pub line_at : List (List (Option Flying)) → ℕ → List (Option Flying)
line_at lines owner = slice_index_or lines owner []

-- these messages are the next of a line, and this stands behind them; or the line goes on otherwise
abbrev pub AreNext : List Flying → List (Option Flying) → List (Option Flying) → Bool → Type 0
AreNext messages line rest true = line ≡ map Some messages ++ rest
AreNext messages line rest false = (more : List (Option Flying)) → line ≡ map Some messages ++ more → ⊥

-- of these messages those for each owner are the next of its line, and these lines are left; or some line goes on otherwise
abbrev pub AreAllNext : List Flying → List (List (Option Flying)) → List (List (Option Flying)) → Bool → Type 0
AreAllNext messages lines rest true =
    (length rest ≡ length lines) × ((owner : ℕ) → owner < length lines → AreNext (only_to owner messages) (line_at lines owner) (line_at rest owner) true)
AreAllNext messages lines rest false = (owner : ℕ) × (owner < length lines) × AreNext (only_to owner messages) (line_at lines owner) [] false

-- the lines are what a log sends to each owner, in order
abbrev pub AreSent : List EntryRecord → List (List (Option Flying)) → Type 0
AreSent log lines = (owner : ℕ) → owner < length lines → line_at lines owner ≡ map Some (sent_to owner log)

-- an entry of a history is a take
abbrev pub is_take : Wire → Bool
is_take wire = is_some (place_taken wire)

-- the place that the next take of a history names, with what stands behind it; or there is no take
abbrev pub IsNextTake : List Wire → List Wire → Option ℕ → Type 0
IsNextTake history rest None = filter_map place_taken history ≡ []
IsNextTake history rest (Some place) = filter_map place_taken history ≡ place ∷ filter_map place_taken rest

-- a message that was put is taken with this stamp, by a node whose turn before had that stamp
abbrev pub IsTakenAs : Option Flying → EnvelopeRecord → ℕ → ℕ → Type 0
IsTakenAs message envelope before stamp =
    (flying : Flying) × (message ≡ Some flying) × (flying.envelope ≡ envelope) × (stamp ≡ max before flying.stamp + 1)

-- what was taken according to the rest of a history
abbrev pub taken_in : List Wire → List Wire → List (Option Flying)
taken_in history rest = map (message_at history) (filter_map place_taken rest)

-- the messages of the takes that are still to be compared
abbrev pub taken_left : TakesLeft → List (Option Flying)
taken_left left = taken_in left.history.now left.rest.now

-- a turn whose node's turn before had that stamp takes the first of these messages, and those are left; a run takes none
abbrev pub Leaves : ℕ → ℕ → Input → List (Option Flying) → List (Option Flying) → Type 0
Leaves before stamp run old new = old ≡ new
Leaves before stamp (taken envelope) old new = (message : Option Flying) × (old ≡ message ∷ new) × IsTakenAs message envelope before stamp

-- it does; or it takes no message that is the first
abbrev pub IsLeft : ℕ → ℕ → Input → List (Option Flying) → List (Option Flying) → Bool → Type 0
IsLeft before stamp input old new true = Leaves before stamp input old new
IsLeft before stamp input old new false = (left : List (Option Flying)) → Leaves before stamp input old left → ⊥

-- whether the owner's next entry of a history is a put, with what stands behind it; or there is none
abbrev pub IsNextOwn : ℕ → List Wire → List Wire → Option Bool → Type 0
IsNextOwn owner history rest None = own_in owner history ≡ []
IsNextOwn owner history rest (Some put) = own_in owner history ≡ put ∷ own_in owner rest

-- these are the next of some entries, and those are left; or the entries go on otherwise
abbrev pub AreOwnNext : List Bool → List Bool → List Bool → Bool → Type 0
AreOwnNext these old new true = old ≡ these ++ new
AreOwnNext these old new false = (more : List Bool) → old ≡ these ++ more → ⊥

-- the owner's entries of a history are what its turns make
abbrev pub AreOwn : ℕ → List EntryRecord → List Wire → Type 0
AreOwn owner log history = own_in owner history ≡ flat_map (own_of owner) log

-- so it is in each mailbox
abbrev pub AreAllOwn : List (List EntryRecord) → List MailboxRecord → Type 0
AreAllOwn logs wires =
    (owner : ℕ) (log : List EntryRecord) (mailbox : MailboxRecord) → slice_get logs owner ≡ Some log → slice_get wires owner ≡ Some mailbox
    → AreOwn owner log mailbox.history
