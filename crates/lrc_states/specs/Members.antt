-- What lines have more that tell also in members: events, deeds, messages and waits as objects of their parts.
use Rattle.std.specs.Prelude.{ℕ, Bool, true, false, Option, None, Some, List, [], ◌++◌, codes, decimal, is_some, map, option_map}
use Rattle.lrc_control.specs.Text.{end_of}
use Rattle.lrc_envelope.specs.Envelope.{EnvelopeRecord}
use Rattle.lrc_envelope.specs.declared.message.Message.{Message}
use Rattle.lrc_envelope.specs.declared.message.Message.TheVariants as messages
use Rattle.lrc_messages.specs.Lists.{before, separated}
use Rattle.lrc_messages.specs.MessageText.{kind_name}
use Rattle.lrc_protocol.specs.declared.event.Event.{Event}
use Rattle.lrc_protocol.specs.declared.event.Event.TheVariants as events
use Rattle.lrc_protocol.specs.Node.{access, departure, discard, grant, Node, nothing, upkeep, Wait}
use Rattle.lrc_protocol.specs.Run.{Logged, World}
use Rattle.lrc_protocol.specs.Turn.{begins_of, TurnRecord}
use Rattle.lrc_text.specs.ActText.{cause_number, deed_name}
use Rattle.lrc_text.specs.Each.{each}
use Rattle.lrc_trace.specs.declared.act.Act.{Act}
use Rattle.lrc_trace.specs.declared.act.Deed.{Deed}
use Rattle.lrc_trace.specs.declared.act.Deed.TheVariants as deeds
use Rattle.lrc_trace.specs.declared.end.End.{End}
use Rattle.lrc_trace.specs.declared.end.End.TheVariants.{Ended, Trapped, Unfinished}
use Rattle.lrc_wire.specs.Kinds.{message_kind}
use Rattle.lrc_states.specs.declared.members.MessageParts.{MessageParts}
use Rattle.lrc_states.specs.declared.told.Telling.{Telling}
use Rattle.lrc_states.specs.declared.told.Telling.TheVariants.{AlsoInMembers, InWords}

-- ---- something of a kind

-- alone
unfoldable pub kind_object : (kind : List ℕ) → List ℕ
kind_object kind = codes "{\"kind\":\"" ++ kind ++ codes "\"}"

-- with a number
unfoldable pub numbered_object : (kind : List ℕ) → (number : ℕ) → List ℕ
numbered_object kind number = codes "{\"kind\":\"" ++ kind ++ codes "\",\"of\":" ++ decimal number ++ codes "}"

-- an event: with its node, or the place of its message in flight
unfoldable pub event_object : Event → List ℕ
event_object (events.Run node) = numbered_object (codes "run") node
event_object (events.Deliver place) = numbered_object (codes "deliver") place
event_object (events.Repeat place) = numbered_object (codes "repeat") place

-- ---- deeds

-- a value: a text, since it has up to 64 bits
abbrev pub value_member : (value : ℕ) → List ℕ
value_member value = codes ",\"value\":\"" ++ decimal value ++ codes "\""

abbrev pub access_members : (word value : ℕ) → List ℕ
access_members word value = codes ",\"word\":" ++ decimal word ++ value_member value

-- what a deed has besides its kind
unfoldable pub deed_members : Deed → List ℕ
deed_members deeds.Quiet = []
deed_members (deeds.Print value) = value_member value
deed_members (deeds.Read word value) = access_members word value
deed_members (deeds.Write word value) = access_members word value
deed_members (deeds.Acquire lock) = codes ",\"lock\":" ++ decimal lock
deed_members (deeds.Release lock) = codes ",\"lock\":" ++ decimal lock
deed_members deeds.Arrive = []
deed_members deeds.Depart = []
deed_members (deeds.Trap cause) = codes ",\"cause\":" ++ decimal (cause_number cause)
deed_members deeds.End = []

unfoldable pub deed_object : Deed → List ℕ
deed_object deed = codes "{\"kind\":\"" ++ deed_name deed ++ codes "\"" ++ deed_members deed ++ codes "}"

-- what the act of a turn does, where there is one
unfoldable pub done_or_null : Option Act → List ℕ
done_or_null None = codes "null"
done_or_null (Some act) = deed_object act.deed

-- ---- messages

-- the number of a message's lock, barrier or page
abbrev pub number_of : Message → ℕ
number_of (messages.LockRequest m) = m.lock
number_of (messages.LockForward m) = m.lock
number_of (messages.LockGrant m) = m.lock
number_of (messages.Arrive m) = m.episode
number_of (messages.Depart m) = m.episode
number_of (messages.Clean episode) = episode
number_of (messages.Discard episode) = episode
number_of (messages.ChangesRequest m) = m.page
number_of (messages.ChangesReply m) = m.page
number_of (messages.PageRequest page) = page
number_of (messages.PageReply m) = m.page

unfoldable pub parts_of : Message → MessageParts
parts_of message = record { kind = message_kind message; number = number_of message }

unfoldable pub parts_object : MessageParts → List ℕ
parts_object parts = numbered_object (kind_name parts.kind) parts.number

-- the message that is taken, where there is one
abbrev pub taken_parts : Option EnvelopeRecord → Option MessageParts
taken_parts taken = option_map (λ envelope. parts_of envelope.message) taken

unfoldable pub parts_or_null : Option MessageParts → List ℕ
parts_or_null None = codes "null"
parts_or_null (Some parts) = parts_object parts

abbrev pub envelope_parts : EnvelopeRecord → List ℕ
envelope_parts envelope = parts_object (parts_of envelope.message)

abbrev pub parts_list : List EnvelopeRecord → List ℕ
parts_list envelopes = separated (codes ",") envelope_parts envelopes

-- ---- what nodes wait for

-- of a node that goes on, whether it may begin what comes next: else its steps are used up
unfoldable pub going_kind : (may_begin : Bool) → List ℕ
going_kind true = codes "no"
going_kind false = codes "steps used up"

-- a node that awaits nothing: it goes on, has trapped, or has ended
unfoldable pub standing_object : End → (may_begin : Bool) → List ℕ
standing_object Unfinished may_begin = kind_object (going_kind may_begin)
standing_object (Trapped cause) may_begin = numbered_object (codes "trapped") (cause_number cause)
standing_object Ended may_begin = kind_object (codes "ended")

-- with how the node's text ended, whether it may begin what comes next, and how often the node has arrived
unfoldable pub wait_object : End → (may_begin : Bool) → (episode : ℕ) → Wait → List ℕ
wait_object end may_begin episode nothing = standing_object end may_begin
wait_object end may_begin episode (grant awaited) = numbered_object (codes "grant") awaited
wait_object end may_begin episode departure = numbered_object (codes "depart") episode
wait_object end may_begin episode (access need) = numbered_object (codes "page") need.page
wait_object end may_begin episode (upkeep collection needs) = numbered_object (codes "upkeep") episode
wait_object end may_begin episode (discard collection) = numbered_object (codes "discard") episode

unfoldable pub wait_of : Node → List ℕ
wait_of node = wait_object (end_of node.course) (is_some (begins_of node.left node.course)) node.barrier.episode node.mail.wait

abbrev pub listed_wait : (node : ℕ) → Logged → List ℕ
listed_wait node l = before node (codes ",") ++ wait_of l.node

-- ---- the members of lines

-- how all stands before the first turn that is shown: the messages in flight, and what each node waits for
abbrev pub flying_list : World → List ℕ
flying_list world = parts_list (map (λ sent. sent.envelope) world.flight)

abbrev pub waits_list : World → List ℕ
waits_list world = each listed_wait world.nodes

unfoldable pub first_members : Telling → World → List ℕ
first_members InWords world = []
first_members AlsoInMembers world = codes ",\"flying\":[" ++ flying_list world ++ codes "],\"stand\":[" ++ waits_list world ++ codes "]"

-- the event of a turn, and what its act does
abbrev pub doing_members : Event → Option Act → List ℕ
doing_members event act = codes ",\"by\":" ++ event_object event ++ codes ",\"done\":" ++ done_or_null act

-- the message that a turn takes, and those that it sends
abbrev pub mail_members : Option MessageParts → (out : List EnvelopeRecord) → List ℕ
mail_members taken out = codes ",\"took\":" ++ parts_or_null taken ++ codes ",\"sent\":[" ++ parts_list out ++ codes "]"

unfoldable pub did_members : Telling → Event → (taken : Option MessageParts) → TurnRecord → List ℕ
did_members InWords event taken made = []
did_members AlsoInMembers event taken made = doing_members event made.act ++ mail_members taken made.out

-- what the node waits for behind its turn
unfoldable pub stands_member : Telling → (after : Node) → List ℕ
stands_member InWords after = []
stands_member AlsoInMembers after = codes ",\"stands\":" ++ wait_of after
