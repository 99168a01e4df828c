-- Which event is due in a run that follows an order of acts.
use Rattle.std.specs.Prelude.{◌≡◌, ◌==◌, ◌||◌, ℕ, Bool, true, false, Option, Some, None, List, if◌then◌else◌, length, map, not, option_map, position, slice_get, slice_index_or}
use Rattle.lrc_program.specs.declared.Program.{Program}
use Rattle.lrc_trace.specs.declared.act.Act.{Act}
use Rattle.lrc_trace.specs.declared.act.Deed.{Deed}
use Rattle.lrc_trace.specs.declared.act.Deed.TheVariants as deeds
use Rattle.lrc_exec.specs.declared.machine.Ask.{Ask}
use Rattle.lrc_exec.specs.declared.machine.Ask.TheVariants.{End}
use Rattle.lrc_exec.specs.Ask.{ask_of}
use Rattle.lrc_exec.specs.Meaning.{next_of}
use Rattle.lrc_envelope.specs.Envelope.{EnvelopeRecord}
use Rattle.lrc_envelope.specs.declared.message.Message.{Message}
use Rattle.lrc_envelope.specs.declared.message.Message.TheVariants as messages
use Rattle.lrc_lines.specs.Statements.{act_statements, numbers_of}
use Rattle.lrc_lines.specs.Walks.{line_behind, walks_behind}
use Rattle.lrc_protocol.specs.declared.event.Event.{Event}
use Rattle.lrc_protocol.specs.declared.event.Event.TheVariants.{Deliver, Run}
use Rattle.lrc_protocol.specs.Node.{Wait, access, grant}
use Rattle.lrc_protocol.specs.Run.{Logged, World}
use Rattle.lrc_protocol.specs.Turn.{is_ready}
use Rattle.lrc_along.specs.Asked.{IsAsked}

-- ---- the turn of the order's next act

-- the statement at which a node stands after acts, by its number
abbrev pub statement_behind : Program → (nodes : ℕ) → List Act → (node : ℕ) → ℕ
statement_behind program nodes acts node = line_behind program nodes (numbers_of program) acts node

-- what a node asks for next after acts; a node that is not there has ended
abbrev pub ask_behind : Program → (nodes : ℕ) → List Act → (node : ℕ) → Ask
ask_behind program nodes acts node =
    slice_index_or (map (λ walk. ask_of (next_of walk.thread)) (walks_behind program nodes (numbers_of program) acts)) node End

-- The order has this act behind as many acts as these, and after these its node stands at the statement that makes it in the order, and asks
-- for its deed, values aside.
pub record IsAtTurn (program : Program) (nodes : ℕ) (order acts : List Act) (act : Act) : Type 0 where
  pub next : slice_get order (length acts) ≡ Some act
  pub stands : slice_get (act_statements program nodes order) (length acts) ≡ Some (statement_behind program nodes acts act.node)
  pub asks : IsAsked (ask_behind program nodes acts act.node) act.deed

-- ---- the event for it

-- whether a deed is a depart
abbrev pub is_depart : Deed → Bool
is_depart deeds.Depart = true
is_depart _ = false

-- whether a node that waits for this has begun its next act: it waits for the grant of a lock, or for what a page needs
abbrev pub is_midway : Wait → Bool
is_midway (grant lock) = true
is_midway (access need) = true
is_midway _ = false

-- whether a node has, as far as it is there
abbrev pub has_begun : Option Logged → Bool
has_begun None = false
has_begun (Some l) = is_midway l.node.mail.wait

abbrev pub has_begun_at : World → (node : ℕ) → Bool
has_begun_at world node = has_begun (slice_get world.nodes node)

-- whether its node needs a message to make the act: it departs, or it has begun the act
abbrev pub needs_message : World → Act → Bool
needs_message world act = is_depart act.deed || has_begun_at world act.node

-- whether a node would go on if an event named it
abbrev pub is_ready_if : Option Logged → Bool
is_ready_if None = false
is_ready_if (Some l) = is_ready l.node

abbrev pub is_ready_at : World → (node : ℕ) → Bool
is_ready_at world node = is_ready_if (slice_get world.nodes node)

-- whether a message lets its receiver go on from a barrier
abbrev pub lets_go : Message → Bool
lets_go (messages.Depart m) = true
lets_go (messages.Discard episode) = true
lets_go _ = false

-- whether a message may be delivered while this node is to make its act: it lets no other node go on from a barrier
abbrev pub may_come : (node : ℕ) → EnvelopeRecord → Bool
may_come node envelope = (envelope.to == node) || not (lets_go envelope.message)

-- the messages in flight
abbrev pub envelopes_in : World → List EnvelopeRecord
envelopes_in world = map (λ sent. sent.envelope) world.flight

-- The event for an act whose node is at its turn: the oldest message that may come is delivered, if there is one, where the node needs one; and
-- else the node goes on, if it is ready.
abbrev pub event_for : World → Act → Option Event
event_for world act =
    if needs_message world act
    then option_map Deliver (position (may_come act.node) (envelopes_in world))
    else (if is_ready_at world act.node then Some (Run act.node) else None)

-- the event is for the order's next act, whose node is at its turn
pub record IsDue (program : Program) (nodes : ℕ) (order : List Act) (world : World) (event : Event) : Type 0 where
  pub act : Act
  pub turn : IsAtTurn program nodes order world.acts act
  pub is : event_for world act ≡ Some event
