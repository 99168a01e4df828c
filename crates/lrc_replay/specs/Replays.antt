-- The nodes and the messages in flight that are played again, as they stand in the world of a run.
use Rattle.std.specs.Prelude.{◌≡◌, ℕ, Option, None, Some, List, [], ◌∷◌, ◌++◌, map, option_map, remove, slice_get, slice_set}
use Rattle.lrc_envelope.specs.Envelope.{EnvelopeRecord}
use Rattle.lrc_protocol.specs.declared.event.Event.{Event}
use Rattle.lrc_protocol.specs.declared.event.Event.TheVariants as events
use Rattle.lrc_protocol.specs.Node.{Node}
use Rattle.lrc_protocol.specs.Turn.{done, not_ready, Outcome, TurnRecord, unexpected, worn}
use Rattle.lrc_protocol.specs.Run.{Input, outcome_of, World}
use Rattle.lrc_protocol.specs.Run as log
use Rattle.std.specs.Option.{option_to_list}
use Rattle.lrc_node.specs.Node.{TracedNode}
use Rattle.lrc_replay.specs.declared.replay.Replay.{Replay}
use Rattle.lrc_replay.specs.Turns.{Turn, turn_by}

-- the nodes of a world, none of which has failed
abbrev pub nodes_in : World → List (Option Node)
nodes_in world = map (λ l. Some l.node) world.nodes

-- the messages in flight
abbrev pub flight_in : World → List EnvelopeRecord
flight_in world = map (λ sent. sent.envelope) world.flight

-- the nodes that are played again
abbrev pub nodes_played : List TracedNode → List (Option Node)
nodes_played nodes = map (λ n. n.node) nodes

-- all stands as in this world
pub record IsReplay (replay : Replay) (world : World) : Type 0 where
  pub nodes : nodes_played replay.nodes.items ≡ nodes_in world
  pub flight : replay.flight.items ≡ flight_in world

-- so it does once these messages are in flight too
pub record LeavesOut (replay : Replay) (out : List EnvelopeRecord) (world : World) : Type 0 where
  pub nodes : nodes_played replay.nodes.items ≡ nodes_in world
  pub flight : replay.flight.items ++ out ≡ flight_in world

-- the node that an event names, or the receiver of the message that it names
abbrev pub turner_of : World → Event → Option ℕ
turner_of world (events.Run n) = Some n
turner_of world (events.Deliver place) = option_map (λ sent. sent.envelope.to) (slice_get world.flight place)
turner_of world (events.Repeat place) = option_map (λ sent. sent.envelope.to) (slice_get world.flight place)

-- the message that an event names
abbrev pub message_of : World → Event → Option EnvelopeRecord
message_of world (events.Run n) = None
message_of world (events.Deliver place) = option_map (λ sent. sent.envelope) (slice_get world.flight place)
message_of world (events.Repeat place) = option_map (λ sent. sent.envelope) (slice_get world.flight place)

-- the message that an input brings
abbrev pub brought_by : Input → Option EnvelopeRecord
brought_by log.run = None
brought_by (log.taken envelope) = Some envelope

-- the event makes this turn
pub record MakesTurn (world : World) (event : Event) (next : World) (turn : Turn) : Type 0 where
  pub is : turn_by world event ≡ turn ∷ []
  pub before_is : turn.before ≡ world
  pub event_is : turn.event ≡ event
  pub names : turner_of world event ≡ Some turn.node
  pub takes : message_of world event ≡ brought_by turn.input
  pub acts : next.acts ≡ world.acts ++ option_to_list turn.made.act
  pub stands : slice_get (nodes_in next) turn.node ≡ Some (Some turn.after)

-- An event is skipped, and all stands as before; or it makes a turn, and all stands as in the next world but for what the turn sends.
abbrev pub IsMade : World → Event → (next : World) → Option TurnRecord → Replay → Type 0
IsMade world event next None replay = (turn_by world event ≡ []) × (next ≡ world) × IsReplay replay next
IsMade world event next (Some made) replay =
    (turn : Turn) × (turn.made ≡ made) × MakesTurn world event next turn × LeavesOut replay made.out next

-- ---- one node

-- What comes of an input to a node whose outcome this is: the turn is made, and the node is that after it; or none is, and the node is as
-- it was.
abbrev pub Answers : Outcome → (before : Node) → Option TurnRecord → (now : Option Node) → Type 0
Answers (done turn after) before (Some made) now = (made ≡ turn) × (now ≡ Some after)
Answers not_ready before None now = now ≡ Some before
Answers unexpected before None now = now ≡ Some before
Answers _ before made now = ⊥

-- the same of a node among others; where it is not there, nothing comes of it
abbrev pub AnswersAt : List (Option Node) → (place : ℕ) → Input → Option (Option Node) → Option TurnRecord → (now : List (Option Node)) → Type 0
AnswersAt nodes place input None made now = (made ≡ None) × (now ≡ nodes)
AnswersAt nodes place input (Some None) made now = Unit {0}
AnswersAt nodes place input (Some (Some node)) made now =
    (after : Option Node) × Answers (outcome_of node input) node made after × (now ≡ slice_set nodes place after)

-- the same of the message at a place in flight
abbrev pub TakesAt : List (Option Node) → Option EnvelopeRecord → Option TurnRecord → (now : List (Option Node)) → Type 0
TakesAt nodes None made now = (made ≡ None) × (now ≡ nodes)
TakesAt nodes (Some envelope) made now = AnswersAt nodes envelope.to (log.taken envelope) (slice_get nodes envelope.to) made now

-- what is left in flight once the message at a place was taken, if it was
abbrev pub left_behind : List EnvelopeRecord → (place : ℕ) → Option TurnRecord → List EnvelopeRecord
left_behind flight place None = flight
left_behind flight place (Some made) = remove flight place
