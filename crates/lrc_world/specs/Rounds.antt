-- A run in rounds.
use Rattle.std.specs.Prelude.{◌≡◌, ◌<◌, ◌-◌, ◌+◌, ℕ, zero, suc, Bool, true, false, min, if◌then◌else◌, Option, List, length, slice_get}
use Rattle.std.specs.Option.{option_map_or}
use Rattle.lrc_program.specs.declared.Program.{Program}
use Rattle.lrc_envelope.specs.declared.picker.Picker.{Picker}
use Rattle.lrc_envelope.specs.declared.picker.Picker.TheVariants.{Oldest, Newest, Twice}
use Rattle.lrc_protocol.specs.declared.event.Event.{Event}
use Rattle.lrc_protocol.specs.declared.event.Event.TheVariants as events
use Rattle.lrc_protocol.specs.declared.event.Event.TheVariants.{Deliver, Repeat}
use Rattle.lrc_protocol.specs.Node.{OptionsRecord}
use Rattle.lrc_protocol.specs.Turn.{is_ready}
use Rattle.lrc_protocol.specs.Run.{World as Run, Flying as Sent, fresh_world}
use Rattle.lrc_world.specs.Led.{Schedule, AreLed, WearsOut}

-- the place of the newest message, as far as an event can name it
abbrev pub newest_place : ℕ → ℕ
newest_place count = min (count - 1) 4294967295

abbrev pub is_delivered : Option Sent → Bool
is_delivered flying = option_map_or (λ (sent : Sent). sent.delivered) flying false

-- the delivery that comes next: of the oldest or of the newest message in flight, or of the oldest, which stays in flight the
-- first time
abbrev pub delivery_of : Picker → List Sent → Event
delivery_of Oldest flight = Deliver 0
delivery_of Newest flight = Deliver (newest_place (length flight))
delivery_of Twice flight = if is_delivered (slice_get flight 0) then Deliver 0 else Repeat 0

-- whether a node is there and ready
abbrev pub ready_at : Run → ℕ → Bool
ready_at run n = option_map_or (λ l. is_ready l.node) (slice_get run.nodes n) false

-- where a run in rounds stands: at the turn of a node, or with so many more messages to deliver
pub data Stage : Type 0 where
  at_node : ℕ → Stage
  delivering : ℕ → Stage

-- In a round each node goes on that is ready when its turn comes. Then messages are delivered, each the one that the picker says of
-- what is in flight then.
pub data IsDue (picker : Picker) (nodes : ℕ) (run : Run) : Stage → Event → Stage → Type 0 where
  turn : {n : ℕ} → n < nodes → ready_at run n ≡ true → IsDue picker nodes run (at_node n) (events.Run n) (at_node (n + 1))
  delivery : {left : ℕ} → IsDue picker nodes run (delivering (suc left)) (delivery_of picker run.flight) (delivering left)

-- A node that is not ready is passed over. After the last node as many messages are delivered as are in flight then, and after those
-- comes the next round.
pub data Passes (nodes : ℕ) (run : Run) : Stage → Stage → Type 0 where
  asleep : {n : ℕ} → n < nodes → ready_at run n ≡ false → Passes nodes run (at_node n) (at_node (n + 1))
  all_went : Passes nodes run (at_node nodes) (delivering (length run.flight))
  all_delivered : Passes nodes run (delivering zero) (at_node zero)

-- rounds of so many nodes, from node 0 up
abbrev pub schedule_of_rounds : Picker → ℕ → Schedule
schedule_of_rounds picker nodes = record { Standing = Stage; first = at_node zero; Due = IsDue picker nodes; Passes = Passes nodes }

-- the events are the first ones of a program's run in rounds; the last round may be cut
abbrev pub AreRounds : Program → ℕ → OptionsRecord → Picker → List Event → Type 0
AreRounds program nodes options picker events = AreLed (schedule_of_rounds picker nodes) program nodes options events

-- a number or a message becomes too large at one of the first 100,000,000 events of a program's run in rounds
abbrev pub RoundsWearOut : Program → ℕ → OptionsRecord → Picker → Type 0
RoundsWearOut program nodes options picker = WearsOut (schedule_of_rounds picker nodes) (fresh_world program nodes options)
