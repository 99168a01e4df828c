-- Runs along an order of acts.
use Rattle.std.specs.Prelude.{◌≡◌, ◌⊎◌, ◌≤◌, ℕ, true, false, Some, None, List, [], ◌∷◌, ◌++◌, All, length, map, position, slice_get, take}
use Rattle.lrc_program.specs.declared.Program.{Program}
use Rattle.lrc_trace.specs.declared.act.Act.{Act}
use Rattle.lrc_trace.specs.declared.act.Deed.TheVariants.{Depart}
use Rattle.lrc_lines.specs.Statements.{act_statements}
use Rattle.lrc_protocol.specs.declared.event.Event.{Event}
use Rattle.lrc_protocol.specs.declared.event.Event.TheVariants.{Deliver}
use Rattle.lrc_protocol.specs.Node.{OptionsRecord}
use Rattle.lrc_protocol.specs.Run.{World, run_of}
use Rattle.lrc_along.specs.Asked.{bare_act}
use Rattle.lrc_along.specs.declared.limit.TheConstants.{MOST_EVENTS}
use Rattle.lrc_along.specs.Due.{IsAtTurn, IsDue, envelopes_in, event_for, has_begun_at, is_ready_at, may_come, needs_message}

-- each of these events is due in the run of those before it
abbrev pub AreDue : Program → ℕ → OptionsRecord → (order : List Act) → List Event → Type 0
AreDue program nodes options order events =
    (before after : List Event) (event : Event) (world : World) → events ≡ before ++ event ∷ after → run_of program nodes options before ≡ Some world
    → IsDue program nodes order world event

-- The run has come so far along the order: its acts are of the nodes, deeds and statements of the order's first ones, values aside.
pub record IsAlong (program : Program) (nodes : ℕ) (order acts : List Act) : Type 0 where
  pub within : length acts ≤ length order
  pub deeds : map bare_act acts ≡ map bare_act (take (length acts) order)
  pub statements : act_statements program nodes acts ≡ take (length acts) (act_statements program nodes order)

-- a node that has begun its next act is that of the order's next act, at its turn
abbrev pub BeginsInTurn : Program → (nodes : ℕ) → (order : List Act) → World → Type 0
BeginsInTurn program nodes order world =
    (node : ℕ) → has_begun_at world node ≡ true → (act : Act) × IsAtTurn program nodes order world.acts act × (act.node ≡ node)

-- Why a run goes along an order no further:
pub data Stops (program : Program) (nodes : ℕ) (order : List Act) (world : World) : Type 0 where
  -- it has made all its acts;
  done : length world.acts ≡ length order → Stops program nodes order world
  -- the node of the next one stands at another statement, or comes by it to another deed;
  elsewhere : (act : Act) → slice_get order (length world.acts) ≡ Some act → ¬ IsAtTurn program nodes order world.acts act
      → Stops program nodes order world
  -- that node should go on, and is not ready;
  unready : (act : Act) → IsAtTurn program nodes order world.acts act → needs_message world act ≡ false → is_ready_at world act.node ≡ false
      → Stops program nodes order world
  -- or that node needs a message, and none may come
  alone : (act : Act) → IsAtTurn program nodes order world.acts act → needs_message world act ≡ true
      → position (may_come act.node) (envelopes_in world) ≡ None → Stops program nodes order world

-- no event is due: the node of the order's next act is not at its turn, or none of the messages that it needs may come
abbrev pub NoneDue : Program → (nodes : ℕ) → (order : List Act) → World → Type 0
NoneDue program nodes order world =
    ((act : Act) → ¬ IsAtTurn program nodes order world.acts act)
    ⊎ ((act : Act) × IsAtTurn program nodes order world.acts act × (event_for world act ≡ None))

-- a delivery of the oldest message
abbrev pub IsDelivery : Event → Type 0
IsDelivery event = event ≡ Deliver 0

-- what may stand behind the acts of the order: departs; and the act that its node had begun
abbrev pub MayStandBehind : World → Act → Type 0
MayStandBehind world act = (act.deed ≡ Depart) ⊎ (has_begun_at world act.node ≡ true)

-- The run of these events goes along the order until it stops, or there are as many events as there may be. Then each event delivers the
-- oldest message, until none is in flight, or there are as many again. Behind the acts of the order stand departs alone; but where the
-- node of the order's next act has begun it, that act may stand among them.
pub record GoesAlong (program : Program) (nodes : ℕ) (options : OptionsRecord) (order : List Act) (along behind : List Event) (run : World) : Type 0
  where
    pub at : World
    pub led : run_of program nodes options along ≡ Some at
    pub due : AreDue program nodes options order along
    pub so_far : IsAlong program nodes order at.acts
    pub begun : BeginsInTurn program nodes order at
    pub stops : Stops program nodes order at ⊎ (MOST_EVENTS ≤ length along)
    pub drains : All IsDelivery behind
    pub more : List Act
    pub acts : run.acts ≡ at.acts ++ more
    pub departs : All (MayStandBehind at) more
    pub rests : (run.flight ≡ []) ⊎ (MOST_EVENTS ≤ length behind)

-- so it is of every run of these events
abbrev pub LeadsAlong : Program → ℕ → OptionsRecord → (order : List Act) → List Event → Type 0
LeadsAlong program nodes options order events =
    (along behind : List Event) × (events ≡ along ++ behind)
    × ((run : World) → run_of program nodes options events ≡ Some run → GoesAlong program nodes options order along behind run)
