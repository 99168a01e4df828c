-- What is kept of the exact memory beside a node, where barriers collect, and what a turn's effect makes of both.
use Rattle.std.proofs.Common.{◌≡◌, ℕ, suc, ◌<◌, ◌≤◌, List, ◌++◌, true, length}
use Rattle.std.specs.Prelude.{Option, Some, None, slice_get}
use Rattle.lrc_trace.specs.declared.act.Act.{Act}
use Rattle.lrc_trace.specs.declared.act.Deed.{Deed}
use Rattle.lrc_trace.specs.declared.act.Deed.TheVariants.{Read, Depart}
use Rattle.lrc_trace.specs.Run.{departs_before}
use Rattle.lrc_time.specs.Time.{entry}
use Rattle.lrc_page.specs.declared.size.Size.{Size}
use Rattle.lrc_store.specs.Store.{StoredRecord}
use Rattle.lrc_envelope.specs.declared.message.Message.{Message}
use Rattle.lrc_envelope.specs.declared.message.Message.TheVariants.{Depart as Departs, PageReply}
use Rattle.lrc_envelope.specs.Records.{DepartRecord, PageReplyRecord}
use Rattle.lrc_copies.specs.Stamps.{AreStamped}
use Rattle.lrc_protocol.specs.Pages.{Memory}
use Rattle.lrc_protocol.specs.Node.{Wait, Node, Effect}
use Rattle.lrc_order_laws.specs.Counts.{is_inside}
use Rattle.lrc_node_laws.proofs.Acted.{Known}
use Rattle.lrc_reading_laws.specs.Written.{made_stamps}
use Rattle.lrc_reading_laws.proofs.Closed.History.{closed_by}
use Rattle.lrc_reading_laws.proofs.Collected.Turns.{in_collection}
use Rattle.lrc_reading_laws.proofs.Fitting.Copies.{Stored}
use Rattle.lrc_reading_laws.proofs.Stamped.Cuts.{Counted}
use Rattle.lrc_reading_laws.proofs.Stamped.Made.{AreListed}
use Rattle.lrc_exact.specs.LocalRule.{state_before, state_after, arrived_state}
use Rattle.lrc_exact.specs.Rule.{Shape, Knowledge, State, exact_rule, known_by_all, collects}
use Rattle.lrc_exact_made.specs.Copies.{shape_of, AreExactly}
use Rattle.lrc_exact_made.specs.Steps.{IsAmong}
use Rattle.lrc_exact_collecting.specs.Left.{dropped_by, left_by}
pub use Rattle.lrc_exact_turns.specs.Stands.{is_among, standing, IsLeft, NeedIsLeft, base_left, KeepsOwn, Stands}

-- ---- by the acts

-- the state in which each node arrived at each episode, in how many episodes a node has departed, what is known after one, and what was left
-- before it
abbrev pub arrived_in : List Act → List State → ℕ → ℕ → Option State
arrived_in acts states number node = arrived_state acts states number (length acts) node

abbrev pub number_of : List Act → ℕ → ℕ
number_of acts me = departs_before acts me (length acts)

abbrev pub all_at : ℕ → List Act → List State → ℕ → Knowledge
all_at nodes acts states number = known_by_all nodes nodes (arrived_in acts states number)

abbrev pub left_at : Shape → List Act → List State → ℕ → ℕ → ℕ
left_at shape acts states number = left_by shape (arrived_in acts states) number

abbrev pub StandsAt : Size → (nodes collect : ℕ) → List Act → List State → List StoredRecord → (number me : ℕ) → List ℕ → Wait → Memory → State → Type 0
StandsAt size nodes collect acts states made number me time wait memory state =
    Stands size nodes collect made (left_at (shape_of nodes size collect) acts states number) (left_at (shape_of nodes size collect) acts states (suc number))
    (all_at nodes acts states number) me time wait memory state

-- a node's state now, after a deed of it, and after it has made one or none
abbrev pub now_state : ℕ → ℕ → List Act → List State → Node → State
now_state nodes collect acts states node =
    state_before (exact_rule (shape_of nodes node.options.size collect)) acts states node.setting.me (length acts)

abbrev pub next_state : ℕ → ℕ → List Act → List State → Node → Deed → State
next_state nodes collect acts states node deed =
    state_after (exact_rule (shape_of nodes node.options.size collect)) acts states (length acts) node.setting.me deed

abbrev pub then_state : ℕ → ℕ → List Act → List State → Node → Option Deed → State
then_state nodes collect acts states node None = now_state nodes collect acts states node
then_state nodes collect acts states node (Some deed) = next_state nodes collect acts states node deed

-- in how many it has departed then
abbrev pub then_number : Option Deed → ℕ → ℕ
then_number (Some Depart) number = suc number
then_number _ number = number

-- what is known is of intervals that were made, and is what they did
pub record KnowsMade (size : Size) (made : List StoredRecord) (knows : Knowledge) : Type 0 where
  pub exactly : AreExactly size made knows
  pub reach : (q k : ℕ) → 1 ≤ k → k ≤ entry knows.time q → IsAmong made q k

-- before a turn of the node
pub record Here (nodes collect : ℕ) (acts : List Act) (states : List State) (made : List StoredRecord) (node : Node) : Type 0 where
  pub stands : StandsAt node.options.size nodes collect acts states made (number_of acts node.setting.me) node.setting.me node.locks.time node.mail.wait
      node.memory (now_state nodes collect acts states node)
  pub dropped : (now_state nodes collect acts states node).dropped
      ≡ dropped_by (shape_of nodes node.options.size collect) (arrived_in acts states) (number_of acts node.setting.me)
  pub holds : (j : ℕ) (s : State) → slice_get states j ≡ Some s → KnowsMade node.options.size made s.knows
  -- inside a barrier it arrived with the state that it has, and in a collection it knows what was known to all
  pub inside : is_inside node.mail.wait ≡ 1
      → arrived_in acts states (number_of acts node.setting.me) node.setting.me ≡ Some (now_state nodes collect acts states node)
  pub collecting : in_collection node.mail.wait ≡ true
      → (collects (shape_of nodes node.options.size collect) (arrived_in acts states (number_of acts node.setting.me)) ≡ true)
      × ((all_at nodes acts states (number_of acts node.setting.me)).time ≡ node.locks.time)
  pub known : Known node
  pub count : node.setting.nodes ≡ nodes
  pub within : node.setting.me < length node.locks.time
  pub listed : AreListed nodes made
  pub stamped : AreStamped made_stamps nodes made
  pub counted : Counted made node.setting.me (entry node.locks.time node.setting.me)
  pub stored : Stored made node.locks.time node.memory.collected node.memory.store

-- what is known of a message that comes
pub record Tells (nodes collect : ℕ) (acts : List Act) (states : List State) (node : Node) (message : Message) : Type 0 where
  -- a departure says whether the barrier collects,
  pub told : (m : DepartRecord) → message ≡ Departs m
      → m.collect ≡ collects (shape_of nodes node.options.size collect) (arrived_in acts states (number_of acts node.setting.me))
  -- and a base copy has what the last collection left
  pub sent : (m : PageReplyRecord) → message ≡ PageReply m
      → IsLeft node.options.size (left_at (shape_of nodes node.options.size collect) acts states (number_of acts node.setting.me)) m.page m.values

-- after an effect
pub record Effected (nodes collect : ℕ) (acts : List Act) (states : List State) (made : List StoredRecord) (node : Node) (e : Effect) : Type 0 where
  pub stands : StandsAt node.options.size nodes collect acts states (made ++ closed_by node e.node)
      (then_number e.deed (number_of acts node.setting.me)) node.setting.me e.node.locks.time e.node.mail.wait e.node.memory
      (then_state nodes collect acts states node e.deed)
  pub reads : (word value : ℕ) → e.deed ≡ Some (Read word value) → value ≡ ((now_state nodes collect acts states node).words word).value
  -- who departs was inside a barrier,
  pub departs : e.deed ≡ Some Depart → is_inside node.mail.wait ≡ 1
  -- and with an act no more stands beside the state than it says
  pub settled : (d : Deed) → e.deed ≡ Some d
      → ((shape : Shape) (all : Knowledge) (state : State) → standing shape node.setting.me all e.node.mail.wait state ≡ state)
      × ((in_collection e.node.mail.wait ≡ true) → ⊥)

-- what is known of an effect from elsewhere: the node's time is that of the exact memory, what it stores was made, and in a collection it knows
-- what was known to all
pub record Elsewhere (nodes collect : ℕ) (acts : List Act) (states : List State) (made : List StoredRecord) (node : Node) (e : Effect) : Type 0 where
  pub timed : (d : Deed) → e.deed ≡ Some d → (next_state nodes collect acts states node d).knows.time ≡ e.node.locks.time
  pub stored : Stored (made ++ closed_by node e.node) e.node.locks.time e.node.memory.collected e.node.memory.store
  pub collecting : e.deed ≡ None → in_collection e.node.mail.wait ≡ true
      → (all_at nodes acts states (number_of acts node.setting.me)).time ≡ e.node.locks.time
