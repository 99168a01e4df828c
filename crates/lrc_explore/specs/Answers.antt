-- What a search through the settled states answers.
use Rattle.std.specs.Prelude.{◌≢◌, ◌↔◌, IsTrue, min, ◌≡◌, ℕ, ◌+◌, ◌-◌, ◌*◌, ◌^◌, ◌<◌, ◌≤◌, ◌⊎◌, Bool, true, false, All, List, Option, Some, None, Contains, length, slice_get}
use Rattle.std.specs.List.{IsDistinct}
use Rattle.lrc_program.specs.declared.Program.{Program}
use Rattle.lrc_trace.specs.declared.act.Act.{Act}
use Rattle.lrc_exec.specs.Flat.{IsCodeOf}
use Rattle.lrc_exec.specs.Plain.{Plain}
use Rattle.lrc_consistency_laws.specs.Racing.{HasNoRace}
use Rattle.lrc_orders.specs.declared.noted.Noted.{Noted}
use Rattle.lrc_orders_table.specs.declared.rows.Rows.{Rows}
use Rattle.lrc_orders.specs.declared.search.Verdict.{Verdict}
use Rattle.lrc_orders.specs.declared.search.Verdict.TheVariants.{RaceFree, Racy}
use Rattle.lrc_orders.specs.contracts.noted.NotedPartialEq.TheImpl.{eq-value}
use Rattle.lrc_orders.specs.declared.search.ExploreFault.{ExploreFault}
use Rattle.lrc_orders.specs.declared.search.ExploreFault.TheVariants.{BadNodes, TooMany}
use Rattle.lrc_exec.specs.Plain.{plain_start}
use Rattle.lrc_orders.specs.Meeting.{IsCalm, Meet}
use Rattle.lrc_orders_table.specs.Rows.{IsRowAt, row_count}
use Rattle.lrc_orders.specs.Notes.{notes_of}
use Rattle.lrc_exec.specs.States.{plain_at}
use Rattle.lrc_orders.specs.Stuck.{IsAtRest, IsStuck}
use Rattle.lrc_orders.specs.Verdict.{AreFindings, EndsInRace}
use Rattle.lrc_orders_laws.specs.Steps.{IsSettledOutcome, IsSettledState}
use Rattle.lrc_orders_settling.specs.Taking.{ComputesLong}
use Rattle.lrc_explore.specs.declared.task.Task.{Task}
use Rattle.lrc_explore.specs.declared.task.End.{End}
use Rattle.lrc_explore.specs.declared.task.End.TheVariants as end
use Rattle.lrc_explore.specs.declared.task.Found.{Found}
use Rattle.lrc_explore.specs.declared.task.Visit.{Visit}
use Rattle.lrc_explore.specs.declared.task.Visit.TheVariants as visit
use Rattle.lrc_exec.specs.declared.state.State.{State}
use Rattle.lrc_orders.specs.declared.outcomes.Outcome.{Outcome}
use Rattle.lrc_orders.specs.Outcome.{HasOutcome}
use Rattle.lrc_orders_live.specs.Like.{AreLike}
use Rattle.lrc_orders_live.specs.Live.{forgot}
use Rattle.lrc_explore.specs.declared.task.Trapping.{Trapping}
use Rattle.lrc_orders_settling.specs.declared.step.Step.{Step}
use Rattle.lrc_explore.specs.Reached.{AreCalm, AreExpanded, AreNowhereStuck, HasStart, IsExpanded, IsReached, IsTask}
use Rattle.lrc_explore.specs.Traps.{IsStepTrap, IsTrapSoFar, IsTrapStepAt}

-- so many free acts are looked at where there may be so many states
abbrev pub looked_at : ℕ → ℕ
looked_at most = min (1000000 + min (20 * most) (2 ^ 64 - 1)) (2 ^ 64 - 1)

-- no order races, and what is found besides is so. Or the last two acts of the order race
abbrev pub IsAnswer : Program → ℕ → Verdict → Type 0
IsAnswer program nodes (RaceFree findings) = HasNoRace program nodes × AreFindings program nodes findings
IsAnswer program nodes (Racy order) = EndsInRace program nodes order.items

-- from a state like a settled one of the program, the same but for how often nodes have arrived and for private values that nothing
-- depends on any more, some node comes to so many free acts
pub record SettlesLong (program : Program) (nodes most : ℕ) : Type 0 where
  pub acts : List Act
  pub machine : Plain
  pub led : IsSettledState program nodes acts machine
  pub like : Plain
  pub alike : AreLike machine like
  pub long : ComputesLong like most

-- No two of these states are equal, and each stands for a settled state of the program. What no longer matters is 0 in
-- them: two that stand for the same state differ in the place of the code where some node is, or in their notes. Where
-- races are looked for, no two nodes meet at any of them, so that no race was to be told.
pub record AreSettledApart (task : Task) (keys : List Noted) (races : Bool) : Type 0 where
  pub distinct : IsDistinct eq-value.it keys
  pub each : (k : ℕ) (key : Noted) → slice_get keys k ≡ Some key → IsReached task key
  pub bare : (k : ℕ) (key : Noted) → slice_get keys k ≡ Some key → All (λ spot. forgot task.live.items spot ≡ spot) key.state.spots.items
  pub calm : races ≡ true → (k : ℕ) (key : Noted) → slice_get keys k ≡ Some key → IsCalm (plain_at task.flat key.state)

-- such states, more of them than a bound
pub record HasMoreSettled (task : Task) (most : ℕ) (races : Bool) : Type 0 where
  pub keys : List Noted
  pub many : most < length keys
  pub are : AreSettledApart task keys races

-- each settled state of the program is one of so many, but for how often nodes have arrived and for private values that nothing depends
-- on any more
pub record FitsSettled (program : Program) (nodes most : ℕ) : Type 0 where
  pub states : List Plain
  pub few : length states ≤ most
  pub all : (acts : List Act) (machine : Plain) → IsSettledState program nodes acts machine
      → (like : Plain) × Contains states like × AreLike machine like

-- so it is of each with the notes of the acts that lead to it
pub record FitsSettledNoted (program : Program) (nodes most : ℕ) : Type 0 where
  pub states : List (Plain × List Act)
  pub few : length states ≤ most
  pub all : (acts : List Act) (machine : Plain) → IsSettledState program nodes acts machine
      → (like : Plain) × Contains states (like, notes_of nodes acts) × AreLike machine like

-- some node makes as many free acts as a search may look at, from the start or from a settled state
pub data IsLong (task : Task) : Type 0 where
  starts_long : ComputesLong (plain_start task.program.now task.flat.nodes) task.looked → IsLong task
  settles_long : SettlesLong task.program.now task.flat.nodes task.looked → IsLong task

-- why a step of a search fails: such a node, or it had no memory
pub record IsFault (task : Task) (fault : ExploreFault) : Type 0 where
  pub nodes : fault ≢ BadNodes
  pub many : fault ≡ TooMany → IsLong task

-- why a search gives up, which looks for races or does not: such a node, or it met too many states; or it had no memory
pub data IsTooMany (task : Task) (races : Bool) : Type 0 where
  is_long : IsLong task → IsTooMany task races
  has_more : HasMoreSettled task task.most races → IsTooMany task races

pub record IsSearchFault (task : Task) (races : Bool) (fault : ExploreFault) : Type 0 where
  pub nodes : fault ≢ BadNodes
  pub many : fault ≡ TooMany → IsTooMany task races

-- so it is where a step is taken from a state
pub record IsLongFault (task : Task) (state : State) (fault : ExploreFault) : Type 0 where
  pub nodes : fault ≢ BadNodes
  pub many : fault ≡ TooMany → ComputesLong (plain_at task.flat state) task.looked

-- so it is of a program's code, where notes are kept or not, and races are looked for or not
pub record MetTooMany (program : Program) (nodes most : ℕ) (noting races : Bool) : Type 0 where
  pub task : Task
  pub is : IsTask task
  pub program_is : task.program.now ≡ program
  pub code : IsCodeOf task.flat.code.now task.start program.statements.items
  pub words : task.flat.words ≡ program.words
  pub locks : task.flat.locks ≡ program.locks
  pub nodes_are : task.flat.nodes ≡ nodes
  pub most_is : task.most ≡ most
  pub looked_is : task.looked ≡ looked_at most
  pub noting_is : task.noting ≡ noting
  pub many : IsTooMany task races

pub record IsFaultOf (program : Program) (nodes most : ℕ) (noting races : Bool) (fault : ExploreFault) : Type 0 where
  pub nodes_in_range : fault ≢ BadNodes
  pub many : fault ≡ TooMany → MetTooMany program nodes most noting races

-- what was seen at the state at a place, where races may be looked for: whether the program is stuck there, and in which step from it a
-- node traps first
pub record IsSeen (task : Task) (found : Found) (place : ℕ) (races stuck : Bool) (trap : Option Step) : Type 0 where
  pub key : Noted
  pub there : IsRowAt found.table.rows place key
  pub calm : races ≡ true → IsCalm (plain_at task.flat key.state)
  pub expanded : IsExpanded task found.table.rows key
  pub halted : IsTrue stuck ↔ IsStuck (plain_at task.flat key.state)
  pub traps : IsStepTrap task key trap

-- two nodes meet at the state at a place, and that is looked for
abbrev pub MeetAt : Task → Found → (races : Bool) → (place p q : ℕ) → Type 0
MeetAt task found races place p q = (key : Noted) × IsRowAt found.table.rows place key × Meet (plain_at task.flat key.state) p q × (races ≡ true)

-- from the state at a place some node computes too long
abbrev pub IsLongAt : Task → Rows → (place : ℕ) → Type 0
IsLongAt task all place =
    (key : Noted) × IsRowAt all place key × ComputesLong (plain_at task.flat key.state) task.looked

abbrev pub IsVisit : Task → Found → (place : ℕ) → (races : Bool) → Visit → Type 0
IsVisit task found place races (visit.Meeting p q) = MeetAt task found races place p q
IsVisit task found place races (visit.Past stuck trap) = IsSeen task found place races stuck trap
IsVisit task found place races (visit.Cut trap) =
    IsLongAt task found.table.rows place × IsTrapStepAt task found.table.rows place trap

-- the first state that is stuck, where that at this place is next
abbrev pub first_stuck : Option ℕ → (stuck : Bool) → (place : ℕ) → Option ℕ
first_stuck (Some first) stuck place = Some first
first_stuck None true place = Some place
first_stuck None false place = None

-- the outcomes are the program's
abbrev pub AreSound : Task → List Outcome → Type 0
AreSound task outcomes = (k : ℕ) (outcome : Outcome) → slice_get outcomes k ≡ Some outcome → task.noting ≡ true
    → IsSettledOutcome task.program.now task.flat.nodes outcome.notes.items

-- an outcome more is one that was there, or has these notes
abbrev pub AddsOnly : (old new : List Outcome) → List Act → Type 0
AddsOnly old new notes = (k : ℕ) (outcome : Outcome) → slice_get new k ≡ Some outcome → (slice_get old k ≡ Some outcome) ⊎ (outcome.notes.items ≡ notes)

-- the states have what every step leads to from one of them, and its outcome where no node can make an act
pub record IsGathered (task : Task) (all : Rows) (outcomes : List Outcome) (key : Noted) : Type 0 where
  pub expanded : IsExpanded task all key
  pub gathered : IsAtRest (plain_at task.flat key.state) → HasOutcome outcomes key.notes.items

abbrev pub IsGatheredAt : Task → Rows → List Outcome → (place : ℕ) → Type 0
IsGatheredAt task all outcomes place = (key : Noted) → IsRowAt all place key → IsGathered task all outcomes key

abbrev pub AreGathered : Task → Rows → List Outcome → (index : ℕ) → Type 0
AreGathered task all outcomes index = (k : ℕ) → k < index → IsGatheredAt task all outcomes k

-- where a search ended: at a state where two nodes meet; or past all states, and the first at which the program is stuck is this one
abbrev pub IsStuckFirst : Task → Rows → Option ℕ → Type 0
IsStuckFirst task all None = AreNowhereStuck task all (row_count all)
IsStuckFirst task all (Some place) =
    (key : Noted) × IsRowAt all place key × IsStuck (plain_at task.flat key.state) × AreNowhereStuck task all place

-- all settled states were found, from the settled start on
pub record AreAllExpanded (task : Task) (found : Found) : Type 0 where
  pub start : HasStart task found.table.rows
  pub expanded : AreExpanded task found.table.rows (row_count found.table.rows)

-- past all states: no two nodes meet, if that is looked for, and it is said where the program is stuck first, and where a node traps first
pub record IsThrough (task : Task) (found : Found) (races : Bool) (stuck : Option ℕ) (trap : Option Trapping) : Type 0 where
  pub calm : races ≡ true → AreCalm task found.table.rows (row_count found.table.rows)
  pub expanded : AreExpanded task found.table.rows (row_count found.table.rows)
  pub halted : IsStuckFirst task found.table.rows stuck
  pub traps : IsTrapSoFar task found.table.rows (row_count found.table.rows) trap

abbrev pub IsEnd : Task → Found → (races : Bool) → End → Type 0
IsEnd task found races (end.Meeting place p q) = MeetAt task found races place p q
IsEnd task found races (end.Through stuck trap) = IsThrough task found races stuck trap

-- a search that went past all of its states met no more than it may
abbrev pub FitsEnd : Task → Found → End → Type 0
FitsEnd task found (end.Meeting place p q) = Unit {0}
FitsEnd task found (end.Through stuck trap) = row_count found.table.rows ≤ task.most
