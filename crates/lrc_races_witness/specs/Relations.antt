-- What the events on two lines of a trace are to each other.
use Rattle.std.specs.Prelude.{◌≡◌, ◌≢◌, ℕ, ◌<◌, List, AllPairs, IsTrue, ◌↔◌}
use Rattle.lrc_races_trace.specs.declared.event.Event.{Event}
use Rattle.lrc_races_trace.specs.declared.event.Operation.TheVariants.{Read}
use Rattle.lrc_races_trace.specs.Trace.{At, Accesses, Writes}
use Rattle.lrc_races_trace.specs.Order.{HappensBefore}
use Rattle.lrc_races_trace.specs.Races.{Conflict, Races}
use Rattle.lrc_races_sure.specs.Leading.{IsByWay}
use Rattle.lrc_races_sure.specs.Sure.{IsSureRace}
use Rattle.lrc_races_witness.specs.declared.relation.Access.{Access}
use Rattle.lrc_races_witness.specs.declared.relation.Relation.{Relation}
use Rattle.lrc_races_witness.specs.declared.relation.Relation.TheVariants.{NoAccess, OneThread, TwoVariables, BothRead, Ordered, Reached, Sure}

-- each event stands on a line of its own, behind those of the events before it
abbrev pub AreByLine : List Event → Type 0
AreByLine events = AllPairs (λ a b. a.line < b.line) events

-- the event on this line, at this position, accesses the variable
pub record IsAccessOn (events : List Event) (line position variable : ℕ) (event : Event) : Type 0 where
  pub at : At events position event
  pub on : event.line ≡ line
  pub accesses : Accesses event variable

-- the line is no access: it has no event, or one that accesses nothing
abbrev pub HasNoAccess : List Event → ℕ → Type 0
HasNoAccess events line = (position variable : ℕ) (event : Event) → ¬ IsAccessOn events line position variable event

abbrev pub HasAccess : List Event → ℕ → Type 0
HasAccess events line = (position : ℕ) × (variable : ℕ) × (event : Event) × IsAccessOn events line position variable event

-- this is the access on the line
pub record IsThatOn (events : List Event) (line : ℕ) (access : Access) : Type 0 where
  pub event : Event
  pub is : IsAccessOn events line access.position access.variable event
  pub of : event.thread ≡ access.thread
  pub writes : IsTrue access.is_write ↔ Writes event access.variable

-- What two accesses are to each other, the earlier named first. They are
pub data AreRelated (events : List Event) (i j v w : ℕ) (a b : Event) : Relation → Type 0 where
  -- of one thread,
  one_thread : a.thread ≡ b.thread → AreRelated events i j v w a b (OneThread a.thread)
  -- or of two and of different variables,
  two_variables : a.thread ≢ b.thread → v ≢ w → AreRelated events i j v w a b TwoVariables
  -- or of one variable, which both read,
  both_read : a.thread ≢ b.thread → v ≡ w → a.operation ≡ Read v → b.operation ≡ Read w → AreRelated events i j v w a b BothRead
  -- or they conflict and are ordered,
  ordered : Conflict a b → HappensBefore events i j → AreRelated events i j v w a b Ordered
  -- or they race, but the later one was reached by way of the earlier one,
  reached : Races events i j → IsByWay events i j → AreRelated events i j v w a b Reached
  -- or they are a sure race.
  sure : IsSureRace events i j → AreRelated events i j v w a b (Sure i j)

-- What the events on two lines are to each other:
pub data IsRelation (events : List Event) (first second : ℕ) : Relation → Type 0 where
  -- the first is no access,
  first_none : HasNoAccess events first → IsRelation events first second (NoAccess first)
  -- or it is one, but the second is none,
  second_none : HasAccess events first → HasNoAccess events second → IsRelation events first second (NoAccess second)
  -- or both are, and are so related.
  both : {i j v w : ℕ} {a b : Event} {relation : Relation} → IsAccessOn events first i v a → IsAccessOn events second j w b
      → AreRelated events i j v w a b relation → IsRelation events first second relation
