-- A trace is a list of events. Positions in it count from 0.
use Rattle.std.specs.Prelude.{◌≡◌, ℕ, ◌⊎◌, List, Option, Some, None, slice_get}
use Rattle.lrc_races_trace.specs.declared.event.Event.{Event}
use Rattle.lrc_races_trace.specs.declared.event.Operation.{Operation}
use Rattle.lrc_races_trace.specs.declared.event.Operation.TheVariants.{Read, Write, Acquire, Release, Post, Wait}

-- the event stands at this position
pub record At (events : List Event) (position : ℕ) (event : Event) : Type 0 where
  pub is : slice_get events position ≡ Some event

-- the event writes the variable, or reads it
abbrev pub Writes : Event → ℕ → Type 0
Writes event variable = event.operation ≡ Write variable

abbrev pub Accesses : Event → ℕ → Type 0
Accesses event variable = (event.operation ≡ Read variable) ⊎ (event.operation ≡ Write variable)

-- the lock behind whose events those that get it stand
abbrev pub given : Operation → Option ℕ
given (Release lock) = Some lock
given (Post lock) = Some lock
given _ = None

-- the lock that an event gets so
abbrev pub got : Operation → Option ℕ
got (Acquire lock) = Some lock
got (Wait lock) = Some lock
got _ = None
