-- What the states know, by happens before: of each node the intervals that were closed at the position or happen before it, and of each
-- what it did.
use Rattle.std.specs.Prelude.{◌≡◌, ℕ, ◌≤◌, ◌↔◌, List, Some, map, slice_get}
use Rattle.lrc_trace.specs.declared.act.Act.{Act}
use Rattle.lrc_trace.specs.declared.act.Deed.{Deed}
use Rattle.lrc_trace.specs.Run.{Does}
use Rattle.lrc_trace.specs.Synchronization.{IsWellSynchronized}
use Rattle.lrc_time.specs.Time.{entry}
use Rattle.lrc_clock.specs.Cover.{ClosesAt, IsClosedBy}
use Rattle.lrc_clock.specs.Keeping.{KeepsTime}
use Rattle.lrc_exact.specs.LocalRule.{state_before}
use Rattle.lrc_exact.specs.Rule.{Shape, State, exact_rule, open_interval, KeepsExact}

-- of each state how many intervals it knows of each node
abbrev pub times_of : List State → List (List ℕ)
times_of states = map (λ state. state.knows.time) states

-- These are the vector times of the run.
abbrev pub TimesAreKept : Type 0
TimesAreKept = (shape : Shape) (run : List Act) (states : List State) → KeepsExact shape run states → KeepsTime shape.nodes run (times_of states)

-- for the state of a node just after its act
abbrev pub OfStates : (Shape → List Act → List State → ℕ → ℕ → State → Type 0) → Type 0
OfStates Holds = (shape : Shape) (run : List Act) (states : List State) (j node : ℕ) (deed : Deed) (state : State) → KeepsExact shape run states
    → Does run j node deed → slice_get states j ≡ Some state → Holds shape run states j node state

-- An interval is known exactly where it was closed at the position, or at one that happens before.
abbrev pub KnownIsClosed : Type 0
KnownIsClosed = OfStates (λ shape run states j node state. IsWellSynchronized shape.nodes run → (other index : ℕ) → 1 ≤ index
    → (index ≤ entry state.knows.time other) ↔ IsClosedBy run other index j)

-- What is known of it is what its node's open interval did just before the act that closed it.
abbrev pub KnownIsMade : Type 0
KnownIsMade = OfStates (λ shape run states j node state. (other index i : ℕ) → 1 ≤ index → index ≤ entry state.knows.time other
    → ClosesAt run other index i
    → state.knows.interval other index ≡ open_interval (state_before (exact_rule shape) run states other i))
