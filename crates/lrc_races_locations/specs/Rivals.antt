-- The races that are sought, and what keeps two accesses from racing.
use Rattle.std.specs.Prelude.{ℕ, ◌<◌, ◌↔◌, List, slice_index}
use Rattle.lrc_races_trace.specs.declared.event.Event.{Event}
use Rattle.lrc_races_trace.specs.Trace.{At}
use Rattle.lrc_races_trace.specs.Order.{HappensBefore}
use Rattle.lrc_races_trace.specs.Races.{Races}
use Rattle.lrc_races_sure.specs.Leading.{IsByWay}
use Rattle.lrc_races_sure.specs.Sure.{IsSureRace}
use Rattle.lrc_races_text.specs.declared.asked.Sought.{Sought}
use Rattle.lrc_races_text.specs.declared.asked.Sought.TheVariants.{AllRaces, SureRaces}

-- the accesses at i and j race, as it is sought
abbrev pub Rivals : Sought → List Event → ℕ → ℕ → Type 0
Rivals AllRaces events i j = Races events i j
Rivals SureRaces events i j = IsSureRace events i j

-- two accesses that conflict do not, where the one happens before the other, or the other was reached by way of it
abbrev pub Separates : Sought → List Event → ℕ → ℕ → Type 0
Separates AllRaces events i j = HappensBefore events i j
Separates SureRaces events i j = IsByWay events i j

-- A vector has what separates earlier events from that at position n: those with positions below their threads' entries.
pub record IsBehind (sought : Sought) (events : List Event) (n : ℕ) (known : List ℕ) : Type 0 where
  pub exact : (i : ℕ) (a : Event) → At events i a → i < n → (i < slice_index known a.thread) ↔ Separates sought events i n
