-- What leads to an event: what happens before it, and the writes that were read on the way. This is the order that the
-- field calls schedulable happens before.
use Rattle.std.specs.Prelude.{◌≡◌, ℕ, ◌<◌, ◌≤◌, ◌⊎◌, List}
use Rattle.lrc_races_trace.specs.declared.event.Event.{Event}
use Rattle.lrc_races_trace.specs.declared.event.Operation.TheVariants.{Read}
use Rattle.lrc_races_trace.specs.Trace.{At, Writes}
use Rattle.lrc_races_trace.specs.Order.{Precedes, HappensBefore}

-- the last write of the variable before position j is at i
pub record IsLastWrite (events : List Event) (i j variable : ℕ) : Type 0 where
  pub write : Event
  pub before : i < j
  pub at : At events i write
  pub writes : Writes write variable
  pub last : (k : ℕ) (other : Event) → k < j → At events k other → Writes other variable → k ≤ i

-- Event i leads right to event j, where
pub data LeadsOn (events : List Event) : ℕ → ℕ → Type 0 where
  -- it comes right before it in the order of happens before,
  ordered : {i j : ℕ} → Precedes events i j → LeadsOn events i j
  -- or j reads what i wrote.
  read : {i j variable : ℕ} {b : Event} → At events j b → b.operation ≡ Read variable → IsLastWrite events i j variable → LeadsOn events i j

-- Leads to: the transitive closure.
pub data LeadsTo (events : List Event) : ℕ → ℕ → Type 0 where
  one : {i j : ℕ} → LeadsOn events i j → LeadsTo events i j
  more : {i j k : ℕ} → LeadsTo events i j → LeadsOn events j k → LeadsTo events i k

-- position i is position j, or leads to it
abbrev pub Leads : List Event → ℕ → ℕ → Type 0
Leads events i j = (i ≡ j) ⊎ LeadsTo events i j

-- Event j was reached by way of event i: this is, or leads to, an event that happens before j. What j itself reads doesn't
-- count.
pub record IsByWay (events : List Event) (i j : ℕ) : Type 0 where
  pub through : ℕ
  pub leads : Leads events i through
  pub before : HappensBefore events through j
